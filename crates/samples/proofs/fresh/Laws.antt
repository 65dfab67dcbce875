-- Whether names begin with letters, and how many do; then the letters with which none does, and the object that has their name.
use Prim.Native.Nat.{ℕ, zero, suc, ◌+◌, ◌-◌, ◌*◌, ◌≤◌, ◌<◌}
use mathlib.Core.Path.{◌≡◌, refl, sym, ap, ap₂, ◌∙◌, subst}
use mathlib.Core.Bool.{Bool, true, false, cond}
use mathlib.Core.List.{List, [], ◌∷◌, ◌++◌, append_assoc, append-nil}
use native.Mathlib.Numerals.{add-one}
use native.Mathlib.Omega.{arith}
use lib.ListN.{length, take, drop, get_or, set, length-set, length-append}
use lib.Dec.{leb}
use lib.Seq.{drop-cons, take_at, take-suc-set, set-set}
use borrow.Author.Tests.{eq-eqb, ne_eqb, le-leb, lt-leb}
use Rattle.std.specs.Prelude.{Option, Some, None}
use Rattle.model.specs.Text.{text}
use Rattle.model.specs.Value.{Members as Fellows}
use Rattle.model.specs.Definition.{Named, Def, object-of, Fields}
use Rattle.model.specs.Witness.{kept, behind, rarer, avoiding, names, own_names, fresh, begins, counted, apart, beyond_named}
use Rattle.model.proofs.Basics.{both}
use Rattle.model.proofs.Samples.{others_fresh}
use Rattle.model.proofs.Letters.{next_letter, letters_fewer, letters_from, letters_stop, letters_next, fresh_letters}
use Rattle.chars.specs.Strings.{characters, part}
use Rattle.syntax.specs.Tree.{Members, no_member, member}
use Rattle.syntax.specs.Rows.{row_words, sizes_members}
use Rattle.syntax.specs.Grammar.{name_of}
use Rattle.grammar.specs.Utf8.{utf8}
use Rattle.writer.specs.Spell.{spell_char, spell_chars, spell}
use Rattle.writer.specs.Compact.{over}
use Rattle.model.proofs.Basics.{never}
use Rattle.writer.proofs.Facts.{over_first, Wrote, wrote_byte}
use Rattle.definitions.specs.Definitions.{Located, named-at, array_at, map_at, object-at, LocatedFields, fine, definition_at, fields_at, bare, bare_fields}
use Rattle.rows.specs.Records.{Reads, PartRow}
use Rattle.rows.specs.Finding.{Finds}
use Rattle.rows.specs.Children.{Passes, Begins}
use Rattle.rows.specs.declared.children.Children.{Children}
use Rattle.definitions.specs.Shapes.{DefinedRow, type_in, TypeRow, generic_in, GenericRow, FieldsRow}
use Rattle.definitions.specs.declared.types.TypeName.{TypeName}
use Rattle.definitions.specs.declared.types.Generic.TheVariants.{Array, Map, Object}
use Rattle.rows.specs.declared.records.Record.{Record}
use Rattle.rows.proofs.Facts.{row, as_row, part_object}
use Rattle.definitions.proofs.Facts.{added_fine, in_array, in_map, FieldsLeft, FieldHere, fields_start, fields_end, field_here}
use Rattle.definitions.proofs.Facts.{find_required, find_optional, fields_empty, same_fields, same_definition}
use Rattle.comparison.proofs.Facts.{of_name}
use Rattle.definitions.proofs.Facts.{object_fields, required_fields, optional_fields}
use Rattle.samples.proofs.Lent.{wrote, Lent, lent, lent_last}
use Rattle.samples.specs.Writing.{Writes, apart_by, further, CountsFields, CountsNames, LettersReady, LettersWritten, BeyondReady, BeyondWritten}

-- ---- a name that is compared with the letters p, up to the k-th

module _ (p : List ℕ) (k : ℕ) (l : k < length p) {n : List ℕ} where
  pub begins_short : n ≡ [] → begins (drop k p) n ≡ false
  begins_short e = rw (drop-cons p k 0 l, e)

  module _ {x : ℕ} {xs : List ℕ} (e : n ≡ x ∷ xs) where
    pub begins_not : (x ≡ get_or p k 0 → ⊥) → begins (drop k p) n ≡ false
    begins_not h = rw (drop-cons p k 0 l, e, ne_eqb x (get_or p k 0) h)

    pub begins_on : x ≡ get_or p k 0 → begins (drop k p) n ≡ begins (drop (k + 1) p) xs
    begins_on h = rw (drop-cons p k 0 l, e, eq-eqb x (get_or p k 0) h, add-one)

-- ---- the names of the fields at row r, one after the other

-- of those before the names that are left, n begin with p
pub record Counting (s t : List ℕ) (r : ℕ) (p : List ℕ) (c : Children 1) (n : ℕ) : Type 0 where
  pub fields : LocatedFields
  pub ahead : FieldsLeft s t (Some r) c fields
  pub few : n < c.row
  pub stays : (f : FieldsRow s t (Some r)) → n + counted p (names (bare_fields fields)) ≡ counted p (names (bare_fields f.fields))

module _ {s t : List ℕ} {r : ℕ} {p : List ℕ} {c : Children 1} where
  pub count_start : (f : FieldsRow s t (Some r)) → Begins t r c → Counting s t r p c 0
  count_start f b = record {
    fields = f.fields;
    ahead = fields_start f b;
    few = omega (arith, b.row);
    stays = λ g. omega (arith, ap (λ (fs : LocatedFields). counted p (names (bare_fields fs))) (same_fields f g));
  }

  module _ {n : ℕ} (a : Counting s t r p c n) where
    pub count_end : c.left ≡ 0 → CountsFields s t (Some r) p n
    count_end l = record {
      tells = λ f. (let z : n + 0 ≡ counted p (names (bare_fields f.fields)) = rw (fields_end a.ahead l) at (a.stays f) in omega arith);
    }

    module _ {row : ℕ} {d : Children 1} (h : Passes c row d) where
      abbrev pub this : FieldHere s t (Some r) row d a.fields
      this = field_here a.ahead h

      module _ {x : Record} (g : Reads t row x) {u : List ℕ} (w : u ≡ part s (x.first + 1) (x.end - 1)) where
        -- the name between its quotes counts by whether it begins with p
        counts : {b : Bool} → b ≡ begins p (characters u)
            → counted p (names (bare_fields a.fields)) ≡ cond b (suc (counted p (names (bare_fields this.others)))) (counted p (names (bare_fields this.others)))
        counts e = ap (λ (fs : Fields). counted p (names fs)) this.is ∙ rw (sym (rw (w, g.first, g.last) at e))

        counting : {m : ℕ} → m ≤ n + 1 → n + counted p (names (bare_fields a.fields)) ≡ m + counted p (names (bare_fields this.others)) → Counting s t r p d m
        counting l e = record { fields = this.others; ahead = this.behind; few = omega (arith, a.few, h.row); stays = λ f. sym e ∙ a.stays f }

        pub count_more : true ≡ begins p (characters u) → Counting s t r p d (n + 1)
        count_more e = counting (omega arith) (omega (arith, counts e))

        pub count_same : false ≡ begins p (characters u) → Counting s t r p d n
        count_same e = counting (omega arith) (omega (arith, counts e))

-- ---- the names of an Object definition: those of its required fields, then those of its optional ones

module _ {s t : List ℕ} {r : ℕ} (o : GenericRow s t r (Some Object)) (d : DefinedRow s t r) {v : Option ℕ} where
  abbrev pub required_found : Finds s t (r + 2) (characters (text "required")) v → FieldsRow s t v
  required_found f = required_fields o (find_required f) d

  abbrev pub optional_found : Finds s t (r + 2) (characters (text "optional")) v → FieldsRow s t v
  optional_found f = optional_fields o (find_optional f) d

counted_append : (p : List ℕ) (ns ms : List (List ℕ)) → counted p (ns ++ ms) ≡ counted p ns + counted p ms
counted_append p [] ms = omega arith
counted_append p (n ∷ ns) ms = go (begins p n) (counted_append p ns ms)
  where
    go : (b : Bool) {x : ℕ} → x ≡ counted p ns + counted p ms → cond b (suc x) x ≡ cond b (suc (counted p ns)) (counted p ns) + counted p ms
    go true e = omega arith
    go false e = omega arith

counted_few : (p : List ℕ) (ns : List (List ℕ)) → counted p ns ≤ length ns
counted_few p [] = omega arith
counted_few p (n ∷ ns) = both (λ k. k ≤ suc (length ns)) (begins p n) (λ _. omega (arith, counted_few p ns)) (λ _. omega (arith, counted_few p ns))

-- each has a row
names_few : (s : List ℕ) (ms : Members) (fs : LocatedFields) → fields_at s ms ≡ fine fs → length (names (bare_fields fs)) ≤ sizes_members ms
names_few s no_member fs q = rw (fields_empty s refl q) (omega arith)
names_few s (member f e n ms) fs q =
    let k = added_fine f (name_of s f e) (definition_at s n) (fields_at s ms) fs q in
    rw k.adds (omega (arith, names_few s ms k.others k.define))

part_few : {s t : List ℕ} {r : Option ℕ} (o : PartRow s t r) → row_words * sizes_members o.members ≤ length t
part_few {r = None} o = omega (arith, ap sizes_members (o.absent refl))
part_few {r = Some r} o = omega (arith, (row (as_row (part_object o refl))).room)

module _ {s t : List ℕ} {p : List ℕ} where
  pub count_few : {r : Option ℕ} {n : ℕ} → FieldsRow s t r → CountsFields s t r p n → row_words * n ≤ length t
  count_few f h =
      omega (arith, h.tells f, counted_few p (names (bare_fields f.fields)), names_few s f.part.members f.fields f.defines, part_few f.part)

  pub count_both : {r n m : ℕ} {v w : Option ℕ} (o : GenericRow s t r (Some Object)) → Finds s t (r + 2) (characters (text "required")) v
      → Finds s t (r + 2) (characters (text "optional")) w → CountsFields s t v p n → CountsFields s t w p m → CountsNames s t r p (n + m)
  count_both o f g h k = record {
    tells = λ d. rw ((object_fields o d).is, counted_append) (omega (arith, h.tells (required_found o d f), k.tells (optional_found o d g)));
  }

-- ---- the letters of the fresh name of the definition at row r

-- of a buffer that held `before`, n bytes are written: the letters of `done`, and the others follow, `left` at most
pub record Lettering (s t : List ℕ) (r : ℕ) (before : List ℕ) (n : ℕ) (out : List ℕ) : Type 0 where
  pub row : DefinedRow s t r
  pub fits : length (fresh (bare row.definition)) ≤ length before
  pub done : List ℕ
  pub wrote : Wrote before n out done
  pub left : ℕ
  pub enough : counted done (own_names (bare row.definition)) ≤ left
  pub splits : fresh (bare row.definition) ≡ done ++ letters_from left done (own_names (bare row.definition))

pub letters_start : {s t : List ℕ} {r : ℕ} (out : List ℕ) → LettersReady s t r (length out) → Lettering s t r (set out 0 0x61) 1 (set out 0 0x61)
letters_start out p = record {
  row = p.row;
  fits = simp length-set p.fits;
  done = 0x61 ∷ [];
  wrote = wrote_byte out 0x61 (omega (arith, p.fits));
  left = length (own_names (bare p.row.definition));
  enough = counted_few (0x61 ∷ []) (own_names (bare p.row.definition));
  splits = fresh_letters (bare p.row.definition);
}

module _ {s t : List ℕ} {r : ℕ} {before : List ℕ} {n : ℕ} {out : List ℕ} (g : Lettering s t r before n out) where
  abbrev own : List (List ℕ)
  own = own_names (bare g.row.definition)

  abbrev next : ℕ
  next = next_letter g.done own

  -- there is room for those that follow
  letters_lent : Lent before n out g.done (length (letters_from g.left g.done own))
  letters_lent = lent g.wrote (omega (arith, g.fits, ap length g.splits, length-append g.done (letters_from g.left g.done own), g.wrote.count))

  pub letters_same : length out ≡ length before
  letters_same = letters_lent.same

  prefix : take n out ≡ g.done
  prefix = ap (take n) g.wrote.holds ∙ take_at g.done (drop (length g.done) before) n (sym g.wrote.count)

  -- k of the names begin with what is written
  module _ {k : ℕ} (h : CountsNames s t r (take n out) k) where
    told : k ≡ counted g.done own
    told = h.tells g.row ∙ ap (λ (p : List ℕ). counted p own) prefix

    pub letters_end : k ≤ 0 → {buffer : List ℕ} → before ≡ set buffer 0 0x61 → LettersWritten s t r n buffer out
    letters_end l {buffer} e =
        let e₂ = letters_stop g.left g.done own (omega (arith, told)) in
        let z : fresh (bare g.row.definition) ≡ g.done = g.splits ∙ ap (◌++◌ g.done) e₂ ∙ append-nil g.done in
        record {
          tells = λ d. subst (λ (x : Located). Writes (fresh (bare x)) n buffer out) (same_definition g.row d) (
            g.wrote.count ∙ ap length (sym z),
            g.wrote.holds ∙ ap₂ over (sym z) e ∙ over_first buffer (fresh (bare g.row.definition)) 0x61 (omega arith),
          );
        }

    module _ (l : 0 < k) where
      some : 0 < counted g.done own
      some = omega (arith, told)

      -- the next letter, and those behind it
      abbrev more : List ℕ
      more = g.done ++ next ∷ []

      follows : (j : ℕ) × (counted more own ≤ j) × (fresh (bare g.row.definition) ≡ more ++ letters_from j more own)
      follows = go g.left g.enough g.splits
        where
          go : (i : ℕ) → counted g.done own ≤ i → fresh (bare g.row.definition) ≡ g.done ++ letters_from i g.done own
              → (j : ℕ) × (counted more own ≤ j) × (fresh (bare g.row.definition) ≡ more ++ letters_from j more own)
          go zero f q = absurd (omega (arith, some))
          go (suc i) f q = (
            i,
            omega (arith, letters_fewer g.done own some),
            q ∙ ap (◌++◌ g.done) (letters_next i g.done own some) ∙ sym (append_assoc g.done (next ∷ []) (letters_from i (g.done ++ next ∷ []) own)),
          )

      pub letters_more : n < length out
      letters_more = omega (
        arith,
        g.fits,
        letters_lent.same,
        g.wrote.count,
        ap length follows.2,
        length-append (g.done ++ next ∷ []) (letters_from follows.0 (g.done ++ next ∷ []) own),
        length-append g.done (next ∷ []),
      )

      pub letters_room : n < length before
      letters_room = omega (arith, letters_more, letters_same)

      -- a letter at that place, and another one
      module _ (x : ℕ) where
        pub one_at : n < length (set out n x)
        one_at = simp length-set letters_more

        pub one_in : n + 1 ≤ length (set out n x)
        one_in = omega (arith, one_at)

        module _ (y : ℕ) where
          pub two-at : n < length (set (set out n x) n y)
          two-at = simp length-set letters_more

          pub two_in : n + 1 ≤ length (set (set out n x) n y)
          two_in = omega (arith, two-at)

      -- how many go on with the letter c
      with : (c : ℕ) {x : ℕ} → CountsNames s t r (take (n + 1) (set out n c)) x → x ≡ counted (g.done ++ c ∷ []) own
      with c q =
          q.tells g.row
          ∙ ap (λ (p : List ℕ). counted p own)
          (ap (λ (j : ℕ). take j (set out n c)) (add-one n) ∙ take-suc-set out n c letters_more ∙ ap (λ (p : List ℕ). p ++ c ∷ []) prefix)

      letter : (c : ℕ) → next ≡ c → Lettering s t r before (n + 1) (set out n c)
      letter c e = rw (← e) (record {
        row = g.row;
        fits = g.fits;
        done = g.done ++ next ∷ [];
        wrote = wrote (lent_last (lent {more = 1} g.wrote (omega (arith, letters_more, letters_lent.same))) (omega arith) next refl);
        left = follows.0;
        enough = follows.1;
        splits = follows.2;
      })

      -- 'b' was tried, and then 'a'
      module _ {x y : ℕ} (hb : CountsNames s t r (take (n + 1) (set out n 0x62)) y)
          (ha : CountsNames s t r (take (n + 1) (set (set out n 0x62) n 0x61)) x) where
        with_a : x ≡ counted (g.done ++ 0x61 ∷ []) own
        with_a = with 0x61 (rw (set-set out n 0x62 0x61) at ha)

        pub letter_a : x ≤ y → Lettering s t r before (n + 1) (set (set out n 0x62) n 0x61)
        letter_a f =
            let z : counted (g.done ++ 0x61 ∷ []) own ≤ counted (g.done ++ 0x62 ∷ []) own = omega (arith, with_a, with 0x62 hb) in
            rw set-set (letter 0x61 (rw (le-leb _ _ z) refl))

        pub letter_b : y < x → Lettering s t r before (n + 1) (set (set (set out n 0x62) n 0x61) n 0x62)
        letter_b f =
            let z : counted (g.done ++ 0x62 ∷ []) own < counted (g.done ++ 0x61 ∷ []) own = omega (arith, with_a, with 0x62 hb) in
            rw (set-set (set out n 0x62) n 0x61 0x62, set-set) (letter 0x62 (rw (lt-leb _ _ z) refl))

-- ---- a value of the definition at row r that meets only the named types that take all of it

pub beyond_as : {s t : List ℕ} {r : ℕ} {w : List ℕ} {n : ℕ} {out out₂ : List ℕ}
    → ((d : DefinedRow s t r) → spell (beyond_named (bare d.definition)) ≡ w) → Writes w n out out₂ → BeyondWritten s t r n out out₂
beyond_as f h = record { tells = λ d. rw (f d) h }

pub beyond_same : {s t : List ℕ} {r : ℕ} (e d : DefinedRow s t r) → spell (beyond_named (bare d.definition)) ≡ spell (beyond_named (bare e.definition))
beyond_same e d = ap (λ (x : Located). spell (beyond_named (bare x))) (same_definition d e)

module _ {s t : List ℕ} {r : ℕ} {w : List ℕ} (k : (d : DefinedRow s t r) → spell (beyond_named (bare d.definition)) ≡ w) where
  beyond_fits : {room : ℕ} → BeyondReady s t r room → length w ≤ room
  beyond_fits p = omega (arith, p.fits, ap length (k p.row))

named_apart : (x : Located) → None ≡ generic_in x → spell (beyond_named (bare x)) ≡ spell (apart_by (type_in x))
named_apart (named-at p t) z = sym (ap (λ (t : Named). spell (apart t)) (of_name t))
named_apart (array_at p x) z = never (cc)
named_apart (map_at p x) z = never (cc)
named_apart (object-at p x y) z = never (cc)

module _ {s t : List ℕ} {r : ℕ} where
  module _ (h : GenericRow s t r (Some Array)) where
    beyond_array : (d : DefinedRow s t r) → spell (beyond_named (bare d.definition)) ≡ text "[]"
    beyond_array d = rw (in_array d (h.tells d)).is refl

    pub beyond_array_fits : {room : ℕ} → BeyondReady s t r room → 2 ≤ room
    beyond_array_fits = beyond_fits beyond_array

    pub beyond_array_written : {n : ℕ} {out out₂ : List ℕ} → Writes (text "[]") n out out₂ → BeyondWritten s t r n out out₂
    beyond_array_written = beyond_as beyond_array

  module _ (h : GenericRow s t r (Some Map)) where
    beyond_map : (d : DefinedRow s t r) → spell (beyond_named (bare d.definition)) ≡ text "{}"
    beyond_map d = rw (in_map d (h.tells d)).is refl

    pub beyond_map_fits : {room : ℕ} → BeyondReady s t r room → 2 ≤ room
    beyond_map_fits = beyond_fits beyond_map

    pub beyond_map_written : {n : ℕ} {out out₂ : List ℕ} → Writes (text "{}") n out out₂ → BeyondWritten s t r n out out₂
    beyond_map_written = beyond_as beyond_map

  -- w is the value that stands for the type name
  module _ (h : GenericRow s t r None) {k : Option TypeName} (q : TypeRow s t r k) {w : List ℕ} (e : w ≡ spell (apart_by k)) where
    beyond_name : (d : DefinedRow s t r) → spell (beyond_named (bare d.definition)) ≡ w
    beyond_name d = named_apart d.definition (h.tells d) ∙ sym (e ∙ ap (λ (k : Option TypeName). spell (apart_by k)) (q.tells d))

    pub beyond_name_fits : {room : ℕ} → BeyondReady s t r room → length w ≤ room
    beyond_name_fits = beyond_fits beyond_name

    pub beyond_name_written : {n : ℕ} {out out₂ : List ℕ} → Writes w n out out₂ → BeyondWritten s t r n out out₂
    beyond_name_written = beyond_as beyond_name

-- ---- an object with one member more: its name is fresh

letter_spelled : (ns : List (List ℕ)) → spell_char (rarer ns) ≡ rarer ns ∷ []
unfolding spell_char utf8
letter_spelled ns = both (λ c. spell_char c ≡ c ∷ []) (leb (length (behind 0x61 ns)) (length (behind 0x62 ns))) (λ _. refl) (λ _. refl)

letters_spelled : (k : ℕ) (ns : List (List ℕ)) → spell_chars (avoiding k ns) ≡ avoiding k ns
letters_spelled zero ns = refl
letters_spelled (suc k) [] = refl
letters_spelled (suc k) (n ∷ ns) = ap₂ ◌++◌ (letter_spelled (n ∷ ns)) (letters_spelled k (behind (rarer (n ∷ ns)) (n ∷ ns)))

fresh_spelled : (a : Def) → spell_chars (fresh a) ≡ fresh a
unfolding spell_char utf8
fresh_spelled a = ap (◌∷◌ 0x61) (letters_spelled (length (own_names a)) (behind 0x61 (own_names a)))

-- what stands before the name, behind it, and behind its value
abbrev pub opened : List ℕ
opened = 0x7B ∷ 0x22 ∷ []

abbrev pub is_null : List ℕ
is_null = 0x22 ∷ 0x3A ∷ text "null"

abbrev pub fellows : Fields → List ℕ
fellows r = further (kept (λ m. true) r)

module _ {a : Def} {r o : Fields} (e : a ≡ object-of r o) where
  abbrev shown : List ℕ → Fellows → List ℕ
  shown w ms = 0x7B ∷ (((0x22 ∷ (w ++ (0x22 ∷ []))) ++ (0x3A ∷ (text "null" ++ further ms))) ++ (0x7D ∷ []))

  pub beside_spelled : (((opened ++ fresh a) ++ is_null) ++ fellows r) ++ (0x7D ∷ []) ≡ spell (beyond_named a)
  beside_spelled = rw e (go (fresh (object-of r o)) (kept (λ m. true) r) ∙ ap₂ shown (sym (fresh_spelled (object-of r o))) (sym (others_fresh r o)))
    where
      go : (n : List ℕ) (ms : Fellows) → (((opened ++ n) ++ is_null) ++ further ms) ++ (0x7D ∷ []) ≡ shown n ms
      go n ms = simp append_assoc

  pub beside_long : length (spell (beyond_named a)) ≡ length (fresh a) + length (fellows r) + 9
  beside_long = omega (
    arith,
    ap length beside_spelled,
    length-append (((opened ++ fresh a) ++ is_null) ++ fellows r) (0x7D ∷ []),
    length-append ((opened ++ fresh a) ++ is_null) (fellows r),
    length-append (opened ++ fresh a) is_null,
    length-append opened (fresh a),
  )
