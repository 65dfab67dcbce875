-- The document on plain values: what is written at each pair of definitions, piece by piece, by the kind of the old one.
use Prim.Native.Nat.{ℕ, ◌+◌, ◌*◌, ◌≤◌, ◌<◌}
use mathlib.Core.Path.{◌≡◌, refl, sym, ap, ap₂, ◌∙◌, subst}
use mathlib.Core.Bool.{Bool, true, false, true≢false}
use mathlib.Core.List.{List, [], ◌∷◌, ◌++◌, append-nil}
use native.Mathlib.Omega.{arith}
use lib.ListN.{length, length-append, set}
use Rattle.std.specs.Prelude.{Option, Some, None}
use Rattle.model.specs.Value.{Value, array, object, vnil, vcons, mnil, mcons}
use Rattle.model.specs.Definition.{Def, array_of, map_of}
use Rattle.model.specs.Witness.{sample, beyond_named, witness}
use Rattle.syntax.specs.Grammar.{name_of}
use Rattle.syntax.specs.Holding.{word}
use Rattle.grammar.specs.Utf8.{utf8}
use Rattle.writer.specs.Spell.{spell, spell_char}
use Rattle.writer.proofs.Facts.{Wrote}
use Rattle.definitions.specs.Definitions.{Located, named-at, array_at, map_at, object-at, bare, bare_fields}
use Rattle.definitions.specs.Shapes.{generic_in, GenericRow}
use Rattle.comparison.specs.Carrying.{Pairing, PairingTo, FieldPairing, Fails}
use Rattle.definitions.specs.declared.types.Generic.{Generic}
use Rattle.definitions.specs.declared.types.Generic.TheVariants.{Array, Map, Object}
use Rattle.rows.specs.Records.{InTable}
use Rattle.rows.proofs.Facts.{in_table}
use Rattle.definitions.proofs.Facts.{in_name, in_array, in_map, in-object, same_definition}
use Rattle.comparison.proofs.Facts.{array_less as array-rows, array_pair, map_pair, map_less as map_rows}
use Rattle.definitions.proofs.Facts.{objects_by}
use Rattle.samples.specs.Writing.{Writes, SampleReady, SampleWritten, BeyondReady}
use Rattle.samples.specs.Writing.{BeyondWritten}
use Rattle.counterexample.specs.Writing.{failing, failing_value, FailingName, WitnessReady, WitnessTo, WitnessWritten, MemberReady}
use Rattle.counterexample.specs.Writing.{MemberWritten}
use Rattle.samples.proofs.Facts.{left_of, put_back, wrote_one, Lent, lent, lent_more, lent_last}
use Rattle.counterexample.proofs.Failing.{shown, witness_object, witness_json}

-- ---- the value of a pair

module _ {s₁ s₂ t₁ t₂ : List ℕ} {r₁ r₂ : ℕ} where
  abbrev pub new_of : Pairing s₁ s₂ t₁ t₂ r₁ r₂ → Def
  new_of p = bare p.new.definition

  abbrev pub old_of : Pairing s₁ s₂ t₁ t₂ r₁ r₂ → Def
  old_of p = bare p.old.definition

  abbrev pub witness_of : Pairing s₁ s₂ t₁ t₂ r₁ r₂ → Value
  witness_of p = witness (new_of p) (old_of p)

  written : (p : Pairing s₁ s₂ t₁ t₂ r₁ r₂) {n : ℕ} {out out₂ : List ℕ} → Writes (spell (witness_of p)) n out out₂ → WitnessWritten s₁ s₂ t₁ t₂ r₁ r₂ n out out₂
  written p h = record { tells = λ q. rw (same_definition q.new p.new, same_definition q.old p.old) h }

  -- the callee's value is the one of the pair
  module _ {room : ℕ} (k : WitnessReady s₁ s₂ t₁ t₂ r₁ r₂ room) where
    module _ (e : witness_of k.pair ≡ sample (new_of k.pair)) where
      sample_ready : SampleReady s₁ t₁ r₁ room
      sample_ready = record { row = k.pair.new; fits = subst (λ (v : Value). length (spell v) ≤ room) e k.fits }

      sample_written : {n : ℕ} {out out₂ : List ℕ} → SampleWritten s₁ t₁ r₁ n out out₂ → WitnessWritten s₁ s₂ t₁ t₂ r₁ r₂ n out out₂
      sample_written h = written k.pair (rw e (h.tells k.pair.new))

    module _ (e : witness_of k.pair ≡ beyond_named (new_of k.pair)) where
      beyond_ready : BeyondReady s₁ t₁ r₁ room
      beyond_ready = record { row = k.pair.new; fits = subst (λ (v : Value). length (spell v) ≤ room) e k.fits }

      beyond_written : {n : ℕ} {out out₂ : List ℕ} → BeyondWritten s₁ t₁ r₁ n out out₂ → WitnessWritten s₁ s₂ t₁ t₂ r₁ r₂ n out out₂
      beyond_written h = written k.pair (rw e (h.tells k.pair.new))

-- ---- a pair whose witness stands around that of another pair

module _ {s₁ s₂ t₁ t₂ : List ℕ} {r₁ r₂ : ℕ} where
  -- the witness of k is that of the pair two rows on, `opening` before it and the byte `closing` behind it
  pub record Around {room : ℕ} (k : WitnessReady s₁ s₂ t₁ t₂ r₁ r₂ room) (opening : List ℕ) (closing : ℕ) : Type 0 where
    pub inner : Pairing s₁ s₂ t₁ t₂ (r₁ + 2) (r₂ + 2)
    pub less : word t₂ (r₂ + 2) 4 < word t₂ r₂ 4
    pub spelled : spell (witness_of k.pair) ≡ (opening ++ spell (witness_of inner)) ++ (closing ∷ [])

  module _ {room : ℕ} {k : WitnessReady s₁ s₂ t₁ t₂ r₁ r₂ room} {opening : List ℕ} {closing : ℕ} (p : Around k opening closing) where
    abbrev inside : List ℕ
    inside = spell (witness_of p.inner)

    around_fits : length opening + length inside + 1 ≤ room
    around_fits = omega (
      arith,
      k.fits,
      ap length p.spelled,
      length-append (opening ++ inside) (closing ∷ []),
      length-append opening inside,
    )

    pub around_new : InTable t₁ (r₁ + 2)
    around_new = in_table p.inner.new.row

    pub around_old : InTable t₂ (r₂ + 2)
    around_old = in_table p.inner.old.row

    -- the old definition has fewer rows, so the measure falls
    pub around_less : {m : ℕ} → 4 * word t₂ r₂ 4 + 2 ≡ m → 4 * word t₂ (r₂ + 2) 4 + 3 < m
    around_less e = omega (arith, p.less)

  module _ {out : List ℕ} {k : WitnessReady s₁ s₂ t₁ t₂ r₁ r₂ (length out)} {opening : List ℕ} {closing : ℕ} (p : Around k opening closing)
      {n : ℕ} {u : List ℕ} (w : Wrote out n u opening) where
    -- the opening is written
    opened : Lent out n u opening (length (inside p) + 1)
    opened = lent w (omega (arith, around_fits p, w.count))

    pub around_within : n ≤ length u
    around_within = omega (arith, opened.room, opened.same)

    pub around_inner : WitnessReady s₁ s₂ t₁ t₂ (r₁ + 2) (r₂ + 2) (length (left_of n u))
    around_inner = record { pair = p.inner; fits = omega (arith, opened.left) }

    -- and the inner witness
    module _ {j : ℕ} {y : List ℕ} (v : WitnessWritten s₁ s₂ t₁ t₂ (r₁ + 2) (r₂ + 2) j (left_of n u) y) where
      filled : Lent out (n + j) (put_back n u y) (opening ++ inside p) 1
      filled = lent_more opened (inside p) (omega arith) (v.tells p.inner)

      pub around_room : n + j + 1 ≤ length out
      around_room = filled.room

      pub around_closes : n + j < length (put_back n u y)
      around_closes = omega (arith, filled.room, filled.same)

      pub around_closed : WitnessWritten s₁ s₂ t₁ t₂ r₁ r₂ (n + j + 1) out (set (put_back n u y) (n + j) closing)
      around_closed = written k.pair (lent_last filled (omega arith) closing p.spelled)

-- ---- the old definition is a type name

module _ {s₁ s₂ t₁ t₂ : List ℕ} {r₁ r₂ room : ℕ} (k : WitnessReady s₁ s₂ t₁ t₂ r₁ r₂ room) (h : GenericRow s₂ t₂ r₂ None) where
  to_name : witness_of k.pair ≡ beyond_named (new_of k.pair)
  to_name = rw (in_name k.pair.old (h.tells k.pair.old)).1 refl

  pub name_ready : BeyondReady s₁ t₁ r₁ room
  name_ready = beyond_ready k to_name

  pub name_written : {n : ℕ} {out out₂ : List ℕ} → BeyondWritten s₁ t₁ r₁ n out out₂ → WitnessWritten s₁ s₂ t₁ t₂ r₁ r₂ n out out₂
  name_written = beyond_written k to_name

-- ---- it is of arrays

abbrev pub is_array : Option Generic → Bool
is_array (Some Array) = true
is_array (Some Map) = false
is_array (Some Object) = false
is_array None = false

array_bytes : (v : Value) → spell (array (vcons v vnil)) ≡ ((0x5B ∷ []) ++ spell v) ++ (0x5D ∷ [])
array_bytes v = rw append-nil

-- the new one is not
module _ {s₁ s₂ t₁ t₂ : List ℕ} {r₁ r₂ room : ℕ} {g : Option Generic} (h : GenericRow s₁ t₁ r₁ g) (n : is_array g ≡ false)
    (i : WitnessTo s₁ s₂ t₁ t₂ r₁ r₂ room Array) where
  array_sample : witness_of i.given.pair ≡ sample (new_of i.given.pair)
  array_sample =
      let p = i.given.pair in
      let q = in_array p.old (i.is.tells p.old) in
      rw q.is (go (bare q.inner.definition) p.new.definition (sym (ap is_array (h.tells p.new)) ∙ n))
    where
      go : (q : Def) (x : Located) → is_array (generic_in x) ≡ false → witness (bare x) (array_of q) ≡ sample (bare x)
      go q (named-at p t) n = refl
      go q (array_at p d) n = absurd (true≢false n)
      go q (map_at p d) n = refl
      go q (object-at p r o) n = refl

  pub no_array_ready : SampleReady s₁ t₁ r₁ room
  no_array_ready = sample_ready i.given array_sample

  pub no_array_written : {n : ℕ} {out out₂ : List ℕ} → SampleWritten s₁ t₁ r₁ n out out₂ → WitnessWritten s₁ s₂ t₁ t₂ r₁ r₂ n out out₂
  no_array_written = sample_written i.given array_sample

-- both are: the element's witness in brackets
module _ {s₁ s₂ t₁ t₂ : List ℕ} {r₁ r₂ room : ℕ} (h : GenericRow s₁ t₁ r₁ (Some Array)) (i : WitnessTo s₁ s₂ t₁ t₂ r₁ r₂ room Array) where
  pub array_around : Around i.given (0x5B ∷ []) 0x5D
  array_around =
      let p = i.given.pair in
      let q : PairingTo s₁ s₂ t₁ t₂ r₁ r₂ Array = record { given = p; is = i.is } in
      record {
        inner = array_pair q h p;
        less = array-rows q;
        spelled =
            ap spell (ap₂ witness (in_array p.new (h.tells p.new)).is (in_array p.old (i.is.tells p.old)).is)
            ∙ array_bytes (witness_of (array_pair q h p));
      }

-- the bracket is written
module _ {s₁ s₂ t₁ t₂ : List ℕ} {r₁ r₂ : ℕ} where
  pub bracket_fits : {room : ℕ} {k : WitnessReady s₁ s₂ t₁ t₂ r₁ r₂ room} → Around k (0x5B ∷ []) 0x5D → 0 < room
  bracket_fits p = omega (arith, around_fits p)

  pub bracket : {out : List ℕ} {k : WitnessReady s₁ s₂ t₁ t₂ r₁ r₂ (length out)} → Around k (0x5B ∷ []) 0x5D → Wrote out 1 (set out 0 0x5B) (0x5B ∷ [])
  bracket {out} p = wrote_one out 0x5B (bracket_fits p)

-- ---- of maps

-- {"a":
abbrev pub map_opening : List ℕ
map_opening = 0x7B ∷ 0x22 ∷ 0x61 ∷ 0x22 ∷ 0x3A ∷ []

map_bytes : (v : Value) → spell (object (mcons (0x61 ∷ []) v mnil)) ≡ (map_opening ++ spell v) ++ (0x7D ∷ [])
unfolding spell_char utf8
map_bytes v = ap (λ (b : List ℕ). map_opening ++ (b ++ (0x7D ∷ []))) (append-nil (spell v))

-- no object meets the new one
module _ {s₁ s₂ t₁ t₂ : List ℕ} {r₁ r₂ room : ℕ} {g : Option Generic} (h : GenericRow s₁ t₁ r₁ g) (n : objects_by g ≡ false)
    (i : WitnessTo s₁ s₂ t₁ t₂ r₁ r₂ room Map) where
  map_sample : witness_of i.given.pair ≡ sample (new_of i.given.pair)
  map_sample =
      let p = i.given.pair in
      let q = in_map p.old (i.is.tells p.old) in
      rw q.is (go (bare q.inner.definition) p.new.definition (sym (ap objects_by (h.tells p.new)) ∙ n))
    where
      go : (q : Def) (x : Located) → objects_by (generic_in x) ≡ false → witness (bare x) (map_of q) ≡ sample (bare x)
      go q (named-at p t) n = refl
      go q (array_at p d) n = refl
      go q (map_at p d) n = absurd (true≢false n)
      go q (object-at p r o) n = absurd (true≢false n)

  pub no_map_ready : SampleReady s₁ t₁ r₁ room
  no_map_ready = sample_ready i.given map_sample

  pub no_map_written : {n : ℕ} {out out₂ : List ℕ} → SampleWritten s₁ t₁ r₁ n out out₂ → WitnessWritten s₁ s₂ t₁ t₂ r₁ r₂ n out out₂
  no_map_written = sample_written i.given map_sample

-- it is an Object
module _ {s₁ s₂ t₁ t₂ : List ℕ} {r₁ r₂ room : ℕ} (h : GenericRow s₁ t₁ r₁ (Some Object)) (i : WitnessTo s₁ s₂ t₁ t₂ r₁ r₂ room Map) where
  map_beyond : witness_of i.given.pair ≡ beyond_named (new_of i.given.pair)
  map_beyond =
      let p = i.given.pair in
      let q = in_map p.old (i.is.tells p.old) in
      rw (q.is, (in-object p.new (h.tells p.new)).is, witness_json (bare q.inner.definition))

  pub map_object_ready : BeyondReady s₁ t₁ r₁ room
  map_object_ready = beyond_ready i.given map_beyond

  pub map_object_written : {n : ℕ} {out out₂ : List ℕ} → BeyondWritten s₁ t₁ r₁ n out out₂ → WitnessWritten s₁ s₂ t₁ t₂ r₁ r₂ n out out₂
  map_object_written = beyond_written i.given map_beyond

-- both are of maps: the value's witness under the name "a"
module _ {s₁ s₂ t₁ t₂ : List ℕ} {r₁ r₂ room : ℕ} (h : GenericRow s₁ t₁ r₁ (Some Map)) (i : WitnessTo s₁ s₂ t₁ t₂ r₁ r₂ room Map) where
  pub map_around : Around i.given map_opening 0x7D
  map_around =
      let p = i.given.pair in
      let q : PairingTo s₁ s₂ t₁ t₂ r₁ r₂ Map = record { given = p; is = i.is } in
      record {
        inner = map_pair q h p;
        less = map_rows q;
        spelled =
            ap spell (ap₂ witness (in_map p.new (h.tells p.new)).is (in_map p.old (i.is.tells p.old)).is)
            ∙ map_bytes (witness_of (map_pair q h p));
      }

  pub map_fits : 5 ≤ room
  map_fits = omega (arith, around_fits map_around)

-- ---- of an Object

module _ {s₁ s₂ t₁ t₂ : List ℕ} {r₁ r₂ room : ℕ} (i : WitnessTo s₁ s₂ t₁ t₂ r₁ r₂ room Object) where
  abbrev object_given : Pairing s₁ s₂ t₁ t₂ r₁ r₂
  object_given = i.given.pair

  object_value : witness_of object_given ≡ shown (new_of object_given) (failing (new_of object_given) (old_of object_given))
  object_value =
      let o = in-object object_given.old (i.is.tells object_given.old) in
      rw o.is (witness_object (new_of object_given) (bare_fields o.required) (bare_fields o.optional))

  -- no name fails
  module _ (f : FailingName s₁ s₂ t₁ t₂ r₁ r₂ None) where
    object_sample : witness_of object_given ≡ sample (new_of object_given)
    object_sample = object_value ∙ go (failing (new_of object_given) (old_of object_given)) (f.tells object_given)
      where
        go : (x : Option (List ℕ × Def)) → Fails s₂ t₂ (Some r₂) None x → shown (new_of object_given) x ≡ sample (new_of object_given)
        go None k = refl
        go (Some x) k = absurd k

    pub no_name_ready : SampleReady s₁ t₁ r₁ room
    no_name_ready = sample_ready i.given object_sample

    pub no_name_written : {n : ℕ} {out out₂ : List ℕ} → SampleWritten s₁ t₁ r₁ n out out₂ → WitnessWritten s₁ s₂ t₁ t₂ r₁ r₂ n out out₂
    no_name_written = sample_written i.given object_sample

  -- the field that fails, its name at row v
  record Field (v : ℕ) : Type 0 where
    pub pair : FieldPairing s₁ s₂ t₁ t₂ r₁ v
    pub less : word t₂ (v + 1) 4 < word t₂ r₂ 4
    pub value : witness_of object_given ≡ failing_value (bare pair.new.definition) (name_of s₂ (word t₂ v 1) (word t₂ v 2)) (bare pair.old.definition)

  module _ {v : ℕ} (f : FailingName s₁ s₂ t₁ t₂ r₁ r₂ (Some v)) where
    field : Field v
    field = go (failing (new_of object_given) (old_of object_given)) object_value (f.tells object_given)
      where
        go : (x : Option (List ℕ × Def)) → witness_of object_given ≡ shown (new_of object_given) x → Fails s₂ t₂ (Some r₂) (Some v) x → Field v
        go None e k = absurd k
        go (Some x) e k = record {
          pair = record { new = object_given.new; name = k.1.name; quoted = k.1.quoted; old = k.1.value };
          less = k.1.less;
          value = e ∙ ap₂ (failing_value (new_of object_given)) (sym k.1.is) (sym k.1.defines);
        }

    -- its definition has fewer rows, so the measure falls
    pub member_less : {m : ℕ} → 4 * word t₂ r₂ 4 + 2 ≡ m → 4 * word t₂ (v + 1) 4 + 5 < m
    member_less e = omega (arith, field.less)

    pub member_ready : MemberReady s₁ s₂ t₁ t₂ r₁ v room
    member_ready = record { pair = field.pair; fits = subst (λ (v : Value). length (spell v) ≤ room) field.value i.given.fits }

    pub member_written : {n : ℕ} {out out₂ : List ℕ} → MemberWritten s₁ s₂ t₁ t₂ r₁ v n out out₂ → WitnessWritten s₁ s₂ t₁ t₂ r₁ r₂ n out out₂
    member_written w = written i.given.pair (rw field.value (w.tells field.pair))
