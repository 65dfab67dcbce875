-- An object against a definition under Object, on plain values: laws for the ways out of `judge_object`, `judge_fields`, `judge_found` and
-- `judge_field`. The loops go through the fields of a part, in schema order; their invariants, `InFields` and `InWide`, say that what is left to judge
-- answers for the whole, from the dates so far.
use Prim.Native.Nat.{ℕ, ◌+◌, ◌-◌, ◌≤◌, ◌<◌}
use mathlib.Core.Path.{◌≡◌, refl, sym, ap, ap₂, subst, ◌∙◌}
use mathlib.Core.Bool.{Bool, true, false}
use mathlib.Core.List.{List, ◌++◌}
use native.Mathlib.Omega.{arith}
use lib.Dec.{eqb}
use lib.ListN.{length, replicate, length-replicate}
use borrow.Author.Tests.{eqb-true}
use Rattle.std.specs.Prelude.{Option, Some, None, Ok, Err}
use Rattle.model.specs.Text.{text}
use Rattle.chars.specs.Strings.{characters, part}
use Rattle.syntax.specs.Tree.{Node, place_of}
use Rattle.syntax.specs.Rows.{count_members}
use Rattle.syntax.specs.Grammar.{name_of}
use Rattle.syntax.specs.Holding.{word}
use Rattle.definitions.specs.Definitions.{LocatedFields}
use Rattle.definitions.specs.Shapes.{FieldsRow}
use Rattle.schema.specs.Judging.{Judgement, nothing, unless, Visit, at_name, missing, skipped, visits, field_visits}
use Rattle.schema.specs.Walks.{Walks, Judgeable, Judged, BodyJudgeable, FieldsJudgeable, absence, FieldsJudged, FieldJudgeable, FieldJudged}
use Rattle.rows.specs.Children.{Passes, Begins}
use Rattle.rows.specs.Records.{Reads, ObjectRow}
use Rattle.rows.specs.Finding.{lookup, Finds}
use Rattle.rows.specs.Matching.{found_at, Matches}
use Rattle.rows.specs.declared.children.Children.{Children}
use Rattle.rows.specs.declared.records.Record.{Record}
use Rattle.schema.specs.declared.dates.Dates.{Dates}
use Rattle.schema.specs.declared.judging.Mismatch.{Mismatch}
use Rattle.definitions.proofs.Facts.{FieldsLeft, FieldHere, fields_start, fields_end, field_here, fields_found, part_less, same_fields}
use Rattle.definitions.proofs.Facts.{ObjectBody, part_rows, Inside, inside, start_rest, behind_rest}
use Rattle.rows.proofs.Facts.{members_in, kind_read, same_tree, as_row, row_object, as_object, part_object, name_here}
use Rattle.rows.proofs.Facts.{matched_fresh, Answers, answers_start, answers_here, answers_next, found}
use Rattle.schema.proofs.judging.OtherKinds.{object_kind}
use Rattle.schema.proofs.judging.Laws.{passed, walks_none, walks_passes, walks_stops, walks_on, defined, conclude, wrong_kind}

-- ---- both parts

-- an object, and the body of the definition
pub record InBody (s₁ s₂ t₁ t₂ : List ℕ) (r₁ r₂ : ℕ) : Type 0 where
  pub given : BodyJudgeable s₁ s₂ t₁ t₂ r₁ r₂
  pub document : ObjectRow s₁ t₁ r₁
  pub body : ObjectBody s₂ t₂ r₂ given.required given.optional

module _ {s₁ s₂ t₁ t₂ : List ℕ} {r₁ r₂ : ℕ} (j : BodyJudgeable s₁ s₂ t₁ t₂ r₁ r₂) {x y : Record} (p : Reads t₁ r₁ x) (q : Reads t₂ r₂ y)
    {m : Judgement} (u : m ≡ unless (eqb x.kind 8) x.first y.first) where
  pub object_other : {z : Mismatch} → m ≡ Err z → {d d₂ : Dates} → Judged s₁ s₂ t₁ t₂ r₁ r₂ (Err z) d d₂
  object_other e =
      let n = j.given.document.tree in
      wrong_kind j.given p q (object_kind n ∙ rw (kind_read j.given.document p)) (rw j.is) u e

  pub object_start : {v : Unit {0}} → m ≡ Ok v → InBody s₁ s₂ t₁ t₂ r₁ r₂
  object_start e = record {
    given = j;
    document = as_object j.given.document (sym p.kind ∙ eqb-true x.kind 8 (passed (eqb x.kind 8) x.first y.first u e));
    body = subst (Inside s₂ t₂ r₂) j.is (inside (defined j.given));
  }

-- the fields at the row v that was found for a part of the body, if any was
pub record PartGiven (s₁ s₂ t₁ t₂ : List ℕ) (r₁ r₂ : ℕ) (v : Option ℕ) : Type 0 where
  pub given : FieldsJudgeable s₁ s₂ t₁ t₂ r₁ v
  pub less : part_rows t₂ v < word t₂ r₂ 4

abbrev fields_of_lem : {s₁ s₂ t₁ t₂ : List ℕ} {r₁ : ℕ} {r₂ : Option ℕ} → ObjectRow s₁ t₁ r₁ → FieldsRow s₂ t₂ r₂ → FieldsJudgeable s₁ s₂ t₁ t₂ r₁ r₂
fields_of_lem o f = record { document = o; schema = f.part; fields = f.fields; defines = f.defines }

module _ {s₁ s₂ t₁ t₂ : List ℕ} {r₁ r₂ : ℕ} (b : InBody s₁ s₂ t₁ t₂ r₁ r₂) where
  abbrev pub required_given : {v : Option ℕ} → Finds s₂ t₂ (r₂ + 2) (text "required") v → PartGiven s₁ s₂ t₁ t₂ r₁ r₂ v
  required_given f = record { given = fields_of_lem b.document (fields_found b.body f b.body.first); less = part_less b.body f }

  abbrev pub optional_given : {v : Option ℕ} → Finds s₂ t₂ (r₂ + 2) (text "optional") v → PartGiven s₁ s₂ t₁ t₂ r₁ r₂ v
  optional_given f = record { given = fields_of_lem b.document (fields_found b.body f b.body.second); less = part_less b.body f }

  -- what both parts answer is the answer for the whole
  both_parts : {m : Judgement} {d d₂ : Dates}
      → Walks s₁ (field_visits s₁ (missing b.document.first) b.given.required b.document.members
      ++ field_visits s₁ skipped b.given.optional b.document.members) m d d₂
      → Judged s₁ s₂ t₁ t₂ r₁ r₂ m d d₂
  both_parts w =
      conclude b.given.given (rw (ap₂ (visits s₁) b.given.is (row_object b.given.given.document b.document)) (walks_passes refl refl w))

  module _ {v : Option ℕ} (f : Finds s₂ t₂ (r₂ + 2) (text "required") v) {m : Judgement} {d d₂ : Dates} (h : FieldsJudged s₁ s₂ t₁ t₂ r₁ v true m d d₂) where
    pub required_stops : {x : Mismatch} → m ≡ Err x → Judged s₁ s₂ t₁ t₂ r₁ r₂ (Err x) d d₂
    required_stops e = both_parts (walks_stops (h.tells (required_given f).given) e _)

    pub optional_ends : m ≡ nothing → {w : Option ℕ} → Finds s₂ t₂ (r₂ + 2) (text "optional") w
        → {n : Judgement} {d₃ : Dates} → FieldsJudged s₁ s₂ t₁ t₂ r₁ w false n d₂ d₃ → Judged s₁ s₂ t₁ t₂ r₁ r₂ n d d₃
    optional_ends e g k = both_parts (walks_on (h.tells (required_given f).given) e (k.tells (optional_given g).given))

-- ---- the fields of a part, one after the other

-- the fields at their row
abbrev at_row : {s₁ s₂ t₁ t₂ : List ℕ} {r₁ : ℕ} {r₂ : Option ℕ} → FieldsJudgeable s₁ s₂ t₁ t₂ r₁ r₂ → FieldsRow s₂ t₂ r₂
at_row j = record { part = j.schema; fields = j.fields; defines = j.defines }

module _ {s₁ s₂ t₁ t₂ : List ℕ} {r₁ : ℕ} {r₂ : Option ℕ} (required : Bool) (j : FieldsJudgeable s₁ s₂ t₁ t₂ r₁ r₂) where
  -- what is judged by some fields
  abbrev by_fields : LocatedFields → List Visit
  by_fields fs = field_visits s₁ (absence required j.document.first) fs j.document.members

  -- any object and any fields there are those that are given
  conclude_fields : {m : Judgement} {d d₂ : Dates} → Walks s₁ (by_fields j.fields) m d d₂ → FieldsJudged s₁ s₂ t₁ t₂ r₁ r₂ required m d d₂
  conclude_fields q = record {
    tells = λ i.
        (let e = same_tree (as_row j.document) (as_row i.document) in
        let f : j.document.first ≡ i.document.first = ap place_of e in
        let n : j.document.members ≡ i.document.members = ap members_in e in
        rw (← f, ← n, ← same_fields (at_row j) (at_row i)) q);
  }

-- before the fields whose names are left
pub record InFields (s₁ s₂ t₁ t₂ : List ℕ) (r₁ : ℕ) (r₂ : Option ℕ) (required : Bool) (c : Children 1) (d₀ d : Dates) : Type 0 where
  pub given : FieldsJudgeable s₁ s₂ t₁ t₂ r₁ r₂
  pub fields : LocatedFields
  pub ahead : FieldsLeft s₂ t₂ r₂ c fields
  pub onward : {m : Judgement} {d₂ : Dates} → Walks s₁ (by_fields required given fields) m d d₂ → Walks s₁ (by_fields required given given.fields) m d₀ d₂

abbrev pub fields_object : {s₁ s₂ t₁ t₂ : List ℕ} {r₁ r₂ : ℕ} → FieldsJudgeable s₁ s₂ t₁ t₂ r₁ (Some r₂) → ObjectRow s₂ t₂ r₂
fields_object j = part_object j.schema refl

module _ {s₁ s₂ t₁ t₂ : List ℕ} {r₁ : ℕ} {required : Bool} {c : Children 1} where
  pub fields_begin : {r₂ : ℕ} → FieldsJudgeable s₁ s₂ t₁ t₂ r₁ (Some r₂) → Begins t₂ r₂ c → {d : Dates}
      → InFields s₁ s₂ t₁ t₂ r₁ (Some r₂) required c d d
  fields_begin j b = record { given = j; fields = j.fields; ahead = fields_start (at_row j) b; onward = λ w. w }

  pub fields_judged : {r₂ : Option ℕ} {d₀ d : Dates} → InFields s₁ s₂ t₁ t₂ r₁ r₂ required c d₀ d → c.left ≡ 0
      → FieldsJudged s₁ s₂ t₁ t₂ r₁ r₂ required nothing d₀ d
  fields_judged a l = conclude_fields required a.given (a.onward (rw (ap (by_fields required a.given) (fields_end a.ahead l)) walks_none))

-- the field whose name is at row n, for which v was found in the document's object; the others are left in e
pub record FieldSought (s₁ s₂ t₁ t₂ : List ℕ) (r₁ : ℕ) (r₂ : Option ℕ) (required : Bool) (n : ℕ) (v : Option ℕ) (c e : Children 1) (d₀ d : Dates) : Type 0 where
  pub ahead : InFields s₁ s₂ t₁ t₂ r₁ r₂ required c d₀ d
  pub passes : Passes c n e
  pub finds : Finds s₁ t₁ r₁ (name_of s₂ (word t₂ n 1) (word t₂ n 2)) v

-- v was found for the bytes k between the quotes of its name
pub fields_sought : {s₁ s₂ t₁ t₂ : List ℕ} {r₁ : ℕ} {r₂ : Option ℕ} {required : Bool} {c : Children 1} {d₀ d : Dates}
    → InFields s₁ s₂ t₁ t₂ r₁ r₂ required c d₀ d → {n : ℕ} {e : Children 1} → Passes c n e → {x : Record} → Reads t₂ n x
    → {k : List ℕ} → k ≡ part s₂ (x.first + 1) (x.end - 1) → {v : Option ℕ} → Finds s₁ t₁ r₁ (characters k) v
    → FieldSought s₁ s₂ t₁ t₂ r₁ r₂ required n v c e d₀ d
fields_sought a p w q f = record { ahead = a; passes = p; finds = rw (w.first, w.last) at (rw q at f) }

module _ {s₁ s₂ t₁ t₂ : List ℕ} {r₁ : ℕ} {r₂ : Option ℕ} {required : Bool} {n : ℕ} {v : Option ℕ} {c e : Children 1} {d₀ d : Dates}
    (i : FieldSought s₁ s₂ t₁ t₂ r₁ r₂ required n v c e d₀ d) where
  abbrev pub sought_field : FieldHere s₂ t₂ r₂ n e i.ahead.fields
  sought_field = field_here i.ahead.ahead i.passes

  pub field_judgeable : FieldJudgeable s₁ s₂ t₁ t₂ r₁ v n
  field_judgeable = record {
    document = i.ahead.given.document;
    finds = i.finds;
    name = sought_field.name;
    schema = sought_field.row.row;
    definition = sought_field.row.definition;
    defines = sought_field.row.defines;
  }

  -- it is judged before the others
  module _ {m : Judgement} {d₁ : Dates} (h : FieldJudged s₁ s₂ t₁ t₂ r₁ v n required m d d₁) where
    abbrev others : List Visit
    others = by_fields required i.ahead.given sought_field.others

    one : List Visit
    one = at_name (lookup s₁ (name_of s₂ (word t₂ n 1) (word t₂ n 2)) i.ahead.given.document.members)
        (absence required i.ahead.given.document.first (word t₂ n 1)) (visits s₁ sought_field.row.definition)

    with_others : {k : Judgement} {d₂ : Dates} → Walks s₁ (one ++ others) k d d₂
        → Walks s₁ (by_fields required i.ahead.given i.ahead.given.fields) k d₀ d₂
    unfolding one
    with_others w = i.ahead.onward (rw (ap (by_fields required i.ahead.given) sought_field.adds) w)

    told : Walks s₁ one m d d₁
    unfolding field_judgeable one
    told = h.tells field_judgeable

    pub field_fails : {x : Mismatch} → m ≡ Err x → FieldsJudged s₁ s₂ t₁ t₂ r₁ r₂ required (Err x) d₀ d₁
    field_fails q = conclude_fields required i.ahead.given (with_others (walks_stops told q others))

    pub field_next : m ≡ nothing → InFields s₁ s₂ t₁ t₂ r₁ r₂ required e d₀ d₁
    field_next q = record {
      given = i.ahead.given;
      fields = sought_field.others;
      ahead = sought_field.behind;
      onward = λ w. with_others (walks_on told q w);
    }

-- the same where what stands under each name was found before, in vs: i fields are judged, and there is room for these and those that are left
pub record InWide (room : ℕ) (s₁ s₂ t₁ t₂ : List ℕ) (r₁ : ℕ) (r₂ : Option ℕ) (required : Bool) (vs : List (Option ℕ)) (i : ℕ)
    (c : Children 1) (d₀ d : Dates) : Type 0 where
  pub ahead : InFields s₁ s₂ t₁ t₂ r₁ r₂ required c d₀ d
  pub few : i + c.left ≤ room
  pub matched : Answers (Finds s₁ t₁ r₁) s₂ ahead.ahead.rest vs i c.left

-- what was found in room for k names
pub room_found : {s₁ s₂ t₁ t₂ : List ℕ} {r₁ r₂ k : ℕ} {vs : List (Option ℕ)} → word t₂ r₂ 3 ≤ k → Matches s₁ t₁ r₁ s₂ t₂ r₂ (replicate k None) vs
    → (word t₂ r₂ 3 ≤ length vs) × Matches s₁ t₁ r₁ s₂ t₂ r₂ (replicate (length vs) None) vs
room_found {k = k} {vs} few m =
    let l : length vs ≡ k = m.long ∙ length-replicate {A = Option ℕ} k None in
    (omega (arith, few, l), rw l m)

module _ {room : ℕ} {s₁ s₂ t₁ t₂ : List ℕ} {r₁ : ℕ} {required : Bool} {vs : List (Option ℕ)} {c : Children 1} where
  pub wide_start : {r₂ : ℕ} (j : FieldsJudgeable s₁ s₂ t₁ t₂ r₁ (Some r₂)) → Begins t₂ r₂ c → word t₂ r₂ 3 ≤ room
      → Matches s₁ t₁ r₁ s₂ t₂ r₂ (replicate room None) vs → {d : Dates} → InWide room s₁ s₂ t₁ t₂ r₁ (Some r₂) required vs 0 c d d
  unfolding fields_begin
  wide_start j b few m =
      let o = fields_object j in
      let k : c.left ≡ count_members o.members = b.left ∙ o.holds.0.direct in
      record {
        ahead = fields_begin j b;
        few = omega (arith, b.left, few);
        matched = rw start_rest (answers_start (λ i h. matched_fresh m o (omega (arith, k, few, b.left)) i (omega (arith, k))));
      }

  module _ {r₂ : Option ℕ} {i : ℕ} {d₀ d : Dates} (a : InWide room s₁ s₂ t₁ t₂ r₁ r₂ required vs i c d₀ d) where
    pub wide_end : c.left ≡ 0 → FieldsJudged s₁ s₂ t₁ t₂ r₁ r₂ required nothing d₀ d
    wide_end l = fields_judged a.ahead l

    module _ {n : ℕ} {e : Children 1} (p : Passes c n e) {j : ℕ} (q : j ≡ i) where
      pub wide_sought : FieldSought s₁ s₂ t₁ t₂ r₁ r₂ required n (found_at vs j) c e d₀ d
      wide_sought = rw q (record { ahead = a.ahead; passes = p; finds = answers_here a.matched p (name_here a.ahead.ahead.ahead p) })

      pub wide_next : {m : Judgement} {d₁ : Dates} → FieldJudged s₁ s₂ t₁ t₂ r₁ (found_at vs j) n required m d d₁ → m ≡ nothing
          → {k : ℕ} → k ≡ i + 1 → InWide room s₁ s₂ t₁ t₂ r₁ r₂ required vs k e d₀ d₁
      unfolding field_next
      wide_next h z l = rw l (record {
        ahead = field_next (record { ahead = a.ahead; passes = p; finds = answers_here a.matched p (name_here a.ahead.ahead.ahead p) }) (rw q at h) z;
        few = omega (arith, a.few, p.some, p.left);
        matched = rw (← behind_rest a.ahead.ahead p) at (answers_next a.matched p (name_here a.ahead.ahead.ahead p));
      })

-- ---- one field

module _ {s₁ s₂ t₁ t₂ : List ℕ} {r₁ r₂ : ℕ} where
  -- what is judged by what stands under the name
  abbrev by_value : {v : Option ℕ} → Bool → FieldJudgeable s₁ s₂ t₁ t₂ r₁ v r₂ → Option Node → List Visit
  by_value required j o = at_name o (absence required j.document.first (word t₂ r₂ 1)) (visits s₁ j.definition)

  -- a value is found
  abbrev pub field_value : {v : ℕ} → FieldJudgeable s₁ s₂ t₁ t₂ r₁ (Some v) r₂ → Judgeable s₁ s₂ t₁ t₂ v (r₂ + 1)
  field_value j = record { document = (found j.document j.finds).value; schema = j.schema; definition = j.definition; defines = j.defines }

  pub field_found : {required : Bool} {v : ℕ} {m : Judgement} {d d₂ : Dates} → Judged s₁ s₂ t₁ t₂ v (r₂ + 1) m d d₂
      → FieldJudged s₁ s₂ t₁ t₂ r₁ (Some v) r₂ required m d d₂
  field_found {required} h = record { tells = λ j. rw (ap (by_value required j) (found j.document j.finds).is) (h.tells (field_value j)) }
