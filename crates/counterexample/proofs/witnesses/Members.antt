-- An object that fails under one name, on plain values: the name, the value under it and the other members. For `write_failing` and `write_under`.
use Prim.Native.Nat.{ℕ, ◌+◌, ◌-◌, ◌≤◌, ◌<◌}
use mathlib.Core.Path.{◌≡◌, refl, sym, ap, ◌∙◌, subst}
use mathlib.Core.Bool.{false}
use mathlib.Core.List.{List, [], ◌∷◌, ◌++◌, append_assoc}
use native.Mathlib.Omega.{arith}
use lib.ListN.{length, length-append, set}
use Rattle.std.specs.Prelude.{Option, Some, None}
use Rattle.model.specs.Text.{text}
use Rattle.model.specs.Value.{Value, null, object, mcons, Members}
use Rattle.model.specs.Definition.{JSON, Def, named}
use Rattle.model.specs.Subtype.{under}
use Rattle.model.specs.Witness.{others, witness}
use Rattle.chars.specs.Strings.{characters, part}
use Rattle.syntax.specs.Grammar.{name_of}
use Rattle.syntax.specs.Holding.{word}
use Rattle.writer.specs.Spell.{spell, spell_string}
use Rattle.definitions.specs.Definitions.{bare}
use Rattle.definitions.specs.Shapes.{DefinedRow}
use Rattle.comparison.specs.Fields.{definition_under, Gives, FindsUnder}
use Rattle.comparison.specs.Carrying.{Pairing, FieldPairing}
use Rattle.rows.specs.Records.{Reads}
use Rattle.rows.specs.declared.records.Record.{Record}
use Rattle.definitions.proofs.Facts.{same_definition}
use Rattle.comparison.proofs.Facts.{or_def}
use Rattle.samples.specs.Writing.{Writes, name_bytes, further, OthersReady, OthersWritten}
use Rattle.samples.specs.Writing.{NameReady, NameWritten}
use Rattle.counterexample.specs.Writing.{failing_value, WitnessReady, WitnessWritten, MemberReady}
use Rattle.counterexample.specs.Writing.{MemberWritten, UnderReady, UnderWritten}
use Rattle.samples.proofs.Facts.{left_of, put_back, wrote, Lent, lent, lent_more, lent_last, last_same}
use Rattle.counterexample.proofs.Failing.{witness_json, under_found}
use Rattle.counterexample.proofs.witnesses.Laws.{witness_of}

-- ---- a member that fails

member_bytes : (n : List ℕ) (v : Value) (ms : Members) → spell (object (mcons n v ms)) ≡ ((name_bytes 0x7B n ++ spell v) ++ further ms) ++ (0x7D ∷ [])
member_bytes n v ms = ap (λ (b : List ℕ). 0x7B ∷ (b ++ (0x7D ∷ []))) (sym (joined (spell_string n) 0x3A (spell v) (further ms)))
  where
    joined : (n : List ℕ) (c : ℕ) (v f : List ℕ) → ((n ++ (c ∷ [])) ++ v) ++ f ≡ n ++ (c ∷ (v ++ f))
    joined n c v f = append_assoc (n ++ (c ∷ [])) v f ∙ append_assoc n (c ∷ []) (v ++ f)

module _ {s₁ s₂ t₁ t₂ : List ℕ} {r₁ r₂ : ℕ} where
  -- the name, what is to be written under it, and the other members
  abbrev name_in : FieldPairing s₁ s₂ t₁ t₂ r₁ r₂ → List ℕ
  name_in p = name_of s₂ (word t₂ r₂ 1) (word t₂ r₂ 2)

  abbrev under_of : FieldPairing s₁ s₂ t₁ t₂ r₁ r₂ → Value
  under_of p = witness (under (bare p.new.definition) (name_in p)) (bare p.old.definition)

  abbrev others_of : FieldPairing s₁ s₂ t₁ t₂ r₁ r₂ → Members
  others_of p = others (bare p.new.definition) (name_in p)

  -- their bytes
  abbrev name_out : FieldPairing s₁ s₂ t₁ t₂ r₁ r₂ → List ℕ
  name_out p = name_bytes 0x7B (name_in p)

  abbrev under_out : FieldPairing s₁ s₂ t₁ t₂ r₁ r₂ → List ℕ
  under_out p = spell (under_of p)

  abbrev others_out : FieldPairing s₁ s₂ t₁ t₂ r₁ r₂ → List ℕ
  others_out p = further (others_of p)

  member_spelled : (p q : FieldPairing s₁ s₂ t₁ t₂ r₁ r₂)
      → spell (failing_value (bare q.new.definition) (name_in q) (bare q.old.definition)) ≡ ((name_out p ++ under_out p) ++ others_out p) ++ (0x7D ∷ [])
  member_spelled p q =
      rw (same_definition q.new p.new, same_definition q.old p.old) (member_bytes (name_in p) (under_of p) (others_of p))

  module _ {room : ℕ} (k : MemberReady s₁ s₂ t₁ t₂ r₁ r₂ room) where
    member_fits : length (name_out k.pair) + length (under_out k.pair) + length (others_out k.pair) + 1 ≤ room
    member_fits =
        let p = k.pair in
        omega (
          arith,
          k.fits,
          ap length (member_spelled p p),
          length-append ((name_out p ++ under_out p) ++ others_out p) (0x7D ∷ []),
          length-append (name_out p ++ under_out p) (others_out p),
          length-append (name_out p) (under_out p),
        )

    -- the name's row was read as x
    pub member_name_ready : {x : Record} → Reads t₂ r₂ x → NameReady s₂ x.first room 0x7B
    member_name_ready q = rw q.first (record { end = word t₂ r₂ 2; quoted = k.pair.quoted; fits = omega (arith, member_fits) })

  module _ {out : List ℕ} (k : MemberReady s₁ s₂ t₁ t₂ r₁ r₂ (length out)) {x : Record} (q : Reads t₂ r₂ x) where
    -- the name is written
    module _ {n : ℕ} {u : List ℕ} (h : NameWritten s₂ x.first 0x7B n out u) where
      behind_name : Lent out n u (name_out k.pair) (length (under_out k.pair) + length (others_out k.pair) + 1)
      behind_name = let w = (rw q.first at h).tells (word t₂ r₂ 2) k.pair.quoted in lent (wrote w) (omega (arith, member_fits k, w.0))

      pub name_within : n ≤ length u
      name_within = omega (arith, behind_name.room, behind_name.same)

      -- z is what stands between its quotes
      pub under_lent : {z : List ℕ} → z ≡ part s₂ (x.first + 1) (x.end - 1) → {v : Option ℕ} → FindsUnder s₁ t₁ r₁ (characters z) false v
          → UnderReady s₁ s₂ t₁ t₂ r₁ v r₂ (length (left_of n u))
      under_lent b f = record { pair = k.pair; finds = rw (b, q.first, q.last) at f; fits = omega (arith, behind_name.left) }

      -- and the value
      module _ {j : ℕ} {y : List ℕ} (w : UnderWritten s₁ s₂ t₁ t₂ r₁ r₂ j (left_of n u) y) where
        behind_value : Lent out (n + j) (put_back n u y) (name_out k.pair ++ under_out k.pair) (length (others_out k.pair) + 1)
        behind_value = lent_more behind_name (under_out k.pair) (omega arith) (w.tells k.pair)

        pub value_room : n + j ≤ length out
        value_room = omega (arith, behind_value.room)

        pub value_within : n + j ≤ length (put_back n u y)
        value_within = omega (arith, behind_value.room, behind_value.same)

        module _ {z : List ℕ} (b : z ≡ part s₂ (x.first + 1) (x.end - 1)) where
          pub others_lent : OthersReady s₁ t₁ r₁ (characters z) (length (left_of (n + j) (put_back n u y)))
          others_lent = rw (b, q.first, q.last) (record { row = k.pair.new; fits = omega (arith, behind_value.left) })

          -- and the other members
          module _ {l : ℕ} {m : List ℕ} (o : OthersWritten s₁ t₁ r₁ (characters z) l (left_of (n + j) (put_back n u y)) m) where
            behind_others : Lent out (n + j + l) (put_back (n + j) (put_back n u y) m) ((name_out k.pair ++ under_out k.pair) ++ others_out k.pair) 1
            behind_others = lent_more behind_value (others_out k.pair) (omega arith) ((rw (b, q.first, q.last) at o).tells k.pair.new)

            pub member_room : n + j + l + 1 ≤ length out
            member_room = omega (arith, behind_others.room)

            pub member_closes : n + j + l < length (put_back (n + j) (put_back n u y) m)
            member_closes = omega (arith, behind_others.room, behind_others.same)

            pub member_same : length (set (put_back (n + j) (put_back n u y) m) (n + j + l) 0x7D) ≡ length out
            member_same = last_same behind_others 0x7D

            pub member_closed : MemberWritten s₁ s₂ t₁ t₂ r₁ r₂ (n + j + l + 1) out (set (put_back (n + j) (put_back n u y) m) (n + j + l) 0x7D)
            member_closed = record { tells = λ q. lent_last behind_others (omega arith) 0x7D (member_spelled k.pair q) }

  -- what is asked under the name, by what was found there
  module _ {v : Option ℕ} {room : ℕ} (k : UnderReady s₁ s₂ t₁ t₂ r₁ v r₂ room) where
    abbrev asked : Def
    asked = under (bare k.pair.new.definition) (name_in k.pair)

    under_written : {n : ℕ} {out out₂ : List ℕ} → Writes (spell (under_of k.pair)) n out out₂ → UnderWritten s₁ s₂ t₁ t₂ r₁ r₂ n out out₂
    under_written w = record { tells = λ q. rw (same_definition q.new k.pair.new, same_definition q.old k.pair.old) w }

  -- a definition at row v
  module _ {v room : ℕ} (k : UnderReady s₁ s₂ t₁ t₂ r₁ (Some v) r₂ room) where
    found : (d : DefinedRow s₁ t₁ v) × (bare d.definition ≡ asked k)
    found =
        let x = go (definition_under false (bare k.pair.new.definition) (name_in k.pair)) (k.finds.tells k.pair.new) in
        (x.0, x.1 ∙ sym (under_found (bare k.pair.new.definition) (name_in k.pair)))
      where
        go : (o : Option Def) → Gives s₁ t₁ (Some v) o → (d : DefinedRow s₁ t₁ v) × (bare d.definition ≡ or_def (named JSON) o)
        go None g = absurd g
        go (Some d) g = (g.1, g.2)

    abbrev under_pair : Pairing s₁ s₂ t₁ t₂ v (r₂ + 1)
    under_pair = record { new = found.0; old = k.pair.old }

    under_value : under_of k.pair ≡ witness_of under_pair
    under_value = ap (λ (d : Def). witness d (bare k.pair.old.definition)) (sym found.1)

    pub under_ready : WitnessReady s₁ s₂ t₁ t₂ v (r₂ + 1) room
    under_ready = record { pair = under_pair; fits = subst (λ (v : Value). length (spell v) ≤ room) under_value k.fits }

    pub under_witness : {n : ℕ} {out out₂ : List ℕ} → WitnessWritten s₁ s₂ t₁ t₂ v (r₂ + 1) n out out₂ → UnderWritten s₁ s₂ t₁ t₂ r₁ r₂ n out out₂
    under_witness w = under_written k (rw under_value (w.tells under_pair))

  -- none: JSON
  module _ {room : ℕ} (k : UnderReady s₁ s₂ t₁ t₂ r₁ None r₂ room) where
    not_found : under_of k.pair ≡ null
    not_found =
        ap (λ (d : Def). witness d (bare k.pair.old.definition))
        (under_found (bare k.pair.new.definition) (name_in k.pair)
        ∙ go (definition_under false (bare k.pair.new.definition) (name_in k.pair)) (k.finds.tells k.pair.new))
        ∙ witness_json (bare k.pair.old.definition)
      where
        go : (o : Option Def) → Gives s₁ t₁ None o → or_def (named JSON) o ≡ named JSON
        go None g = refl
        go (Some d) g = absurd g

    pub null_fits : 4 ≤ room
    null_fits = omega (arith, k.fits, ap (λ (v : Value). length (spell v)) not_found)

    pub under_null : {n : ℕ} {out out₂ : List ℕ} → Writes (text "null") n out out₂ → UnderWritten s₁ s₂ t₁ t₂ r₁ r₂ n out out₂
    under_null w = under_written k (rw not_found w)
