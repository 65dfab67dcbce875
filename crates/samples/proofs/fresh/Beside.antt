-- The object of an Object definition that has one member more, piece by piece: what stands in the buffer behind each, and the room that is left.
use Prim.Native.Nat.{ℕ, ◌+◌, ◌≤◌}
use mathlib.Core.Path.{sym}
use mathlib.Core.List.{List, ◌++◌}
use native.Mathlib.Omega.{arith}
use lib.ListN.{length, set}
use Rattle.std.specs.Prelude.{Option, Some}
use Rattle.model.specs.Witness.{fresh}
use Rattle.chars.specs.Strings.{characters}
use Rattle.model.specs.Text.{text}
use Rattle.rows.specs.Finding.{Finds}
use Rattle.definitions.specs.declared.types.Generic.TheVariants.{Object}
use Rattle.definitions.specs.Definitions.{bare, bare_fields}
use Rattle.definitions.specs.Shapes.{FieldsRow, GenericRow}
use Rattle.definitions.proofs.Facts.{Fielded, object_fields}
use Rattle.samples.specs.Writing.{Writes, LettersWritten, BeyondReady, BeyondWritten}
use Rattle.samples.proofs.Lent.{left_of, put_back, wrote_two, Lent, lent, lent_more, lent_last}
use Rattle.samples.proofs.fresh.Laws.{required_found, beyond_as, beyond_same, opened, is_null, fellows, beside_spelled, beside_long}

module _ (s t : List ℕ) (r : ℕ) (out : List ℕ) (b : BeyondReady s t r (length out)) (g : GenericRow s t r (Some Object)) where
  abbrev given : Fielded s t r (bare b.row.definition)
  given = object_fields g b.row

  -- the fresh name, and what the other members are written as
  abbrev pub name : List ℕ
  name = fresh (bare b.row.definition)

  abbrev pub others : List ℕ
  others = fellows (bare_fields given.required)

  pub room : length name + length others + 9 ≤ length out
  room = omega (arith, beside_long given.is, b.fits)

  -- behind the brace and the quote
  abbrev pub begun : List ℕ
  begun = set (set out 0 0x7B) 1 0x22

  pub lent_begun : Lent out 2 begun opened (length name + length others + 7)
  lent_begun = lent (wrote_two out 0x7B 0x22 (omega (arith, room))) (omega (arith, room))

  module _ {n : ℕ} {o : List ℕ} (letters : LettersWritten s t r n (left_of 2 begun) o) where
    -- behind the name
    abbrev pub named : List ℕ
    named = put_back 2 begun o

    pub lent_named : Lent out (2 + n) named (opened ++ name) (length others + 7)
    lent_named = lent_more lent_begun name (omega arith) (letters.tells b.row)

    module _ {k : ℕ} {y : List ℕ} (value : Writes is_null k (left_of (2 + n) named) y) where
      -- behind its value
      abbrev pub valued : List ℕ
      valued = put_back (2 + n) named y

      pub lent_valued : Lent out (2 + n + k) valued ((opened ++ name) ++ is_null) (length others + 1)
      lent_valued = lent_more lent_named is_null (omega arith) value

      module _ {m : ℕ} {z : List ℕ} (members : Writes others m (left_of (2 + n + k) valued) z) where
        -- behind the other members
        pub lent_all : Lent out (2 + n + k + m) (put_back (2 + n + k) valued z) (((opened ++ name) ++ is_null) ++ others) 1
        lent_all = lent_more lent_valued others (omega arith) members

        -- and with the closing brace
        pub beside_written : BeyondWritten s t r (2 + n + k + m + 1) out (set (put_back (2 + n + k) valued z) (2 + n + k + m) 0x7D)
        beside_written = beyond_as (beyond_same b.row) (lent_last lent_all (omega arith) 0x7D (sym (beside_spelled given.is)))

  -- the fields whose members stand beside it
  abbrev pub required_row : {f : Option ℕ} → Finds s t (r + 2) (characters (text "required")) f → FieldsRow s t f
  required_row h = required_found g b.row h
