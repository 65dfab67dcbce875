-- What holds of every text that is read, and of every refusal (01, "Text", "Rows", "Three services").
use mathlib.Core.Path.{◌≡◌, ap}
use mathlib.Core.List.{List}
use Prim.Native.Nat.{ℕ, ◌≤◌, ◌<◌}
use native.Mathlib.Omega.{arith}
use lib.ListN.{length}
use borrow.Author.Tests.{lt-ltb}
use Rattle.model.specs.Value.{IsJson}
use Rattle.model.proofs.Basics.{never}
use Rattle.tokens.specs.Parse.{refused, parsed}
use Rattle.tokens.specs.Space.{is_space, skip}
use Rattle.chars.proofs.Facts.{run_within}
use Rattle.syntax.specs.Tree.{Node}
use Rattle.syntax.specs.Grammar.{read_text}
use Rattle.syntax.specs.Spelling.{value_of}
use Rattle.syntax.specs.Rows.{size}
use Rattle.syntax.specs.Answer.{rows_in, table_of}
use Rattle.syntax.specs.Holding.{Holds, Nested, Placed}
use Rattle.syntax.proofs.Holding.{holds_same, table_holds, table_nested}
use Rattle.syntax.proofs.Items.{IsRefusal}
use Rattle.syntax.proofs.Values.{value_within, value_takes}
use Rattle.syntax.proofs.Induction.{read_ways, read_begins}
use Rattle.chars.specs.Refusals.{number}
use Rattle.chars.specs.declared.refusals.Code.{Code}
use Rattle.chars.specs.declared.refusals.Code.TheVariants.{TooLong, NotAllowed}
-- of a value at any place: where it lies, and that it spells a JSON value
pub use Rattle.syntax.proofs.Placing.{value_placed}
pub use Rattle.syntax.proofs.Json.{value_json}

module _ (bytes depth : ℕ) (s : List ℕ) where
  -- ---- a text that was read

  module _ (n : Node) (e : ℕ) (q : read_text bytes depth s ≡ parsed n e) where
    -- every place lies within it; strings and names have both quotes; numbers and literals are spelled so
    pub read_placed : Placed s n
    read_placed = let b = read_begins bytes depth s n e q in value_placed s depth (skip s 0) b.0 n b.1.reads

    -- it spells a JSON value
    pub read_json : IsJson (value_of s n)
    read_json = let b = read_begins bytes depth s n e q in value_json s depth (skip s 0) b.0 n b.1.reads

    -- it has no more rows than bytes
    pub read_rows : size n ≤ length s
    read_rows = let b = read_begins bytes depth s n e q in omega (arith, value_takes s depth b.1.reads)

    -- it is not too long
    pub read_short : length s ≤ bytes
    read_short = (read_begins bytes depth s n e q).1.short

    -- it is read to its end
    pub read_whole : e ≡ length s
    read_whole =
        let b = read_begins bytes depth s n e q in
        omega (arith, run_within is_space s b.0 (value_takes s depth b.1.reads).1)

  module _ (t : List ℕ) (n : Node) (e : ℕ) (q : read_text bytes depth s ≡ parsed n e) (h : size n ≤ rows_in (length t)) where
    -- a table with room holds the tree afterwards
    pub read_table : Holds (table_of t (read_text bytes depth s)) 0 n
    read_table = rw q (table_holds t n e h)

    -- and each row says in which array or object it stands
    pub read_nested : Nested (table_of t (read_text bytes depth s)) 0 0 n
    read_nested = rw q (table_nested t n e h)

  -- ---- a refusal

  -- a text that is too long has code 1 at the limit, whatever it holds
  pub read_long : bytes < length s → read_text bytes depth s ≡ refused TooLong bytes
  unfolding read_text
  read_long h = rw (lt-ltb bytes (length s) h)

  -- any refusal has a code from 1 to 7, and its place lies in the text or at its end
  pub read_code : (c : Code) (p : ℕ) → read_text bytes depth s ≡ refused c p → (0 < number c) × (number c < 8) × (p ≤ length s)
  read_code c p =
      read_ways bytes depth s (λ o. o ≡ refused c p → (0 < number c) × (number c < 8) × (p ≤ length s))
      (λ l q. let w : c ≡ TooLong = cc in let x : number c ≡ 1 = ap number w in let y : p ≡ bytes = cc in omega arith)
      (λ d r w q. let v : c ≡ d = cc in let x : number c ≡ number d = ap number v in let y : p ≡ r = cc in let z : IsRefusal s d r = rw w at (value_within s depth (skip s 0)) in omega arith)
      (λ n e b l q. let w : c ≡ NotAllowed = cc in let x : number c ≡ 3 = ap number w in let y : p ≡ skip s e = cc in omega arith)
      (λ n e b l q. never (cc))

-- ---- tables

-- a table holds one tree at most at a row
pub one_tree : (t : List ℕ) (r : ℕ) (n m : Node) → Holds t r n → Holds t r m → n ≡ m
one_tree = holds_same
