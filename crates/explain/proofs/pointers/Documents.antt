-- A document that was read: each of its paths can be asked for, and has a pointer.
use Prim.Native.Nat.{ℕ, ◌≤◌}
use mathlib.Core.Path.{◌≡◌}
use mathlib.Core.List.{List, [], ◌∷◌}
use lib.ListN.{length}
use Rattle.tokens.specs.Parse.{parsed}
use Rattle.syntax.specs.Tree.{Node}
use Rattle.syntax.specs.Rows.{size}
use Rattle.syntax.specs.Answer.{rows_in, table_of}
use Rattle.syntax.proofs.Theorems.{read_placed, read_short, read_table}
use Rattle.schema.specs.Checking.{read_document}
use Rattle.schema.specs.Paths.{paths, path_to}
use Rattle.explain.specs.Pointers.{pointers}
use Rattle.explain.specs.Writing.{Points, HasRows, PointerReady}
use Rattle.explain.proofs.pointers.Values.{chain_points}
use Rattle.explain.proofs.pointers.Paths.{picked_rows, rows_first, from}

-- the table has room for its rows
module _ (s t : List ℕ) (n : Node) (e : ℕ) (q : read_document s ≡ parsed n e) (h : size n ≤ rows_in (length t)) where
  pub read_ready : {path : List ℕ} → HasRows path (paths [] 0 n) → PointerReady s (table_of t (read_document s)) path
  read_ready p = record {
    tree = n;
    holds = read_table _ _ s t n e q h;
    placed = read_placed _ _ s n e q;
    short = read_short _ _ s n e q;
    has = p;
  }

  -- the path to the value at a place
  pub place_ready : (x : ℕ) → (path_to x (paths [] 0 n) ≡ [] → ⊥) → PointerReady s (table_of t (read_document s)) (path_to x (paths [] 0 n))
  place_ready x f = read_ready (picked_rows x (paths [] 0 n) f)

-- the pointer of the value with the rows `path`
pub record PointerOf (s : List ℕ) (n : Node) (path : List ℕ) : Type 0 where
  pub row : ℕ
  pub around : List ℕ
  pub is : path ≡ row ∷ around
  pub bytes : List ℕ
  pub points : Points row bytes (pointers s [] 0 n)

pub pointer_of : (s : List ℕ) (n : Node) (path : List ℕ) → HasRows path (paths [] 0 n) → PointerOf s n path
pointer_of s n path h =
    let f = from s path [] [] 0 n h in
    let g = rows_first path (paths [] 0 n) h in
    record { row = g.0; around = g.1; is = g.2; bytes = f.bytes; points = chain_points f.chain g.2 }
