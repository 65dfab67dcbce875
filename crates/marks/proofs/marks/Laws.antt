-- The entries that marks stand for.
use mathlib.Core.Path.{◌≡◌, refl, ◌∙◌}
use mathlib.Core.List.{List, [], ◌∷◌, ◌++◌}
use mathlib.Core.Bool.{true, false}
use Prim.Native.Nat.{ℕ, zero, suc, ◌+◌, ◌-◌, ◌*◌, ◌/◌, ◌%◌, ◌≤◌, ◌<◌}
use native.Mathlib.Omega.{arith}
use lib.ListN.{length, get_or}
use borrow.Author.Tests.{lt-ltb, le-ltb, ne_eqb}
use Rattle.syntax.specs.Rows.{entry}
use Rattle.syntax.proofs.Facts.{no_entry}
use Rattle.marks.specs.Packing.{first_in, second_in, third_in, fourth_in}
use Rattle.marks.specs.Marks.{leaf_mark, list_mark, name_mark, is_name, mark_entry, mark_entries}
use Rattle.marks.proofs.packing.Laws.{unpacked}

-- ---- the entry of a mark

-- by the four numbers in it
module _ (x : ℕ) {a b c d : ℕ} (u : (first_in x ≡ a) × (second_in x ≡ b) × (third_in x ≡ c) × (fourth_in x ≡ d)) where
  pub named_in : b < a → is_name x ≡ true
  unfolding is_name
  named_in l = lt-ltb (second_in x) (first_in x) (omega (arith, u.0, u.1))

  pub unnamed_in : a ≤ b → is_name x ≡ false
  unfolding is_name
  unnamed_in l = le-ltb (second_in x) (first_in x) (omega (arith, u.0, u.1))

  pub name-in : b < a → mark_entry x ≡ entry 9 b (a + 1) 0 1
  unfolding mark_entry
  name-in l = rw (named_in l, u.0, u.1)

  pub leaf_in : a ≤ b → c ≡ 0 → mark_entry x ≡ entry d a (b + 1) 0 1
  unfolding mark_entry
  leaf_in l z = rw (unnamed_in l, u.0, u.1, u.2, u.3, z)

  pub list_in : a ≤ b → (c ≡ 0 → ⊥) → mark_entry x ≡ entry (7 + d % 2) a (b + 1) (d / 2) c
  unfolding mark_entry
  list_in l z = rw (unnamed_in l, u.0, u.1, u.2, u.3, ne_eqb c 0 z)

-- a cleared word is no name
pub nothing_unnamed : is_name 0 ≡ false
unfolding is_name
nothing_unnamed = refl

module _ (k f e : ℕ) (h : k < 65536) (i : f < e) (j : e ≤ 65536) where
  leaf_numbers : let x = leaf_mark k f e in (first_in x ≡ f) × (second_in x ≡ e - 1) × (third_in x ≡ 0) × (fourth_in x ≡ k)
  leaf_numbers = unpacked f (e - 1) 0 k (omega arith) (omega arith) (omega arith) h

  pub leaf_entry : mark_entry (leaf_mark k f e) ≡ entry k f e 0 1
  leaf_entry = let end : e - 1 + 1 ≡ e = omega arith in leaf_in (leaf_mark k f e) leaf_numbers (omega arith) refl ∙ rw end

  pub leaf_unnamed : is_name (leaf_mark k f e) ≡ false
  leaf_unnamed = unnamed_in (leaf_mark k f e) leaf_numbers (omega arith)

module _ (o f e children rows : ℕ) (g : o < 2) (h : f < e) (i : e ≤ 65536) (p : 0 < rows) (q : rows < 65536) (r : 2 * children + o < 65536) where
  list_numbers : let x = list_mark o f e children rows in (first_in x ≡ f) × (second_in x ≡ e - 1) × (third_in x ≡ rows) × (fourth_in x ≡ 2 * children + o)
  list_numbers = unpacked f (e - 1) rows (2 * children + o) (omega arith) (omega arith) q r

  pub list_entry : mark_entry (list_mark o f e children rows) ≡ entry (7 + o) f e children rows
  list_entry =
      let end : e - 1 + 1 ≡ e = omega arith in
      let low : (2 * children + o) % 2 ≡ o = omega arith in
      let high : (2 * children + o) / 2 ≡ children = omega arith in
      list_in (list_mark o f e children rows) list_numbers (omega arith) (λ z. omega arith) ∙ rw (end, low, high)

  pub list_unnamed : is_name (list_mark o f e children rows) ≡ false
  list_unnamed = unnamed_in (list_mark o f e children rows) list_numbers (omega arith)

-- a name, with both its quotes
module _ (f e link hash : ℕ) (l : f + 2 ≤ e) (m : e ≤ 65536) (k : link < 65536) (h : hash < 65536) where
  pub name_numbers : let x = name_mark f e link hash in (first_in x ≡ e - 1) × (second_in x ≡ f) × (third_in x ≡ link) × (fourth_in x ≡ hash)
  name_numbers = unpacked (e - 1) f link hash (omega arith) (omega arith) k h

  pub name_entry : mark_entry (name_mark f e link hash) ≡ entry 9 f e 0 1
  name_entry = let end : e - 1 + 1 ≡ e = omega arith in name-in (name_mark f e link hash) name_numbers (omega arith) ∙ rw end

  pub name_named : is_name (name_mark f e link hash) ≡ true
  name_named = named_in (name_mark f e link hash) name_numbers (omega arith)

-- ---- the entries of marks

pub entries_none : mark_entries [] ≡ []
unfolding mark_entries
entries_none = refl

pub entries_cons : (x : ℕ) (xs : List ℕ) → mark_entries (x ∷ xs) ≡ mark_entry x ∷ mark_entries xs
unfolding mark_entries
entries_cons x xs = refl

pub entries_append : (xs ys : List ℕ) → mark_entries (xs ++ ys) ≡ mark_entries xs ++ mark_entries ys
unfolding mark_entries
entries_append [] ys = refl
entries_append (x ∷ xs) ys = rw (entries_append xs ys)

pub marks_length : (xs : List ℕ) → length (mark_entries xs) ≡ length xs
unfolding mark_entries
marks_length [] = refl
marks_length (x ∷ xs) = omega (arith, marks_length xs)

-- the entry of the mark at a row
pub marks_at : (xs : List ℕ) (i : ℕ) → i < length xs → get_or (mark_entries xs) i no_entry ≡ mark_entry (get_or xs i 0)
unfolding mark_entries
marks_at [] i l = absurd (omega arith)
marks_at (x ∷ xs) zero l = refl
marks_at (x ∷ xs) (suc i) l = marks_at xs i (omega arith)
