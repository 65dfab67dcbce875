-- Items with commas between, up to a closing byte: a step of them, what they take of the text, what each further item keeps.
use mathlib.Core.Path.{◌≡◌, refl, sym, ◌∙◌}
use mathlib.Core.List.{List}
use Prim.Native.Nat.{ℕ, zero, suc, ◌+◌, ◌-◌, ◌*◌, ◌≤◌, ◌<◌}
use native.Mathlib.Omega.{arith}
use lib.ListN.{length}
use lib.Dec.{eqb}
use borrow.Author.Tests.{eqb-true, eq-eqb, ne_eqb}
use Rattle.chars.specs.Bytes.{byte_at}
use Rattle.tokens.specs.Parse.{Parse, refused, parsed, then, unexpected}
use Rattle.tokens.specs.Space.{is_space, skip}
use Rattle.model.proofs.Basics.{never, both}
use Rattle.chars.proofs.Facts.{in_text, run-from}
use Rattle.tokens.proofs.Facts.{unexpected_ways}
use Rattle.syntax.specs.Grammar.{after_item, items_from, items_at, list_at}
use Rattle.chars.specs.Refusals.{number}
use Rattle.chars.specs.declared.refusals.Code.{Code}
use Rattle.chars.specs.declared.refusals.Code.TheVariants.{NotAllowed, Ended}

-- ---- what is read behind another

module _ {A B : Type 0} where
  -- both ways of what is read first
  pub then_both : (P : Parse B → Type 0) (o : Parse A) (k : A → ℕ → Parse B)
      → ((c : Code) (p : ℕ) → o ≡ refused c p → P (refused c p)) → ((a : A) (e : ℕ) → o ≡ parsed a e → P (k a e)) → P (then o k)
  then_both P (refused c p) k f g = f c p refl
  then_both P (parsed a e) k f g = g a e refl

  pub then_same : (o : Parse A) (k m : A → ℕ → Parse B) → ((a : A) (e : ℕ) → o ≡ parsed a e → k a e ≡ m a e) → then o k ≡ then o m
  then_same (refused c p) k m h = refl
  then_same (parsed a e) k m h = h a e refl

  pub then_parsed : (o : Parse A) (k : A → ℕ → Parse B) (b : B) (e : ℕ) → then o k ≡ parsed b e
      → (a : A) × (f : ℕ) × (o ≡ parsed a f) × (k a f ≡ parsed b e)
  then_parsed (refused c p) k b e q = never (cc)
  then_parsed (parsed a f) k b e q = (a, f, refl, q)

-- ---- refusals

-- a refusal that lies in the text, with a code from 2 to 7
abbrev pub IsRefusal : List ℕ → Code → ℕ → Type 0
IsRefusal s c p = (p ≤ length s) × (2 ≤ number c) × (number c ≤ 7)

module _ {A : Type 0} (s : List ℕ) (i : ℕ) where
  pub unexpected_both : (P : Parse A → Type 0) → ((c : Code) (p : ℕ) → IsRefusal s c p → P (refused c p)) → P (unexpected s i)
  unexpected_both P f = unexpected_ways P s i (λ l. f NotAllowed i (omega arith)) (f Ended (length s) (omega arith))

  pub unexpected_no : (a : A) (e : ℕ) → unexpected s i ≡ parsed a e → ⊥
  unexpected_no a e = unexpected_both (λ o. o ≡ parsed a e → ⊥) (λ c p _ q. never (cc))

-- ---- items

-- reading one more item: what it takes of the text, and how many rows it adds: with the byte behind it, two bytes for each
abbrev pub Adds : {L : Type 0} → List ℕ → (L → ℕ) → L → ℕ → Parse L → Type 0
Adds s rows before i (refused c p) = IsRefusal s c p
Adds s rows before i (parsed all e) = (i < e) × (e ≤ length s) × (rows before < rows all) × (i + 2 * rows all ≤ e + 2 * rows before + 1)

pub record Reads {L : Type 0} (s : List ℕ) (rows : L → ℕ) (item : L → ℕ → Parse L) : Type 0 where
  pub adds : (before : L) (i : ℕ) → Adds s rows before i (item before i)
  pub ended : (before : L) (i : ℕ) → length s ≤ i → item before i ≡ refused Ended (length s)

-- the same of one or more items with what closes them
abbrev pub ItemsWithin : {L : Type 0} → List ℕ → (L → ℕ) → L → ℕ → Parse L → Type 0
ItemsWithin s rows before i (refused c p) = IsRefusal s c p
ItemsWithin s rows before i (parsed all e) = (i < e) × (e ≤ length s) × (rows before ≤ rows all) × (i + 2 * rows all ≤ e + 2 * rows before)

-- and of a list from its opening byte on
abbrev pub ListWithin : {L : Type 0} → List ℕ → (L → ℕ) → L → ℕ → Parse L → Type 0
ListWithin s rows before i (refused c p) = IsRefusal s c p
ListWithin s rows before i (parsed all e) = (i + 2 ≤ e) × (e ≤ length s) × (rows before ≤ rows all) × (i + 2 * rows all + 1 ≤ e + 2 * rows before)

-- a byte that is not 0 stands in the text
pub byte_in : (s : List ℕ) (i b : ℕ) → 0 < b → byte_at s i ≡ b → i < length s
byte_in s i b l q = in_text s i (omega arith)

module _ {L : Type 0} (closing : ℕ) (s : List ℕ) (all : L) (j : ℕ) where
  -- the three ways behind an item
  pub after_ways : (P : Parse L → Type 0) (rest : ℕ → Parse L) → (byte_at s j ≡ 0x2C → P (rest j)) → (byte_at s j ≡ closing → P (parsed all (j + 1)))
      → P (unexpected s j) → P (after_item closing rest s all j)
  unfolding after_item
  after_ways P rest f g h =
      both P (eqb (byte_at s j) 0x2C) (λ t. f (eqb-true _ _ t))
      (λ _. both P (eqb (byte_at s j) closing) (λ t. g (eqb-true _ _ t)) (λ _. h))

  after_same : (f g : ℕ → Parse L) → f j ≡ g j → after_item closing f s all j ≡ after_item closing g s all j
  unfolding after_item
  after_same f g h = rw h

  module _ (rest : ℕ → Parse L) where
    after_comma : byte_at s j ≡ 0x2C → after_item closing rest s all j ≡ rest j
    unfolding after_item
    after_comma b = rw (eq-eqb (byte_at s j) 0x2C b)

    after_closing : (closing ≡ 0x2C → ⊥) → byte_at s j ≡ closing → after_item closing rest s all j ≡ parsed all (j + 1)
    unfolding after_item
    after_closing n b = rw (ne_eqb (byte_at s j) 0x2C (λ q. n (sym b ∙ q)), eq-eqb (byte_at s j) closing b)

    after_bad : (byte_at s j ≡ 0x2C → ⊥) → (byte_at s j ≡ closing → ⊥) → after_item closing rest s all j ≡ unexpected s j
    unfolding after_item
    after_bad n m = rw (ne_eqb (byte_at s j) 0x2C n, ne_eqb (byte_at s j) closing m)

module _ {L : Type 0} {s : List ℕ} {rows : L → ℕ} {item : L → ℕ → Parse L} (r : Reads s rows item) where
  pub item_takes : {before all : L} {i e : ℕ} → item before i ≡ parsed all e → Adds s rows before i (parsed all e)
  item_takes {before} {all} {i} {e} q = rw q at (r.adds before i)

  module _ (closing : ℕ) where
    -- any number that is at least the bytes left will do
    items_enough : (k m : ℕ) (before : L) (i : ℕ) → length s ≤ i + k → length s ≤ i + m
        → items_from k closing item s before i ≡ items_from m closing item s before i
    unfolding items_from
    items_enough zero zero before i h g = refl
    items_enough zero (suc m) before i h g = rw (r.ended before i (omega arith))
    items_enough (suc k) zero before i h g = rw (r.ended before i (omega arith))
    items_enough (suc k) (suc m) before i h g =
        then_same (item before i) _ _
        (λ all e q. let j = skip s e in
        let l : i + 2 ≤ skip s (j + 1) = omega (arith, item_takes q, run-from is_space s e, run-from is_space s (j + 1)) in
        after_same closing s all j _ _ (items_enough k m all (skip s (j + 1)) (omega arith) (omega arith)))

    -- a step
    pub items_step : (before : L) (i : ℕ)
        → items_at closing item s before i
        ≡ then (item before i) (λ all e. after_item closing (λ j. items_at closing item s all (skip s (j + 1))) s all (skip s e))
    unfolding items_at items_from
    items_step before i =
        items_enough (length s - i) (suc (length s)) before i (omega arith) (omega arith)
        ∙ then_same (item before i) _ _
        (λ all e q. let i₂ = skip s (skip s e + 1) in
        after_same closing s all (skip s e) _ _ (items_enough (length s) (length s - i₂) all i₂ (omega arith) (omega arith)))

    pub items_refused : {before : L} {i : ℕ} {c : Code} {p : ℕ} → item before i ≡ refused c p → items_at closing item s before i ≡ refused c p
    items_refused {before} {i} q = items_step before i ∙ rw q

    -- behind an item: a comma, the closing byte, or neither
    module _ {before all : L} {i e j : ℕ} (q : item before i ≡ parsed all e) (z : j ≡ skip s e) where
      behind : items_at closing item s before i ≡ after_item closing (λ j. items_at closing item s all (skip s (j + 1))) s all j
      behind = items_step before i ∙ rw (q, ← z)

      pub items_next : byte_at s j ≡ 0x2C → items_at closing item s before i ≡ items_at closing item s all (skip s (j + 1))
      items_next b = behind ∙ after_comma closing s all j _ b

      pub items_close : (closing ≡ 0x2C → ⊥) → byte_at s j ≡ closing → items_at closing item s before i ≡ parsed all (j + 1)
      items_close n b = behind ∙ after_closing closing s all j _ n b

      pub items_bad : (byte_at s j ≡ 0x2C → ⊥) → (byte_at s j ≡ closing → ⊥) → items_at closing item s before i ≡ unexpected s j
      items_bad n m = behind ∙ after_bad closing s all j _ n m

    -- what follows an item counts from it on
    after-item : (before all : L) (i e i₂ : ℕ) → Adds s rows before i (parsed all e) → e < i₂ → (o : Parse L) → ItemsWithin s rows all i₂ o
        → ItemsWithin s rows before i o
    after-item before all i e i₂ t l (refused c p) w = w
    after-item before all i e i₂ t l (parsed more f) w = omega arith

    module _ (pos : 0 < closing) where
      from_within : (k : ℕ) (before : L) (i : ℕ) → ItemsWithin s rows before i (items_from k closing item s before i)
      unfolding items_from
      from_within zero before i = omega arith
      from_within (suc k) before i =
          then_both (ItemsWithin s rows before i) (item before i) _ (λ c p q. rw q at (r.adds before i))
          (λ all e q. let j = skip s e in
          let i₂ = skip s (j + 1) in
          let l : e ≤ j = run-from is_space s e in
          let t : Adds s rows before i (parsed all e) = item_takes q in
          after_ways closing s all j (ItemsWithin s rows before i) _
          (λ _. after-item before all i e i₂ t (omega (arith, run-from is_space s (j + 1))) (items_from k closing item s all i₂) (from_within k all i₂))
          (λ b. omega (arith, byte_in s j closing pos b))
          (unexpected_both s j (ItemsWithin s rows before i) (λ c p w. w)))

      pub items_within : (before : L) (i : ℕ) → ItemsWithin s rows before i (items_at closing item s before i)
      unfolding items_at
      items_within before i = from_within (length s - i) before i

      from_opening : (empty : L) (i j : ℕ) → i < j → (o : Parse L) → ItemsWithin s rows empty j o → ListWithin s rows empty i o
      from_opening empty i j l (refused c p) w = w
      from_opening empty i j l (parsed all e) w = omega arith

      pub list_within : (empty : L) (i : ℕ) → ListWithin s rows empty i (list_at closing item s empty i)
      unfolding list_at
      list_within empty i =
          let j = skip s (i + 1) in
          let l : i < j = omega (arith, run-from is_space s (i + 1)) in
          both (ListWithin s rows empty i) (eqb (byte_at s j) closing) (λ t. omega (arith, byte_in s j closing pos (eqb-true _ _ t)))
          (λ _. from_opening empty i j l (items_at closing item s empty j) (items_within empty j))

-- ---- lists, and what each further item keeps

abbrev Kept : {L : Type 0} → (L → Type 0) → Parse L → Type 0
Kept P (refused c p) = Unit
Kept P (parsed all e) = P all

module _ {L : Type 0} (closing : ℕ) (item : L → ℕ → Parse L) (s : List ℕ) where
  module _ (empty : L) (i : ℕ) {j : ℕ} (z : j ≡ skip s (i + 1)) where
    pub list_empty : byte_at s j ≡ closing → list_at closing item s empty i ≡ parsed empty (j + 1)
    unfolding list_at
    list_empty b = rw (← z, eq-eqb (byte_at s j) closing b)

    pub list_items : (byte_at s j ≡ closing → ⊥) → list_at closing item s empty i ≡ items_at closing item s empty j
    unfolding list_at
    list_items n = rw (← z, ne_eqb (byte_at s j) closing n)

  -- a property that each further item keeps, the whole list has
  module _ (P : L → Type 0) (keep : (before all : L) (i e : ℕ) → P before → item before i ≡ parsed all e → P all) where
    from_keep : (k : ℕ) (before : L) (i : ℕ) → P before → Kept P (items_from k closing item s before i)
    unfolding items_from
    from_keep zero before i h = tt
    from_keep (suc k) before i h =
        then_both (Kept P) (item before i) _ (λ c p q. tt)
        (λ all e q. let j = skip s e in
        let g : P all = keep before all i e h q in
        after_ways closing s all j (Kept P) _ (λ _. from_keep k all (skip s (j + 1)) g) (λ _. g) (unexpected_both s j (Kept P) (λ c p _. tt)))

    kept_items : (before : L) (i : ℕ) → P before → Kept P (items_at closing item s before i)
    unfolding items_at
    kept_items before i h = from_keep (length s - i) before i h

    kept_list : (empty : L) (i : ℕ) → P empty → Kept P (list_at closing item s empty i)
    unfolding list_at
    kept_list empty i h = let j = skip s (i + 1) in both (Kept P) (eqb (byte_at s j) closing) (λ _. h) (λ _. kept_items empty j h)

    pub list_keep : (empty : L) (i : ℕ) → P empty → (all : L) (e : ℕ) → list_at closing item s empty i ≡ parsed all e → P all
    list_keep empty i h all e q = rw q at (kept_list empty i h)
