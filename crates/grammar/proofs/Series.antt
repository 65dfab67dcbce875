-- Items with commas between, in brackets, elements and members alike: lists are sound and complete if their items are.
use Prim.Native.Nat.{ℕ, zero, suc, ◌+◌, ◌≤◌, ◌<◌}
use mathlib.Core.Path.{◌≡◌, refl, sym, ap, ◌∙◌, subst}
use mathlib.Core.Bool.{true, false}
use mathlib.Core.List.{List, [], ◌∷◌, ◌++◌, append_assoc}
use native.Mathlib.Omega.{arith}
use lib.ListN.{length, length-append}
use lib.Dec.{eqb}
use borrow.Author.Tests.{eqb-true, eqb-false}
use Rattle.model.specs.Text.{all as every}
use Rattle.model.proofs.Basics.{by_test, and_ways}
use Rattle.chars.specs.Bytes.{byte_at}
use Rattle.tokens.specs.Parse.{Parse, refused, parsed}
use Rattle.tokens.specs.Space.{is_space, skip}
use Rattle.chars.specs.Strings.{part}
use Rattle.chars.proofs.Facts.{in_text}
use Rattle.tokens.proofs.Facts.{part_none}
use Rattle.syntax.specs.Grammar.{items_at, list_at}
use Rattle.syntax.proofs.Facts.{Reads, item_takes, items_refused, items_next, items_close, items_bad, list_empty, list_items}
use Rattle.grammar.specs.Written.{Language, IsSpace}
use Rattle.grammar.proofs.Trimmed.{TrimmedSeries, first_item, next_item, TrimmedBracketed, no_items, some_items}
use Rattle.grammar.proofs.Pieces.{At, at_first, at_second, between, between_one, between_join, Spelled, Begun, Sound, spelled_begun}
use Rattle.grammar.proofs.Pieces.{begun_more, spelled_in, sound_in, unexpected_sound, Space, spaced, space_spelled, Follow, Complete}
use Rattle.grammar.proofs.Pieces.{Opens, Opening}
use Rattle.grammar.proofs.Numbers.{run_reads}

-- ---- what is read, and what is refused

module _ {L A : Type 0} {s : List ℕ} {rows : L → ℕ} {item : L → ℕ → Parse L} (r : Reads s rows item) (Item : A → Language A) (mean : L → A) (empty : L)
    (sound : (before : L) (i : ℕ) → i ≤ length s → Sound (Item (mean before)) mean s i (item before i)) (opening closing : ℕ) (pos : 0 < closing) where
  abbrev SeriesOf : Language A
  SeriesOf = TrimmedSeries Item (mean empty)

  abbrev ListOf : Language A
  ListOf = TrimmedBracketed opening closing Item (mean empty)

  -- a series, space and the closing byte
  abbrev Closed : Language A
  Closed w all = (x : List ℕ) × (b : List ℕ) × (w ≡ x ++ (b ++ (closing ∷ []))) × SeriesOf x all × IsSpace b

  -- behind w, any further item makes a series
  abbrev Ready : List ℕ → L → Type 0
  Ready w before = (x : List ℕ) (all : A) → Item (mean before) x all → SeriesOf (w ++ x) all

  -- behind a series from j up to e
  module _ (j : ℕ) (all : L) (e : ℕ) (so_far : Spelled SeriesOf s j e (mean all)) where
    abbrev k : ℕ
    k = skip s e

    space : Spelled Space s e k tt
    space = space_spelled s e so_far.within

    no_comma : Begun Closed s j k
    no_comma = begun_more (between s so_far.ahead) (closing ∷ []) (λ _. mean all) (λ w _ h. (part s j e, w, refl, so_far.spells, h)) (spelled_begun space)

    closed : byte_at s k ≡ closing → Spelled Closed s j (k + 1) (mean all)
    closed q =
        let l : k < length s = in_text s k (omega arith) in
        let x = between_join (between s so_far.ahead) (between_join (between s space.ahead) (between_one s l q)) in
        record { ahead = x.order; within = omega arith; spells = (part s j e, part s e k, x.bytes, so_far.spells, space.spells) }

    comma : byte_at s k ≡ 0x2C → Ready (part s j (skip s (k + 1))) all
    comma q w last h =
        let l : k < length s = in_text s k (omega arith) in
        let y = space_spelled s (k + 1) (omega arith) in
        let x = between_join (between s so_far.ahead) (between_join (between s space.ahead) (between_join (between_one s l q) (between s y.ahead))) in
        rw x.bytes (simp append_assoc (next_item (part s e k) (part s (k + 1) (skip s (k + 1))) so_far.spells space.spells y.spells h))

  items_sound : (f : ℕ) (j : ℕ) (before : L) (i : ℕ) → j ≤ i → i ≤ length s → length s < i + f → Ready (part s j i) before
      → Sound Closed mean s j (items_at closing item s before i)
  items_sound zero j before i ji il h ready = absurd (omega arith)
  items_sound (suc f) j before i ji il h ready = go (λ all i. items_sound f j all i) (item before i) refl (sound before i il)
    where
      go : ((all : L) (n : ℕ) → j ≤ n → n ≤ length s → length s < n + f → Ready (part s j n) all → Sound Closed mean s j (items_at closing item s all n))
          → (o : Parse L) → item before i ≡ o → Sound (Item (mean before)) mean s i o → Sound Closed mean s j (items_at closing item s before i)
      go rec (refused c p) q g =
          rw (items_refused r closing q) (
            begun_more (between s ji) (closing ∷ []) (λ a. a)
                (λ w a x. (part s j i ++ w, [], sym (append_assoc (part s j i) w (closing ∷ [])), ready w a x, refl)) g.0,
            g.1,
          )
      go rec (parsed all e) q g =
          let c : Spelled SeriesOf s j e (mean all) = spelled_in (between s ji) (λ a. a) ready g in
          let k : ℕ = skip s e in
          let y = space_spelled s e g.within in
          by_test (eqb (byte_at s k) 0x2C)
          (λ t. let z : byte_at s k ≡ 0x2C = eqb-true _ _ t in
          let l = in_text s k (omega arith) in
          let x = space_spelled s (k + 1) (omega arith) in
          rw (items_next r closing q refl z)
          (rec all (skip s (k + 1)) (omega (arith, c.ahead, y.ahead, x.ahead)) x.within (omega (arith, item_takes r q, y.ahead, x.ahead))
          (comma j all e c z)))
          (λ t. by_test (eqb (byte_at s k) closing)
          (λ u. let z : byte_at s k ≡ closing = eqb-true _ _ u in rw (items_close r closing q refl (λ c. eqb-false _ _ t (z ∙ c)) z) (closed j all e c z))
          (λ u. rw (items_bad r closing q refl (eqb-false _ _ t) (eqb-false _ _ u)) (unexpected_sound Closed mean s j k (no_comma j all e c))))

  -- in brackets
  module _ (i : ℕ) (o : byte_at s i ≡ opening) (l : i < length s) where
    pub list_sound : Sound ListOf mean s i (list_at closing item s empty i)
    list_sound =
        let j : ℕ = skip s (i + 1) in
        let y = space_spelled s (i + 1) (omega arith) in
        let x = between_join (between_one s l o) (between s y.ahead) in
        by_test (eqb (byte_at s j) closing)
        (λ t. let z : byte_at s j ≡ closing = eqb-true _ _ t in
        let m = in_text s j (omega arith) in
        let x₂ = between_join x (between_one s m z) in
        rw (list_empty closing item s empty i refl z)
        (record { ahead = x₂.order; within = omega arith; spells = rw x₂.bytes (no_items (part s (i + 1) j) y.spells) }))
        (λ t. rw (list_items closing item s empty i refl (eqb-false _ _ t))
        (sound_in Closed ListOf x (λ a. a) (λ w all c. rw c.2 (some_items (part s (i + 1) j) c.1 y.spells c.3 c.4)) mean
        (items_at closing item s empty j) (items_sound (suc (length s)) j empty j (omega arith) y.within (omega arith)
        (λ x all h. rw (part_none s j) (first_item h)))))

-- ---- what is spelled so

-- space goes on with no number
pub space_follow : (b : ℕ) → is_space b ≡ true → Follow b
unfolding is_space
space_follow b t =
    by_test (eqb b 0x20) (is 0x20 refl)
    (λ u₁. by_test (eqb b 0x09) (is 0x09 refl)
    (λ u₂. by_test (eqb b 0x0A) (is 0x0A refl) (λ u₃. is 0x0D refl (rw (u₁, u₂, u₃) at t))))
  where
    is : (c : ℕ) → Follow c → eqb b c ≡ true → Follow b
    is c f u = rw (eqb-true b c u) f

-- what stands behind a thing: space, and a byte that goes on with no number
follow_space : (s a r : List ℕ) (c j : ℕ) → IsSpace a → At s j (a ++ (c ∷ r)) → Follow c → Follow (byte_at s j)
follow_space s [] r c j h a f = rw a.0 f
follow_space s (b ∷ w) r c j h a f = and_ways (is_space b) (every is_space w) (spaced (b ∷ w) h) (λ t _. rw a.0 (space_follow b t))

-- space, with another byte behind it, is skipped
pub skip_reads : (s a r : List ℕ) (j : ℕ) → IsSpace a → At s j (a ++ r) → is_space (byte_at s (j + length a)) ≡ false → skip s j ≡ j + length a
skip_reads s a r j h t n = run_reads is_space s a j (spaced a h) (at_first s j a r t) n

-- space a, the byte c and space b at j, and x behind them, are read
pub record Separated (s : List ℕ) (j c : ℕ) (a b x : List ℕ) : Type 0 where
  pub before : skip s j ≡ j + length a
  pub byte : byte_at s (j + length a) ≡ c
  pub behind : skip s (j + length a + 1) ≡ j + length a + 1 + length b
  pub stands : At s (j + length a + 1 + length b) x

pub separated : (s : List ℕ) (j c : ℕ) (a b x : List ℕ) → IsSpace a → is_space c ≡ false → IsSpace b
    → ((i : ℕ) → At s i x → is_space (byte_at s i) ≡ false) → At s j (a ++ (c ∷ b ++ x)) → Separated s j c a b x
separated s j c a b x sa sc sb first h =
    let k = at_second s j a (c ∷ b ++ x) h in
    let t = at_second s (j + length a + 1) b x k.2 in
    record {
      before = skip_reads s a (c ∷ b ++ x) j sa h (rw k.0 sc);
      byte = k.0;
      behind = skip_reads s b x (j + length a + 1) sb k.2 (first (j + length a + 1 + length b) t);
      stands = t;
    }

module _ {L A : Type 0} {s : List ℕ} {rows : L → ℕ} {item : L → ℕ → Parse L} (r : Reads s rows item) (Item : A → Language A) (mean : L → A) (empty : L)
    (opening closing : ℕ) (apart : closing ≡ 0x2C → ⊥) (tight : is_space closing ≡ false) (ends : Follow closing)
    (reads : (before : L) → Complete (Item (mean before)) mean s (item before)) (first : (before : A) → Opening (Item before) closing s) where
  -- the reader, at the last item of the series w at i
  record Last (w : List ℕ) (all : A) (i : ℕ) : Type 0 where
    before : L
    place : ℕ
    whole : L
    same : items_at closing item s empty i ≡ items_at closing item s before place
    reads_last : item before place ≡ parsed whole (i + length w)
    means : mean whole ≡ all

  series_first : {w : List ℕ} {all : A} → TrimmedSeries Item (mean empty) w all → (i : ℕ) → At s i w → Opens closing (byte_at s i)
  series_first (first_item {w} {all} h) i a = first (mean empty) i w all h a
  series_first (next_item {w} b c {x} S sa sb h) i a = series_first S i (at_first s i w (b ++ (0x2C ∷ c ++ x)) a)

  series_reads : {w : List ℕ} {all : A} → TrimmedSeries Item (mean empty) w all → (i : ℕ) → At s i w → Follow (byte_at s (i + length w)) → Last w all i
  unfolding is_space
  series_reads (first_item {w} {all} h) i a n =
      let x = reads empty i w all h a n in record { before = empty; place = i; whole = x.0; same = refl; reads_last = x.1; means = x.2 }
  series_reads (next_item {w} b c {x} {before = bef} {all} S sb sc h) i a n =
      let y = b ++ (0x2C ∷ c ++ x) in
      let a₂ = at_second s i w y a in
      let u = series_reads S i (at_first s i w y a) (follow_space s b (c ++ x) 0x2C (i + length w) sb a₂ refl) in
      let p = separated s (i + length w) 0x2C b c x sb refl sc (λ i t. (first bef i x all h t).0) a₂ in
      let j = i + length w + length b + 1 + length c in
      let z : j + length x ≡ i + length (w ++ y) = omega (arith, length-append w y, length-append b (0x2C ∷ c ++ x), length-append c x) in
      let v = reads u.whole j x all (subst (λ (q : A). Item q x all) (sym u.means) h) p.stands (rw z n) in
      record {
        before = u.whole;
        place = j;
        whole = v.0;
        same = u.same ∙ items_next r closing u.reads_last (sym p.before) p.byte ∙ ap (items_at closing item s u.whole) p.behind;
        reads_last = v.1 ∙ ap (parsed v.0) z;
        means = v.2;
      }

  -- a list is read, whatever stands behind it
  pub list_reads : {w : List ℕ} {all : A} → TrimmedBracketed opening closing Item (mean empty) w all → (i : ℕ) → At s i w
      → (a : L) × (list_at closing item s empty i ≡ parsed a (i + length w)) × (mean a ≡ all)
  list_reads (no_items b sb) i a =
      let a₁ = at_second s (i + 1) b (closing ∷ []) a.2 in
      let z = skip_reads s b (closing ∷ []) (i + 1) sb a.2 (rw a₁.0 tight) in
      let z₂ : i + 1 + length b + 1 ≡ i + suc (length (b ++ (closing ∷ []))) = omega (arith, length-append b (closing ∷ [])) in
      (empty, list_empty closing item s empty i (sym z) a₁.0 ∙ ap (parsed empty) z₂, refl)
  list_reads (some_items b {x} c {all} sb S sc) i a =
      let a₁ = at_second s (i + 1) b (x ++ (c ++ (closing ∷ []))) a.2 in
      let j = i + 1 + length b in
      let a₂ = at_first s j x (c ++ (closing ∷ [])) a₁ in
      let a₃ = at_second s j x (c ++ (closing ∷ [])) a₁ in
      let a₄ = at_second s (j + length x) c (closing ∷ []) a₃ in
      let f = series_first S j a₂ in
      let z = skip_reads s b (x ++ (c ++ (closing ∷ []))) (i + 1) sb a.2 f.0 in
      let u = series_reads S j a₂ (follow_space s c [] closing (j + length x) sc a₃ ends) in
      let z₂ = skip_reads s c (closing ∷ []) (j + length x) sc a₃ (rw a₄.0 tight) in
      let z₃ : j + length x + length c + 1 ≡ i + suc (length (b ++ (x ++ (c ++ (closing ∷ []))))) =
      omega (arith, length-append b (x ++ (c ++ (closing ∷ []))), length-append x (c ++ (closing ∷ [])), length-append c (closing ∷ [])) in (
        u.whole,
        list_items closing item s empty i (sym z) f.1 ∙ u.same ∙ items_close r closing u.reads_last (sym z₂) apart a₄.0 ∙ ap (parsed u.whole) z₃,
        u.means,
      )
