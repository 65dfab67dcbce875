-- Local: of two texts that agree below m (Agree), what is read of the one, with its place before m, is read of the other too. Here up to leaves.
use Prim.Native.Nat.{ℕ, zero, suc, ◌+◌, ◌-◌, ◌≤◌, ◌<◌}
use mathlib.Core.Path.{◌≡◌, refl, sym, ap, ◌∙◌}
use mathlib.Core.Bool.{Bool, cond, ◌||◌}
use mathlib.Core.List.{List, [], ◌∷◌}
use native.Mathlib.Omega.{arith}
use lib.ListN.{length}
use lib.Dec.{eqb, ltb}
use borrow.Author.Tests.{lt-ltb, eqb-true, eqb-false}
use Rattle.model.specs.Text.{text}
use Rattle.model.specs.Value.{is_digit}
use Rattle.model.proofs.Basics.{by_test, both}
use Rattle.chars.specs.Bytes.{byte_at}
use Rattle.tokens.specs.Parse.{Parse, refused, parsed, then, unexpected}
use Rattle.chars.specs.Runs.{run}
use Rattle.chars.specs.Characters.{char_at, refusal_at, stop_at}
use Rattle.chars.specs.Strings.{string_at, part}
use Rattle.tokens.specs.declared.tokens.Kind.{Kind}
use Rattle.tokens.specs.declared.tokens.Kind.TheVariants.{Null, False, True, Whole, Fractional}
use Rattle.tokens.specs.Numbers.{digits_end, whole_end, sign_end, power_at, exponent_at, fraction_at, unsigned_at, number_at}
use Rattle.tokens.specs.Scalars.{first_of, word_at, quoted, scalar_by, scalar_at}
use Rattle.chars.specs.declared.characters.Step.{Step}
use Rattle.chars.specs.declared.characters.Step.TheVariants.{Char, Quote}
use Rattle.std.specs.Prelude.{Ok, Err}
use Rattle.chars.specs.Refusals.{refusal, Reading}
use Rattle.chars.specs.declared.refusals.Code.{Code}
use Rattle.tokens.specs.declared.scalars.First.{First}
use Rattle.tokens.specs.declared.scalars.First.TheVariants.{Array, Object, Number, LetterN, LetterF, LetterT, Other, Quote as FirstQuote}
use Rattle.chars.proofs.Facts.{in_text, run_next, run_stop, run-from, char_next, string_char, string_quote, string_stop}
use Rattle.tokens.proofs.Facts.{sign_least, first_is, FirstIs, part_none, part_cons}
use Rattle.grammar.proofs.Trees.{Tree, give, next, walk, Good, Stepped, walk_sound, passes_in, stop_ways}
use Rattle.grammar.proofs.CharTrees.{char_tree, char_quote, char_walk, char_good}
use Rattle.grammar.proofs.Strings.{Scanned, string_sound}

-- the bytes below m are the same
pub record Agree (s t : List ℕ) (m : ℕ) : Type 0 where
  pub in_s : m ≤ length s
  pub in_t : m ≤ length t
  pub bytes : (j : ℕ) → j < m → byte_at t j ≡ byte_at s j

-- where what was read ends, or was refused
abbrev pub place : {A : Type 0} → Parse A → ℕ
place (refused c p) = p
place (parsed a e) = e

-- an outcome o that has its place before m is the other, u, too
abbrev pub Steady : {A : Type 0} → ℕ → Parse A → Parse A → Type 0
Steady m o u = place o < m → u ≡ o

-- and the place i where it is read lies before m: so the bytes from i up to its place agree
abbrev pub Local : {A : Type 0} → ℕ → ℕ → Parse A → Parse A → Type 0
Local m i o u = place o < m → (i < m) × (u ≡ o)

-- the same, with u ≡ o only where K holds
abbrev pub LocalIf : {A : Type 0} → Type 0 → ℕ → ℕ → Parse A → Parse A → Type 0
LocalIf K m i o u = place o < m → (i < m) × (K → u ≡ o)

-- read from an earlier place
local_from : {A : Type 0} {m i j : ℕ} (o u : Parse A) → i ≤ j → Local m j o u → Local m i o u
local_from o u l f h = let x = f h in (omega arith, x.1)

-- what is read behind another
pub then_local : {A B : Type 0} {m i : ℕ} (o u : Parse A) (f k : A → ℕ → Parse B) → Local m i o u → ((a : A) (e : ℕ) → Local m e (f a e) (k a e))
    → Local m i (then o f) (then u k)
then_local (refused c p) u f k h r l = let x = h l in (x.0, ap (λ (y : Parse _). then y k) x.1)
then_local (parsed a e) u f k h r l =
    let y = r a e l in
    let x = h y.0 in
    (x.0, ap (λ (y : Parse _). then y k) x.1 ∙ y.1)

module _ {s t : List ℕ} {m : ℕ} (g : Agree s t m) where
  pub unexpected_local : (A : Type 0) (j : ℕ) → Local {A = A} m j (unexpected s j) (unexpected t j)
  unfolding unexpected
  unexpected_local A j =
      both (λ (o : Parse A). place o < m → (j < m) × (unexpected t j ≡ o)) (ltb j (length s)) (λ _ h. (h, rw (lt-ltb j (length t) (omega (arith, g.in_t)))))
      (λ _ h. absurd (omega (arith, g.in_s)))

  -- by a test of the byte at i
  test_local : {A : Type 0} (i : ℕ) (p : ℕ → Bool) (x y v w : Parse A) → Local m i x v → Local m i y w
      → Local m i (cond (p (byte_at s i)) x y) (cond (p (byte_at t i)) v w)
  test_local {A} i p x y v w f k =
      both (λ (o : Parse A). place o < m → (i < m) × (cond (p (byte_at t i)) v w ≡ o)) (p (byte_at s i))
      (λ u h. let z = f h in (z.0, rw (g.bytes i z.0, u) z.1))
      (λ u h. let z = k h in (z.0, rw (g.bytes i z.0, u) z.1))

  -- parts that end by m
  pub part_steady : (k a b : ℕ) → b ≡ a + k → b ≤ m → part t a b ≡ part s a b
  part_steady zero a b e h = let z : b ≡ a = omega arith in rw z (part_none t a ∙ sym (part_none s a))
  part_steady (suc k) a b e h =
      part_cons t a b (omega arith) (omega (arith, g.in_t))
      ∙ cc (g.bytes a (omega arith), part_steady k (a + 1) b (omega arith) h)
      ∙ sym (part_cons s a b (omega arith) (omega (arith, g.in_s)))

  -- ---- runs and numbers

  run_steady : (p : ℕ → Bool) (k i : ℕ) → m ≤ i + k → run p s i < m → run p t i ≡ run p s i
  run_steady p zero i l h = absurd (omega (arith, run-from p s i))
  run_steady p (suc k) i l h =
      let im : i < m = omega (arith, run-from p s i) in
      let b = g.bytes i im in
      by_test (p (byte_at s i))
      (λ u. let e = run_next p s i (omega (arith, g.in_s)) u in
      run_next p t i (omega (arith, g.in_t)) (rw b u) ∙ run_steady p k (i + 1) (omega arith) (rw e at h) ∙ sym e)
      (λ u. run_stop p t i (rw b u) ∙ sym (run_stop p s i u))

  -- a run that ends before m is the same
  pub runs : (p : ℕ → Bool) (i : ℕ) → run p s i < m → run p t i ≡ run p s i
  runs p i h = run_steady p m i (omega arith) h

  sign_steady : (j : ℕ) → j < m → sign_end t j ≡ sign_end s j
  unfolding sign_end
  sign_steady j h = rw (g.bytes j h)

  whole_least : (j : ℕ) → j ≤ whole_end s j
  unfolding whole_end
  whole_least j = both (λ e. j ≤ e) (eqb (byte_at s j) 0x30) (λ _. omega arith) (λ _. run-from is_digit s j)

  whole_end_steady : (j : ℕ) → whole_end s j < m → whole_end t j ≡ whole_end s j
  unfolding whole_end
  whole_end_steady j h =
      let b = g.bytes j (omega (arith, whole_least j)) in
      by_test (eqb (byte_at s j) 0x30) (λ u. rw (b, u)) (λ u. rw (b, u) (runs is_digit j (rw u at h)))

  -- what follows an end e, unless it is p, where nothing stands
  end_local : {A : Type 0} (e p : ℕ) (x v : Parse A) → Local m e x v → Local m e (cond (eqb e p) (unexpected s p) x) (cond (eqb e p) (unexpected t p) v)
  end_local {A} e p x v f = by_test (eqb e p) (λ u. rw u (λ h. let z = unexpected_local A p h in (omega (arith, eqb-true e p u), z.1))) (λ u. rw u f)

  power_local : (c : ℕ) → Local m c (power_at s c) (power_at t c)
  unfolding power_at
  power_local c h =
      let p : ℕ = sign_end s (c + 1) in
      let e : ℕ = digits_end s p in
      let r = end_local e p (parsed Fractional e) (parsed Fractional e) (λ b. (b, refl)) h in
      let l : (c + 1 ≤ p) × (p ≤ e) = (sign_least s (c + 1), run-from is_digit s p) in
      (omega arith, rw (sign_steady (c + 1) (omega arith), runs is_digit p r.0) r.1)

  exponent_local : (c : ℕ) (k : Kind) → Local m c (exponent_at s c k) (exponent_at t c k)
  unfolding exponent_at
  exponent_local c k = test_local c (λ b. eqb b 0x45 || eqb b 0x65) (power_at s c) (parsed k c) (power_at t c) (parsed k c) (power_local c) (λ b. (b, refl))

  fraction_local : (b : ℕ) → Local m b (fraction_at s b) (fraction_at t b)
  unfolding fraction_at
  fraction_local b =
      let e : ℕ = digits_end s (b + 1) in
      test_local b (λ b. eqb b 0x2E) _ _ _ _
      (λ h. let r = end_local e (b + 1) (exponent_at s e Fractional) (exponent_at t e Fractional) (exponent_local e Fractional) h in
      (omega (arith, run-from is_digit s (b + 1)), rw (runs is_digit (b + 1) r.0) r.1)) (exponent_local b Whole)

  unsigned_local : (a : ℕ) → Local m a (unsigned_at s a) (unsigned_at t a)
  unfolding unsigned_at
  unsigned_local a h =
      let e : ℕ = whole_end s a in
      let r = end_local e a (fraction_at s e) (fraction_at t e) (fraction_local e) h in
      (omega (arith, whole_least a), rw (whole_end_steady a r.0) r.1)

  number_local : (i : ℕ) → Local m i (number_at s i) (number_at t i)
  unfolding number_at
  number_local i =
      test_local i (λ b. eqb b 0x2D) _ _ _ _ (local_from (unsigned_at s (i + 1)) (unsigned_at t (i + 1)) (omega arith) (unsigned_local (i + 1)))
      (unsigned_local i)

  -- ---- words

  word_local : (k : Kind) (w : List ℕ) (i : ℕ) → Local m i (word_at k w s i) (word_at k w t i)
  unfolding word_at
  word_local k [] i = λ b. (b, refl)
  word_local k (c ∷ w) i =
      test_local i (λ b. eqb b c) _ _ _ _ (local_from (word_at k w s (i + 1)) (word_at k w t (i + 1)) (omega arith) (word_local k w (i + 1)))
      (unexpected_local Kind i)

  -- ---- strings

  -- the last byte that a step looked at, besides the first
  abbrev step_place : Reading Step → ℕ
  step_place (Ok (Char v j)) = j - 1
  step_place (Ok Quote) = 0
  step_place (Err r) = r.place

  step_from : (x : Tree) (i : ℕ) (o : Reading Step) → Stepped x s (i + 1) o → step_place o < m → i < m
  step_from x i (Ok (Char v j)) b h = omega (arith, b.ahead)
  step_from x i (Ok Quote) b h = absurd b
  step_from x i (Err r) b h = omega (arith, b.0.ahead)

  stops : (i : ℕ) (c : Code) → i < m → stop_at {A = Step} t i c ≡ Err (refusal c i)
  unfolding refusal_at
  stops i c h = rw (lt-ltb i (length t) (omega (arith, g.in_t)))

  walk_steady : (x : Tree) → Good x → (i : ℕ) → i ≤ length s → step_place (walk x s i) < m → walk x t i ≡ walk x s i
  walk_steady (give v) q i l = λ _. refl
  walk_steady (next p c f) q i l =
      let P : Reading Step → Type 0 = λ o. step_place o < m → walk (next p c f) t i ≡ o in
      both P (p (byte_at s i))
      (λ u h. let n = passes_in p q.0 s i u in
      let y = q.3 (byte_at s i) u in
      let im = step_from (f (byte_at s i)) i (walk (f (byte_at s i)) s (i + 1)) (walk_sound (f (byte_at s i)) y s (i + 1) (omega arith)) h in
      rw (g.bytes i im, u) (walk_steady (f (byte_at s i)) y (i + 1) (omega arith) h))
      (λ u. stop_ways P s i (c (byte_at s i)) (λ n h. rw (g.bytes i h, u) (stops i (c (byte_at s i)) h)) (λ n h. absurd (omega (arith, g.in_s))))

  -- the last byte that a string looked at
  abbrev pub scan_place : Reading ℕ → ℕ
  scan_place (Ok e) = e - 1
  scan_place (Err r) = r.place

  scan_from : (j : ℕ) (x : Reading ℕ) → Scanned s j x → scan_place x < m → j < m
  scan_from j (Ok e) b h = omega (arith, b.ahead)
  scan_from j (Err r) b h = omega (arith, b.0.ahead)

  string_reach : (j : ℕ) → j ≤ length s → scan_place (string_at s j) < m → j < m
  string_reach j l = scan_from j (string_at s j) (string_sound s j l)

  char_steady : (i : ℕ) → i < m → step_place (char_at s i) < m → char_at t i ≡ char_at s i
  char_steady i im h =
      let b = g.bytes i im in
      by_test (eqb (byte_at s i) 0x22)
      (λ u. let o : byte_at s i ≡ 0x22 = eqb-true _ _ u in char_quote t i (b ∙ o) ∙ sym (char_quote s i o))
      (λ u. let n = eqb-false (byte_at s i) 0x22 u in
      let w = char_walk s i n in
      char_walk t i (λ e. n (sym b ∙ e)) ∙ walk_steady char_tree char_good i (omega (arith, g.in_s)) (rw w at h) ∙ sym w)

  string-from : (k i : ℕ) → i ≤ length s → length s < i + k → scan_place (string_at s i) < m → string_at t i ≡ string_at s i
  string-from zero i l f h = absurd (omega arith)
  string-from (suc k) i l f h = go (λ j. string-from k j) (char_at s i) refl
    where
      same : (o : Reading Step) → char_at s i ≡ o → step_place o < m → char_at t i ≡ o
      same o q p = char_steady i (string_reach i l h) (rw q p) ∙ q

      go : ((j : ℕ) → j ≤ length s → length s < j + k → scan_place (string_at s j) < m → string_at t j ≡ string_at s j) → (o : Reading Step) → char_at s i ≡ o
          → string_at t i ≡ string_at s i
      go rec (Ok (Char v j)) q =
          let b = char_next s i v j q in
          let h₂ : scan_place (string_at s j) < m = rw (string_char s i v j q) at h in
          let jm = string_reach j b.1 h₂ in
          string_char t i v j (same (Ok (Char v j)) q (omega arith)) ∙ rec j b.1 (omega arith) h₂ ∙ sym (string_char s i v j q)
      go rec (Ok Quote) q = string_quote t i (same (Ok Quote) q (omega (arith, string_reach i l h))) ∙ sym (string_quote s i q)
      go rec (Err e) q = string_stop t i e (same (Err e) q (rw (string_stop s i e q) at h)) ∙ sym (string_stop s i e q)

  pub string_steady : (i : ℕ) → i ≤ length s → scan_place (string_at s i) < m → string_at t i ≡ string_at s i
  string_steady i l = string-from (suc (length s)) i l (omega arith)

  -- ---- values that hold no other

  quoted_local : (i : ℕ) → byte_at s i ≡ 0x22 → Local m i (quoted (string_at s (i + 1))) (quoted (string_at t (i + 1)))
  quoted_local i o h =
      let l : i + 1 ≤ length s = omega (arith, in_text s i (omega arith)) in
      let r = go (string_at s (i + 1)) (string_sound s (i + 1) l) h in
      (r.0, ap quoted (string_steady (i + 1) l r.1))
    where
      go : (x : Reading ℕ) → Scanned s (i + 1) x → place (quoted x) < m → (i < m) × (scan_place x < m)
      go (Ok e) b h = omega (arith, b.ahead)
      go (Err r) b h = omega (arith, b.0.ahead)

  by_first : (f : First) (i : ℕ) → FirstIs (byte_at s i) f → Local m i (scalar_by f s i) (scalar_by f t i)
  by_first FirstQuote i b = quoted_local i b
  by_first Number i b = number_local i
  by_first LetterN i b = word_local Null (text "null") i
  by_first LetterF i b = word_local False (text "false") i
  by_first LetterT i b = word_local True (text "true") i
  by_first Array i b = unexpected_local Kind i
  by_first Object i b = unexpected_local Kind i
  by_first Other i b = unexpected_local Kind i

  pub scalar_local : (i : ℕ) → Local m i (scalar_at s i) (scalar_at t i)
  scalar_local i h = let r = by_first (first_of (byte_at s i)) i (first_is (byte_at s i)) h in (r.0, rw (g.bytes i r.0) r.1)
