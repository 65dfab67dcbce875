-- Leaves, the values that hold no other: what is read or refused is sound, and what is spelled as a leaf is read (LeafRead).
use Prim.Native.Nat.{ℕ, suc, ◌+◌, ◌≤◌, ◌<◌}
use mathlib.Core.Path.{◌≡◌, refl, sym, ap, ◌∙◌, subst}
use mathlib.Core.Logic.{◌⊎◌, inl, inr, ⊎_elim}
use mathlib.Core.Bool.{true, false}
use mathlib.Core.List.{List, [], ◌∷◌}
use native.Mathlib.Omega.{arith}
use lib.ListN.{length}
use lib.Dec.{eqb, ltb}
use borrow.Author.Tests.{ltb-true, eqb-true, eq-eqb, ne_eqb}
use Rattle.model.specs.Text.{text, all}
use Rattle.model.specs.Value.{Value, null, boolean, number, string, array, object, is_digit}
use Rattle.chars.specs.Bytes.{byte_at}
use Rattle.tokens.specs.Parse.{Parse, refused, parsed, then, unexpected}
use Rattle.tokens.specs.Space.{is_space}
use Rattle.chars.specs.Strings.{string_at, part}
use Rattle.tokens.specs.declared.tokens.Kind.{Kind}
use Rattle.tokens.specs.declared.tokens.Kind.TheVariants.{Null, False, True, Whole, Fractional, Quoted}
use Rattle.tokens.specs.Scalars.{first_of, word_at, quoted, scalar_by, scalar_at}
use Rattle.tokens.specs.Spelling.{Spells}
use Rattle.std.specs.Prelude.{Ok, Err}
use Rattle.chars.specs.Refusals.{Reading}
use Rattle.tokens.specs.declared.scalars.First.{First}
use Rattle.tokens.specs.declared.scalars.First.TheVariants.{Array, Object, Quote, Number, LetterN, LetterF, LetterT, Other}
use Rattle.model.proofs.Basics.{both, and_ways}
use Rattle.chars.proofs.Facts.{in_text}
use Rattle.tokens.proofs.Facts.{scalar_bounded, scalar_spells, quote_first, first_is, FirstIs}
use Rattle.syntax.specs.Tree.{Node, scalar}
use Rattle.syntax.specs.Grammar.{leaf_at}
use Rattle.syntax.specs.Spelling.{scalar_of, value_of}
use Rattle.grammar.specs.Written.{Language, IsLeaf}
use Rattle.grammar.proofs.Pieces.{At, at_part, between_none, between_one, Sound, Refusals, begun_none, begun_in, refusals_in}
use Rattle.grammar.proofs.Pieces.{unexpected_refusals, Follow, Opening}
use Rattle.grammar.proofs.Strings.{string_sound, string_spelled, string_begun, string_reads}
use Rattle.grammar.proofs.Numbers.{number_refusals, digit_bounds, number_first, number_reads}

-- ---- what is read, and what is refused

-- a language of one list of bytes
abbrev IsWord : List ℕ → Language (Unit {0})
IsWord w x u = x ≡ w

word_refusals : (k : Kind) (w s : List ℕ) (i : ℕ) → all (ltb 0) w ≡ true → i ≤ length s → Refusals (IsWord w) s i (word_at k w s i)
unfolding word_at
word_refusals k [] s i t l = tt
word_refusals k (c ∷ w) s i t l =
    and_ways (ltb 0 c) (all (ltb 0) w) t
    (λ z u. both (Refusals (IsWord (c ∷ w)) s i) (eqb (byte_at s i) c)
    (λ v. let q = eqb-true (byte_at s i) c v in
    let m = in_text s i (omega (arith, ltb-true 0 c z)) in
    refusals_in (IsWord w) (IsWord (c ∷ w)) (between_one s m q) (λ u. u) (λ x _ h. ap (◌∷◌ c) h) (word_at k w s (i + 1))
    (word_refusals k w s (i + 1) u (omega arith)))
    (λ _. unexpected_refusals Kind (IsWord (c ∷ w)) s i i (begun_none (IsWord (c ∷ w)) s i (c ∷ w) tt l refl)))

module _ (s : List ℕ) (i : ℕ) (l : i ≤ length s) where
  quoted_refusals : byte_at s i ≡ 0x22 → (x : Reading ℕ) → string_at s (i + 1) ≡ x → Refusals IsLeaf s i (quoted x)
  quoted_refusals o (Ok e) q = tt
  quoted_refusals o (Err r) q =
      let m = in_text s i (omega arith) in
      let g = rw q at (string_sound s (i + 1) (omega arith)) in
      (begun_in (between_none s i) string (λ w vs h. h.0) (string_begun s i o g.0 0), g.1)

  word_leaf_refusals : (k : Kind) (w : List ℕ) (v : Value) → all (ltb 0) w ≡ true → IsLeaf w v → Refusals IsLeaf s i (word_at k w s i)
  word_leaf_refusals k w v t h = refusals_in (IsWord w) IsLeaf (between_none s i) (λ _. v) (λ x _ e. rw e h) (word_at k w s i) (word_refusals k w s i t l)

  other_refusals : Refusals {N = Kind} IsLeaf s i (unexpected s i)
  other_refusals = unexpected_refusals Kind IsLeaf s i i (begun_none IsLeaf s i (text "null") null l refl)

  refusals_by : (f : First) → FirstIs (byte_at s i) f → Refusals IsLeaf s i (scalar_by f s i)
  refusals_by Quote b = quoted_refusals b (string_at s (i + 1)) refl
  refusals_by Number b = number_refusals s i l
  refusals_by LetterN b = word_leaf_refusals Null (text "null") null refl refl
  refusals_by LetterF b = word_leaf_refusals False (text "false") (boolean false) refl refl
  refusals_by LetterT b = word_leaf_refusals True (text "true") (boolean true) refl refl
  refusals_by Array b = other_refusals
  refusals_by Object b = other_refusals
  refusals_by Other b = other_refusals

  -- what the reader's laws say of a scalar, in the written grammar
  leaf_of : (k : Kind) (e : ℕ) → Spells k s i e → IsLeaf (part s i e) (scalar_of s k i e)
  leaf_of Null e h = h
  leaf_of False e h = h
  leaf_of True e h = h
  leaf_of Whole e h = (refl, h.0)
  leaf_of Fractional e h = (refl, h.0)
  leaf_of Quoted e h = string_spelled s i h.opens e h.ends

  pub leaf_sound : Sound IsLeaf (value_of s) s i (leaf_at s i)
  leaf_sound = go (scalar_at s i) refl (refusals_by (first_of (byte_at s i)) (first_is (byte_at s i)))
    where
      go : (o : Parse Kind) → scalar_at s i ≡ o → Refusals IsLeaf s i o → Sound IsLeaf (value_of s) s i (then o (λ k e. parsed (scalar k i e) e))
      go (refused c p) q b = b
      go (parsed k e) q b =
          let h : (i < e) × (e ≤ length s) = rw q at (scalar_bounded s i) in
          record { ahead = omega arith; within = h.1; spells = leaf_of k e (scalar_spells s i e k q) }

-- ---- what is spelled so

-- the leaf from i up to e is read, as the value v; its first byte begins no array and no object
pub record LeafRead (s : List ℕ) (i e : ℕ) (v : Value) : Type 0 where
  pub node : Node
  pub reads : leaf_at s i ≡ parsed node e
  pub means : value_of s node ≡ v
  pub no_array : first_of (byte_at s i) ≡ Array → ⊥
  pub no_object : first_of (byte_at s i) ≡ Object → ⊥

word_reads : (k : Kind) (w s : List ℕ) (i : ℕ) → At s i w → word_at k w s i ≡ parsed k (i + length w)
unfolding word_at
word_reads k [] s i a = let z : i ≡ i + 0 = omega arith in ap (parsed k) z
word_reads k (c ∷ w) s i a =
    let z : i + 1 + length w ≡ i + suc (length w) = omega arith in
    rw (eq-eqb (byte_at s i) c a.0) (word_reads k w s (i + 1) a.2 ∙ ap (parsed k) z)

-- a byte that begins a number
number_byte : (b : ℕ) → (is_digit b ≡ true) ⊎ (b ≡ 0x2D) → (first_of b ≡ Number) × (is_space b ≡ false)
unfolding first_of is_space
number_byte b (inl t) =
    let l = digit_bounds b t in (
      rw (ne_eqb b 0x22 (λ q. omega arith), ne_eqb b 0x5B (λ q. omega arith), ne_eqb b 0x7B (λ q. omega arith), t),
      rw (ne_eqb b 0x20 (λ q. omega arith), ne_eqb b 0x09 (λ q. omega arith), ne_eqb b 0x0A (λ q. omega arith), ne_eqb b 0x0D (λ q. omega arith)),
    )
number_byte b (inr e) = rw e (refl, refl)

-- no array and no object
abbrev NoBracket : First → Type 0
NoBracket Array = ⊥
NoBracket Object = ⊥
NoBracket Quote = Unit
NoBracket Number = Unit
NoBracket LetterN = Unit
NoBracket LetterF = Unit
NoBracket LetterT = Unit
NoBracket Other = Unit

module _ (s : List ℕ) (i : ℕ) where
  -- by the kind that its first byte begins
  leaf_by : (e : ℕ) (v : Value) (f : First) (k : Kind) → NoBracket f → first_of (byte_at s i) ≡ f → scalar_by f s i ≡ parsed k e → scalar_of s k i e ≡ v
      → LeafRead s i e v
  leaf_by e v f k n q r m = record {
    node = scalar k i e;
    reads = rw (q, r);
    means = m;
    no_array = λ z. subst NoBracket (sym q ∙ z) n;
    no_object = λ z. subst NoBracket (sym q ∙ z) n;
  }

  -- null, false and true
  word_leaf : (c : ℕ) (w : List ℕ) (v : Value) (f : First) (k : Kind) → NoBracket f → first_of c ≡ f → scalar_by f s i ≡ word_at k (c ∷ w) s i
      → ((e : ℕ) → scalar_of s k i e ≡ v)
      → (x : List ℕ) → x ≡ c ∷ w → At s i x → LeafRead s i (i + length x) v
  word_leaf c w v f k n q r m x e a =
      let b = subst (At s i) e a in leaf_by (i + length x) v f k n (rw b.0 q) (r ∙ rw e (word_reads k (c ∷ w) s i b)) (m (i + length x))

  -- what is spelled as a leaf, with no byte behind it that goes on with a number, is read
  pub leaf_reads : (w : List ℕ) (v : Value) → IsLeaf w v → At s i w → Follow (byte_at s (i + length w)) → LeafRead s i (i + length w) v
  unfolding first_of
  leaf_reads w null h a n = word_leaf 0x6E (text "ull") null LetterN Null tt refl refl (λ e. refl) w h a
  leaf_reads w (boolean false) h a n = word_leaf 0x66 (text "alse") (boolean false) LetterF False tt refl refl (λ e. refl) w h a
  leaf_reads w (boolean true) h a n = word_leaf 0x74 (text "rue") (boolean true) LetterT True tt refl refl (λ e. refl) w h a
  leaf_reads w (number u) h a n =
      let r = number_reads s w h.1 i a n in
      leaf_by (i + length w) (number u) Number r.0 tt (number_byte (byte_at s i) (number_first s w i h.1 a)).0 r.2
      (r.1 s i (i + length w) ∙ ap number (at_part s i w a ∙ h.0))
  leaf_reads w (string us) h a n =
      let r = string_reads s h i a in leaf_by (i + length w) (string us) Quote Quoted tt (quote_first (byte_at s i) r.0) (ap quoted r.1) (ap string r.2)
  leaf_reads w (array vs) h a n = absurd h
  leaf_reads w (object ms) h a n = absurd h

-- the first byte of a leaf is no space, and closes no array
pub leaf_first : (s : List ℕ) → Opening IsLeaf 0x5D s
unfolding is_space
leaf_first s i w null h a = let b = subst (At s i) h a in rw b.0 (refl, λ q. omega arith)
leaf_first s i w (boolean false) h a = let b = subst (At s i) h a in rw b.0 (refl, λ q. omega arith)
leaf_first s i w (boolean true) h a = let b = subst (At s i) h a in rw b.0 (refl, λ q. omega arith)
leaf_first s i w (number u) h a =
    let n = number_first s w i h.1 a in
    ((number_byte (byte_at s i) n).1, λ q. ⊎_elim (λ t. omega (arith, digit_bounds (byte_at s i) t)) (λ e. omega arith) n)
leaf_first s i w (string us) h a = let r = string_reads s h i a in rw r.0 (refl, λ q. omega arith)
leaf_first s i w (array vs) h a = absurd h
leaf_first s i w (object ms) h a = absurd h
