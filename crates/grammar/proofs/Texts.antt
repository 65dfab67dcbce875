-- Whole texts, in the trimmed form: what is read is one of that value, one is read, and what was refused begins one.
use Prim.Native.Nat.{ℕ, ◌+◌, ◌-◌, ◌≤◌}
use mathlib.Core.Path.{◌≡◌, refl, sym, ap, ◌∙◌, subst}
use mathlib.Core.Logic.{inr}
use mathlib.Core.List.{List, [], ◌∷◌, ◌++◌, append_assoc, append-nil}
use native.Mathlib.Omega.{arith}
use lib.ListN.{length, length-append, take, get_or-eq_default}
use lib.Seq.{take_all}
use lib.Dec.{ltb}
use borrow.Author.Tests.{ltb-true, ltb-false, le-ltb}
use Rattle.model.specs.Value.{Value}
use Rattle.model.specs.Text.{all as every}
use Rattle.model.proofs.Basics.{never, by_test, both, and_ways}
use Rattle.chars.specs.Bytes.{byte_at}
use Rattle.chars.specs.Refusals.{number}
use Rattle.chars.specs.declared.refusals.Code.{Code}
use Rattle.tokens.specs.Parse.{Parse, refused, parsed, then}
use Rattle.tokens.specs.Space.{is_space, skip}
use Rattle.chars.specs.Strings.{part}
use Rattle.syntax.specs.Tree.{Node}
use Rattle.syntax.specs.Grammar.{value_at, alone, whole_at, read_text}
use Rattle.syntax.specs.Spelling.{value_of}
use Rattle.syntax.proofs.Theorems.{read_whole}
use Rattle.grammar.specs.Written.{IsSpace}
use Rattle.grammar.proofs.Trimmed.{TrimmedValue, TrimmedText}
use Rattle.grammar.proofs.Pieces.{At, at_first, at_second, at_behind, between, between_join, Spelled, Begun, Stop, Sound, spelled_begun}
use Rattle.grammar.proofs.Pieces.{begun_more, spelled_in, Space, spaced, space_spelled, Follow}
use Rattle.grammar.proofs.Series.{space_follow, skip_reads}
use Rattle.grammar.proofs.Values.{value_sound, value_first, value_reads}
use Rattle.chars.specs.declared.refusals.Code.TheVariants.{TooLong}

-- space up to the end of the text
behind : (s b : List ℕ) (e : ℕ) → IsSpace b → At s e b → e + length b ≡ length s → Follow (byte_at s e) × (skip s e ≡ length s)
unfolding is_space
behind s b e sb a z =
    let o : byte_at s (e + length b) ≡ 0 = get_or-eq_default s 0 (omega arith) in
    (first b sb a o, skip_reads s b [] e sb (subst (At s e) (sym (append-nil b)) a) (rw o) ∙ z)
  where
    first : (b : List ℕ) → IsSpace b → At s e b → byte_at s (e + length b) ≡ 0 → Follow (byte_at s e)
    first [] sb a o = let y : e + 0 ≡ e = omega arith in rw (sym (ap (byte_at s) y) ∙ o) refl
    first (c ∷ w) sb a o = and_ways (is_space c) (every is_space w) (spaced (c ∷ w) sb) (λ t _. rw a.0 (space_follow c t))

module _ (d : ℕ) (s : List ℕ) where
  -- ---- what is read, and what is refused

  abbrev j : ℕ
  j = skip s 0

  lead : Spelled Space s 0 j tt
  lead = space_spelled s 0 (omega arith)

  text_of : (w b : List ℕ) (v : Value) → TrimmedValue d w v → IsSpace b → TrimmedText d (part s 0 j ++ (w ++ b)) v
  text_of w b v h sb = record { a = part s 0 j; x = w; b = b; spelled = refl; space_a = lead.spells; space_b = sb; inside = h }

  alone_sound : (n : Node) (e : ℕ) → Spelled (TrimmedValue d) s j e (value_of s n) → Sound (TrimmedText d) (value_of s) s 0 (alone s n e)
  unfolding alone
  alone_sound n e b =
      let y = space_spelled s e b.within in
      let x : Spelled (TrimmedText d) s 0 (skip s e) (value_of s n) =
      spelled_in (between_join (between s lead.ahead) (between s b.ahead)) (λ _. value_of s n)
      (λ w _ h. rw append_assoc (text_of (part s j e) w (value_of s n) b.spells h)) y in
      both (Sound (TrimmedText d) (value_of s) s 0) (ltb (skip s e) (length s)) (λ t. (spelled_begun x, inr (omega arith, ltb-true (skip s e) (length s) t)))
      (λ _. x)

  pub whole_sound : Sound (TrimmedText d) (value_of s) s 0 (whole_at d s)
  whole_sound = go (value_at d s j) (value_sound s d j lead.within)
    where
      go : (o : Parse Node) → Sound (TrimmedValue d) (value_of s) s j o → Sound (TrimmedText d) (value_of s) s 0 (then o (λ n e. alone s n e))
      go (refused c p) g = (begun_more (between s lead.ahead) [] (λ v. v) (λ w v h. text_of w [] v h refl) g.0, g.1)
      go (parsed n e) b = alone_sound n e b

  from_start : (p : ℕ) → part s 0 p ≡ take p s
  from_start p = let z : p - 0 ≡ p = omega arith in ap (λ (k : ℕ). take k s) z

  module _ (bytes : ℕ) where
    -- a text that is not too long is read whole
    pub short_whole : length s ≤ bytes → read_text bytes d s ≡ whole_at d s
    unfolding read_text
    short_whole h = rw (le-ltb bytes (length s) h)

    not_long : (o : Parse Node) → read_text bytes d s ≡ o → (o ≡ refused TooLong bytes → ⊥) → length s ≤ bytes
    unfolding read_text
    not_long o q n = by_test (ltb bytes (length s)) (λ t. absurd (n (sym q ∙ rw t))) (λ t. ltb-false bytes (length s) t)

    -- what is read is a text, of the value of its tree
    pub reads_trimmed : (n : Node) (e : ℕ) → read_text bytes d s ≡ parsed n e → TrimmedText d s (value_of s n)
    reads_trimmed n e q =
        let h = not_long (parsed n e) q (λ z. never (cc)) in
        let g : Spelled (TrimmedText d) s 0 e (value_of s n) = rw (sym (short_whole h) ∙ q) at whole_sound in
        let z : e ≡ length s = read_whole bytes d s n e q in
        subst (λ (w : List ℕ). TrimmedText d w (value_of s n)) (from_start e ∙ take_all e s (omega arith)) g.spells

    -- a refusal with a code above 1 is that of the whole text
    pub refused_whole : (c : Code) (p : ℕ) → 2 ≤ number c → read_text bytes d s ≡ refused c p → whole_at d s ≡ refused c p
    refused_whole c p l q =
        sym (short_whole (not_long (refused c p) q (λ z. let w : c ≡ TooLong = cc in let y : number c ≡ 1 = ap number w in omega arith))) ∙ q

    -- what stands before the place of a refusal begins a text
    pub refused_begins : (c : Code) (p : ℕ) → 2 ≤ number c → read_text bytes d s ≡ refused c p
        → (rest : List ℕ) × (v : Value) × TrimmedText d (take p s ++ rest) v
    refused_begins c p l q =
        let x : Begun (TrimmedText d) s 0 p × Stop s c p = rw (refused_whole c p l q) at whole_sound in
        let g = x.0 in
        (g.rest, g.thing, subst (λ (w : List ℕ). TrimmedText d (w ++ g.rest) g.thing) (from_start p) g.spells)

    -- code 2 stands at the end of the text, and any other at a byte of it
    pub refused_stands : (c : Code) (p : ℕ) → 2 ≤ number c → read_text bytes d s ≡ refused c p → Stop s c p
    refused_stands c p l q = let x : Begun (TrimmedText d) s 0 p × Stop s c p = rw (refused_whole c p l q) at whole_sound in x.1

    -- ---- what is spelled so

    -- a text is read, to a tree of its value
    pub trimmed_reads : (v : Value) → TrimmedText d s v → length s ≤ bytes → (n : Node) × (e : ℕ) × (read_text bytes d s ≡ parsed n e) × (value_of s n ≡ v)
    unfolding alone
    trimmed_reads v t l =
        let a₀ : At s 0 (t.a ++ (t.x ++ t.b)) = subst (At s 0) t.spelled (at_behind [] s) in
        let k = 0 + length t.a in
        let a₁ = at_second s 0 t.a (t.x ++ t.b) a₀ in
        let a₂ = at_first s k t.x t.b a₁ in
        let e = k + length t.x in
        let a₃ = at_second s k t.x t.b a₁ in
        let z : e + length t.b ≡ length s = omega (arith, ap length t.spelled, length-append t.a (t.x ++ t.b), length-append t.x t.b) in
        let y = behind s t.b e t.space_b a₃ z in
        let z₁ : skip s 0 ≡ k = skip_reads s t.a (t.x ++ t.b) 0 t.space_a a₀ (value_first s d k t.x v t.inside a₂).0 in
        let r = value_reads s d k t.x v t.inside a₂ y.0 in
        let q : whole_at d s ≡ alone s r.0 e =
        ap (λ (m : ℕ). then (value_at d s m) (λ n e. alone s n e)) z₁ ∙ ap (λ (o : Parse Node). then o (λ n e. alone s n e)) r.1 in
        (r.0, length s, short_whole l ∙ q ∙ rw (y.1, le-ltb (length s) (length s) (omega arith)), r.2)
