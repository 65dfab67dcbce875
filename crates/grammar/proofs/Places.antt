-- Places of `read_text`: what stands before a refusal begins a text of the written grammar, one byte more begins none, and nothing behind it counts.
use Prim.Native.Nat.{ℕ, ◌+◌, ◌≤◌, ◌<◌}
use mathlib.Core.Path.{◌≡◌, sym, ap, ◌∙◌}
use mathlib.Core.Logic.{⊎_elim}
use mathlib.Core.List.{List, ◌++◌}
use native.Mathlib.Omega.{arith}
use lib.ListN.{length, take, length-take}
use lib.Seq.{length-take-le, get_or-take, take_at}
use Rattle.model.proofs.Basics.{never}
use Rattle.chars.specs.Bytes.{byte_at}
use Rattle.chars.specs.Refusals.{number}
use Rattle.chars.specs.declared.refusals.Code.{Code}
use Rattle.tokens.specs.Parse.{refused, parsed}
use Rattle.syntax.specs.Grammar.{whole_at, read_text}
use Rattle.grammar.specs.Written.{Begins}
use Rattle.grammar.proofs.Pieces.{Stop}
use Rattle.grammar.proofs.TrimmedTexts.{text_trim, text_spread}
use Rattle.grammar.proofs.Texts.{short_whole, refused_whole, refused_begins, refused_stands, trimmed_reads}
use Rattle.grammar.proofs.Local.{Agree}
use Rattle.grammar.proofs.LocalTexts.{text_steady}

-- texts with the same first m bytes
pub agree_take : (s t : List ℕ) (m : ℕ) → m ≤ length s → take m t ≡ take m s → Agree s t m
agree_take s t m h e = record {
  in_s = h;
  in_t = omega (arith, length-take m t, ap length e, length-take-le m s h);
  bytes = λ j k. sym (get_or-take m t j 0 k) ∙ ap (λ (w : List ℕ). byte_at w j) e ∙ get_or-take m s j 0 k;
}

module _ (bytes d : ℕ) (s : List ℕ) (c : Code) (p : ℕ) (q : read_text bytes d s ≡ refused c p) where
  module _ (l : 2 ≤ number c) where
    whole : whole_at d s ≡ refused c p
    whole = refused_whole d s bytes c p l q

    stands : Stop s c p
    stands = refused_stands d s bytes c p l q

    -- code 2 stands at the end of the text
    pub end_place : number c ≡ 2 → p ≡ length s
    end_place e = ⊎_elim (λ h. h.1) (λ h. absurd (omega (arith, h.0))) stands

    -- any other at a byte of it
    pub byte_place : 3 ≤ number c → p < length s
    byte_place h = ⊎_elim (λ x. absurd (omega (arith, x.0))) (λ x. x.1) stands

  -- the first p bytes begin a text
  pub place_begins : 2 ≤ number c → Begins d (take p s)
  place_begins l = let b = refused_begins d s bytes c p l q in record { rest = b.0; value = b.1; spells = text_spread b.2 }

  -- a text with the same bytes up to p is refused alike
  pub place_alike : 3 ≤ number c → (t : List ℕ) → Agree s t (p + 1) → whole_at d t ≡ refused c p
  place_alike l t g = let h : 2 ≤ number c = omega arith in text_steady g d (rw (whole h) (omega arith)) ∙ whole h

  -- one byte more begins none
  pub place_ends : 3 ≤ number c → Begins d (take (p + 1) s) → ⊥
  place_ends l b =
      let t = take (p + 1) s ++ b.rest in
      let x = trimmed_reads d t (length t) b.value (text_trim b.spells) (omega arith) in
      let m = byte_place (omega arith) l in
      let e = place_alike l t (agree_take s t (p + 1) (omega arith) (take_at (take (p + 1) s) b.rest (p + 1) (length-take-le (p + 1) s (omega arith)))) in
      let z : parsed x.0 x.1 ≡ refused c p = sym x.2 ∙ short_whole d t (length t) (omega arith) ∙ e in
      never (cc)
