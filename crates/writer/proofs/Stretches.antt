-- Stretch: in a string that ends, the bytes up to the next backslash or quote are copied. And no string is written longer than it stood.
use Prim.Native.Nat.{ℕ, zero, suc, ◌+◌, ◌-◌, ◌≤◌, ◌<◌}
use mathlib.Core.Path.{◌≡◌, refl, sym, ap, ◌∙◌}
use mathlib.Core.Logic.{inl, inr}
use mathlib.Core.Bool.{Bool, true, false}
use mathlib.Core.List.{List, [], ◌∷◌, ◌++◌, append_assoc}
use native.Mathlib.Omega.{arith}
use lib.ListN.{length, length-append}
use lib.Dec.{eqb}
use borrow.Author.Tests.{eqb-true, eqb-false}
use Rattle.model.specs.Text.{all}
use Rattle.model.proofs.Basics.{never, and_ways, by_test}
use Rattle.chars.specs.declared.characters.Step.{Step}
use Rattle.chars.specs.declared.characters.Step.TheVariants.{Char, Quote}
use Rattle.chars.specs.Bytes.{byte_at}
use Rattle.chars.specs.Characters.{char_at}
use Rattle.chars.specs.Runs.{run}
use Rattle.chars.specs.Strings.{string_at, chars_at, part, values_on}
use Rattle.tokens.specs.Spelling.{IsQuoted}
use Rattle.chars.proofs.Facts.{run_next, run_stop, run-from, char_next, string_char, string_quote, string_stop, string_bounds, string_close}
use Rattle.chars.proofs.Facts.{chars_step, chars_char}
use Rattle.tokens.proofs.Facts.{part_none, part_cons, part_join}
use Rattle.grammar.proofs.Facts.{At}
use Rattle.writer.specs.Spell.{spell_chars}
use Rattle.writer.specs.Runs.{is_ordinary, ordinary_end}
use Rattle.writer.specs.Tokens.{string_bytes}
use Rattle.writer.proofs.runs.Laws.{length_part}
use Rattle.writer.proofs.Copied.{not_ordinary, char_short, char_copied, char_is}
use Rattle.std.specs.Prelude.{Ok, Err}
use Rattle.chars.specs.Refusals.{Reading}
use Rattle.chars.specs.declared.refusals.Refusal.{Refusal}

-- from i on: the string goes on behind the stretch, which is copied
pub record Stretch (s : List ℕ) (i e : ℕ) : Type 0 where
  pub ahead : i ≤ ordinary_end s i
  pub goes-on : string_at s (ordinary_end s i) ≡ Ok e
  pub copied : spell_chars (chars_at s i) ≡ part s i (ordinary_end s i) ++ spell_chars (chars_at s (ordinary_end s i))

-- ---- what cannot stand in a string that ends, and what ends it

pub not_refused : (s : List ℕ) (i e : ℕ) {r : Refusal} → char_at s i ≡ Err r → string_at s i ≡ Ok e → ⊥
not_refused s i e {r} q h = never (cc (string_stop s i r q))

pub quote_ends : (s : List ℕ) (i e : ℕ) → char_at s i ≡ Ok Quote → string_at s i ≡ Ok e → (e ≡ i + 1) × (chars_at s i ≡ [])
quote_ends s i e q h = (cc (string_quote s i q), chars_step s i ∙ ap (values_on (chars_at s)) q)

pub quote_byte : (s : List ℕ) (i e : ℕ) → char_at s i ≡ Ok Quote → string_at s i ≡ Ok e → byte_at s i ≡ 0x22
quote_byte s i e q h = let z : e - 1 ≡ i = omega (arith, (quote_ends s i e q h).0) in rw z at (string_close s i e h).2

-- what holds at the closing quote, and before a character where it holds behind it, holds in all of the string
each_char : (s : List ℕ) (e : ℕ) (P : ℕ → Type 0) → ((i : ℕ) → string_at s i ≡ Ok e → char_at s i ≡ Ok Quote → P i)
    → ((i v j : ℕ) → string_at s i ≡ Ok e → char_at s i ≡ Ok (Char v j) → P j → P i) → (i : ℕ) → string_at s i ≡ Ok e → P i
each_char s e P last more i h = from (length s) i (omega arith) h
  where
    step : (i : ℕ) → ((j : ℕ) → i < j → string_at s j ≡ Ok e → P j) → string_at s i ≡ Ok e → (o : Reading Step) → char_at s i ≡ o → P i
    step i f h (Ok (Char v j)) q = more i v j h q (f j (char_next s i v j q).0 (sym (string_char s i v j q) ∙ h))
    step i f h (Ok Quote) q = last i h q
    step i f h (Err r) q = absurd (not_refused s i e q h)

    from : (k i : ℕ) → length s ≤ i + k → string_at s i ≡ Ok e → P i
    from zero i l h = absurd (omega (arith, string_bounds s i e h))
    from (suc k) i l h = step i (λ j m g. from k j (omega arith) g) h (char_at s i) refl

-- ---- lengths

part_length : (s : List ℕ) (i j : ℕ) → i ≤ j → j ≤ length s → i + length (part s i j) ≡ j
part_length s i j l m = omega (arith, length_part s i j l (omega arith))

pub chars_fit : (s : List ℕ) (i e : ℕ) → string_at s i ≡ Ok e → i + length (spell_chars (chars_at s i)) < e
chars_fit s i e h =
    each_char s e (λ i. i + length (spell_chars (chars_at s i)) < e) (λ i h q. let r = quote_ends s i e q h in rw r.1 (omega arith))
    (λ i v j h q m. let n = char_next s i v j q in
    rw (chars_char s i v j q, length-append) (omega (arith, char_short (char_is s i v j q), part_length s i j (omega arith) n.1))) i h

pub string_short : (s : List ℕ) (i e : ℕ) → IsQuoted s i e → i + length (string_bytes s i) ≤ e
string_short s i e q = rw length-append (omega (arith, chars_fit s (i + 1) e q.ends))

-- ---- stretches

-- over bytes that pass the test
run_over : (p : ℕ → Bool) (s : List ℕ) (w : List ℕ) (i : ℕ) → all p w ≡ true → At s i w → run p s i ≡ run p s (i + length w)
run_over p s [] i h a = let z : i ≡ i + 0 = omega arith in ap (run p s) z
run_over p s (b ∷ w) i h a =
    let z : i + 1 + length w ≡ i + suc (length w) = omega arith in
    and_ways (p b) (all p w) h (λ t u. run_next p s i a.1 (rw a.0 t) ∙ run_over p s w (i + 1) u a.2 ∙ ap (run p s) z)

-- a part of a text stands there
part_at : (k : ℕ) (s : List ℕ) (i j : ℕ) → j ≡ i + k → j ≤ length s → At s i (part s i j)
part_at zero s i j z l = let e : j ≡ i = omega arith in rw (e, part_none s i) (omega arith)
part_at (suc k) s i j z l = rw (part_cons s i j (omega arith) (omega arith)) (refl, omega arith, part_at k s (i + 1) j (omega arith) l)

module _ (s : List ℕ) (i e : ℕ) (h : string_at s i ≡ Ok e) where
  -- no byte, at a backslash or a quote
  none : is_ordinary (byte_at s i) ≡ false → Stretch s i e
  none f = let z = run_stop is_ordinary s i f in record { ahead = omega arith; goes-on = rw z h; copied = rw (z, part_none s i) }

  -- a character that is copied, and more
  more : (v j : ℕ) → char_at s i ≡ Ok (Char v j) → (byte_at s i ≡ 0x5C → ⊥) → Stretch s j e → Stretch s i e
  more v j q n r =
      let b = char_next s i v j q in
      let m = part_length s i j (omega arith) b.1 in
      let a = part_at (j - i) s i j (omega arith) b.1 in
      let c = char_copied (char_is s i v j q) s i a n in
      let z : ordinary_end s i ≡ ordinary_end s j = run_over is_ordinary s (part s i j) i c.1 a ∙ ap (run is_ordinary s) m in
      let k = ordinary_end s j in
      record {
        ahead = run-from is_ordinary s i;
        goes-on = rw z r.goes-on;
        copied = rw (z, chars_char s i v j q, r.copied, c.0, ← append_assoc, part_join s i j k (omega arith) r.ahead);
      }

pub stretch : (s : List ℕ) (i e : ℕ) → string_at s i ≡ Ok e → Stretch s i e
stretch s i e h =
    each_char s e (λ i. Stretch s i e)
    (λ i h q. none s i e h (not_ordinary (inl (quote_byte s i e q h))))
    (λ i v j h q r. by_test (eqb (byte_at s i) 0x5C)
    (λ t. none s i e h (not_ordinary (inr (eqb-true (byte_at s i) 0x5C t))))
    (λ f. more s i e h v j q (eqb-false _ _ f) r)) i h
