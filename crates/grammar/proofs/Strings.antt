-- Scanned, soundness of a string: what is read or refused between quotes. And what is spelled as a string is read.
use Prim.Native.Nat.{ℕ, zero, suc, ◌+◌, ◌-◌, ◌≤◌, ◌<◌}
use mathlib.Core.Path.{◌≡◌, refl, sym, ap, ◌∙◌, subst}
use mathlib.Core.Bool.{false}
use mathlib.Core.List.{List, [], ◌∷◌, ◌++◌, append_assoc, append-nil}
use native.Mathlib.Omega.{arith}
use lib.ListN.{length, length-append, replicate, length-replicate}
use lib.Dec.{eqb}
use borrow.Author.Tests.{eqb-true, eqb-false}
use Rattle.model.proofs.Basics.{clash, by_test}
use Rattle.chars.specs.Bytes.{byte_at}
use Rattle.chars.specs.Characters.{char_at}
use Rattle.chars.specs.Strings.{string_at, chars_at, part, values_on}
use Rattle.chars.specs.declared.characters.Step.{Step}
use Rattle.chars.specs.declared.characters.Step.TheVariants.{Char, Quote}
use Rattle.std.specs.Prelude.{Ok, Err}
use Rattle.chars.specs.Refusals.{Reading}
use Rattle.chars.proofs.Facts.{char_next, string_char, string_quote, string_stop, string_close, chars_step, chars_char}
use Rattle.tokens.proofs.Facts.{quoted_characters, part_none}
use Rattle.syntax.specs.Grammar.{name_of}
use Rattle.grammar.specs.Written.{Language, IsChar, IsChars, no_char, char, IsString}
use Rattle.grammar.proofs.Pieces.{At, at_first, at_second, Between, between_none, between, between_one, between_join, Spelled, Begun}
use Rattle.grammar.proofs.Pieces.{Stop, begun_more, begun_in, spelled_in}
use Rattle.grammar.proofs.Trees.{Lang, walk, Stepped, walk_sound, walk_reads}
use Rattle.grammar.proofs.CharTrees.{char_tree, char_quote, char_walk, char_good}
use Rattle.grammar.proofs.Characters.{lang_char, char_lang}

-- some characters behind others
chars_append : {w vs x us : List ℕ} → IsChars w vs → IsChars x us → IsChars (w ++ x) (vs ++ us)
chars_append no_char k = k
chars_append {x = x} {us = us} (char {w} {r} {v} {vs} c h) k = rw (append_assoc w r x) (char c (chars_append h k))

-- one character
chars_one : {w : List ℕ} {v : ℕ} → IsChar w v → IsChars w (v ∷ [])
chars_one {w} {v} c = subst (λ (x : List ℕ). IsChars x (v ∷ [])) (append-nil w) (char c no_char)

-- what is added to a name, so that it is long enough
letter : IsChar (0x61 ∷ []) 0x61
letter = lang_char (0x61 ∷ []) 0x61 (refl, refl)

letters : (n : ℕ) → IsChars (replicate n 0x61) (replicate n 0x61)
letters zero = no_char
letters (suc n) = char letter (letters n)

-- strings of at least n characters
abbrev pub IsLong : ℕ → Language (List ℕ)
IsLong n w vs = IsString w vs × (n ≤ length vs)

pub long_string : (n : ℕ) → IsLong n (0x22 ∷ replicate n 0x61 ++ (0x22 ∷ [])) (replicate n 0x61)
long_string n = (record { body = replicate n 0x61; spelled = refl; chars = letters n }, omega (arith, length-replicate {A = ℕ} n 0x61))

-- ---- what is read, and what is refused

module _ (s : List ℕ) where
  -- of a string that goes on at i: its characters are spelled so up to the closing quote, or begun up to the place of the refusal
  abbrev pub Scanned : ℕ → Reading ℕ → Type 0
  Scanned i (Ok e) = Spelled IsChars s i (e - 1) (chars_at s i)
  Scanned i (Err r) = Begun IsChars s i r.place × Stop s r.code r.place

  -- behind a character
  behind : (i v j : ℕ) → char_at s i ≡ Ok (Char v j) → IsChar (part s i j) v → (x : Reading ℕ) → Scanned j x → Scanned i x
  behind i v j e c (Ok f) h =
      let n = char_next s i v j e in rw (chars_char s i v j e) (spelled_in (between s (omega arith)) (◌∷◌ v) (λ w vs x. char c x) h)
  behind i v j e c (Err r) h =
      let n = char_next s i v j e in (begun_in (between s (omega arith)) (◌∷◌ v) (λ w vs x. char c x) h.0, h.1)

  scan_sound : (k i : ℕ) → i ≤ length s → length s < i + k → Scanned i (string_at s i)
  scan_sound zero i l h = absurd (omega arith)
  scan_sound (suc k) i l h =
      by_test (eqb (byte_at s i) 0x22)
      (λ t. let q = char_quote s i (eqb-true _ _ t) in
      let z : i + 1 - 1 ≡ i = omega arith in
      rw (string_quote s i q, z, chars_step s i, q) (record { ahead = omega arith; within = l; spells = rw (part_none s i) no_char }))
      (λ t. let q = char_walk s i (eqb-false _ _ t) in go (λ j m. scan_sound k j m) (walk char_tree s i) q (walk_sound char_tree char_good s i l))
    where
      go : ((j : ℕ) → j ≤ length s → length s < j + k → Scanned j (string_at s j))
          → (o : Reading Step) → char_at s i ≡ o → Stepped char_tree s i o → Scanned i (string_at s i)
      go f (Ok (Char v j)) q g =
          let n = char_next s i v j q in
          rw (string_char s i v j q) (behind i v j q (lang_char (part s i j) v g.spells) (string_at s j) (f j n.1 (omega arith)))
      go f (Ok Quote) q g = absurd g
      go f (Err r) q g =
          rw (string_stop s i r q) (begun_in (between_none s i) (λ v. v ∷ []) (λ w v x. chars_one (lang_char w v x)) g.0, g.1)

  pub string_sound : (i : ℕ) → i ≤ length s → Scanned i (string_at s i)
  string_sound i l = scan_sound (suc (length s)) i l (omega arith)

  -- with the opening quote at i
  module _ (i : ℕ) (o : byte_at s i ≡ 0x22) where
    pub string_spelled : (e : ℕ) → string_at s (i + 1) ≡ Ok e → IsString (part s i e) (name_of s i e)
    string_spelled e q =
        let b = string_close s (i + 1) e q in
        let z : e - 1 + 1 ≡ e = omega arith in
        let x : Between s (e - 1) e (0x22 ∷ []) = rw z at (between_one s {i = e - 1} (omega arith) b.2) in
        let g : Spelled IsChars s (i + 1) (e - 1) (chars_at s (i + 1)) = rw q at (string_sound (i + 1) (omega arith)) in
        record {
          body = part s (i + 1) (e - 1);
          spelled = (between_join (between_one s (omega arith) o) (between_join (between s g.ahead) x)).bytes;
          chars = rw (quoted_characters (record { opens = o; ends = q })) g.spells;
        }

    -- what was begun behind the opening quote is begun with it, as a string of at least n characters
    pub string_begun : {p : ℕ} → Begun IsChars s (i + 1) p → (n : ℕ) → Begun (IsLong n) s i p
    string_begun b n =
        let l : i < length s = omega (arith, b.ahead, b.within) in
        begun_more (between_one s l o) (replicate n 0x61 ++ (0x22 ∷ [])) (λ vs. vs ++ replicate n 0x61)
        (λ w vs c. (
          record { body = w ++ replicate n 0x61; spelled = rw append_assoc; chars = chars_append c (letters n) },
          omega (arith, length-append vs (replicate n 0x61), length-replicate {A = ℕ} n 0x61),
        )) b

-- ---- what is spelled so

-- no character begins with a quote
not_quote : (w : List ℕ) (v : ℕ) → Lang char_tree w v → (s : List ℕ) (i : ℕ) → At s i w → byte_at s i ≡ 0x22 → ⊥
not_quote [] v h s i a e = h
not_quote (b ∷ w) v h s i a e = let z : b ≡ 0x22 = sym a.0 ∙ e in clash false (rw z at h.0) refl

chars_read : (s : List ℕ) {w vs : List ℕ} → IsChars w vs → (i : ℕ) → At s i (w ++ (0x22 ∷ [])) → (string_at s i ≡ Ok (i + length w + 1)) × (chars_at s i ≡ vs)
chars_read s no_char i a =
    let q = char_quote s i a.0 in
    let z : i + 1 ≡ i + 0 + 1 = omega arith in
    (string_quote s i q ∙ ap Ok z, chars_step s i ∙ ap (values_on (chars_at s)) q)
chars_read s (char {w} {r} {v} {vs} c h) i a =
    let a₂ = rw (append_assoc w r (0x22 ∷ [])) at a in
    let a₃ = at_first s i w (r ++ (0x22 ∷ [])) a₂ in
    let g = char_lang c in
    let q = char_walk s i (not_quote w v g s i a₃) ∙ walk_reads char_tree w v g s i a₃ in
    let m = chars_read s h (i + length w) (at_second s i w (r ++ (0x22 ∷ [])) a₂) in
    let z : i + length w + length r + 1 ≡ i + length (w ++ r) + 1 = omega (arith, length-append w r) in
    (string_char s i v (i + length w) q ∙ m.0 ∙ ap Ok z, chars_char s i v (i + length w) q ∙ ap (◌∷◌ v) m.1)

-- what is spelled as a string is read
pub string_reads : (s : List ℕ) {w us : List ℕ} → IsString w us → (i : ℕ) → At s i w
    → (byte_at s i ≡ 0x22) × (string_at s (i + 1) ≡ Ok (i + length w)) × (name_of s i (i + length w) ≡ us)
string_reads s {w} h i a =
    let b : At s i (0x22 ∷ h.body ++ (0x22 ∷ [])) = subst (At s i) h.spelled a in
    let r = chars_read s h.chars (i + 1) b.2 in
    let z : i + 1 + length h.body + 1 ≡ i + length w = omega (arith, ap length h.spelled, length-append h.body (0x22 ∷ [])) in
    let e = r.0 ∙ ap Ok z in
    (b.0, e, quoted_characters (record { opens = b.0; ends = e }) ∙ r.1)
