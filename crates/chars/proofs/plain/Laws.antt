-- A plain byte is a character by itself, so a run of them does not change where a string ends.
use mathlib.Core.Path.{◌≡◌, refl, sym, ◌∙◌}
use mathlib.Core.List.{List}
use mathlib.Core.Bool.{true, false, not, ◌&&◌}
use Prim.Native.Nat.{ℕ, zero, suc, ◌+◌, ◌-◌, ◌≤◌, ◌<◌}
use native.Mathlib.Omega.{arith}
use lib.ListN.{length}
use lib.Dec.{leb, ltb, eqb}
use borrow.Author.Tests.{leb-true, ltb-true, eqb-false, le-leb, lt-ltb, ne_eqb, not-true}
use Rattle.chars.specs.declared.characters.Step.TheVariants.{Char, Quote}
use Rattle.chars.specs.Bytes.{byte_at}
use Rattle.chars.specs.Runs.{run_from, run}
use Rattle.chars.specs.Characters.{char_from, char_at}
use Rattle.chars.specs.Strings.{string_at, characters}
use Rattle.chars.specs.Plain.{is_plain, plain_end}
use Rattle.model.specs.Text.{same}
use Rattle.chars.proofs.bytes.Laws.{both, and_ways}
use Rattle.chars.proofs.runs.Laws.{run-from}
use Rattle.chars.proofs.characters.Utf8.{from_ascii}
use Rattle.chars.proofs.strings.Laws.{string_char, chars_char, differ}
use Rattle.std.specs.Prelude.{Ok}

from_plain : (s : List ℕ) (i b : ℕ) → is_plain b ≡ true → char_from s i b ≡ Ok (Char b (i + 1))
unfolding is_plain
from_plain s i b t =
    and_ways (leb 0x20 b && ltb b 0x80 && not (eqb b 0x22)) (not (eqb b 0x5C)) t
    (λ u r. and_ways (leb 0x20 b && ltb b 0x80) (not (eqb b 0x22)) u
    (λ v q. and_ways (leb 0x20 b) (ltb b 0x80) v
    (λ lo hi. from_ascii s i (leb-true 0x20 b lo) (ltb-true b 0x80 hi) (eqb-false b 0x22 (not-true _ q)) (eqb-false b 0x5C (not-true _ r)))))

pub is_plain_of : {b : ℕ} → 0x20 ≤ b → b < 0x80 → (b ≡ 0x22 → ⊥) → (b ≡ 0x5C → ⊥) → is_plain b ≡ true
unfolding is_plain
is_plain_of {b} lo hi n m = rw (le-leb 0x20 b lo, lt-ltb b 0x80 hi, ne_eqb b 0x22 n, ne_eqb b 0x5C m)

digit_plain : (b : ℕ) → 0x30 ≤ b → b ≤ 0x39 → is_plain b ≡ true
digit_plain b lo hi = is_plain_of (omega arith) (omega arith) (λ e. omega arith) (λ e. omega arith)

module _ (s : List ℕ) (i : ℕ) where
  pub plain_char : is_plain (byte_at s i) ≡ true → char_at s i ≡ Ok (Char (byte_at s i) (i + 1))
  unfolding char_at
  plain_char t = from_plain s i (byte_at s i) t

  -- the same, as it is read: b is the byte, and v its value
  pub plain_read : {b v : ℕ} → b ≡ byte_at s i → is_plain b ≡ true → v ≡ b → char_at s i ≡ Ok (Char v (i + 1))
  plain_read e t w = rw (w, e) (plain_char (rw e at t))

  -- a digit is one
  pub digit_read : {b : ℕ} → b ≡ byte_at s i → 0x30 ≤ b → b ≤ 0x39 → char_at s i ≡ Ok (Char b (i + 1))
  digit_read {b} e lo hi = plain_read e (digit_plain b lo hi) refl

  -- the closing quote, by its byte
  pub quote_char : byte_at s i ≡ 0x22 → char_at s i ≡ Ok Quote
  unfolding char_at char_from
  quote_char e = rw e

module _ (s : List ℕ) where
  from_string : (k i : ℕ) → string_at s (run_from k is_plain s i) ≡ string_at s i
  unfolding run_from
  from_string zero i = refl
  from_string (suc k) i =
      both (λ e. string_at s e ≡ string_at s i) (is_plain (byte_at s i))
      (λ t. from_string k (i + 1) ∙ sym (string_char s i (byte_at s i) (i + 1) (plain_char s i t)))
      (λ _. refl)

  -- the string goes on behind a run, which ends at e
  module _ (i : ℕ) {e : ℕ} (run-to : e ≡ plain_end s i) where
    pub plain_string : string_at s i ≡ string_at s e
    unfolding run
    plain_string = rw run-to (sym (from_string (length s - i) i))

    pub plain_ahead : i ≤ e
    plain_ahead = rw run-to (run-from is_plain s i)

-- from a place on the string goes on as from i, from there as behind a run, and from there as behind r
pub passed : (s : List ℕ) (a i e r : ℕ) → string_at s a ≡ string_at s i → e ≡ plain_end s i → string_at s r ≡ string_at s e → string_at s a ≡ string_at s r
passed s a i e r p q w = p ∙ plain_string s i q ∙ sym w

-- names that begin with different plain bytes
module _ (a b : List ℕ) {x y : ℕ} where
  pub plain_apart : x ≡ byte_at a 0 → y ≡ byte_at b 0 → (x ≡ y → ⊥) → is_plain x ≡ true → is_plain y ≡ true → same (characters a) (characters b) ≡ false
  plain_apart e g n p q = differ (chars_char a 0 x 1 (plain_read a 0 e p refl)) (chars_char b 0 y 1 (plain_read b 0 g q refl)) n
