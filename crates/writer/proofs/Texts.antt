-- Turns: bytes that are written as others wherever they stand. A text of the written grammar turns into the spelling of its value, which is no longer.
use Prim.Native.Nat.{ℕ, zero, suc, ◌+◌, ◌≤◌, ◌<◌}
use mathlib.Core.Path.{◌≡◌, refl, sym, ◌∙◌, subst}
use mathlib.Core.Logic.{inl, inr}
use mathlib.Core.Bool.{Bool, true, false, ◌||◌}
use mathlib.Core.List.{List, [], ◌∷◌, ◌++◌, append_assoc, append-nil}
use native.Mathlib.Omega.{arith}
use lib.ListN.{length, length-append}
use lib.Dec.{eqb, ltb}
use borrow.Author.Tests.{ltb-true, lt-ltb, ne_eqb}
use Rattle.model.specs.Text.{text, all}
use Rattle.model.specs.Value.{Value, null, boolean, number, string, array, object, is_digit, IsNumber}
use Rattle.model.proofs.Basics.{and_ways}
use Rattle.chars.specs.Bytes.{byte_at}
use Rattle.tokens.specs.Parse.{parsed}
use Rattle.tokens.specs.Space.{is_space}
use Rattle.chars.specs.Strings.{chars_at}
use Rattle.tokens.specs.Spelling.{IsQuoted}
use Rattle.tokens.proofs.Facts.{quoted_bounds, quoted_characters}
use Rattle.syntax.specs.Tree.{Node}
use Rattle.syntax.specs.Grammar.{read_text}
use Rattle.syntax.specs.Spelling.{value_of}
use Rattle.grammar.specs.Written.{Language, IsSpace, IsStructural, structural, IsString, IsSeries, one, more, IsBracketed, empty, series}
use Rattle.grammar.specs.Written.{values, IsArray, is-array, Member, IsMember, is_member, members, IsObject, is-object, IsLeaf, IsValue}
use Rattle.grammar.specs.Written.{IsJsonText, is-text}
use Rattle.grammar.proofs.Facts.{At, at_first, at_second, at_behind, string_reads, digit_bounds, number_all}
use Rattle.grammar.proofs.Theorems.{reads_written}
use Rattle.writer.specs.Spell.{spell_string, spell, spell_values, spell_members}
use Rattle.writer.specs.Compact.{spelled}
use Rattle.writer.specs.Tokens.{Tokens, ended, space, quoted, copied}
use Rattle.writer.proofs.Stretches.{string_short}

-- wherever the bytes w stand, v is written for them, before what is written for the rest
record Turns (w v : List ℕ) : Type 0 where
  goes : (s : List ℕ) (i : ℕ) (r : List ℕ) → At s i w → Tokens s (i + length w) r → Tokens s i (v ++ r)

-- the same at an equal place
tokens_same : {s : List ℕ} {i j : ℕ} {r : List ℕ} → i ≡ j → Tokens s i r → Tokens s j r
tokens_same {s} {r = r} e k = subst (λ (i : ℕ). Tokens s i r) e k

-- one behind the other
turns_join : {x y u v : List ℕ} → Turns x u → Turns y v → Turns (x ++ y) (u ++ v)
turns_join {x} {y} {u} {v} p q = record {
  goes = λ s i r a k.
      let e : i + length (x ++ y) ≡ i + length x + length y = omega (arith, length-append x y) in
      rw (append_assoc u v r) (p.goes s i (v ++ r) (at_first s i x y a) (q.goes s (i + length x) r (at_second s i x y a) (tokens_same e k)));
}

turns_none : Turns [] []
turns_none = record { goes = λ s i r a k. let e : i + 0 ≡ i = omega arith in tokens_same e k }

-- ---- bytes

-- outside strings, all bytes but space are above the quote
turns_byte : (b : ℕ) → 0x22 < b → Turns (b ∷ []) (b ∷ [])
unfolding is_space
turns_byte b l = record {
  goes = λ s i r a k.
      let no : (x : ℕ) → x < 0x23 → eqb b x ≡ false = λ x h. ne_eqb b x (omega arith) in
      let f : is_space (byte_at s i) || eqb (byte_at s i) 0x22 ≡ false =
      rw (a.0, no 0x20 (omega arith), no 0x09 (omega arith), no 0x0A (omega arith), no 0x0D (omega arith), no 0x22 (omega arith)) in
      subst (λ (c : ℕ). Tokens s i (c ∷ r)) a.0 (copied a.1 f k);
}

turns_more : (b : ℕ) {w : List ℕ} → 0x22 < b → Turns w w → Turns (b ∷ w) (b ∷ w)
turns_more b l h = turns_join (turns_byte b l) h

-- by a test that no other bytes pass
turns_tested : (p : ℕ → Bool) → ((b : ℕ) → p b ≡ true → 0x22 < b) → (w : List ℕ) → all p w ≡ true → Turns w w
turns_tested p f [] h = turns_none
turns_tested p f (b ∷ w) h = and_ways (p b) (all p w) h (λ t u. turns_more b (f b t) (turns_tested p f w u))

-- a text that is written in a definition
turns_text : (w : List ℕ) → all (ltb 0x22) w ≡ true → Turns w w
turns_text w h = turns_tested (ltb 0x22) (ltb-true 0x22) w h

turns_space : (w : List ℕ) → IsSpace w → Turns w []
unfolding is_space
turns_space [] h = turns_none
turns_space (b ∷ w) h =
    and_ways (is_space b) (all is_space w) h
    (λ t u. let first : Turns (b ∷ []) [] = record { goes = λ s i r a k. space a.1 (rw a.0 t) k } in turns_join first (turns_space w u))

turns_structural : {b : ℕ} {w : List ℕ} → 0x22 < b → IsStructural b w → Turns w (b ∷ [])
turns_structural {b} l (structural a c p q) = turns_join (turns_space a p) (turns_join (turns_byte b l) (turns_space c q))

turns_string : {w vs : List ℕ} → IsString w vs → Turns w (spell_string vs)
turns_string {w} {vs} h = record {
  goes = λ s i r a k.
      let x = string_reads s h i a in
      let q : IsQuoted s i (i + length w) = record { opens = x.0; ends = x.1 } in
      let e : chars_at s (i + 1) ≡ vs = sym (quoted_characters q) ∙ x.2 in
      subst (λ (c : List ℕ). Tokens s i (spell_string c ++ r)) e (quoted q k);
}

-- ---- numbers

digit_is : (b : ℕ) → is_digit b ≡ true → ltb 0x22 b ≡ true
digit_is b t = lt-ltb 0x22 b (omega (arith, digit_bounds b t))

turns_number : {w : List ℕ} → IsNumber w → Turns w w
turns_number {w} h = turns_text w (number_all (ltb 0x22) digit_is refl refl refl refl refl h)

-- ---- what stands in brackets

-- items that turn into f of what they spell, with commas between them; g spells a list of them
module _ {A : Type 0} (IsItem : Language A) (f : A → List ℕ) (g : List A → List ℕ)
    (each : (w : List ℕ) (a : A) → IsItem w a → Turns w (f a))
    (alone : (a : A) → g (a ∷ []) ≡ f a) (next : (a b : A) (l : List A) → g (a ∷ b ∷ l) ≡ f a ++ (0x2C ∷ g (b ∷ l))) where
  -- more items follow
  follow : {w : List ℕ} {l : List A} (a : A) → IsSeries IsItem w l → g (a ∷ l) ≡ f a ++ (0x2C ∷ g l)
  follow a (one {a = b} h) = next a b []
  follow a (more {a = b} {rest} h c S) = next a b rest

  turns_series : {w : List ℕ} {l : List A} → IsSeries IsItem w l → Turns w (g l)
  turns_series (one {w} {a} h) = rw (alone a) (each w a h)
  turns_series (more {w} {a = a} h c S) = rw (follow a S) (turns_join (each w a h) (turns_join (turns_structural (omega arith) c) (turns_series S)))

  turns_bracketed : {opening closing : ℕ} {w : List ℕ} {l : List A} → 0x22 < opening → 0x22 < closing → g [] ≡ [] → IsBracketed opening closing IsItem w l
      → Turns w (opening ∷ (g l ++ (closing ∷ [])))
  turns_bracketed m n e (empty a b) = rw e (turns_join (turns_structural m a) (turns_structural n b))
  turns_bracketed m n e (series a S b) = turns_join (turns_structural m a) (turns_join (turns_series S) (turns_structural n b))

-- ---- values

turns_leaf : (w : List ℕ) (v : Value) → IsLeaf w v → Turns w (spell v)
turns_leaf w null h = rw h (turns_text (text "null") refl)
turns_leaf w (boolean false) h = rw h (turns_text (text "false") refl)
turns_leaf w (boolean true) h = rw h (turns_text (text "true") refl)
turns_leaf w (number n) h = subst (Turns w) h.0 (turns_number h.1)
turns_leaf w (string vs) h = turns_string h
turns_leaf w (array vs) h = absurd h
turns_leaf w (object ms) h = absurd h

abbrev spell_member : Member → List ℕ
spell_member m = spell_string m.name ++ (0x3A ∷ spell m.value)

module _ (IsItem : Language Value) (each : (w : List ℕ) (v : Value) → IsItem w v → Turns w (spell v)) where
  turns_array : {w : List ℕ} {v : Value} → IsArray IsItem w v → Turns w (spell v)
  turns_array (is-array B) =
      turns_bracketed IsItem spell (λ l. spell_values (values l)) each (λ a. append-nil (spell a)) (λ a b l. refl) (omega arith) (omega arith) refl B

  turns_member : (w : List ℕ) (m : Member) → IsMember IsItem w m → Turns w (spell_member m)
  turns_member w m (is_member {x = x} {v = v} h c y) = turns_join (turns_string h) (turns_join (turns_structural (omega arith) c) (each x v y))

  turns_object : {w : List ℕ} {v : Value} → IsObject IsItem w v → Turns w (spell v)
  turns_object (is-object B _) =
      turns_bracketed (IsMember IsItem) spell_member (λ l. spell_members (members l)) turns_member (λ m. rw append-nil)
      (λ m n l. sym (append_assoc (spell_string m.name) (0x3A ∷ spell m.value) (0x2C ∷ spell_members (members (n ∷ l))))) (omega arith) (omega arith) refl B

turns_value : (d : ℕ) (w : List ℕ) (v : Value) → IsValue d w v → Turns w (spell v)
unfolding IsValue
turns_value zero w v h = turns_leaf w v h
turns_value (suc d) w v (inl h) = turns_leaf w v h
turns_value (suc d) w v (inr (inl h)) = turns_array (IsValue d) (turns_value d) h
turns_value (suc d) w v (inr (inr h)) = turns_object (IsValue d) (turns_value d) h

-- ---- texts

turns_json : {d : ℕ} {s : List ℕ} {v : Value} → IsJsonText d s v → Turns s (spell v)
turns_json {d} (is-text a w b {v} p h q) = rw append-nil at (turns_join (turns_space a p) (turns_join (turns_value d w v h) (turns_space b q)))

pub text_tokens : (d : ℕ) (s : List ℕ) (v : Value) → IsJsonText d s v → Tokens s 0 (spell v)
text_tokens d s v h = rw append-nil at ((turns_json h).goes s 0 [] (at_behind [] s) (ended (omega arith)))

pub tokens_short : (s : List ℕ) {i : ℕ} {w : List ℕ} → Tokens s i w → i ≤ length s → i + length w ≤ length s
tokens_short s (ended h) l = omega arith
tokens_short s (space h t k) l = omega (arith, tokens_short s k (omega arith))
tokens_short s (quoted {i} {e} q k) l = rw length-append (omega (arith, string_short s i e q, tokens_short s k (quoted_bounds q).1))
tokens_short s (copied h n k) l = omega (arith, tokens_short s k (omega arith))

pub spelled_short : (bytes depth : ℕ) (s : List ℕ) (n : Node) (e : ℕ) → read_text bytes depth s ≡ parsed n e → length (spelled s n) ≤ length s
spelled_short bytes depth s n e q = omega (arith, tokens_short s (text_tokens depth s (value_of s n) (reads_written bytes depth s n e q)) (omega arith))
