-- What the first byte of a value begins, and the values that hold no other (01, "Rows").
use Rattle.std.specs.Prelude.{ℕ, ◌+◌, List, [], ◌∷◌, cond, ◌||◌, eqb, Ok, Err}
use Rattle.model.specs.Text.{text}
use Rattle.model.specs.Value.{is_digit}
use Rattle.chars.specs.Bytes.{byte_at}
use Rattle.tokens.specs.Parse.{Parse, refused, parsed, unexpected}
use Rattle.chars.specs.Strings.{string_at}
use Rattle.tokens.specs.declared.tokens.Kind.{Kind}
use Rattle.tokens.specs.declared.tokens.Kind.TheVariants.{Null, False, True, Quoted}
use Rattle.tokens.specs.Numbers.{number_at}
use Rattle.chars.specs.Refusals.{Reading}
use Rattle.tokens.specs.declared.scalars.First.{First}
use Rattle.tokens.specs.declared.scalars.First.TheVariants.{Array, Object, Quote, Number, LetterN, LetterF, LetterT, Other}

-- "The first byte of a value decides what is read, over the whole range of a byte."
unfoldable pub first_of : ℕ → First
first_of b =
    cond (eqb b 0x22) Quote
    (cond (eqb b 0x5B) Array
    (cond (eqb b 0x7B) Object
    (cond (is_digit b || eqb b 0x2D) Number
    (cond (eqb b 0x6E) LetterN
    (cond (eqb b 0x66) LetterF
    (cond (eqb b 0x74) LetterT Other))))))

-- the bytes of a word stand at i: each is allowed where it stands
unfoldable pub word_at : Kind → List ℕ → List ℕ → ℕ → Parse Kind
word_at k [] s i = parsed k i
word_at k (c ∷ w) s i = let r = word_at k w s (i + 1) in cond (eqb (byte_at s i) c) r (unexpected s i)

-- a string, by where it ends
abbrev pub quoted : Reading ℕ → Parse Kind
quoted (Ok e) = parsed Quoted e
quoted (Err r) = refused r.code r.place

-- the value at i that holds no other
abbrev pub scalar_by : First → List ℕ → ℕ → Parse Kind
scalar_by Quote s i = quoted (string_at s (i + 1))
scalar_by Number s i = number_at s i
scalar_by LetterN s i = word_at Null (text "null") s i
scalar_by LetterF s i = word_at False (text "false") s i
scalar_by LetterT s i = word_at True (text "true") s i
scalar_by Array s i = unexpected s i
scalar_by Object s i = unexpected s i
scalar_by Other s i = unexpected s i

abbrev pub scalar_at : List ℕ → ℕ → Parse Kind
scalar_at s i = scalar_by (first_of (byte_at s i)) s i
