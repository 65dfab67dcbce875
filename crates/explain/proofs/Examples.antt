-- Pointers, computed: the document of RFC 6901, section 5, and what stands beside it there; digits, characters and short buffers.
use Prim.Native.Nat.{ℕ}
use mathlib.Core.Path.{◌≡◌, refl}
use mathlib.Core.List.{List, [], ◌∷◌}
use Rattle.model.specs.Text.{text}
use Rattle.tokens.specs.Parse.{Parse, refused, parsed}
use Rattle.syntax.specs.Tree.{Node}
use Rattle.syntax.proofs.Examples.{within}
use Rattle.grammar.specs.Utf8.{utf8}
use Rattle.explain.specs.Pointers.{token_char, digits, decimal, Pointer, pointer, pointers, fitted}

-- the pointers of the values of a text that is read
abbrev pointers_in : List ℕ → Parse Node → List Pointer
pointers_in s (refused c p) = []
pointers_in s (parsed n e) = pointers s [] 0 n

pointers_of : List ℕ → List Pointer
unfolding within token_char utf8 digits
pointers_of s = pointers_in s (within 65536 32 s)

-- section 5, with the row of each value
section_5 : pointers_of
    (text "{\"foo\":[\"bar\",\"baz\"],\"\":0,\"a/b\":1,\"c%d\":2,\"e^f\":3,\"g|h\":4,\"i\\\\j\":5,\"k\\\"l\":6,\" \":7,\"m~n\":8}")
    ≡ pointer 0 (text "")
    ∷ pointer 2 (text "/foo")
    ∷ pointer 3 (text "/foo/0")
    ∷ pointer 4 (text "/foo/1")
    ∷ pointer 6 (text "/")
    ∷ pointer 8 (text "/a~1b")
    ∷ pointer 10 (text "/c%d")
    ∷ pointer 12 (text "/e^f")
    ∷ pointer 14 (text "/g|h")
    ∷ pointer 16 (text "/i\\j")
    ∷ pointer 18 (text "/k\"l")
    ∷ pointer 20 (text "/ ")
    ∷ pointer 22 (text "/m~0n")
    ∷ []
unfolding pointers_of
section_5 = refl

-- elements are counted from 0, whatever stands in them; a scalar has the empty pointer
elements : (pointers_of (text "[[7],{\"a\":[]},8]")
    ≡ pointer 0 [] ∷ pointer 1 (text "/0") ∷ pointer 2 (text "/0/0") ∷ pointer 3 (text "/1") ∷ pointer 5 (text "/1/a") ∷ pointer 6 (text "/2") ∷ [])
    × (pointers_of (text "null") ≡ pointer 0 [] ∷ [])
unfolding pointers_of
elements = (refl, refl)

-- section 3: `~01` stands for the name `~1`; an escape of a name is undone first
escapes : (pointers_of (text "{\"~1\":1,\"\\u002f\":2,\"\\u007e\":3}")
    ≡ pointer 0 [] ∷ pointer 2 (text "/~01") ∷ pointer 4 (text "/~1") ∷ pointer 6 (text "/~0") ∷ [])
    × (pointers_of (text "{\"\\u00e9\\ud83d\\ude00\":1}") ≡ pointer 0 [] ∷ pointer 2 (0x2F ∷ 0xC3 ∷ 0xA9 ∷ 0xF0 ∷ 0x9F ∷ 0x98 ∷ 0x80 ∷ []) ∷ [])
unfolding pointers_of
escapes = (refl, refl)

-- section 4: no leading zeros
decimals : (decimal 0 ≡ text "0")
    × (decimal 9 ≡ text "9")
    × (decimal 10 ≡ text "10")
    × (decimal 100 ≡ text "100")
    × (decimal 909 ≡ text "909")
    × (decimal 8191 ≡ text "8191")
unfolding digits
decimals = (refl, refl, refl, refl, refl, refl)

-- what fits, and the rest as found
buffers : (fitted (text "/foo") (text "......") ≡ text "/foo..")
    × (fitted (text "/foo") (text "....") ≡ text "/foo")
    × (fitted (text "/foo") (text "..") ≡ text "/f")
    × (fitted (text "/foo") [] ≡ [])
    × (fitted [] (text "..") ≡ text "..")
buffers = (refl, refl, refl, refl, refl)
