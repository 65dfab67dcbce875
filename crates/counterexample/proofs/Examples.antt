-- The document, the answer, the buffer and the tables, and the longest names, computed.
use mathlib.Core.Path.{◌≡◌, refl}
use mathlib.Core.List.{[], ◌∷◌}
use Rattle.model.specs.Text.{text}
use Rattle.model.specs.Value.{null, string, vnil, vcons, mnil, mcons, array as list, object as record_of}
use Rattle.model.specs.Definition.{JSON, Float, Integer, String, DateTime, Def, named, array_of, map_of, object-of, Fields, fnil, fcons}
use Rattle.model.specs.Witness.{witness}
use Rattle.tokens.specs.declared.tokens.Kind.TheVariants.{Whole, Quoted}
use Rattle.syntax.specs.Tree.{scalar, array, object, none, more, no_member, member}
use Rattle.grammar.specs.Utf8.{utf8}
use Rattle.writer.specs.Spell.{letter_of, spell_char, spell}
use Rattle.syntax.specs.Answer.{answer}
use Rattle.counterexample.specs.Counterexample.{example_answer, example_buffer, table_unless_short}
use Rattle.counterexample.specs.Names.{longest_name, longest_read}

-- fields a, and a and b
abbrev a : Def → Fields
a d = fcons (text "a") d fnil

abbrev ab : Def → Def → Fields
ab d e = fcons (text "a") d (fcons (text "b") e fnil)

documents :
    (spell (witness (named Float) (named Integer)) ≡ text "0.5")
    × (spell (witness (array_of (named Float)) (array_of (named DateTime))) ≡ text "[0.5]")
    × (spell (witness (object-of fnil fnil) (object-of fnil (a (named String)))) ≡ text "{\"a\":null}")
    × (spell (witness (object-of (a (named Integer)) fnil) (map_of (named Integer))) ≡ text "{\"aa\":null,\"a\":0}")
    × (spell (witness (object-of fnil (a (named Float))) (object-of (a (named Float)) fnil)) ≡ text "{}")
    × (spell (witness (object-of (ab (named DateTime) (map_of (named Float))) fnil) (object-of fnil (ab (named JSON) (map_of (named Integer)))))
    ≡ text "{\"b\":{\"a\":0.5},\"a\":\"2000-01-01T00:00:00Z\"}")
unfolding spell_char utf8
documents = (refl, refl, refl, refl, refl, refl)

-- Compare's 30, a 0 of it and a refusal, with the document `0.5`
answers :
    (example_answer (answer 30 0 0 0) (text "0.5") ≡ answer 30 0 0 3)
    × (example_answer (answer 0 0 0 0) (text "0.5") ≡ answer 0 0 0 0)
    × (example_answer (answer 8 2 0 3) (text "0.5") ≡ answer 8 2 0 3)
answers = (refl, refl, refl)

buffers :
    (example_buffer (answer 30 0 0 0) (text "0.5") (text "abcdef") ≡ text "0.5def")
    × (example_buffer (answer 0 0 0 0) (text "0.5") (text "abcdef") ≡ text "abcdef")
    × (example_buffer (answer 8 2 0 3) (text "0.5") (text "abcdef") ≡ text "abcdef")
buffers = (refl, refl, refl)

tables : (table_unless_short 65535 (1 ∷ []) (2 ∷ []) ≡ 1 ∷ []) × (table_unless_short 65536 (1 ∷ []) (2 ∷ []) ≡ 2 ∷ [])
tables = (refl, refl)

-- of values: in bytes as they are spelled; strings do not count
values :
    (longest_name (string (text "abc")) ≡ 0)
    × (longest_name (record_of (mcons (text "abc") null mnil)) ≡ 3)
    × (longest_name (record_of (mcons [] null (mcons (0xE4 ∷ []) (string (text "abc")) mnil))) ≡ 2)
    × (longest_name (list (vcons (record_of (mcons (text "a") (record_of (mcons (0x0A ∷ 0x22 ∷ []) null mnil)) mnil)) (vcons null vnil))) ≡ 4)
unfolding spell_char letter_of utf8
values = (refl, refl, refl, refl)

-- of the texts `"abc"`, `{"\u0061":"abc"}`, and `[{"a":1,"":{"bc":2}},3]`
texts :
    (longest_read (scalar Quoted 0 5) ≡ 0)
    × (longest_read (object 0 16 (member 1 9 (scalar Quoted 10 15) no_member)) ≡ 6)
    × (longest_read (array 0 23 (more (object 1 20 (member 2 5 (scalar Whole 6 7) (member 8 10 (object 11 19 (member 12 16 (scalar Whole 17 18) no_member)) no_member)))
    (more (scalar Whole 21 22) none))) ≡ 2)
texts = (refl, refl, refl)
