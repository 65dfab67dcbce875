-- Why a text is refused, and where (01, "Three services").
use Rattle.std.specs.Prelude.{ℕ, Result}
use Rattle.chars.specs.declared.refusals.Code.{Code}
use Rattle.chars.specs.declared.refusals.Code.TheVariants.{TooLong, Ended, NotAllowed, NotUtf8, LoneSurrogate, NameTwice, TooDeep}
use Rattle.chars.specs.declared.refusals.Refusal.{Refusal}

-- 01, "Three services", its table of codes: 1 text too long, 2 text ended early, 3 byte not allowed here, 4 not UTF-8 inside a string,
-- 5 surrogate escape without its partner, 6 name twice in one object, 7 nested too deep
abbrev pub number : Code → ℕ
number TooLong = 1
number Ended = 2
number NotAllowed = 3
number NotUtf8 = 4
number LoneSurrogate = 5
number NameTwice = 6
number TooDeep = 7

abbrev pub refusal : Code → ℕ → Refusal
refusal code place = record { code = code; place = place }

-- what is read of a text, or its refusal
abbrev pub Reading : Type 0 → Type 0
Reading A = Result A Refusal
