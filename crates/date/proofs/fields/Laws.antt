-- The time and the day of a date, on plain values: by what is told of their numbers.
use mathlib.Core.Path.{◌≡◌, refl, ◌∙◌}
use mathlib.Core.List.{List}
use mathlib.Core.Bool.{false, cond}
use Prim.Native.Nat.{ℕ, ◌+◌, ◌*◌, ◌≤◌}
use native.Mathlib.Omega.{arith}
use borrow.Author.Tests.{le-leb}
use Rattle.std.specs.Prelude.{Some, None}
use Rattle.model.specs.Calendar.{Day, on, in_calendar}
use Rattle.model.specs.Date.{two_digits, is_day}
use Rattle.model.proofs.Basics.{by_test, and_ways}
use Rattle.model.proofs.DateFields.{two_range}
use Rattle.chars.specs.Strings.{characters}
use Rattle.date.specs.declared.walk.Number.{Number}
use Rattle.date.specs.Walk.{TwoTold, FourTold, MarkedTold, ClockTold, DayTold}

-- the hour h and the minute m
pub clock_read :
    (s l : List ℕ) (k : ℕ) (h m : Number) → TwoTold s l k (Some h) → MarkedTold s l (k + 2) 0x3A (Some m) → h.value ≤ 23 → m.value ≤ 59
    → ClockTold s l k (Some (record { minutes = 60 * h.value + m.value; next = m.next }))
clock_read s l k h m t u f g =
    let third : k + 2 + 1 ≡ k + 3 = omega arith in
    let fifth : k + 2 + 3 ≡ k + 5 = omega arith in
    let w = rw (third, fifth) at u in
    (rw (t.0, w.0, ← t.1, ← w.1, le-leb h.value 23 f, le-leb m.value 59 g), rw (t.1, w.1), w.2)

-- the year y, the month m and the day d
module _ (s : List ℕ) (y : Number) (t : FourTold s (characters s) 0 (Some y)) where
  pub year_small : y.value ≤ 9999
  year_small =
      let l = characters s in
      and_ways (two_digits l 0) (two_digits l 2) t.0 (λ a b. omega (arith, t.1, two_range l 0 a, two_range l 2 b))

  module _ (m d : Number) (u : MarkedTold s (characters s) 4 0x2D (Some m)) (w : MarkedTold s (characters s) 7 0x2D (Some d)) where
    abbrev x : Day
    x = on y.value m.value d.value

    judged : is_day (characters s) ≡ in_calendar x
    judged = rw (t.0, u.0, w.0, ← t.1, ← u.1, ← w.1) refl

    pub off_calendar : None ≡ cond (in_calendar x) (Some x) None → is_day (characters s) ≡ false
    off_calendar e = by_test (in_calendar x) (λ h. let f : None ≡ Some x = rw h at e in cc) (λ h. judged ∙ h)

    pub day_read : (z : Day) → Some z ≡ cond (in_calendar x) (Some x) None → DayTold s (Some (record { day = z; next = d.next }))
    day_read z e =
        by_test (in_calendar x)
        (λ h. let f : Some z ≡ Some x = rw h at e in let g : z ≡ x = cc in (judged ∙ h, rw (t.1, u.1, w.1) at g, w.2))
        (λ h. let f : Some z ≡ None = rw h at e in cc)
