-- A date, on plain values: its day d, its letter before the place j, its time t, its second n and its end b, one behind the other.
use mathlib.Core.Path.{◌≡◌, refl, ap, ◌∙◌}
use mathlib.Core.Bool.{true, false}
use mathlib.Core.List.{List}
use Prim.Native.Nat.{ℕ, ◌+◌, ◌<◌}
use native.Mathlib.Omega.{arith}
use lib.IntN.{ℤ}
use lib.ListN.{drop}
use Rattle.std.specs.Prelude.{Option, Some, None}
use Rattle.model.specs.Date.{is_end, zone_of, behind_utc, moved_time}
use Rattle.model.proofs.Basics.{by_test}
use Rattle.model.proofs.DateFields.{clock_less, behind_range}
use Rattle.model.proofs.Moments.{moment_count}
use Rattle.chars.specs.Strings.{chars_at, characters}
use Rattle.date.specs.declared.walk.Number.{Number}
use Rattle.date.specs.declared.fields.Date.{Date}
use Rattle.date.specs.declared.fields.Time.{Time}
use Rattle.date.specs.Endings.{end_read}
use Rattle.date.specs.Moments.{moment_of, moment_at}
use Rattle.date.specs.Walk.{Stands, DayTold, EitherTold, ClockTold, MarkedTold}

-- what is told of a place, whatever characters stand there
abbrev Either : List ℕ → ℕ → ℕ → ℕ → Option ℕ → Type 0
Either s i a b r = (l : List ℕ) (k : ℕ) → Stands s i l k → EitherTold s l k a b r

abbrev Clock : List ℕ → ℕ → Option Time → Type 0
Clock s i r = (l : List ℕ) (k : ℕ) → Stands s i l k → ClockTold s l k r

abbrev Marked : List ℕ → ℕ → ℕ → Option Number → Type 0
Marked s i c r = (l : List ℕ) (k : ℕ) → Stands s i l k → MarkedTold s l k c r

-- whether an end was read, and its number
end_is : (l : List ℕ) (b : ℕ) → Some b ≡ end_read l → (is_end l ≡ true) × (b ≡ behind_utc (zone_of l))
end_is l b e =
    by_test (is_end l)
    (λ t. let h : Some b ≡ Some (behind_utc (zone_of l)) = rw t at e in (t, cc))
    (λ f. let h : Some b ≡ None = rw f at e in cc)

end_not : (l : List ℕ) → None ≡ end_read l → is_end l ≡ false
end_not l e = by_test (is_end l) (λ t. let h : None ≡ Some (behind_utc (zone_of l)) = rw t at e in cc) (λ f. f)

module _ (s : List ℕ) (d : Date) (day : DayTold s (Some d)) where
  pub no_letter : Either s d.next 0x54 0x74 None → None ≡ moment_of (characters s)
  no_letter u = rw (day.0, u (characters s) 10 day.2)

  module _ (j : ℕ) (u : Either s d.next 0x54 0x74 (Some j)) where
    letter : EitherTold s (characters s) 10 0x54 0x74 (Some j)
    letter = u (characters s) 10 day.2

    pub no_time : Clock s j None → None ≡ moment_of (characters s)
    no_time w = rw (day.0, letter.0, w (characters s) 11 letter.1)

    module _ (t : Time) (w : Clock s j (Some t)) where
      time : ClockTold s (characters s) 11 (Some t)
      time = w (characters s) 11 letter.1

      pub no_second : Marked s t.next 0x3A None → None ≡ moment_of (characters s)
      no_second v = rw (day.0, letter.0, time.0, v (characters s) 16 time.2)

      module _ (n : Number) (v : Marked s t.next 0x3A (Some n)) where
        second : MarkedTold s (characters s) 16 0x3A (Some n)
        second = v (characters s) 16 time.2

        pub no_end : None ≡ end_read (chars_at s n.next) → None ≡ moment_of (characters s)
        no_end e = rw (day.0, letter.0, time.0, second.0, end_not (drop 19 (characters s)) (e ∙ ap end_read second.2))

        module _ (b : ℕ) (e : Some b ≡ end_read (chars_at s n.next)) where
          end : (is_end (drop 19 (characters s)) ≡ true) × (b ≡ behind_utc (zone_of (drop 19 (characters s))))
          end = end_is (drop 19 (characters s)) b (e ∙ ap end_read second.2)

          -- the numbers are small
          pub times_small : (t.minutes < 1440) × (b < 2880)
          times_small =
              let l = characters s in
              (omega (arith, time.1, clock_less l 11 time.0), omega (arith, end.1, behind_range (zone_of (drop 19 l))))

          pub all_read : (r : Option ℤ) → r ≡ moment_at d.day (t.minutes + b) n.value → r ≡ moment_of (characters s)
          all_read r told =
              let moved : t.minutes + b ≡ moved_time (characters s) = rw (time.1, end.1) refl in
              told ∙ rw (day.0, letter.0, time.0, second.0, end.0, moment_count (characters s), day.1, moved, second.1) refl
