use mathlib.Core.Path.{refl, sym}
use lib.Seq.{length-take-le}
use native.Mathlib.Omega.{arith}
use Rattle.samples.proofs.fresh.Laws.{letters_start, letters_end, letters_more}
use Rattle.samples.proofs.fresh.Laws.{letters_room, one_at, one_in, two_in, letter_a, letter_b}
use Rattle.samples.proofs.fresh.write_letters.Goals as goal
use Rattle.samples.proofs.fresh.write_letters.Goals.{then-count_names-other, else-count_names-other}

pub loop-out-init : goal.loop-out-init
loop-out-init c = letters_start c.args.out.now c.requires

pub bounds-out-n : goal.bounds-out-n
bounds-out-n c = search letters_more

pub slice_bounds-count_names-end-in-loop-out-2 : goal.slice_bounds-count_names-end-in-loop-out-2
slice_bounds-count_names-end-in-loop-out-2 c = search one_in

pub slice_bounds-count_names-end-in-loop-out-3 : goal.slice_bounds-count_names-end-in-loop-out-3
slice_bounds-count_names-end-in-loop-out-3 c = sym (length-take-le _ _ (search one_in))

pub bounds-out-n-in-loop-out : goal.bounds-out-n-in-loop-out
bounds-out-n-in-loop-out c = search one_at

pub slice_bounds-count_names-end-in-loop-out-4 : goal.slice_bounds-count_names-end-in-loop-out-4
slice_bounds-count_names-end-in-loop-out-4 c = search two_in

pub slice_bounds-count_names-end-in-loop-out-5 : goal.slice_bounds-count_names-end-in-loop-out-5
slice_bounds-count_names-end-in-loop-out-5 c = sym (length-take-le _ _ (search two_in))

-- fewer places are left
pub loop-out-smaller : goal.loop-out-smaller
loop-out-smaller c = omega (arith, letters_room c.loop-out.invariant c.count_names.ensures c.loop-out-test.true)

pub loop-out-preserved : goal.loop-out-preserved
loop-out-preserved c =
    elim c.if-count_names-other.branch [
      | then-count_names-other w ↦ rw w.out-is (letter_b c.loop-out.invariant c.count_names.ensures c.loop-out-test.true
          c.count_names-other.ensures c.count_names-in-loop-out.ensures w.if-count_names-other.true)
      | else-count_names-other w ↦ rw w.out-is (letter_a c.loop-out.invariant c.count_names.ensures c.loop-out-test.true
          c.count_names-other.ensures c.count_names-in-loop-out.ensures w.if-count_names-other.false)
    ]

pub returns : goal.returns
returns c = letters_end c.loop-out.invariant c.count_names.ensures c.loop-out-test.false refl
