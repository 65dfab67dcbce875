use mathlib.Core.Path.{sym, ◌∙◌}
use Prim.Native.Nat.{◌<◌}
use native.Mathlib.Omega.{arith}
use lib.ListN.{length, get_or}
use Rattle.syntax.specs.Grammar.{name_of}
use Rattle.marks.proofs.names.Index.{index_bucket, index_head}
use Rattle.marks.proofs.names.Search.{Differs, NameHere, compared, search_begin, search_name, search_next, search_found, search_none}
use Rattle.marks.proofs.names.seen.Goals as goal
use Rattle.marks.proofs.names.seen.Goals.{then-fourth_in-hash+else-same_name, else-fourth_in-hash}

pub offset_bounds-heads-bucket : goal.offset_bounds-heads-bucket
offset_bounds-heads-bucket c =
    let in-heads : c.bucket.result < length c.args.heads.now =
    index_bucket c.requires.index.0 c.requires.at_bound.2 c.bucket.ensures in
    omega (arith, in-heads, c.requires.index.0.few)

pub bounds-heads-bucket : goal.bounds-heads-bucket
bounds-heads-bucket c =
    let in-heads : c.bucket.result < length c.args.heads.now =
    index_bucket c.requires.index.0 c.requires.at_bound.2 c.bucket.ensures in
    in-heads

pub overflow_cast-k : goal.overflow_cast-k
overflow_cast-k c =
    let in-heads : c.bucket.result < length c.args.heads.now =
    index_bucket c.requires.index.0 c.requires.at_bound.2 c.bucket.ensures in
    omega (arith, index_head c.requires.index.0 in-heads)

pub loop-k-init : goal.loop-k-init
loop-k-init c = search_begin c.requires.index.0 c.requires.at_bound.2 c.bucket.ensures

pub offset_bounds-marks-k : goal.offset_bounds-marks-k
offset_bounds-marks-k c =
    let here : NameHere c.args.text.now c.args.marks.now c.loop-k.k =
    search_name c.requires.index.0 c.loop-k.invariant c.loop-k-test.true c.requires.index.1 in
    omega (arith, here.inside, c.requires.index.0.short)

pub bounds-marks-k : goal.bounds-marks-k
bounds-marks-k c =
    let here : NameHere c.args.text.now c.args.marks.now c.loop-k.k =
    search_name c.requires.index.0 c.loop-k.invariant c.loop-k-test.true c.requires.index.1 in
    here.inside

pub overflow_add-a : goal.overflow_add-a
overflow_add-a c =
    let here : NameHere c.args.text.now c.args.marks.now c.loop-k.k =
    search_name c.requires.index.0 c.loop-k.invariant c.loop-k-test.true c.requires.index.1 in
    omega (arith, here.quotes)

pub slice_bounds-same_name-count : goal.slice_bounds-same_name-count
slice_bounds-same_name-count c =
    let here : NameHere c.args.text.now c.args.marks.now c.loop-k.k =
    search_name c.requires.index.0 c.loop-k.invariant c.loop-k-test.true c.requires.index.1 in
    omega (arith, here.quotes)

pub slice_bounds-same_name-start : goal.slice_bounds-same_name-start
slice_bounds-same_name-start c =
    let here : NameHere c.args.text.now c.args.marks.now c.loop-k.k =
    search_name c.requires.index.0 c.loop-k.invariant c.loop-k-test.true c.requires.index.1 in
    omega (arith, here.quotes)

pub slice_bounds-same_name-end : goal.slice_bounds-same_name-end
slice_bounds-same_name-end c =
    let here : NameHere c.args.text.now c.args.marks.now c.loop-k.k =
    search_name c.requires.index.0 c.loop-k.invariant c.loop-k-test.true c.requires.index.1 in
    omega (arith, here.quotes)

pub returns-then-same_name : goal.returns-then-same_name
returns-then-same_name c =
    search_found c.loop-k.invariant c.loop-k-test.true (sym c.fourth_in.ensures ∙ c.if-fourth_in-hash.true)
    (compared _ _ _ c.second_in-a.ensures c.first_in-b.ensures c.same_name.ensures ∙ c.if-same_name.true)

pub loop-k-smaller : goal.loop-k-smaller
loop-k-smaller c =
    let here : NameHere c.args.text.now c.args.marks.now c.loop-k.k =
    search_name c.requires.index.0 c.loop-k.invariant c.loop-k-test.true c.requires.index.1 in
    omega (arith, here.less)

pub loop-k-preserved : goal.loop-k-preserved
loop-k-preserved c =
    let Passed : Type 0 =
    Differs c.args.text.now c.args.hash (name_of c.args.text.now c.args.at c.args.end) (get_or c.args.marks.now c.loop-k.k 0) in
    let passed : Passed =
    elim c.if-fourth_in-hash.branch [
      | then-fourth_in-hash+else-same_name w ↦ λ _ _. compared _ _ _ w.second_in-a.ensures w.first_in-b.ensures w.same_name.ensures ∙ w.if-same_name.false
      | else-fourth_in-hash w ↦ λ _ e. absurd (w.if-fourth_in-hash.false (c.fourth_in.ensures ∙ e))
    ] in
    search_next c.requires.index.0 c.loop-k.invariant c.loop-k-test.true c.third_in-k.ensures passed

pub returns : goal.returns
returns c = search_none c.loop-k.invariant c.loop-k-test.false
