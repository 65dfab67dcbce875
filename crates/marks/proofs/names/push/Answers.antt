-- `push` meets its contract: the name leads to its bucket's last one, and is it afterwards.
use Prim.Native.Nat.{◌<◌}
use native.Mathlib.Omega.{arith}
use lib.ListN.{length}
use Rattle.marks.proofs.names.Index.{index_bucket, index_head, index_push}
use Rattle.marks.proofs.names.push.Goals as goal

pub offset_bounds-heads-b : goal.offset_bounds-heads-b
offset_bounds-heads-b c =
    let in-heads : c.bucket-b.result < length c.args.heads.now =
    index_bucket c.requires.index.0 c.requires.at_bound.2 c.bucket-b.ensures in
    omega (arith, in-heads)

pub bounds-heads-b : goal.bounds-heads-b
bounds-heads-b c =
    let in-heads : c.bucket-b.result < length c.args.heads.now =
    index_bucket c.requires.index.0 c.requires.at_bound.2 c.bucket-b.ensures in
    in-heads

pub overflow_cast-heads : goal.overflow_cast-heads
overflow_cast-heads c =
    let in-heads : c.bucket-b.result < length c.args.heads.now =
    index_bucket c.requires.index.0 c.requires.at_bound.2 c.bucket-b.ensures in
    omega (arith, index_head c.requires.index.0 in-heads)

pub pack-requires : goal.pack-requires
pack-requires c =
    let in-heads : c.bucket-b.result < length c.args.heads.now =
    index_bucket c.requires.index.0 c.requires.at_bound.2 c.bucket-b.ensures in
    omega (arith, index_head c.requires.index.0 in-heads)

pub offset_bounds-heads-b-2 : goal.offset_bounds-heads-b-2
offset_bounds-heads-b-2 c =
    let in-heads : c.bucket-b.result < length c.args.heads.now =
    index_bucket c.requires.index.0 c.requires.at_bound.2 c.bucket-b.ensures in
    omega (arith, in-heads)

pub bounds-heads-b-2 : goal.bounds-heads-b-2
bounds-heads-b-2 c =
    let in-heads : c.bucket-b.result < length c.args.heads.now =
    index_bucket c.requires.index.0 c.requires.at_bound.2 c.bucket-b.ensures in
    in-heads

pub returns : goal.returns
returns c =
    record {
      marks_after = rw (c.pack.ensures, c.bucket-b.ensures);
      index_2 = rw (c.pack.ensures, c.bucket-b.ensures) (index_push _ _ _ _ _ _ c.requires.index.0 c.requires.index.1 c.requires.index.2 c.requires.at_bound.0 c.requires.at_bound.1 c.requires.at_bound.2);
    }
