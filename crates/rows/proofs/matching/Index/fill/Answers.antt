use Prim.Native.Nat.{suc, ◌+◌, ◌-◌}
use mathlib.Core.Path.{◌≡◌, ap}
use native.Mathlib.Omega.{arith}
use Rattle.chars.specs.Strings.{part}
use Rattle.syntax.specs.Holding.{word}
use Rattle.rows.specs.Matching.{up_to}
use Rattle.rows.proofs.records.Members.{quotes_read}
use Rattle.rows.proofs.matching.Names.{read_bucket}
use Rattle.rows.proofs.matching.Laws.{compared, along_begin, along_name, along_next, along_end}
use Rattle.rows.proofs.matching.Index.fill.Goals as goal

pub between-key-requires : goal.between-key-requires
between-key-requires g c = quotes_read c.row_at-name.ensures c.requires.quoted

pub loop-next-init : goal.loop-next-init
loop-next-init g c = along_begin c.requires.found_len (read_bucket c.row_at-name.ensures c.bucket.ensures c.requires.quoted)

pub bounds-self-j : goal.bounds-self-j
bounds-self-j g c = (along_name c.loop-next.invariant c.in-Some.is c.requires.has_index).room

pub between-requires : goal.between-requires
between-requires g c = (along_name c.loop-next.invariant c.in-Some.is c.requires.has_index).quotes

pub bounds-found-j : goal.bounds-found-j
bounds-found-j g c = (along_name c.loop-next.invariant c.in-Some.is c.requires.has_index).room

pub bounds-found-j-in-Some : goal.bounds-found-j-in-Some
bounds-found-j-in-Some g c = (along_name c.loop-next.invariant c.in-Some.is c.requires.has_index).room

pub loop-next-smaller : goal.loop-next-smaller
loop-next-smaller g c =
    let above : up_to c.loop-next.next ≡ suc c.in-Some.place = ap up_to c.in-Some.is in
    omega (arith, (along_name c.loop-next.invariant c.in-Some.is c.requires.has_index).less, above)

pub loop-next-preserved : goal.loop-next-preserved
loop-next-preserved g c =
    let key : c.between-key.result.now ≡ part c.args.tree.text.now (word c.args.tree.table.now c.args.row 1 + 1) (word c.args.tree.table.now c.args.row 2 - 1) =
    rw (c.row_at-name.ensures.first, c.row_at-name.ensures.last) at c.between-key.ensures
    in
    along_next c.loop-next.invariant c.in-Some.is (along_name c.loop-next.invariant c.in-Some.is c.requires.has_index).room
    (compared c.between.ensures key c.same_name-same.ensures) c.settle.ensures

pub returns : goal.returns
returns g c = along_end c.loop-next.invariant c.requires.found_len c.in_default.is
