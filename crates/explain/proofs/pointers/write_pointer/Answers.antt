use mathlib.Core.Path.{refl, ◌∙◌}
use native.Mathlib.Omega.{arith}
use Rattle.explain.proofs.pointers.Chains.{downwards_start, downwards_end, downwards_ready, downwards_next}
use Rattle.explain.proofs.pointers.Values.{pointer_written}
use Rattle.explain.proofs.pointers.Paths.{chained}
use Rattle.explain.proofs.pointers.write_pointer.Goals as goal

pub loop-pair-init : goal.loop-pair-init
loop-pair-init c =
    rw (c.into_iter-pair-iterator.ensures.into_iter_gives, c.rev-pair-items.ensures.source, c.windows.ensures.rest, c.windows.ensures.size)
    (refl, λ d. downwards_start d _)

pub put_token-at-requires : goal.put_token-at-requires
put_token-at-requires c =
    let z = c.in-Some.ensures.steps in
    let d = chained c.requires in
    let n = c.loop-pair.invariant.0 in
    downwards_ready (c.loop-pair.invariant.1 d) (omega (arith, n, z.1.0)) (rw n at z.1.1) d.short (λ i. omega (arith, c.type_inv.path i))

pub loop-pair-preserved : goal.loop-pair-preserved
loop-pair-preserved c =
    let z = c.in-Some.ensures.steps in
    let n = c.loop-pair.invariant.0 in (
      z.0 ∙ n,
      λ d. downwards_next (c.loop-pair.invariant.1 d) (omega (arith, n, z.1.0)) (rw n at z.1.1) d.short (λ i. omega (arith, c.type_inv.path i))
          c.put_token-at.ensures z.1.2,
    )

pub returns : goal.returns
returns c =
    let d = chained c.requires in
    let z = c.in-None.ensures.steps in
    pointer_written d (downwards_end (c.loop-pair.invariant.1 d) (omega (arith, c.loop-pair.invariant.0, z.1.0)))
