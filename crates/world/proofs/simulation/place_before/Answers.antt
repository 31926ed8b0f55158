use Rattle.std.proofs.Common.{◌≡◌, suc, ◌+◌, ◌++◌, take, sym, ap, ◌∙◌, arith}
use Rattle.world.proofs.Places.{with-here, with-behind, with-end}
use Rattle.world.proofs.simulation.place_before.Goals as goal

pub returns-then-view-views-clause-place : goal.returns-then-view-views-clause-place
returns-then-view-views-clause-place c =
    sym c.loop-i.invariant ∙ ap (λ rest. take c.loop-i.i c.args.views.now ++ rest) (with-here c.args.view c.args.views.now c.loop-i.i _ c.loop-i-test.true c.if-view-views.true)

pub loop-i-preserved : goal.loop-i-preserved
loop-i-preserved c =
    let next : c.loop-i.i + 1 ≡ suc c.loop-i.i = omega arith in
    rw next (sym (with-behind c.args.view c.args.views.now c.loop-i.i _ c.loop-i-test.true c.if-view-views.false) ∙ c.loop-i.invariant)

pub returns-clause-place : goal.returns-clause-place
returns-clause-place c = sym c.loop-i.invariant ∙ with-end c.args.view c.args.views.now c.loop-i.i (omega arith)
