use Rattle.std.proofs.Common.{◌≡◌, suc, ◌+◌, ◌++◌, take, sym, ap, ◌∙◌, arith}
use Rattle.world.proofs.Places.{without-here, without-behind, without-end}
use Rattle.world.proofs.simulation.place_of.Goals as goal

pub returns-then-view-views : goal.returns-then-view-views
returns-then-view-views c =
    (c.loop-i-test.true, sym c.loop-i.invariant ∙ ap (λ rest. take c.loop-i.i c.args.views.now ++ rest) (without-here c.args.view c.args.views.now c.loop-i.i _ c.loop-i-test.true c.if-view-views.true))

pub loop-i-preserved : goal.loop-i-preserved
loop-i-preserved c =
    let next : c.loop-i.i + 1 ≡ suc c.loop-i.i = omega arith in
    rw next (sym (without-behind c.args.view c.args.views.now c.loop-i.i _ c.loop-i-test.true c.if-view-views.false) ∙ c.loop-i.invariant)

pub returns : goal.returns
returns c = sym c.loop-i.invariant ∙ without-end c.args.view c.args.views.now c.loop-i.i (omega arith)
