use Rattle.std.proofs.Common.{ℕ, List, refl, ap, ◌∙◌, subst}
use Rattle.std.proofs.lemmas.List.{take_all}
use Rattle.std.proofs.lemmas.Result.{err_from_is_err_and}
use Rattle.session_lock.specs.Passes.{PassState}
use Rattle.reflect_server.specs.Opening.{HasMadeLeaves}
use Rattle.reflect_server.proofs.OpeningLaws.{leaves_more, none_made, stops_at}
use Rattle.reflect_server.proofs.opening.leave_all.Goals as goal

pub loop-one-init : goal.loop-one-init
loop-one-init g c = record { kept = refl; made = none_made (g.C.Clock.gives c.args.clock.now) c.args.pass.now }

pub loop-one-preserved : goal.loop-one-preserved
loop-one-preserved g c = record {
  kept = c.leave_one.ensures.kept ∙ ap (λ (p : PassState). record p { seen = c.leave_one.new.pass.seen }) c.loop-one.invariant.kept;
  made = leaves_more (g.C.Clock.gives c.args.clock.now) c.args.views.now c.loop-one.one-index _ c.args.pass.now c.loop-one.pass c.leave_one.new.pass c.loop-one-test.true c.loop-one.invariant.kept c.loop-one.invariant.made c.in_ok-leave_one.ensures.left;
}

pub returns-clause-left : goal.returns-clause-left
returns-clause-left g c =
    subst (λ (l : List (ℕ × ℕ)). HasMadeLeaves (g.C.Clock.gives c.args.clock.now) l c.args.pass.now c.loop-one.pass) (take_all c.loop-one.one-index c.args.views.now c.loop-one-test.false) c.loop-one.invariant.made

pub returns-in_err-leave_one-clause-stopped : goal.returns-in_err-leave_one-clause-stopped
returns-in_err-leave_one-clause-stopped g c =
    let handed = err_from_is_err_and c.from_residual.result c.from_residual.ensures.1 in
    rw handed.1
    (stops_at (g.C.Clock.gives c.args.clock.now) c.args.views.now c.loop-one.one-index (0, 0) c.args.pass.now c.loop-one.pass c.leave_one.new.pass c.loop-one-test.true c.loop-one.invariant.kept c.loop-one.invariant.made c.in_err-leave_one.ensures.unkept)

pub returns-in_err-leave_one-clause-kept : goal.returns-in_err-leave_one-clause-kept
returns-in_err-leave_one-clause-kept g c = c.leave_one.ensures.kept ∙ ap (λ (p : PassState). record p { seen = c.leave_one.new.pass.seen }) c.loop-one.invariant.kept
