use Rattle.std.proofs.Common.{◌≡◌, ◌+◌, ◌-◌, ◌∙◌, ℕ, subst, arith}
use Rattle.std.proofs.lemmas.Bool.Decides.{nat_tests}
use Rattle.drill.specs.Turns.{HasMade, IsWorkerReady}
use Rattle.drill.proofs.worker.Worker.make_turns.Goals as goal

pub loop-turn-preserved : goal.loop-turn-preserved
loop-turn-preserved g c =
    let ready = subst (HasMade _ _ _ c.make_turn.new.self c.make_turn.new.cursor c.loop-turn.turn) c.in-Whole.is c.in_ok-refused.ensures.made in
    let next : c.loop-turn.turn ≡ c.loop-turn.turn + 1 - 1 = omega arith in (
      subst (λ (number : ℕ). IsWorkerReady (g.C.Clock.gives c.args.service.now.clock.now) c.args.service.now.size c.args.service.now.shared.now c.make_turn.new.self c.make_turn.new.cursor number) next ready,
      c.make_turn.ensures.view ∙ c.loop-turn.invariant.1,
      omega (arith, c.loop-turn-test.true),
    )

pub returns-clause-made : goal.returns-clause-made
returns-clause-made g c =
    let last : c.loop-turn.turn - 1 ≡ c.args.service.now.size.events = omega (arith, c.loop-turn-test.false, c.loop-turn.invariant.2) in
    subst (λ (number : ℕ). IsWorkerReady (g.C.Clock.gives c.args.service.now.clock.now) c.args.service.now.size c.args.service.now.shared.now c.loop-turn.self c.loop-turn.cursor number) last c.loop-turn.invariant.0

pub returns-in-Whole-clause-made : goal.returns-in-Whole-clause-made
returns-in-Whole-clause-made g c =
    let ready = subst (HasMade _ _ _ c.make_turn.new.self c.make_turn.new.cursor c.loop-turn.turn) c.in-Whole.is c.in_ok-refused.ensures.made in
    let last : c.loop-turn.turn ≡ c.args.service.now.size.events = grind (arith, nat_tests) in
    subst (λ (number : ℕ). IsWorkerReady (g.C.Clock.gives c.args.service.now.clock.now) c.args.service.now.size c.args.service.now.shared.now c.make_turn.new.self c.make_turn.new.cursor number) last ready
