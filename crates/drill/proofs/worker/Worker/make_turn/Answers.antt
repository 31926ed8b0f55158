use Rattle.std.proofs.Common.{◌≡◌, ◌+◌, ◌-◌, ◌≤◌, ℕ, subst, arith}
use Rattle.wire_frames.specs.declared.frame.ServerFrame.TheVariants.{Done}
use Rattle.drill.specs.Turns.{HasResent, HasSentIt, IsOwed}
use Rattle.drill.proofs.Courses.{made_refused}
use Rattle.drill.proofs.Publishings.{published}
use Rattle.drill.proofs.Sendings.{sent_none, sent_some}
use Rattle.drill.proofs.Settlings.{caught_up}
use Rattle.drill.proofs.worker.Worker.make_turn.Goals as goal

pub send-requires-clause-unsent : goal.send-requires-clause-unsent
send-requires-clause-unsent g c =
    let within : c.args.turn - 1 + 1 ≤ c.args.service.now.size.events = omega (arith, c.requires.turn) in
    (published _ _ _ c.args.self.now c.publish.new.self c.args.cursor.now _ c.requires.ready within c.in_ok-publish.ensures.published).1

pub returns-in_default-clause-made : goal.returns-in_default-clause-made
returns-in_default-clause-made g c =
    let within : c.args.turn - 1 + 1 ≤ c.args.service.now.size.events = omega (arith, c.requires.turn) in
    sent_none _ _ _ c.args.self.now c.publish.new.self c.send.new.self c.args.cursor.now _ c.requires.size c.requires.ready within c.in_ok-publish.ensures.published c.in_ok-done.ensures.source
    c.in_ok-done.ensures.worker (subst (HasSentIt _ _ _ _ _ _) c.in_default.is c.in_ok-done.ensures.sent)

pub settle-requires-clause-owed : goal.settle-requires-clause-owed
settle-requires-clause-owed g c =
    let within : c.args.turn - 1 + 1 ≤ c.args.service.now.size.events = omega (arith, c.requires.turn) in
    let next : c.args.turn - 1 + 1 ≡ c.args.turn = omega (arith, c.requires.turn) in
    let sent = sent_some _ _ _ c.args.self.now c.publish.new.self c.send.new.self c.args.cursor.now _ c.requires.size c.requires.ready within c.in_ok-publish.ensures.published c.in_ok-done.ensures.source
    c.in_ok-done.ensures.worker c.in-Some.done (subst (HasSentIt _ _ _ _ _ _) c.in-Some.is c.in_ok-done.ensures.sent) in
    (sent.0, subst (λ (number : ℕ). IsOwed (g.C.Clock.gives c.args.service.now.clock.now) c.args.service.now.size c.args.service.now.shared.now c.send.new.self c.args.cursor.now number sent.0) next sent.1)

pub settle-requires-clause-done : goal.settle-requires-clause-done
settle-requires-clause-done g c =
    let within : c.args.turn - 1 + 1 ≤ c.args.service.now.size.events = omega (arith, c.requires.turn) in
    let next : c.args.turn - 1 + 1 ≡ c.args.turn = omega (arith, c.requires.turn) in
    let sent = sent_some _ _ _ c.args.self.now c.publish.new.self c.send.new.self c.args.cursor.now _ c.requires.size c.requires.ready within c.in_ok-publish.ensures.published c.in_ok-done.ensures.source
    c.in_ok-done.ensures.worker c.in-Some.done (subst (HasSentIt _ _ _ _ _ _) c.in-Some.is c.in_ok-done.ensures.sent) in
    (sent.2, sent.3, subst (λ (number : ℕ). c.in-Some.done ≡ Done number sent.2 sent.3) next sent.4)

pub returns-in_default-2-clause-made : goal.returns-in_default-2-clause-made
returns-in_default-2-clause-made g c =
    made_refused _ _ _ c.settle.new.self c.settle.new.cursor c.args.turn c.in_ok-refused.refused c.in_ok-refused.ensures.settled c.in_default-2.not-Whole

pub returns-clause-made : goal.returns-clause-made
returns-clause-made g c =
    let settled = subst (HasResent _ _ _ c.settle.new.self c.settle.new.cursor c.args.turn) c.in-Whole.is c.in_ok-refused.ensures.settled in
    caught_up _ _ _ c.settle.new.self c.catch_up.new.self c.settle.new.cursor c.catch_up.new.cursor c.args.turn c.requires.size settled c.in_ok-catch_up.ensures.source c.in_ok-catch_up.ensures.worker
    c.in_ok-catch_up.ensures.more c.in_ok-catch_up.ensures.caught c.in_ok-catch_up.ensures.read
