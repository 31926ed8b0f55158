use Rattle.std.proofs.Common.{◌+◌, ◌∙◌, ap, subst, sym}
use Rattle.reflector_core.specs.Answer.{answer}
use Rattle.session_lock.specs.History.{play}
use Rattle.join_sync.specs.Answers.{IsReplyTo}
use Rattle.replica.specs.View.{ReplicaView}
use Rattle.drill.specs.declared.worker.Worker.{Worker}
use Rattle.drill.specs.ViewCalls.{done_of}
use Rattle.drill.proofs.Sends.{has_done, has_sent_it, the_frame}
use Rattle.drill.proofs.worker.Worker.send.Goals as goal

pub returns-in-Refused-clause-sent : goal.returns-in-Refused-clause-sent
returns-in-Refused-clause-sent g c =
    let frame = the_frame c.args.self.now.replica c.pop.new.self.items c.in-Some.frame c.into_vec.result.items c.requires.unsent (c.into_vec.ensures ∙ c.in_ok-unsent.ensures.frames) c.in-Some.ensures.items in
    has_sent_it _ c.args.service.now.size.views c.args.service.now.shared.now c.args.self.now c.ask.new.self c.args.cursor.now c.now.result c.in-Some.frame c.in-Call.request c.in_ok-reply.reply c.requires.unsent
    c.requires.connection frame (sym c.in-Call.ensures) _ c.in_ok-reply.ensures.asked (sym (ap (done_of (c.args.self.now.replica.plain.acknowledged + 1)) c.in-Refused.is))
    (ap (λ (w : Worker). w.replica) c.in_ok-reply.ensures.pass ∙ c.in_ok-unsent.ensures.ok)

pub answer-requires : goal.answer-requires
answer-requires g c = record {
  asked = c.replies_fit.ensures.frames c.args.cursor.now c.in-Some.frame c.now.result c.in-Call.request (sym c.in-Call.ensures);
  replied = subst (IsReplyTo c.in-Call.request) (sym c.in_ok-reply.ensures.asked.replies) (c.replies_fit.ensures.replies (play c.in_ok-reply.ensures.asked.history) c.in-Call.request);
}

pub returns : goal.returns
returns g c =
    let frame = the_frame c.args.self.now.replica c.pop.new.self.items c.in-Some.frame c.into_vec.result.items c.requires.unsent (c.into_vec.ensures ∙ c.in_ok-unsent.ensures.frames) c.in-Some.ensures.items in
    let fits = subst (IsReplyTo c.in-Call.request) (sym c.in_ok-reply.ensures.asked.replies) (c.replies_fit.ensures.replies (play c.in_ok-reply.ensures.asked.history) c.in-Call.request) in
    let same = ap (λ (w : Worker). w.replica) c.in_ok-reply.ensures.pass in
    let done = has_done (g.C.Clock.gives c.args.service.now.clock.now) c.args.service.now.size.views c.args.service.now.shared.now c.args.self.now c.ask.new.self c.args.cursor.now c.now.result c.in-Some.frame c.in-Call.request c.in_ok-reply.reply c.requires.unsent
    c.requires.connection frame (sym c.in-Call.ensures) c.answer.result c.answer.ensures fits c.in_default-reply.not-Refused in
    record {
      source = c.in_ok-reply.ensures.pass ∙ ap (λ (r : ReplicaView). record c.args.self.now { pass = c.ask.new.self.pass; replica = r }) (sym same);
      worker = c.in_ok-reply.ensures.worker;
      sent = has_sent_it _ c.args.service.now.size.views c.args.service.now.shared.now c.args.self.now c.ask.new.self c.args.cursor.now c.now.result c.in-Some.frame c.in-Call.request c.in_ok-reply.reply c.requires.unsent
          c.requires.connection frame (sym c.in-Call.ensures) c.answer.result c.in_ok-reply.ensures.asked done (same ∙ c.in_ok-unsent.ensures.ok);
    }
