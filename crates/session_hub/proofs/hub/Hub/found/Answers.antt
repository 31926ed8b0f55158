use Rattle.std.proofs.Common.{◌≡◌, ◌<◌, ◌≤◌, ◌++◌, ◌∷◌, [], ℕ, List, length, Some, None, sym, ap, subst, ◌∙◌, arith}
use Rattle.std.proofs.lemmas.Bool.Decides.{nat_tests}
use Rattle.reflector_core.specs.Answer.{SessionOutcome, answer}
use Rattle.reflector_core.specs.PlainSession.{PlainSession}
use Rattle.session_hub.specs.declared.hub.Held.{Held}
use Rattle.session_hub.specs.declared.reply.HubReply.TheVariants.{Reply}
use Rattle.session_hub.specs.Held.{plain_hub}
use Rattle.session_hub.specs.PlainHub.{PlainHub, has_answered, hub_answer, most_sessions, session_in, with_hub_reply}
use Rattle.session_hub.proofs.Places.{answer-new, last-put}
use Rattle.session_hub.proofs.hub.Hub.found.Goals as goal

pub returns-clause-ok : goal.returns-clause-ok
returns-clause-ok c =
    let id = c.args.id.now.0 in
    let old = c.args.self.now in
    let hub = plain_hub c.self.inside.held.items in
    let is : hub ≡ old = c.self.view_is in
    let held = c.reserve.new.self.items in
    let stays : plain_hub held ≡ hub = ap plain_hub c.in_ok-reserve.ensures.items in
    let absent : session_in (plain_hub held) id ≡ None = ap (λ (h : PlainHub). session_in h id) (stays ∙ is) ∙ c.requires in
    let many = c.sessions.ensures in
    let few : length old < most_sessions = grind (arith, nat_tests, many.count, many.few, c.if-sessions-eq-MOST_SESSIONS.false) in
    let new : Held = record { id = c.args.id.now; session = c.call.new.self } in
    ap (λ (h : PlainHub). with_hub_reply h (Reply c.in_ok-reply.reply)) (ap plain_hub c.push_reserved.ensures.items ∙ last-put held new absent)
    ∙ ap (λ (h : PlainHub). has_answered h id (record { session = c.call.new.self.plain; reply = c.in_ok-reply.reply })) (stays ∙ is)
    ∙ ap (λ (o : SessionOutcome). has_answered old id o) ((c.in_ok-reply.ensures).ok ∙ ap (λ (s : PlainSession). answer s c.args.request.now) c.new-session.ensures)
    ∙ sym (answer-new old id c.args.request.now c.requires few)
