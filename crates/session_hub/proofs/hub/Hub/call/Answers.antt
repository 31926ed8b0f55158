use Rattle.std.proofs.Common.{◌≡◌, ℕ, List, Some, None, OnErr, sym, ap, subst, ◌∙◌}
use Rattle.std.specs.List.{position}
use Rattle.reflector_core.specs.Answer.{SessionOutcome, with_reply}
use Rattle.reflector_core.specs.PlainSession.{PlainSession}
use Rattle.session_hub.specs.declared.hub.Held.{Held}
use Rattle.session_hub.specs.declared.reply.HubReply.TheVariants.{Reply}
use Rattle.session_hub.specs.Held.{has_id, plain_hub}
use Rattle.session_hub.specs.PlainHub.{PlainHub, HubMayWantMemory, has_answered, hub_answer, session_in, with_hub_reply, with_session}
use Rattle.session_hub.proofs.Places.{answer-found, found-put, found-session, may_want-found, none-session, on_err, same-put}
use Rattle.session_hub.proofs.hub.Hub.call.Goals as goal

pub returns-in_err-reply-in-Some-clause-err : goal.returns-in_err-reply-in-Some-clause-err
returns-in_err-reply-in-Some-clause-err c =
    let held = c.self.inside.held.items in
    let id = c.args.id.now.0 in
    let found : position (has_id id) held ≡ Some c.in-Some.place = sym (c.place_of.ensures ∙ ap (λ (hs : List Held). position (has_id id) hs) c.deref.ensures.value) ∙ c.in-Some.is in
    let here = found-session id held c.in-Some.place c.index_mut.result.now found c.index_mut.ensures.value in
    let new = found-put id held c.in-Some.place c.index_mut.result.now c.call.new.self found c.index_mut.ensures.value in
    on_err c.from_residual.result _
    (new ∙ ap (λ (s : PlainSession). with_session (plain_hub held) id s) (c.in_err-reply-in-Some.ensures).err ∙ same-put (plain_hub held) id c.index_mut.result.now.session.plain here ∙ c.self.view_is)

pub returns-in_err-reply-in-Some-clause-memory : goal.returns-in_err-reply-in-Some-clause-memory
returns-in_err-reply-in-Some-clause-memory c =
    let held = c.self.inside.held.items in
    let id = c.args.id.now.0 in
    let found : position (has_id id) held ≡ Some c.in-Some.place = sym (c.place_of.ensures ∙ ap (λ (hs : List Held). position (has_id id) hs) c.deref.ensures.value) ∙ c.in-Some.is in
    let here = found-session id held c.in-Some.place c.index_mut.result.now found c.index_mut.ensures.value in
    on_err c.from_residual.result _
    (subst (λ (hub : PlainHub). HubMayWantMemory hub id c.args.request.now) c.self.view_is
    (may_want-found (plain_hub held) id c.args.request.now c.index_mut.result.now.session.plain here (c.in_err-reply-in-Some.ensures).memory))

pub found-requires : goal.found-requires
found-requires c =
    let held = c.self.inside.held.items in
    let id = c.args.id.now.0 in
    let none : position (has_id id) held ≡ None = sym (c.place_of.ensures ∙ ap (λ (hs : List Held). position (has_id id) hs) c.deref.ensures.value) ∙ c.in-None.is in
    ap (λ (hub : PlainHub). session_in hub id) (sym c.self.view_is) ∙ none-session id held none

pub returns-in_ok-reply-in-Some-clause-ok : goal.returns-in_ok-reply-in-Some-clause-ok
returns-in_ok-reply-in-Some-clause-ok c =
    let held = c.self.inside.held.items in
    let id = c.args.id.now.0 in
    let found : position (has_id id) held ≡ Some c.in-Some.place = sym (c.place_of.ensures ∙ ap (λ (hs : List Held). position (has_id id) hs) c.deref.ensures.value) ∙ c.in-Some.is in
    let here = found-session id held c.in-Some.place c.index_mut.result.now found c.index_mut.ensures.value in
    let new = found-put id held c.in-Some.place c.index_mut.result.now c.call.new.self found c.index_mut.ensures.value in
    ap (λ (hub : PlainHub). with_hub_reply hub (Reply c.in_ok-reply-in-Some.reply)) new
    ∙ ap (λ (o : SessionOutcome). has_answered (plain_hub held) id o) (c.in_ok-reply-in-Some.ensures).ok
    ∙ sym (answer-found (plain_hub held) id c.args.request.now c.index_mut.result.now.session.plain here)
    ∙ ap (λ (hub : PlainHub). hub_answer hub id c.args.request.now) c.self.view_is
