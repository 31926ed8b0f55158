use Rattle.std.proofs.Common.{◌≡◌, ℕ, List, Some, None, refl, sym, ap, ◌∙◌}
use Rattle.std.specs.List.{position}
use Rattle.session_hub.specs.declared.hub.Held.{Held}
use Rattle.session_hub.specs.Held.{has_id, plain_hub}
use Rattle.session_hub.specs.PlainHub.{PlainHub, session_in}
use Rattle.session_hub.proofs.Places.{found-session, none-session}
use Rattle.session_hub.proofs.hub.Hub.session.Goals as goal

pub returns-in_err-place : goal.returns-in_err-place
returns-in_err-place c =
    let held = c.self.inside.held.items in
    let id = c.args.id.now.0 in
    let none : position (has_id id) held ≡ None = ap (λ (hs : List Held). position (has_id id) hs) (sym c.deref.ensures.value) ∙ sym c.in_err-place.ensures in
    let absent : session_in c.args.self.now id ≡ None = ap (λ (hub : PlainHub). session_in hub id) (sym c.self.view_is) ∙ none-session id held none in
    rw (c.from_residual.ensures, absent) refl

pub returns : goal.returns
returns c =
    let held = c.self.inside.held.items in
    let id = c.args.id.now.0 in
    let found : position (has_id id) held ≡ Some c.in_ok-place.place = ap (λ (hs : List Held). position (has_id id) hs) (sym c.deref.ensures.value) ∙ sym c.in_ok-place.ensures in
    sym (found-session id held c.in_ok-place.place c.index.result.now found c.index.ensures) ∙ ap (λ (hub : PlainHub). session_in hub id) c.self.view_is
