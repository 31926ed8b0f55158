use Rattle.std.proofs.Common.{ℕ, take, length, sym, subst}
use Rattle.id_claims.specs.Passes.{Closes}
use Rattle.host_server.specs.Prepares.{AreClosed}
use Rattle.host_server.specs.Rows.{AtEach, IsWhole}
use Rattle.host_posts.proofs.hosting.close_hosted.Goals as goal

pub close_made-requires-clause-leads : goal.close_made-requires-clause-leads
close_made-requires-clause-leads c =
    let closes = subst (Closes c.args.claims.listed c.args.lead.claim) (sym c.from_vec-ids.ensures) c.close.ensures in
    subst (λ (n : ℕ). AtEach IsWhole (take n c.args.rooms.items) (take n c.args.lead.seats.items)) (sym c.len-made.ensures) (c.requires.leads c.from_vec-ids.result closes)

pub returns-clause-ids : goal.returns-clause-ids
returns-clause-ids c = subst (Closes c.args.claims.listed c.args.lead.claim) (sym c.from_vec-ids.ensures) c.close.ensures

pub returns-clause-sessions : goal.returns-clause-sessions
returns-clause-sessions c =
    subst (AreClosed (take (length c.from_vec-ids.result) c.args.lead.seats.items)) (sym c.from_vec-sessions.ensures) (rw c.len-made.ensures at c.close_made.ensures)
