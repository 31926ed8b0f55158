use Rattle.std.proofs.Common.{◌≡◌, ap, ◌∙◌, arith}
use Rattle.reflector_core.specs.declared.keeper.NoKeeper.{NoKeeper}
use Rattle.host_server.specs.declared.rooms.Row.{Row}
use Rattle.host_server.proofs.Openings.{begun_by, begun_claim, new_enough, new_of, rows_still}
use Rattle.host_server.proofs.running.prepare.Goals as goal

pub split_rows-requires-clause-leads : goal.split_rows-requires-clause-leads
split_rows-requires-clause-leads g c =
    rw c.deref.ensures.value (new_of c.in_ok-rooms.field-0.rooms.items c.in_ok-rooms.field-0.leads.items c.in_ok-rooms.ensures.passes)

pub split_rows-requires-clause-claims : goal.split_rows-requires-clause-claims
split_rows-requires-clause-claims g c = ap (λ p. p.claims) c.in_ok-claims.ensures.pass

pub split_rows-requires-clause-enough : goal.split_rows-requires-clause-enough
split_rows-requires-clause-enough g c =
    let few = c.requires.connections in
    new_enough c.args.connections c.in_ok-rooms.field-0.rooms.items c.in_ok-rooms.field-0.leads.items (omega (arith, few)) c.in_ok-rooms.ensures.passes

pub split_rows-requires-clause-parts : goal.split_rows-requires-clause-parts
split_rows-requires-clause-parts g c =
    let whole : c.in_ok-claims.claim.parts ≡ 4294967296 = ap (λ p. p.parts) c.in_ok-claims.ensures.pass in
    let few = c.requires.connections in
    omega (arith, whole, few)

pub returns : goal.returns
returns g c =
    let rooms = c.in_ok-rooms.field-0.rooms.items in
    let lead : Row NoKeeper = record { seats = c.in_ok-rooms.field-0.leads; claim = c.in_ok-claims.claim } in
    let now = c.split_rows.new.lead in
    let given = c.in_ok-rows.ensures.lead in
    let count = c.in_ok-rooms.ensures.count in
    let links = c.in_ok-served.ensures.capacity in
    let ends = c.in_ok-ends.ensures.capacity in
    let sessions = c.in_ok-sessions.ensures.capacity in
    record {
      rooms = count ∙ c.rooms_for-count.ensures;
      leads = begun_by c.args.connections rooms lead.seats.items now.seats.items c.in_ok-rooms.ensures.passes given.seats;
      claims = c.in_ok-claims.ensures.listed;
      claim = begun_claim c.args.connections c.in_ok-claims.claims lead.claim now.claim c.in_ok-claims.ensures.pass given.claim;
      rows = rows_still c.args.connections lead now c.in_ok-rows.rows.items given c.in_ok-rows.ensures.rows;
      count = c.in_ok-rows.ensures.count;
      none_served = c.in_ok-served.ensures.items;
      room_for_links = omega (arith, links);
      none_ended = c.in_ok-ends.ensures.items;
      room_for_ends = omega (arith, ends);
      none_closed = c.in_ok-sessions.ensures.items;
      room_for_sessions = omega (arith, sessions, count);
    }
