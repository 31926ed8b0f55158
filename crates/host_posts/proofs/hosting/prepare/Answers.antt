use Rattle.std.proofs.Common.{◌≡◌, ◌*◌, ap, ◌∙◌, arith}
use Rattle.reflector_core.specs.declared.keeper.NoKeeper.{NoKeeper}
use Rattle.host_server.specs.declared.rooms.Row.{Row}
use Rattle.host_server.proofs.Openings.{begun_by, begun_claim, new_enough, new_of}
use Rattle.host_posts.specs.Posts.{post_numbers}
use Rattle.host_posts.proofs.Openings.{rows_still}
use Rattle.host_posts.proofs.hosting.prepare.Goals as goal

pub split_posts-requires-clause-leads : goal.split_posts-requires-clause-leads
split_posts-requires-clause-leads g c =
    rw c.deref.ensures.value (new_of c.in_ok-rooms.field-0.rooms.items c.in_ok-rooms.field-0.leads.items c.in_ok-rooms.ensures.passes)

pub split_posts-requires-clause-claims : goal.split_posts-requires-clause-claims
split_posts-requires-clause-claims g c = ap (λ p. p.claims) c.in_ok-claims.ensures.pass

pub split_posts-requires-clause-enough : goal.split_posts-requires-clause-enough
split_posts-requires-clause-enough g c =
    let few = c.requires.count in
    new_enough (c.args.count * post_numbers) c.in_ok-rooms.field-0.rooms.items c.in_ok-rooms.field-0.leads.items (omega (arith, few)) c.in_ok-rooms.ensures.passes

pub split_posts-requires-clause-parts : goal.split_posts-requires-clause-parts
split_posts-requires-clause-parts g c =
    let whole : c.in_ok-claims.claim.parts ≡ 4294967296 = ap (λ p. p.parts) c.in_ok-claims.ensures.pass in
    let few = c.requires.count in
    omega (arith, whole, few)

pub returns : goal.returns
returns g c =
    let rooms = c.in_ok-rooms.field-0.rooms.items in
    let lead : Row NoKeeper = record { seats = c.in_ok-rooms.field-0.leads; claim = c.in_ok-claims.claim } in
    let now = c.split_posts.new.lead in
    let given = c.in_ok-rows.ensures.lead in
    let count = c.in_ok-rooms.ensures.count in
    let posts = c.in_ok-posts.ensures.capacity in
    let ended = c.in_ok-ended.ensures.capacity in
    let outcomes = c.in_ok-outcomes.ensures.capacity in
    let sessions = c.in_ok-sessions.ensures.capacity in
    record {
      rooms = count ∙ c.rooms_for-many.ensures;
      leads = begun_by (c.args.count * post_numbers) rooms lead.seats.items now.seats.items c.in_ok-rooms.ensures.passes given.seats;
      listed_are = c.in_ok-claims.ensures.listed;
      claim = begun_claim c.args.count c.in_ok-claims.claims lead.claim now.claim c.in_ok-claims.ensures.pass given.claim;
      rows = rows_still c.args.count lead now c.in_ok-rows.rows.items given c.in_ok-rows.ensures.rows;
      number = c.in_ok-rows.ensures.count;
      none_posted = c.in_ok-posts.ensures.items;
      room_for_posts = omega (arith, posts);
      none_ended = c.in_ok-ended.ensures.items;
      room_for_ended = omega (arith, ended);
      none_told = c.in_ok-outcomes.ensures.items;
      room_for_outcomes = omega (arith, outcomes);
      none_closed = c.in_ok-sessions.ensures.items;
      room_for_sessions = omega (arith, sessions, count);
    }
