use Rattle.std.proofs.Common.{◌≡◌, ap, arith}
use Rattle.host_server.proofs.Openings.{begun_claim}
use Rattle.reflect_posts.proofs.RowLaws.{all_bare_still}
use Rattle.reflect_posts.proofs.preparing.make_all.Goals as goal

pub bare_rows-requires-clause-claims : goal.bare_rows-requires-clause-claims
bare_rows-requires-clause-claims g c = ap (λ p. p.claims) c.in_ok-claims.ensures.pass

pub bare_rows-requires-clause-parts : goal.bare_rows-requires-clause-parts
bare_rows-requires-clause-parts g c =
    let whole : c.in_ok-claims.claim.parts ≡ 4294967296 = ap (λ p. p.parts) c.in_ok-claims.ensures.pass in
    let few = c.requires in
    omega (arith, whole, few)

pub returns-clause-stock : goal.returns-clause-stock
returns-clause-stock g c =
    let first = c.in_ok-claims.claim in
    let now = c.bare_rows.new.claim in
    let given = c.in_ok-rows.ensures.claim in
    let seats = c.in_ok-seats.ensures.capacity in
    let posts = c.in_ok-posts.ensures.capacity in
    let ended = c.in_ok-ended.ensures.capacity in
    let outcomes = c.in_ok-outcomes.ensures.capacity in
    record {
      no_lead = c.in_ok-seats.ensures.items;
      room_for_lead = omega (arith, seats);
      claim = begun_claim c.args.count c.in_ok-claims.claims first now c.in_ok-claims.ensures.pass given;
      rows = all_bare_still c.args.count first now c.in_ok-rows.rows.items given c.in_ok-rows.ensures.rows;
      number = c.in_ok-rows.ensures.count;
      none_posted = c.in_ok-posts.ensures.items;
      room_for_posts = omega (arith, posts);
      none_ended = c.in_ok-ended.ensures.items;
      room_for_ended = omega (arith, ended);
      none_told = c.in_ok-outcomes.ensures.items;
      room_for_outcomes = omega (arith, outcomes);
    }
