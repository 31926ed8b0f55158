use Rattle.std.proofs.Common.{◌≡◌, ℕ, All, sym, subst, arith, ap, ◌∙◌}
use Rattle.std.proofs.lemmas.List.Elements.{All-push}
use Rattle.host_server.specs.Claiming.{HasGivenClaims}
use Rattle.host_server.proofs.ClaimLaws.{claim_fresh, claim_given_more, claim_given_none}
use Rattle.reflect_posts.specs.Prepares.{IsBareRow}
use Rattle.reflect_posts.proofs.rows.bare_rows.Goals as goal

pub loop-made-init : goal.loop-made-init
loop-made-init g c =
    let held = c.in_ok-rows.ensures in
    let room = held.capacity in
    record {
      rows = subst (All (IsBareRow c.args.claim.now)) (sym held.items) (λ k d none. absurd (omega (arith, none)));
      count = held.len;
      claim = claim_given_none c.args.claim.now;
      room = omega (arith, room);
    }

pub split-part-requires-clause-claims : goal.split-part-requires-clause-claims
split-part-requires-clause-claims g c = ap (λ p. p.claims) c.loop-made.invariant.claim.kept ∙ c.requires.claims

pub split-part-requires-clause-enough : goal.split-part-requires-clause-enough
split-part-requires-clause-enough g c =
    let had = c.loop-made.invariant.claim.parts in
    omega (arith, had, c.requires.parts, c.loop-made-test.true)

pub loop-made-preserved : goal.loop-made-preserved
loop-made-preserved g c =
    let held = c.loop-made.invariant in
    let count = held.count in
    let room = held.room in
    let first = c.args.claim.now in
    let seats = c.in_ok-seats.ensures in
    let one = seats.capacity in
    let part = c.split-part.ensures in
    record {
      rows = subst (All (IsBareRow first)) (sym c.push_reserved.ensures.items)
          (All-push (IsBareRow first) c.loop-made.rows.items (record { seats = c.in_ok-seats.seats; claim = c.split-part.result }) held.rows
          (record { none = seats.items; room = omega (arith, one); claim = claim_fresh c.loop-made._made first c.loop-made.claim c.split-part.result held.claim part.given }));
      count = omega (arith, count, c.push_reserved.ensures.len);
      claim = claim_given_more c.loop-made._made first c.loop-made.claim c.split-part.new.pass held.claim part.kept part.parts;
      room = omega (arith, room, c.push_reserved.ensures.capacity);
    }

pub returns-clause-claim : goal.returns-clause-claim
returns-clause-claim g c =
    let all : c.loop-made._made ≡ c.args.count = omega (arith, c.loop-made-test.false, c.loop-made.auto._made-end) in
    subst (λ (n : ℕ). HasGivenClaims n c.args.claim.now c.loop-made.claim) all c.loop-made.invariant.claim
