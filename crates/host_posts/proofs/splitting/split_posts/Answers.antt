use Rattle.std.proofs.Common.{◌≡◌, ℕ, ◌+◌, ◌*◌, All, length, sym, subst, arith, ap, ◌∙◌}
use Rattle.std.proofs.lemmas.List.{with_items_is}
use Rattle.std.proofs.lemmas.List.Elements.{All-push}
use Rattle.host_server.specs.Rows.{AtEach, HasGiven}
use Rattle.host_server.proofs.ClaimLaws.{claim_fresh, claim_given_more, claim_given_none}
use Rattle.host_server.proofs.RowLaws.{given_none, given_of}
use Rattle.host_posts.specs.Passes.{HasGivenPosts, IsPostRow}
use Rattle.host_posts.specs.Posts.{post_numbers}
use Rattle.host_posts.proofs.SplitLaws.{given_enough, given_more, row_for}
use Rattle.host_posts.proofs.splitting.split_posts.Goals as goal

pub loop-made-init : goal.loop-made-init
loop-made-init g c =
    let held = c.in_ok-rows.ensures in
    let room = held.capacity in
    record {
      rows = subst (All (IsPostRow c.args.lead.now)) (sym held.items) (λ k d none. absurd (omega (arith, none)));
      count = held.len;
      lead = record { seats = given_none c.args.lead.now.seats.items; claim = claim_given_none c.args.lead.now.claim };
      room = omega (arith, room);
    }

pub split_passes-seats-requires-clause-leads : goal.split_passes-seats-requires-clause-leads
split_passes-seats-requires-clause-leads g c =
    rw c.deref_mut.ensures.value
    (given_of c.args.rooms.now (c.loop-made._made * post_numbers) c.args.lead.now.seats.items c.loop-made.lead.seats.items c.requires.leads c.loop-made.invariant.lead.seats)

pub split_passes-seats-requires-clause-enough : goal.split_passes-seats-requires-clause-enough
split_passes-seats-requires-clause-enough g c =
    rw c.deref_mut.ensures.value
    (given_enough c.loop-made._made c.args.count c.args.lead.now.seats.items c.loop-made.lead.seats.items c.loop-made-test.true c.requires.enough c.loop-made.invariant.lead.seats)

pub split-claim-requires-clause-claims : goal.split-claim-requires-clause-claims
split-claim-requires-clause-claims g c = ap (λ p. p.claims) c.loop-made.invariant.lead.claim.kept ∙ c.requires.claims

pub split-claim-requires-clause-enough : goal.split-claim-requires-clause-enough
split-claim-requires-clause-enough g c =
    let had = c.loop-made.invariant.lead.claim.parts in
    omega (arith, had, c.requires.parts, c.loop-made-test.true)

pub loop-made-preserved : goal.loop-made-preserved
loop-made-preserved g c =
    let held = c.loop-made.invariant in
    let count = held.count in
    let room = held.room in
    let first = c.args.lead.now in
    let lead = c.loop-made.lead in
    let now = c.split_passes-seats.new.leads in
    let split = rw c.deref_mut.ensures.value at c.split_passes-seats.ensures in
    let as_long = split.as_long in
    let len = c.deref_mut.ensures.len in
    let value = ap length c.deref_mut.ensures.value in
    let written = with_items_is lead.seats now (omega (arith, as_long, len, value)) in
    let claim = c.split-claim.ensures in
    record {
      rows = subst (All (IsPostRow first)) (sym c.push_reserved.ensures.items)
          (All-push (IsPostRow first) c.loop-made.rows.items (record { seats = c.split_passes-seats.result; claim = c.split-claim.result }) held.rows
          (record {
            seats = row_for (c.loop-made._made * post_numbers) first.seats.items lead.seats.items now c.split_passes-seats.result.items held.lead.seats split;
            claim = claim_fresh c.loop-made._made first.claim lead.claim c.split-claim.result held.lead.claim claim.given;
          }));
      count = omega (arith, count, c.push_reserved.ensures.len);
      lead = record {
        seats = subst (AtEach (HasGiven ((c.loop-made._made + 1) * post_numbers)) first.seats.items) (sym written)
            (given_more c.loop-made._made first.seats.items lead.seats.items now c.split_passes-seats.result.items held.lead.seats split);
        claim = claim_given_more c.loop-made._made first.claim lead.claim c.split-claim.new.pass held.lead.claim claim.kept claim.parts;
      };
      room = omega (arith, room, c.push_reserved.ensures.capacity);
    }

pub returns-clause-lead : goal.returns-clause-lead
returns-clause-lead g c =
    let all : c.loop-made._made ≡ c.args.count = omega (arith, c.loop-made-test.false, c.loop-made.auto._made-end) in
    subst (λ (n : ℕ). HasGivenPosts n c.args.lead.now c.loop-made.lead) all c.loop-made.invariant.lead
