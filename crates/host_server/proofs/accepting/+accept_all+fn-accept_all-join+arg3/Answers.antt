use Rattle.std.proofs.Common.{◌≡◌, length, vec_len, Some, refl, ap, ◌∙◌, arith, rules}
use Rattle.std.proofs.lemmas.List.{length_push}
use Rattle.std.proofs.lemmas.List.Elements.{All-pop}
use Rattle.host_server.specs.Rows.{IsFreshRow}
use Rattle.host_server.proofs.Around.{around_more, around_none, around_stopped, idle_of, merged_of, served_none}
use Rattle.host_server.proofs.ClaimLaws.{all_before, claim_gathers_kept, claim_gathers_more, claim_gathers_none}
use Rattle.host_server.proofs.RowLaws.{kept_of}
use Rattle.host_server.proofs.accepting.+accept_all+fn-accept_all-join+arg3.Goals as goal

pub returns-then-is_empty-clause-few : goal.returns-then-is_empty-clause-few
returns-then-is_empty-clause-few g t c = let none : length c.args.round.served.items ≡ 0 = ap length c.requires.begins.0 in omega (arith, none)

pub returns-then-is_empty-clause-claim : goal.returns-then-is_empty-clause-claim
returns-then-is_empty-clause-claim g t c = claim_gathers_none c.args.service.now.host.now.on_demand (vec_len c.args.rows) c.args.round.lead.claim (search rules)

pub returns-then-is_empty-clause-round : goal.returns-then-is_empty-clause-round
returns-then-is_empty-clause-round g t c = λ ids all.
    around_none _ ids _ _ _ _ c.args.round (vec_len c.args.rows) c.requires.leads c.requires.kept c.requires.begins.0 c.requires.begins.1 (search rules)

pub returns-in-Err-clause-few : goal.returns-in-Err-clause-few
returns-in-Err-clause-few g t c =
    let none : length c.stop.result.served.items ≡ 0 = served_none c.args.round c.stop.result c.stop.ensures.rest.1 c.requires.begins.0 in
    omega (arith, none)

pub returns-in-Err-clause-leads : goal.returns-in-Err-clause-leads
returns-in-Err-clause-leads g t c = kept_of c.args.service.now.rooms.now (vec_len c.args.rows) c.args.round.lead.seats.items c.stop.result.lead.seats.items c.requires.leads c.stop.ensures.leads

pub returns-in-Err-clause-claim : goal.returns-in-Err-clause-claim
returns-in-Err-clause-claim g t c =
    claim_gathers_kept c.args.service.now.host.now.on_demand (vec_len c.args.rows) c.args.round.lead.claim c.stop.result.lead.claim c.stop.ensures.claim

pub returns-in-Err-clause-round : goal.returns-in-Err-clause-round
returns-in-Err-clause-round g t c = λ ids all.
    let told = c.in-Err.ensures in
    let stopped = c.stop.ensures in
    around_stopped _ ids _ _ _ _ c.args.round c.stop.result c.accept.new.self (vec_len c.args.rows) c.in-Err.fault c.requires.leads c.requires.begins.0 (search rules)
    (record { coming = told.kept; over = told.over; lent = told.none_lent; counts = told.counts; asked = told.asked; cause = told.cause })
    stopped.leads stopped.claim stopped.rest.0 stopped.rest.1 stopped.rest.2

pub join-row-requires-after_bounds : goal.join-row-requires-after_bounds
join-row-requires-after_bounds g t c κs within =
    let popped = All-pop (IsFreshRow c.args.round.lead) c.args.rows.items c.pop.new.self.items (Some c.in-Some.row) c.in-Some.ensures.items c.requires.rows in
    let idle = idle_of c.args.service.now.rooms.now c.args.round.lead.seats.items c.in-Some.row.seats.items c.requires.leads popped.1.seats in
    let claim = popped.1.claim.claims ∙ c.requires.claims in
    let rest = popped.0 in
    search rules

pub with_one-requires-clause-leads : goal.with_one-requires-clause-leads
with_one-requires-clause-leads g t c = c.join-row.ensures.second.1.1.0

pub with_one-requires-clause-seats : goal.with_one-requires-clause-seats
with_one-requires-clause-seats g t c = c.join-row.ensures.first.0

pub with_one-requires-clause-lead_claims : goal.with_one-requires-clause-lead_claims
with_one-requires-clause-lead_claims g t c = c.join-row.ensures.second.1.1.1.0.claims ∙ c.requires.claims

pub with_one-requires-clause-row_claims : goal.with_one-requires-clause-row_claims
with_one-requires-clause-row_claims g t c =
    let popped = All-pop (IsFreshRow c.args.round.lead) c.args.rows.items c.pop.new.self.items (Some c.in-Some.row) c.in-Some.ensures.items c.requires.rows in
    c.join-row.ensures.first.1.0.claims ∙ (popped.1.claim.claims ∙ c.requires.claims)

pub with_one-requires-clause-room : goal.with_one-requires-clause-room
with_one-requires-clause-room g t c =
    let as_long : vec_len c.join-row.result.1.served ≡ length c.join-row.result.1.served.items = search rules in
    let few = c.join-row.ensures.second.1.0 in
    let same = c.join-row.ensures.second.0 in
    let room = c.requires.room in
    let one = c.in-Some.ensures.len in
    omega (arith, as_long, few, same, room, one)

pub returns-clause-few : goal.returns-clause-few
returns-clause-few g t c =
    let longer = ap length c.with_one.ensures.served ∙ length_push c.join-row.result.1.served.items c.join-row.result.0.1 in
    let few = c.join-row.ensures.second.1.0 in
    let one = c.in-Some.ensures.len in
    omega (arith, longer, few, one)

pub returns-clause-leads : goal.returns-clause-leads
returns-clause-leads g t c =
    merged_of c.args.service.now.rooms.now c.join-row.result.1.lead.seats.items c.join-row.result.0.0.seats.items c.with_one.result.lead.seats.items c.join-row.ensures.second.1.1.0 c.with_one.ensures.merged

pub returns-clause-claim : goal.returns-clause-claim
returns-clause-claim g t c =
    let popped = All-pop (IsFreshRow c.args.round.lead) c.args.rows.items c.pop.new.self.items (Some c.in-Some.row) c.in-Some.ensures.items c.requires.rows in
    claim_gathers_more c.args.service.now.host.now.on_demand (vec_len c.pop.new.self) (vec_len c.args.rows) c.args.round.lead.claim c.in-Some.row.claim c.join-row.result.0.0.claim c.join-row.result.1.lead.claim c.with_one.result.lead.claim
    (search rules) popped.1.claim c.join-row.ensures.first.1.0 c.join-row.ensures.second.1.1.1.0 c.with_one.ensures.claim

pub returns-clause-round : goal.returns-clause-round
returns-clause-round g t c = λ ids all.
    let on_demand = c.args.service.now.host.now.on_demand in
    let listed = c.args.service.now.host.now.ids.now in
    let popped = All-pop (IsFreshRow c.args.round.lead) c.args.rows.items c.pop.new.self.items (Some c.in-Some.row) c.in-Some.ensures.items c.requires.rows in
    let told = c.in-Ok.ensures in
    let last = c.with_one.ensures in
    around_more _ ids on_demand _ _ _ c.args.round _ c.join-row.result.1 c.with_one.result c.in-Some.row c.join-row.result.0.0 (vec_len c.pop.new.self) (vec_len c.args.rows) c.in-Ok.link c.join-row.result.0.1 popped.1 refl (search rules)
    (record { coming = told.given; new = told.fresh; over = told.over; lent = told.lent; counts = told.counts; asked = told.asked; cause = told.cause })
    (c.join-row.ensures.first.1.1 ids (all_before on_demand listed c.join-row.result.0.0.claim.seen c.with_one.result.lead.claim.seen ids last.claim.grows_other all))
    (c.join-row.ensures.second.1.1.1.1 ids (all_before on_demand listed c.join-row.result.1.lead.claim.seen c.with_one.result.lead.claim.seen ids last.claim.grows all))
    last.merged last.claim last.served last.rest.0 last.rest.1
