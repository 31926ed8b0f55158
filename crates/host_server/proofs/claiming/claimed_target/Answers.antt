use Rattle.std.proofs.Common.{true, Some, None, sym, ◌∙◌}
use Rattle.host_server.proofs.Naming.{named_is}
use Rattle.host_server.proofs.Targets.{claims_none, claims_one, target_claimed, target_full, target_unnamed}
use Rattle.host_server.proofs.claiming.claimed_target.Goals as goal

pub returns-in_default-clause-claim : goal.returns-in_default-clause-claim
returns-in_default-clause-claim g c = claims_none true c.args.first.now c.args.claim.now

pub returns-in_default-clause-target : goal.returns-in_default-clause-target
returns-in_default-clause-target g c = λ ids all.
    target_unnamed c.args.listed.now c.args.claim.now.seen ids c.args.first.now c.first_target.result.place c.first_target.result.id all (sym c.in_default.ensures) c.first_target.ensures

pub returns-in-Some-claim-clause-claim : goal.returns-in-Some-claim-clause-claim
returns-in-Some-claim-clause-claim g c =
    claims_one c.args.first.now c.in-Some.id (Some c.in-Some-claim.place) c.args.claim.now c.claim.new.pass (named_is c.args.first.now ∙ sym c.in-Some.ensures) c.in-Some-claim.ensures

pub returns-in-Some-claim-clause-target : goal.returns-in-Some-claim-clause-target
returns-in-Some-claim-clause-target g c = λ ids all.
    target_claimed c.args.listed.now c.claim.new.pass.seen ids c.args.first.now c.in-Some.id all (named_is c.args.first.now ∙ sym c.in-Some.ensures) c.in-Some-claim.place c.in-Some-claim.ensures.has

pub returns-in-None-clause-claim : goal.returns-in-None-clause-claim
returns-in-None-clause-claim g c =
    claims_one c.args.first.now c.in-Some.id None c.args.claim.now c.claim.new.pass (named_is c.args.first.now ∙ sym c.in-Some.ensures) c.in-None.ensures

pub returns-in-None-clause-target : goal.returns-in-None-clause-target
returns-in-None-clause-target g c = λ ids all.
    target_full c.args.listed.now c.claim.new.pass.seen ids c.args.first.now c.in-Some.id all (named_is c.args.first.now ∙ sym c.in-Some.ensures) c.first_target-in-None.result.place c.first_target-in-None.result.id c.first_target-in-None.ensures c.in-None.ensures.has
