use Rattle.model_value.specs.View.{plain}
use Rattle.vote_event.proofs.Votes.{is_small, is_vote}
use Rattle.vote_event.proofs.event.vote_event.Goals as goal

pub returns-clause-vote : goal.returns-clause-vote
returns-clause-vote c =
    is_vote c.args.at c.args.digest.now c.in_ok-copy.field-0 c.in_ok-copy-2.field-0 (plain c.in_ok-value.value) c.in_ok-copy.ensures.characters c.in_ok-copy-2.ensures.characters c.in_ok-value.ensures

pub returns-clause-bounds : goal.returns-clause-bounds
returns-clause-bounds c =
    let is = is_vote c.args.at c.args.digest.now c.in_ok-copy.field-0 c.in_ok-copy-2.field-0 (plain c.in_ok-value.value) c.in_ok-copy.ensures.characters c.in_ok-copy-2.ensures.characters c.in_ok-value.ensures in
    (is_small c.args.at c.args.digest.now c.in_ok-copy.field-0 c.in_ok-copy-2.field-0 (plain c.in_ok-value.value) c.told-digest is).0

pub returns-clause-length : goal.returns-clause-length
returns-clause-length c =
    let is = is_vote c.args.at c.args.digest.now c.in_ok-copy.field-0 c.in_ok-copy-2.field-0 (plain c.in_ok-value.value) c.in_ok-copy.ensures.characters c.in_ok-copy-2.ensures.characters c.in_ok-value.ensures in
    (is_small c.args.at c.args.digest.now c.in_ok-copy.field-0 c.in_ok-copy-2.field-0 (plain c.in_ok-value.value) c.told-digest is).1
