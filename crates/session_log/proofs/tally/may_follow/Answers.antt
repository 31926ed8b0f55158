use Rattle.std.proofs.Common.{◌∙◌, arith}
use Rattle.session_log.specs.Lent.{lent_entry}
use Rattle.session_log.proofs.TallyLaws.{number_told, may_follow_told}
use Rattle.session_log.proofs.tally.may_follow.Goals as goal

pub goes_on-requires-clause-number : goal.goes_on-requires-clause-number
goes_on-requires-clause-number c = number_told c.args.tally.now c.args.log.now.entries _ c.stand_of-view.result c.requires (omega (arith, c.len.ensures.len, c.len.ensures.bound)) c.stand_of-view.ensures

pub returns : goal.returns
returns c =
    c.goes_on.ensures c.args.log.now.entries
    ∙ may_follow_told c.args.tally.now c.args.log.now.entries (lent_entry c.args.log.now.entries c.args.entry.now) c.len.result c.bytes.result c.stand_of-view.result c.requires c.len.ensures.len c.bytes.ensures.bytes c.stand_of-view.ensures
