use Rattle.std.proofs.Common.{◌∙◌, encode_utf8_all, sym}
use Rattle.command_outcome.specs.declared.outcome.Input.TheVariants as input
use Rattle.command_words.specs.Address.{is_address}
use Rattle.commands.specs.Verdict.{OfHostReady, hosting_of}
use Rattle.commands.proofs.OpeningLaws.{right_address, wrong_address}
use Rattle.commands.proofs.hosting.answer_address.Goals as goal

pub returns-then-not-branch-clause-leads : goal.returns-then-not-branch-clause-leads
returns-then-not-branch-clause-leads c verdict comes =
    wrong_address input.Address (is_address (encode_utf8_all c.args.request.address)) (OfHostReady (hosting_of c.args.request c.args.on_demand c.args.ids)) verdict
    (sym (rw c.as_str.ensures at c.in_ok-is_address.ensures) ∙ c.if-not-branch.true) comes

pub returns-clause-leads : goal.returns-clause-leads
returns-clause-leads c verdict comes =
    right_address input.Address (is_address (encode_utf8_all c.args.request.address)) (OfHostReady (hosting_of c.args.request c.args.on_demand c.args.ids)) verdict
    (sym (rw c.as_str.ensures at c.in_ok-is_address.ensures) ∙ c.if-not-branch.false) (c.ready.ensures.leads verdict comes)
