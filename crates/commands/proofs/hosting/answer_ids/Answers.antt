use Rattle.std.proofs.Common.{◌∙◌, encode_utf8_all, sym}
use Rattle.command_outcome.specs.declared.outcome.Input.TheVariants as input
use Rattle.command_words.specs.Address.{is_address}
use Rattle.commands.specs.Verdict.{Coming, OfHostReady, OfRight, are_apart, hosting_of}
use Rattle.commands.proofs.OpeningLaws.{right_address, wrong_address}
use Rattle.commands.proofs.hosting.answer_ids.Goals as goal

pub returns-then-not-are_apart-clause-leads : goal.returns-then-not-are_apart-clause-leads
returns-then-not-are_apart-clause-leads c verdict comes =
    let next : Coming = OfRight input.Address (is_address (encode_utf8_all c.args.request.address)) (OfHostReady (hosting_of c.args.request c.args.on_demand c.args.ids)) in
    wrong_address input.Config (are_apart c.args.ids) next verdict (sym (rw c.as_slice.ensures at c.are_apart.ensures) ∙ c.if-not-are_apart.true) comes

pub returns-in-Ok-clause-leads : goal.returns-in-Ok-clause-leads
returns-in-Ok-clause-leads c verdict comes =
    let next : Coming = OfRight input.Address (is_address (encode_utf8_all c.args.request.address)) (OfHostReady (hosting_of c.args.request c.args.on_demand c.args.ids)) in
    right_address input.Config (are_apart c.args.ids) next verdict (sym (rw c.as_slice.ensures at c.are_apart.ensures) ∙ c.if-not-are_apart.false) (c.in-Ok.ensures.leads verdict comes)
