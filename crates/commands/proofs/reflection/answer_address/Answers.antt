use Rattle.std.proofs.Common.{◌∙◌, encode_utf8_all, sym}
use Rattle.command_outcome.specs.declared.outcome.Input.TheVariants as input
use Rattle.command_words.specs.Address.{is_address}
use Rattle.commands.specs.Verdict.{Coming, OfPersisted, OfServed, session_id_of}
use Rattle.commands.proofs.OpeningLaws.{right_address, wrong_address}
use Rattle.commands.proofs.reflection.answer_address.Goals as goal

pub returns-then-not-branch-clause-leads : goal.returns-then-not-branch-clause-leads
returns-then-not-branch-clause-leads c verdict comes =
    let next : Coming = OfPersisted c.args.request.persisted (λ v. OfServed c.args.request (session_id_of c.args.request.name c.args.text v)) in
    wrong_address input.Address (is_address (encode_utf8_all c.args.request.address)) next verdict (sym (rw c.as_str.ensures at c.in_ok-is_address.ensures) ∙ c.if-not-branch.true) comes

pub returns-clause-leads : goal.returns-clause-leads
returns-clause-leads c verdict comes =
    let next : Coming = OfPersisted c.args.request.persisted (λ v. OfServed c.args.request (session_id_of c.args.request.name c.args.text v)) in
    right_address input.Address (is_address (encode_utf8_all c.args.request.address)) next verdict (sym (rw c.as_str.ensures at c.in_ok-is_address.ensures) ∙ c.if-not-branch.false) (c.begin.ensures.leads verdict comes)
