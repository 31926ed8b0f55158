use Rattle.std.proofs.Common.{sym, List, ℕ}
use Rattle.commands.specs.Verdict.{ByKeeping, Coming, OfUnkept, Only, at_once, keeping_of}
use Rattle.commands.proofs.OpeningLaws.{with_journal, without_journal}
use Rattle.commands.proofs.reflection.open.Goals as goal

pub returns-in-Some-clause-leads : goal.returns-in-Some-clause-leads
returns-in-Some-clause-leads c verdict comes =
    let keeps : List ℕ → Coming = λ journal. Only (at_once (ByKeeping (keeping_of c.args.request c.args.id.0 journal))) in
    with_journal c.args.request.journal c.in-Some.journal (OfUnkept c.args.request c.args.id.0) keeps verdict (sym c.in-Some.ensures.value) (c.keep.ensures.leads verdict comes)

pub returns-in-None-clause-leads : goal.returns-in-None-clause-leads
returns-in-None-clause-leads c verdict comes =
    let keeps : List ℕ → Coming = λ journal. Only (at_once (ByKeeping (keeping_of c.args.request c.args.id.0 journal))) in
    without_journal c.args.request.journal (OfUnkept c.args.request c.args.id.0) keeps verdict (sym c.in-None.ensures.value) (c.begin_session.ensures.leads verdict comes)
