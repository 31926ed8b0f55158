use Rattle.std.proofs.Common.{◌<◌, [], length, sym, ap, ◌∙◌, arith}
use Rattle.std.proofs.lemmas.List.{drop_all}
use Rattle.model_value.proofs.Plains.{plain-Nil}
use Rattle.commands.specs.Verdict.{text_in}
use Rattle.commands.proofs.HostLaws.{id_by, text_here, text_later}
use Rattle.commands.proofs.hosting.host_id.Goals as goal

pub returns-then-is_name : goal.returns-then-is_name
returns-then-is_name c =
    let within : c.loop-found.found-index < length c.args.read.now = omega arith in
    id_by c.args.read.now c.args.line.now c.found-item.result.text c.session_id.result (rw plain-Nil at (rw c.bytes.ensures at c.session_id.ensures))
    (c.loop-found.invariant ∙ text_here c.args.read.now c.loop-found.found-index c.found-item.result c.args.line.now.program within c.found-item.is (sym c.is_name.ensures ∙ c.if-is_name.true))

pub loop-found-preserved : goal.loop-found-preserved
loop-found-preserved c =
    let within : c.loop-found.found-index < length c.args.read.now = omega arith in
    c.loop-found.invariant ∙ text_later c.args.read.now c.loop-found.found-index c.found-item.result c.args.line.now.program within c.found-item.is (sym c.is_name.ensures ∙ c.if-is_name.false)

pub returns : goal.returns
returns c =
    id_by c.args.read.now c.args.line.now [] c.session_id-2.result (rw plain-Nil at c.session_id-2.ensures)
    (c.loop-found.invariant ∙ ap (λ left. text_in left c.args.line.now.program) (drop_all c.loop-found.found-index c.args.read.now c.loop-found-test.false))
