use Rattle.std.proofs.Common.{arith, ◌≡◌, length, map, ap, ◌∙◌}
use Rattle.model_tree.specs.TreeView.{method_tree}
use Rattle.model_tree.specs.declared.tree.Class.{Class}
use Rattle.model_solved.specs.SolvedView.{solved_statements}
use Rattle.model_check.proofs.Blocks.{method_solved}
use Rattle.model_check.proofs.class.method.Goals as goal

pub returns : goal.returns
returns c =
    let classes = map (λ (k : Class). k.name) c.args.classes.now in
    let scope = c.in_ok-scope.scope in
    let once = rw c.deref.ensures.value at c.in_ok-all_once.ensures.0 in
    let body = rw c.deref-3.ensures.value at c.in_ok-body.ensures.solved in
    let count : c.len.result ≡ length c.args.method.now.params.items = omega (arith, c.len.ensures, c.args.method.now.params.ok) in
    let slots = rw c.deref-3.ensures.value at c.in_ok-body.ensures.slots in
    method_solved classes c.args.fields.now (method_tree c.args.method.now) scope.names.items c.len.result scope.slots c.block.new.scope.slots (solved_statements c.in_ok-body.body.items) once (c.in_ok-scope.ensures.names ∙ c.deref-2.ensures.value) count (c.in_ok-scope.ensures.slots ∙ ap length c.deref-2.ensures.value) body slots
