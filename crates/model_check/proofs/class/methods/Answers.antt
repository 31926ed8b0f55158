use Rattle.std.proofs.Common.{◌≡◌, take, sym, ◌∙◌, map}
use Rattle.std.proofs.lemmas.List.{take_all, at_drop_all}
use Rattle.model_tree.specs.TreeView.{method_tree}
use Rattle.model_tree.specs.declared.tree.Class.{Class}
use Rattle.model_solved.specs.Faults.{first_of, faults_of_methods}
use Rattle.model_check.proofs.Trees.{map-methods}
use Rattle.model_check.proofs.class.methods.Goals as goal

pub returns : goal.returns
returns c =
    let classes = map (λ (k : Class). k.name) c.args.classes.now in
    let fields = c.args.fields.now in
    let ms = c.args.methods.now in
    let i = c.loop-i.i in
    let all : take i ms ≡ ms = take_all i ms c.loop-i-test.false in (
      sym c.loop-i.invariant.faults ∙ at_drop_all (λ rest. first_of (faults_of_methods classes fields (map (λ m. m.name) (take i ms)) (map method_tree rest))) ms i c.loop-i-test.false,
      (rw all at c.loop-i.invariant.solved) ∙ map-methods classes fields ms,
    )
