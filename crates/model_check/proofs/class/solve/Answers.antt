use Rattle.std.proofs.Common.{◌≡◌, take, sym, ◌∙◌, map}
use Rattle.std.proofs.lemmas.List.{take_all, at_drop_all}
use Rattle.model_tree.specs.TreeView.{class_tree}
use Rattle.model_tree.specs.declared.tree.Class.{Class}
use Rattle.model_solved.specs.Faults.{first_of, faults_of_classes}
use Rattle.model_check.proofs.Trees.{map-classes}
use Rattle.model_check.proofs.class.solve.Goals as goal

pub returns : goal.returns
returns c =
    let cs = c.args.classes.now in
    let names = map (λ (k : Class). k.name) cs in
    let i = c.loop-i.i in
    let all : take i cs ≡ cs = take_all i cs c.loop-i-test.false in (
      sym c.loop-i.invariant.faults ∙ at_drop_all (λ rest. first_of (faults_of_classes names (map (λ k. k.name) (take i cs)) (map class_tree rest))) cs i c.loop-i-test.false,
      (rw all at c.loop-i.invariant.solved) ∙ map-classes names cs,
    )
