use Rattle.std.proofs.Common.{Result, Ok, Err, OnOk, sym, subst}
use Rattle.std.specs.Prelude.{⊤}
use Rattle.world_state.specs.Answer.{world_of}
use Rattle.world_plain.specs.Valid.{Valid}
use Rattle.model_solved.specs.Founding.{checked_tree}
use Rattle.tea_base.specs.declared.want.WantOfMemory.{WantOfMemory}
use Rattle.world.specs.Worlds.{Scene, field_counts}
use Rattle.world.specs.View.{scene}
use Rattle.world.proofs.Turn.{program-fits}
use Rattle.world.proofs.Running.{begun-valid}
use Rattle.world.proofs.Entries.{entered-valid}
use Rattle.world.proofs.simulation.external.Goals as goal

on_ok : (r : Result ⊤ WantOfMemory) (P Q : Type 0) → (P → Q) → OnOk r P → OnOk r Q
on_ok (Ok x) P Q f h = f h
on_ok (Err e) P Q f h = tt

pub returns-clause-valid : goal.returns-clause-valid
returns-clause-valid c =
    let tree = checked_tree c.args.program.now in
    let counts = field_counts tree in
    let fits = program-fits tree c.requires.program in
    let began : Valid counts (scene c.begin.new.state).world = subst (λ (s : Scene). Valid counts s.world) (sym c.begin.ensures) (begun-valid counts (world_of c.advance.new.state) c.in_ok-advance.ensures.valid) in
    on_ok c.enter.result _ _
    (λ e. subst (λ (s : Scene). Valid counts s.world) (sym e) (entered-valid counts tree c.args.entry.now.what c.args.entry.now.view (scene c.begin.new.state) fits began))
    c.enter.ensures
