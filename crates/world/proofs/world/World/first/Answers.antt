use Rattle.std.proofs.Common.{◌≡◌, ◌∙◌, List, ℕ, false, ap, sym, subst}
use Rattle.std.specs.Arc.{arc_value}
use Rattle.world_plain.specs.Valid.{Valid}
use Rattle.model_solved.specs.Founding.{CheckedView, checked_tree, founding_of, IsFounding}
use Rattle.world.specs.Worlds.{Scene, first_scene, field_counts}
use Rattle.world.specs.View.{scene, IsSoundWorld}
use Rattle.world.proofs.FirstWorld.{first-valid}
use Rattle.world.proofs.Replays.{first-begins}
use Rattle.world.proofs.Turn.{program-fits}
use Rattle.world.proofs.world.World.first.Goals as goal

sound : (program : CheckedView) (id : List ℕ) (s : Scene) → IsFounding (founding_of program) → s ≡ first_scene (founding_of program) id → IsSoundWorld (record { program = program; scene = s; broken = false })
sound program id s f e = record {
  program = f;
  valid = λ _. subst (λ (u : Scene). Valid (field_counts (checked_tree program)) u.world) (sym e) (first-valid (founding_of program) id f.persisted (program-fits (checked_tree program) f.program));
  quiet = λ h. cc;
}

pub invariant_of-result : goal.invariant_of-result
invariant_of-result c = sound (arc_value c.args.program) c.args.id.0 (scene c.in_ok-state.state) (rw (← c.deref.ensures) c.in_ok-state.ensures.founding) (rw (← c.deref.ensures) c.in_ok-state.ensures.first)

pub returns-clause-begins : goal.returns-clause-begins
returns-clause-begins c =
    let founding = founding_of c.deref.result.now in
    ap (λ (s : Scene). s.world.time) c.in_ok-state.ensures.first ∙ first-begins founding (program-fits founding.tree c.in_ok-state.ensures.founding.program) c.args.id.0
