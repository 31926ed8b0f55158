use Rattle.std.proofs.Common.{◌≡◌, ℕ, ◌*◌, map, take, sym, subst, IfOk, rules}
use Rattle.std.specs.Arc.{arc_value}
use Rattle.tea_base.proofs.LogLaws.{TimesRise-legal}
use Rattle.tea_base.specs.Legal.{TimesRiseAfter}
use Rattle.model_solved.specs.Founding.{CheckedView, checked_tree, founding_of}
use Rattle.world_plain.specs.World.{world_record}
use Rattle.world.specs.View.{WorldView}
use Rattle.world.specs.Worlds.{first_scene}
use Rattle.time_line.specs.Keyframes.{AreFrom, after_entries}
use Rattle.time_line.proofs.LineLaws.{calm}
use Rattle.time_line.proofs.frames.keyframes.Goals as goal

pub frames_from-requires-clause-rises : goal.frames_from-requires-clause-rises
frames_from-requires-clause-rises c =
    subst (λ (t : ℕ). TimesRiseAfter t c.args.log.now.entries) (sym c.in_ok-world.ensures.begins) (TimesRise-legal c.args.log.now.entries c.requires.legal)

pub returns-clause-each : goal.returns-clause-each
returns-clause-each c =
    let same : arc_value c.in_ok-clone.field-0 ≡ arc_value c.args.program.now = search rules in
    let first : c.in_ok-world.world ≡ calm (arc_value c.args.program.now) (first_scene (founding_of (arc_value c.args.program.now)) c.args.id.0).world =
    subst (λ (p : CheckedView). c.in_ok-world.world ≡ calm p (first_scene (founding_of p) c.args.id.0).world) same c.in_ok-world.ensures.first in
    subst (λ (w : WorldView). IfOk c.frames_from.result (λ frames. AreFrom (λ (k : ℕ). after_entries (checked_tree w.program) w.scene.world (take (k * c.args.every) c.args.log.now.entries)) 0 (map world_record frames.items))) first
    c.frames_from.ensures.each
