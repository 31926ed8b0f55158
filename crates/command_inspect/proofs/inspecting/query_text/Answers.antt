use Rattle.std.proofs.Common.{◌≡◌, ℕ, List, ap, subst, ◌∙◌, IfOk, string_bytes}
use Rattle.model_tree.specs.TreeView.{program_tree}
use Rattle.model_tree.specs.declared.tree.Class.{Class}
use Rattle.model_solved.specs.Founding.{CheckedView, checked_tree, founding_of}
use Rattle.world_plain.specs.World.{WorldRecord, world_record}
use Rattle.world.specs.View.{WorldView}
use Rattle.world.specs.Worlds.{replay}
use Rattle.command_inspect.specs.InspectText.{world_text}
use Rattle.command_inspect.specs.Queries.{time_of}
use Rattle.command_inspect.proofs.inspecting.query_text.Goals as goal

pub returns : goal.returns
returns g c =
    let line = c.args.line.now in
    let is : world_record c.in_ok-plain.plain ≡ (replay (founding_of line.program) line.id line.entries (time_of c.args.query)).world =
    c.in_ok-plain.ensures.copy
    ∙ ap (λ (v : WorldView). v.scene.world) c.in_ok-world.ensures.world
    ∙ ap (λ (t : ℕ). (replay (founding_of line.program) line.id line.entries t).world) c.time.ensures in
    let classes : c.classes.result.now ≡ line.program.classes = c.classes.ensures.classes ∙ c.program-2.ensures.program ∙ ap (λ (p : CheckedView). p.classes) c.program.ensures in
    subst (λ (w : WorldRecord). IfOk c.world_text.result (λ text. string_bytes text ≡ world_text (checked_tree line.program) c.args.query w)) is
    (subst (λ (cs : List Class). IfOk c.world_text.result (λ text. string_bytes text ≡ world_text (program_tree cs) c.args.query (world_record c.in_ok-plain.plain))) classes c.world_text.ensures)
