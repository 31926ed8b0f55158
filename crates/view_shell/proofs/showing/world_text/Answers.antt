use Rattle.std.proofs.Common.{◌≡◌, List, ap, subst, ◌∙◌, IfOk, string_bytes}
use Rattle.model_tree.specs.TreeView.{program_tree}
use Rattle.model_tree.specs.declared.tree.Class.{Class}
use Rattle.model_solved.specs.Founding.{CheckedView, checked_tree}
use Rattle.model_solved.specs.Methods.{field_counts}
use Rattle.world_lines.specs.WorldText.{full_text}
use Rattle.world_plain.specs.World.{WorldRecord, world_record}
use Rattle.view_shell.proofs.showing.world_text.Goals as goal

pub full_text-requires : goal.full_text-requires
full_text-requires c = (field_counts (checked_tree c.args.watcher.now.replica.program), c.in-Ok.ensures.valid)

pub returns-in-Ok : goal.returns-in-Ok
returns-in-Ok c =
    let w = c.args.watcher.now in
    let classes : c.classes.result.now ≡ w.replica.program.classes = c.classes.ensures.classes ∙ c.program.ensures.program ∙ ap (λ (p : CheckedView). p.classes) (c.deref.ensures ∙ c.requires.knows.program) in
    subst (λ (x : WorldRecord). IfOk c.full_text.result (λ text. string_bytes text ≡ full_text (checked_tree w.replica.program) x)) c.in-Ok.ensures.copy.1
    (subst (λ (cs : List Class). IfOk c.full_text.result (λ text. string_bytes text ≡ full_text (program_tree cs) (world_record c.in-Ok.world))) classes c.full_text.ensures)
