use Rattle.std.proofs.Common.{ℕ, List, ◌≡◌, ◌++◌, ap, sym, subst, ◌∙◌, string_bytes}
use Rattle.std.specs.Arc.{arc_value}
use Rattle.model_tree.specs.TreeView.{program_tree}
use Rattle.model_tree.specs.declared.tree.Class.{Class}
use Rattle.model_solved.specs.Founding.{CheckedView, checked_tree, founding_of}
use Rattle.world.specs.View.{WorldView}
use Rattle.world.specs.Worlds.{Scene, first_scene}
use Rattle.command_trace.specs.Steps.{first_steps, steps_on}
use Rattle.command_trace.specs.TraceText.{steps_text}
use Rattle.command_trace.proofs.LogLaws.{trace_told}
use Rattle.command_trace.proofs.tracing.trace.Goals as goal

pub returns : goal.returns
returns c =
    let p : CheckedView = arc_value c.args.program in
    let id = c.args.id.0 in
    let from = c.args.stretch.from in
    let to = c.args.stretch.to in
    let entries = c.args.log.now.entries in
    let w : WorldView = c.in_ok-world.world in
    let first = string_bytes c.tell_first.new.text in
    let scene : w.scene ≡ first_scene (founding_of p) id =
    ap (λ (v : WorldView). v.scene) c.in_ok-world.ensures.first ∙ ap (λ (q : CheckedView). first_scene (founding_of q) id) c.in_ok-clone.ensures.cases in
    let program : w.program ≡ p = ap (λ (v : WorldView). v.program) c.in_ok-world.ensures.first ∙ c.in_ok-clone.ensures.cases in
    let classes : c.classes-classes.result.now ≡ p.classes = c.classes-classes.ensures.classes ∙ c.program.ensures.program ∙ ap (λ (q : CheckedView). q.classes) c.deref-2.ensures in
    let begins =
    subst (λ (q : CheckedView). first ≡ string_bytes c.new-text.result ++ steps_text (checked_tree q) from (first_steps (founding_of q) id)) c.deref.ensures
    (c.in_ok-tell_first.ensures id (scene ∙ ap (λ (q : CheckedView). first_scene (founding_of q) id) (sym c.deref.ensures))) in
    let goes =
    c.in_ok-tell_log.ensures
    ∙ ap (λ (cs : List Class). first ++ steps_text (program_tree cs) from (steps_on (checked_tree w.program) to entries w.scene)) classes
    ∙ ap (λ (q : CheckedView). first ++ steps_text (checked_tree p) from (steps_on (checked_tree q) to entries w.scene)) program
    ∙ ap (λ (s : Scene). first ++ steps_text (checked_tree p) from (steps_on (checked_tree p) to entries s)) scene in
    trace_told (founding_of p) id entries from to (string_bytes c.new-text.result) first (string_bytes c.tell_log.new.text) c.new-text.ensures.bytes begins goes
