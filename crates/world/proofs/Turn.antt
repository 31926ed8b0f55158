-- One turn of the loop that advances a world, and its end.
use Rattle.std.proofs.Common.{◌≡◌, ℕ, ◌<◌, List, Some, None, refl, sym, ap, ◌∙◌, subst}
use Rattle.world_plain.specs.Messages.{PlainMessage}
use Rattle.world_plain.specs.Valid.{Valid}
use Rattle.model_tree.specs.Tree.{ProgramTree}
use Rattle.model_tree.specs.Program.{IsProgram}
use Rattle.model_tree.proofs.Names.{program-names}
use Rattle.model_tree.proofs.Fitting.{program-fits as passed-fits}
use Rattle.world.specs.Worlds.{Scene, scene_with_world, with_next_turn, at_later_time, due, after_method, after_message, enough, on_due, advance, field_counts}
use Rattle.world.proofs.Running.{Fits}
use Rattle.world.proofs.Moving.{due-some}
use Rattle.world.proofs.Advancing.{handled-valid, enough-falls, advance-step}

pub program-fits : (program : ProgramTree) → IsProgram program → Fits (field_counts program) program
program-fits program p = record { counted = refl; classes = (passed-fits program p.1.spelled.fits).1; names = program-names program p }

-- the scene that a turn leaves
pub turned : (program : ProgramTree) (m : PlainMessage) (rest : List PlainMessage) (s taken after : Scene) → taken ≡ scene_with_world s (record (s.world) { pending = rest }) → after ≡ after_method program m.object m.method m.args (scene_with_world taken (with_next_turn (at_later_time m.time taken.world))) → after ≡ after_message program m rest s
turned program m rest s taken after e h = h ∙ ap (λ (u : Scene). after_method program m.object m.method m.args (scene_with_world u (with_next_turn (at_later_time m.time u.world)))) e

pub turn-valid : (program : ProgramTree) (t : ℕ) (m : PlainMessage) (rest : List PlainMessage) (s after : Scene) → IsProgram program → Valid (field_counts program) s.world → due t s.world.pending ≡ Some (m, rest) → after ≡ after_message program m rest s → Valid (field_counts program) after.world
turn-valid program t m rest s after p v d e =
    let f = due-some t s.world.pending m rest d in
    subst (λ (u : Scene). Valid (field_counts program) u.world) (sym e) (handled-valid (field_counts program) program m rest s (program-fits program p) f.first v)

pub turn-falls : (program : ProgramTree) (t : ℕ) (m : PlainMessage) (rest : List PlainMessage) (s after : Scene) → IsProgram program → Valid (field_counts program) s.world → due t s.world.pending ≡ Some (m, rest) → after ≡ after_message program m rest s → enough t after.world < enough t s.world
turn-falls program t m rest s after p v d e =
    let f = due-some t s.world.pending m rest d in
    subst (λ (u : Scene). enough t u.world < enough t s.world) (sym e) (enough-falls (field_counts program) program t m rest s (program-fits program p) v f.first f.time)

pub turn-same : (program : ProgramTree) (t : ℕ) (m : PlainMessage) (rest : List PlainMessage) (s after : Scene) → IsProgram program → Valid (field_counts program) s.world → due t s.world.pending ≡ Some (m, rest) → after ≡ after_message program m rest s → advance program t after ≡ advance program t s
turn-same program t m rest s after p v d e =
    ap (advance program t) e
    ∙ ap (λ o. on_due program t (advance program t) o s) (sym d)
    ∙ sym (advance-step (field_counts program) program t s (program-fits program p) v)

-- where nothing is due, the world arrives
pub arrived : (program : ProgramTree) (t : ℕ) (s after : Scene) → IsProgram program → Valid (field_counts program) s.world → due t s.world.pending ≡ None → after ≡ scene_with_world s (at_later_time t s.world) → after ≡ advance program t s
arrived program t s after p v d e =
    e
    ∙ ap (λ o. on_due program t (advance program t) o s) (sym d)
    ∙ sym (advance-step (field_counts program) program t s (program-fits program p) v)
