-- The replay of a log to a time that is past, when the log has gone on.
use Rattle.std.proofs.Common.{if◌then◌else◌, ℕ, ◌≡◌, ◌≤◌, Bool, false, List, [], ◌∷◌, ◌++◌, Some, ap, sym, ◌∙◌, nat_le, refl, arith}
use Rattle.std.proofs.lemmas.Bool.Decides.{nat_tests}
use Rattle.tea_base.specs.declared.entry.Entry.{Entry}
use Rattle.model_tree.specs.Tree.{ProgramTree}
use Rattle.model_solved.specs.Founding.{Founding}
use Rattle.world.specs.Worlds.{Scene, external, first_scene, replay, replay_from}
use Rattle.reflector_core.specs.PlainSession.{PlainSession}
use Rattle.reflector_core.specs.Answer.{answer}
use Rattle.reflector_core.specs.Growth.{AreLater, GrowsTo}
use Rattle.reflector_core.specs.declared.request.Request.{Request}
use Rattle.reflector_core.proofs.GrowthLaws.{GrowsTo-answer}
use Rattle.replica.specs.RealWorlds.{is_at_rest}
use Rattle.world_plain.specs.World.{WorldRecord}
use Rattle.drill.specs.Trust.{AllowsReplay}

replay_step : (program : ProgramTree) (t : ℕ) (entry : Entry) (rest : List Entry) (s : Scene) (early : Bool)
    → nat_le entry.time t ≡ early
    → replay_from program t (entry ∷ rest) s
    ≡ replay_from program t rest (if early then external program entry s else s)
replay_step program t entry rest s early is =
    ap (λ (b : Bool). replay_from program t rest (if b then external program entry s else s)) is

-- later entries are no part of it
pub replay_past
    : (program : ProgramTree) (t bound : ℕ) (log rest : List Entry) (s : Scene) → AreLater bound rest → t ≤ bound
    → replay_from program t (log ++ rest) s ≡ replay_from program t log s
replay_past program t bound [] [] s later le = refl
replay_past program t bound [] (entry ∷ rest) s later le =
    let early = later.0 in
    let out : nat_le entry.time t ≡ false = grind (arith, nat_tests) in
    replay_step program t entry rest s false out ∙ replay_past program t bound [] rest s later.1 le
replay_past program t bound (entry ∷ log) rest s later le =
    replay_past program t bound log rest (if nat_le entry.time t then external program entry s else s) later le

-- what is allowed stays so when the session goes on
pub allows_grown
    : (founding : Founding) (id : List ℕ) (s new : PlainSession) (time : ℕ) (bytes : List ℕ) → GrowsTo s new
    → AllowsReplay founding id s.log s.horizon time bytes → AllowsReplay founding id new.log new.horizon time bytes
allows_grown founding id s new time bytes grows allows =
    let scenes : replay founding id new.log time ≡ replay founding id s.log time =
    rw grows.log (replay_past founding.tree time s.horizon s.log grows.rest
    (first_scene founding id) grows.later allows.within) in
    let same : (replay founding id new.log time).world ≡ (replay founding id s.log time).world =
    ap (λ (scene : Scene). scene.world) scenes in
    record {
      within = omega (arith, allows.within, grows.horizon);
      replays = allows.replays ∙ ap (λ (w : WorldRecord). Some w) (sym same);
      timed = ap (λ (w : WorldRecord). w.time) same ∙ allows.timed;
      rests = ap is_at_rest same ∙ allows.rests;
    }

pub allows_stays
    : (founding : Founding) (id : List ℕ) (s : PlainSession) (request : Request) (time : ℕ) (bytes : List ℕ)
    → AllowsReplay founding id s.log s.horizon time bytes
    → AllowsReplay founding id (answer s request).session.log (answer s request).session.horizon time bytes
allows_stays founding id s request time bytes allows =
    allows_grown founding id s (answer s request).session time bytes (GrowsTo-answer s request) allows
