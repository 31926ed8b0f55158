-- A replay that goes on from the world of a snapshot.
use Rattle.std.proofs.Common.{◌≡◌, ℕ, ◌≤◌, ◌<◌, List, ap, refl, ◌∙◌}
use Rattle.std.proofs.lemmas.Bool.{lt-ltb, le-ltb}
use Rattle.tea_base.specs.Legal.{IsLegal}
use Rattle.tea_base.specs.declared.entry.Entry.{Entry}
use Rattle.model_tree.specs.Tree.{ProgramTree}
use Rattle.model_solved.specs.Founding.{Founding, IsFounding}
use Rattle.model_solved.specs.Methods.{field_counts}
use Rattle.tea_base.specs.Limits.{time_limit}
use Rattle.world_plain.specs.Valid.{Valid}
use Rattle.world_plain.specs.World.{WorldRecord}
use Rattle.world.specs.Worlds.{replay, replay_on}
use Rattle.replica_plain.specs.Worlds.{WorldFollows}
use Rattle.replica.specs.RealWorlds.{worlds}
use Rattle.command_outcome.specs.declared.outcome.Input.TheVariants as input
use Rattle.command_outcome.specs.declared.outcome.CommandRefusal.TheVariants as refusal
use Rattle.command_words.specs.declared.words.ReplayRequest.{ReplayRequest}
use Rattle.commands.specs.Laws.{SnapshotsAgree}
use Rattle.commands.specs.Verdict.{ByRefusal, at_once, resumed_verdict, world_verdict}

-- its time is above the one that is asked for
pub early_verdict : (request : ReplayRequest) (tree : ProgramTree) (log : List Entry) (w : WorldRecord) → request.time < w.time → resumed_verdict request tree log w ≡ at_once (ByRefusal (refusal.Input input.Time))
early_verdict request tree log w early = rw (lt-ltb request.time w.time early) refl

-- or not
pub late_verdict : (request : ReplayRequest) (tree : ProgramTree) (log : List Entry) (w : WorldRecord) → w.time ≤ request.time → resumed_verdict request tree log w ≡ world_verdict request (replay_on tree w log request.time).world
late_verdict request tree log w late = rw (le-ltb request.time w.time late) refl

-- what `replica::resumed_follows` says
abbrev pub ResumedFollows : Type 0
ResumedFollows =
    (founding : Founding) (w : WorldRecord) (entries : List Entry) (t : ℕ) → IsFounding founding → Valid (field_counts founding.tree) w → IsLegal entries → w.time ≤ t → t < time_limit → WorldFollows (worlds founding w.id) entries w
    → (replay_on founding.tree w entries t).world ≡ (replay founding w.id entries t).world

pub snapshots-agree : ResumedFollows → SnapshotsAgree
snapshots-agree law request founding log w is valid legal late below follows =
    late_verdict request founding.tree log w late ∙ ap (world_verdict request) (law founding w log request.time is valid legal late below follows)
