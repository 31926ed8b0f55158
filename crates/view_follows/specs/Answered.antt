-- Links whose frames come when they may: which ends of a view they keep away.
use Rattle.std.specs.Prelude.{◌≡◌, ℕ, ◌+◌, ◌≤◌, ◌<◌, List, [], ◌∷◌, ◌++◌, map, Option, Some}
use Rattle.byte_fields.specs.Fields.{whole}
use Rattle.tea_base.specs.Legal.{IsLegal}
use Rattle.tea_base.specs.declared.entry.Entry.{Entry}
use Rattle.tea_io.specs.Links.{most_quiets}
use Rattle.tea_io.specs.declared.link.Heard.TheVariants as said
use Rattle.model_solved.specs.Founding.{Founding, IsFounding}
use Rattle.wire_frames.specs.Reading.{client_at, server_at}
use Rattle.wire_frames.specs.Served.{Served}
use Rattle.wire_frames.specs.declared.frame.ServerFrame.{ServerFrame}
use Rattle.wire_frames.specs.declared.frame.ServerFrame.TheVariants.{Sync, Refused}
use Rattle.wire_frames.specs.declared.tags.TheConstants.{SNAP_TAG}
use Rattle.replica_plain.specs.Worlds.{Worlds}
use Rattle.replica_plain.specs.PlainReplica.{PlainReplica, published_count}
use Rattle.replica.specs.RealWorlds.{worlds}
use Rattle.run_steps.specs.Steps.{Step, Connects, Hears, Sends}
use Rattle.view_script.specs.PlainLine.{PlainLine}
use Rattle.view_shell.specs.declared.ending.ViewEnd.TheVariants as ending
use Rattle.view_shell.specs.Phases.{Aim, Over, Phase, Receiving, Viewer, Walks}
use Rattle.view_shell.specs.Viewers.{first_phase}
use Rattle.view_follows.specs.Links.{BeginsHonestly, LinkTalk}
use Rattle.view_follows.specs.Sessions.{ComesFrom}

-- ---- frames that come when they may

-- What was heard on a link are frames, and a log serves them to a connection that heard what was sent on it, or a first part of that, and
-- perhaps signs of life besides. If a Sync has a base, the base is honest.
pub record IsAnswered {W O : Type 0} (m : Worlds W O) (log : List Entry) (link : LinkTalk) : Type 0 where
  pub given : List (List ℕ)
  pub frames : List ServerFrame
  pub comes : ComesFrom given link.sent
  pub heard : map Some frames ≡ link.heard
  pub served : Served log (map (whole client_at) given) frames
  pub honest : BeginsHonestly m log frames

abbrev pub new_link : LinkTalk
new_link = record { sent = []; heard = [] }

-- So it is of each link whenever a frame is heard on it: no answer comes before what it answers. On the link in use this was sent and heard.
abbrev pub AreAnswered : {W O : Type 0} → Worlds W O → List Entry → LinkTalk → List Step → Type 0
AreAnswered m log link [] = Unit {0}
AreAnswered m log link (Connects address ∷ rest) = AreAnswered m log new_link rest
AreAnswered m log link (Sends bytes ∷ rest) = AreAnswered m log (record link { sent = link.sent ++ bytes ∷ [] }) rest
AreAnswered m log link (Hears (said.Frame bytes) ∷ rest) =
    let now : LinkTalk = record link { heard = link.heard ++ whole server_at bytes ∷ [] } in
    IsAnswered m log now × AreAnswered m log now rest
AreAnswered m log link (step ∷ rest) = AreAnswered m log link rest

-- a Sync counts at least those events of the view that were acknowledged, and at most those that it published
abbrev pub CountsEvents : {W O : Type 0} → PlainReplica W O → Option ServerFrame → Type 0
CountsEvents r (Some (Sync joined last from base)) = (r.acknowledged ≤ last) × (last ≤ published_count r)
CountsEvents r frame = Unit {0}

-- so does each that comes
abbrev pub SyncsCountEvents : Phase → List Step → Type 0
SyncsCountEvents from steps =
    (front back : List Step) (v : Viewer) (aim : Aim) (bytes : List ℕ)
    → front ++ Hears (said.Frame bytes) ∷ back ≡ steps → Walks from front (Receiving v aim)
    → CountsEvents v.replica (whole server_at bytes)

-- a program, a legal log, and steps of a view whose links it answered
pub record IsAnsweredVisit (founding : Founding) (id : List ℕ) (view : ℕ) (address : List ℕ) (lines : List PlainLine)
    (log : List Entry) (steps : List Step) : Type 0 where
  pub program : IsFounding founding
  pub legal : IsLegal log
  pub answers : AreAnswered (worlds founding id) log new_link steps
  pub counts : SyncsCountEvents (first_phase founding id view address lines) steps

-- ---- links that go on

-- no link says that it has ended, and none is quiet too often in a row; the one in use was so often quiet since it last said something else
abbrev pub GoOn : ℕ → List Step → Type 0
GoOn quiets [] = Unit {0}
GoOn quiets (Connects address ∷ rest) = GoOn 0 rest
GoOn quiets (Hears said.End ∷ rest) = ⊥
GoOn quiets (Hears said.Quiet ∷ rest) = (quiets + 1 < most_quiets) × GoOn (quiets + 1) rest
GoOn quiets (Hears what ∷ rest) = GoOn 0 rest
GoOn quiets (step ∷ rest) = GoOn quiets rest

-- ---- frames that are not refused

-- nothing is refused but a snapshot
abbrev pub RefusesNoOther : Option ServerFrame → Type 0
RefusesNoOther (Some (Refused about code kept more)) = about ≡ SNAP_TAG
RefusesNoOther frame = Unit {0}

abbrev pub RefuseNoOther : List Step → Type 0
RefuseNoOther [] = Unit {0}
RefuseNoOther (Hears (said.Frame bytes) ∷ rest) = RefusesNoOther (whole server_at bytes) × RefuseNoOther rest
RefuseNoOther (step ∷ rest) = RefuseNoOther rest

-- ---- laws

-- a view ends for its peer's fault only where its links were not answered so
abbrev pub AnsweredVisitsHaveNoFault : Type 0
AnsweredVisitsHaveNoFault = (founding : Founding) (id : List ℕ) (view : ℕ) (address : List ℕ) (lines : List PlainLine)
    (log : List Entry) (steps : List Step)
    → IsAnsweredVisit founding id view address lines log steps
    → ¬ Walks (first_phase founding id view address lines) steps (Over ending.Peer)

-- it ends with its link only where one said that it has ended, or was quiet too often
abbrev pub VisitsEndWithLinks : Type 0
VisitsEndWithLinks = (founding : Founding) (id : List ℕ) (view : ℕ) (address : List ℕ) (lines : List PlainLine)
    (steps : List Step)
    → GoOn 0 steps → ¬ Walks (first_phase founding id view address lines) steps (Over ending.Ended)

-- and with a refusal only where it heard one, of another frame than a snapshot
abbrev pub VisitsEndByRefusals : Type 0
VisitsEndByRefusals = (founding : Founding) (id : List ℕ) (view : ℕ) (address : List ℕ) (lines : List PlainLine)
    (steps : List Step) (code kept : ℕ)
    → RefuseNoOther steps → ¬ Walks (first_phase founding id view address lines) steps (Over (ending.Refused code kept))
