-- A live view's run ends with its links, refused, by its peer, or by a fault of the net only where its links caused it.
use Rattle.std.specs.Prelude.{◌≡◌, ◌≢◌, ◌⊎◌, List, Option}
use Rattle.tea_base.specs.declared.entry.Entry.{Entry}
use Rattle.tea_io.specs.Told.{Rose}
use Rattle.run_steps.specs.Outside.{FilesTell, LinksTell, NetTells, Outside, OutputTells, outside_tells}
use Rattle.live_view.specs.declared.input.LiveInput.{LiveInput}
use Rattle.live_view.specs.Live.{LiveState, live_run}
use Rattle.live_view.specs.Script.{first_state}
use Rattle.live_shell.specs.LiveRun.{inputs_in}
use Rattle.live_shell.specs.LiveSteps.{FeedTells}
use Rattle.view_follows.specs.Answered.{GoOn, RefuseNoOther}
use Rattle.view_follows.specs.LiveAnswers.{EndsInReplayText, IsAnsweredLive}
use Rattle.view_follows.specs.LiveEnds.{TakesAllWell, link_steps}
use Rattle.command_words.specs.declared.words.Command.{Command}
use Rattle.commands.specs.Verdict.{Comes, PlainLive}
use Rattle.croquet.specs.declared.status.Status.{Status}
use Rattle.croquet.specs.declared.status.Status.TheVariants as status
use Rattle.croquet.specs.Run.{RanAsLive}

abbrev pub first_of : PlainLive → LiveState
first_of live = first_state live.founding live.id live.view live.address

-- the count of the net's faults has risen, or that of the faults of links that went back to it
abbrev pub NetFaultRose : {N L : Type 0} → NetTells N L → N → N → Type 0
NetFaultRose net old new = Rose (net.faults old) (net.faults new)
    ⊎ Rose (net.link_counts old).faults (net.link_counts new).faults

-- Of a live view that was told this, and whose run has done this to the net: which of it leads to which end. Where its links went on it does not
-- end with them. Where nothing was refused but a snapshot it does not end refused. Where each frame that it heard was taken without a fault of the
-- peer, it finds none. It finds none either where one legal log answered its links; and where it is done then, the text of all that it was told
-- ends with the line of the replay of this log. It ends with a fault of the net only where that was counted.
pub record OnlyByLiveLinks {N L : Type 0} (net : NetTells N L) (live : PlainLive) (inputs : List LiveInput)
    (old new : N) (result : Status) : Type 0 where
  pub ended : GoOn 0 (link_steps (first_of live) inputs) → result ≢ status.Ended
  pub refused : RefuseNoOther (link_steps (first_of live) inputs) → result ≢ status.Refused
  pub peer : TakesAllWell (first_of live) inputs → result ≢ status.Peer
  pub answered : (log : List Entry) → IsAnsweredLive live.founding live.id live.view live.address log inputs
      → result ≢ status.Peer
  pub replays : (log : List Entry) → IsAnsweredLive live.founding live.id live.view live.address log inputs
      → result ≡ status.Ok
      → EndsInReplayText live.founding live.id live.view log (live_run (first_of live) inputs).text
  pub failed : result ≡ status.NetFault → NetFaultRose net old new

-- so of each command that has run as a live view
abbrev pub LiveEndsAreCaused : {K F W N L : Type 0} → FilesTell F → FeedTells K → OutputTells W → NetTells N L
    → LinksTell L → Type 0
LiveEndsAreCaused {K = K} {F = F} {W = W} {N = N} {L = L} files feed out net links =
    (command : Option Command) (old new : Outside F W N L) (k k' : K) (result : Status)
    (ran : RanAsLive (outside_tells files out net links) feed (Comes command) old new k k' result)
    → OnlyByLiveLinks net ran.live (inputs_in ran.lives.0.stopped.turns) ran.ready.net ran.lived.net result
