use Rattle.std.proofs.Common.{refl}
use Rattle.replica.specs.RealWorlds.{worlds}
use Rattle.replica_plain.specs.PlainReplica.{new_replica}
use Rattle.replica_plain.proofs.SyncSteps.{first_world_follows}
use Rattle.live_view.specs.Script.{first_state}
use Rattle.view_follows.specs.Answered.{new_link}
use Rattle.view_follows.proofs.LiveAnswering.{live_answered, live_replays}
use Rattle.view_follows.proofs.Replays.{replay_line, tells_replay}
use Rattle.view_follows.proofs.LiveEnds.{live_never_ends, live_never_by_peer, live_never_faults, live_never_refused}
use Rattle.view_follows.proofs.laws.live_ends_are_caused.Goals as goal

pub returns : goal.returns
returns c = record {
  ended = λ founding id view address inputs goes over. live_never_ends (first_state founding id view address) inputs 0 tt goes over;
  refused = λ founding id view address inputs code kept none over. live_never_refused code kept (first_state founding id view address) inputs 0 tt none over;
  failed = λ founding id view address inputs work over. live_never_faults (first_state founding id view address) inputs 0 tt work over;
  peer = λ founding id view address inputs well over. live_never_by_peer (first_state founding id view address) inputs 0 tt well over;
  answered = λ founding id view address log inputs live fits over.
      let m = worlds founding id in
      let laws = c.worlds_stand.ensures founding id live.program in
      live_answered m log view laws live.legal (first_state founding id view address) inputs new_link
      (record { same = refl; its = refl; follows = first_world_follows m log (new_replica m view) laws live.legal refl refl refl }) fits live.answers live.counts over;
  replays = λ founding id view address log inputs live fits over.
      let m = worlds founding id in
      let laws = c.worlds_stand.ensures founding id live.program in
      let same = c.worlds_replay.ensures.replays founding id log in
      let ends = live_replays m log view laws live.legal (first_state founding id view address) inputs new_link tt
      (record { same = refl; its = refl; follows = first_world_follows m log (new_replica m view) laws live.legal refl refl refl }) fits live.answers live.counts over in
      record { front = ends.front; line = ends.line; is = ends.is; replayed = replay_line founding id view log ends.line same ends.tells; tells = tells_replay founding id view log ends.line same ends.tells };
}
