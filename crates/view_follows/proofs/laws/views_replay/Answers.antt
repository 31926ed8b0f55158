use Rattle.std.proofs.Common.{[], refl, sym, ◌∙◌}
use Rattle.replica.specs.RealWorlds.{worlds}
use Rattle.replica_plain.specs.PlainReplica.{new_replica}
use Rattle.replica_plain.proofs.SyncSteps.{first_world_follows}
use Rattle.view_shell.specs.Phases.{Printing}
use Rattle.view_shell.specs.Viewers.{first_phase}
use Rattle.view_follows.proofs.Replays.{replay_line, tells_replay}
use Rattle.view_follows.proofs.Shown.{shows_replay, walk_keeps}
use Rattle.view_follows.proofs.Stands.{rested_replays}
use Rattle.view_follows.proofs.Walking.{walk_ends, walk_offers, walk_prints, walk_tells}
use Rattle.view_follows.proofs.laws.views_replay.Goals as goal

pub returns : goal.returns
returns c = record {
  line = λ founding id view address lines log steps line visit.
      let m = worlds founding id in
      let laws = c.worlds_stand.ensures founding id visit.program in
      let told = walk_tells m laws log visit.legal view (first_phase founding id view address lines) steps line
      (record { same = refl; its = refl; follows = first_world_follows m log (new_replica m view) laws visit.legal refl refl refl }) visit.serves visit.walks in (
        replay_line founding id view log line (c.worlds_replay.ensures.replays founding id log) told,
        tells_replay founding id view log line (c.worlds_replay.ensures.replays founding id log) told,
      );
  done = λ founding id view address lines log steps visit.
      let m = worlds founding id in
      let laws = c.worlds_stand.ensures founding id visit.program in
      let ends = walk_ends m laws log visit.legal view (first_phase founding id view address lines) steps
      (record { same = refl; its = refl; follows = first_world_follows m log (new_replica m view) laws visit.legal refl refl refl }) visit.serves visit.walks in
      record { front = ends.front; line = ends.line; last = ends.last; replayed = replay_line founding id view log ends.line (c.worlds_replay.ensures.replays founding id log) ends.tells; tells = tells_replay founding id view log ends.line (c.worlds_replay.ensures.replays founding id log) ends.tells };
  offers = λ founding id view address lines log steps last visit.
      let m = worlds founding id in
      let laws = c.worlds_stand.ensures founding id visit.program in
      walk_offers m laws log visit.legal view (first_phase founding id view address lines) steps last
      (record { same = refl; its = refl; follows = first_world_follows m log (new_replica m view) laws visit.legal refl refl refl }) visit.serves visit.walks;
  shows = λ founding id view address lines log steps v text rest visit is.
      let m = worlds founding id in
      let laws = c.worlds_stand.ensures founding id visit.program in
      let reads = walk_prints m laws log visit.legal view (first_phase founding id view address lines) steps v text
      (record { same = refl; its = refl; follows = first_world_follows m log (new_replica m view) laws visit.legal refl refl refl }) visit.serves visit.walks in
      let has = rested_replays m log view laws visit.legal v.worlds v.replica [] reads in
      shows_replay founding id log v rest (walk_keeps founding.tree (first_phase founding id view address lines) (Printing v text) steps refl visit.walks)
      (has.replayed ∙ sym (c.worlds_replay.ensures.replays founding id log _));
}
