use Rattle.std.proofs.Common.{refl}
use Rattle.replica.specs.RealWorlds.{worlds}
use Rattle.replica_plain.specs.PlainReplica.{new_replica}
use Rattle.replica_plain.proofs.SyncSteps.{first_world_follows}
use Rattle.replica_plain.specs.declared.how.How.TheVariants.{Fresh}
use Rattle.view_shell.specs.Viewers.{first_phase, first_viewer}
use Rattle.view_follows.proofs.Answering.{joins_never_by_peer}
use Rattle.view_follows.proofs.Endings.{never_ends, never_refused}
use Rattle.view_follows.proofs.laws.ends_are_caused.Goals as goal

pub returns : goal.returns
returns c = record {
  peer = λ founding id view address lines log steps visit walks.
      let m = worlds founding id in
      let laws = c.worlds_stand.ensures founding id visit.program in
      joins_never_by_peer m log view laws visit.legal (first_viewer founding id view address lines) Fresh steps
      (record { same = refl; its = refl; follows = first_world_follows m log (new_replica m view) laws visit.legal refl refl refl }) visit.answers visit.counts walks;
  ended = λ founding id view address lines steps goes walks. never_ends (first_phase founding id view address lines) steps 0 tt goes walks;
  refused = λ founding id view address lines steps code kept none walks. never_refused code kept (first_phase founding id view address lines) steps 0 tt none walks;
}
