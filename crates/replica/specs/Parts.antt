-- What is seen of the parts of a replica.
use Rattle.world_plain.specs.Messages.{PlainOutgoing}
use Rattle.world_plain.specs.World.{WorldRecord}
use Rattle.replica_plain.specs.PlainReplica.{PlainReplica}
use Rattle.replica.specs.declared.replica.Replica.TheInside.{Inside}
use Rattle.replica.specs.View.{ReplicaView}

abbrev pub plain_part : Inside → PlainReplica WorldRecord PlainOutgoing
plain_part r =
    record {
      view = r.view;
      world = r.world.world;
      out = r.world.out;
      broken = r.world.broken;
      seen = r.seen;
      outbox = r.outbox;
      acknowledged = r.acknowledged;
      given = r.given;
      awaited = r.awaited;
      synced = r.synced;
      base = r.base;
    }

abbrev pub replica_view : Inside → ReplicaView
replica_view r = record { program = r.world.program; id = r.world.id; plain = plain_part r }
