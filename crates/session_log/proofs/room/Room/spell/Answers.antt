use Rattle.std.proofs.Common.{arith}
use Rattle.std.specs.Option.{option_map}
use Rattle.session_log.specs.Stored.{lent_kept, plain_of}
use Rattle.session_log.proofs.StoredBounds.{room_most}
use Rattle.session_log.proofs.room.Room.spell.Goals as goal

pub write_stored-requires-clause-room : goal.write_stored-requires-clause-room
write_stored-requires-clause-room c = omega (arith, room_most (plain_of c.args.log.now.entries c.args.horizon (option_map lent_kept c.args.kept)) c.requires)
