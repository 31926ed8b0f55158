use Rattle.std.proofs.Common.{None}
use Rattle.tea_io.proofs.Writing.{GrowsWithin-nothing}
use Rattle.file_store.proofs.store.FileStoreStore.append.Goals as goal

pub returns-in-Err-clause-part : goal.returns-in-Err-clause-part
returns-in-Err-clause-part c = GrowsWithin-nothing None c.args.piece.now
