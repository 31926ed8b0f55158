use Rattle.join_sync.proofs.Openings.{joined_stands, stands_on}
use Rattle.join_sync.proofs.Pulls.{batch_stands, batch_streams}
use Rattle.join_sync.proofs.laws.batches_stream.Goals as goal

pub returns : goal.returns
returns g = record {
  joined = joined_stands;
  grows = stands_on;
  streams = batch_streams;
  stands = batch_stands;
}
