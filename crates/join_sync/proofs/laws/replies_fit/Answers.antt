use Rattle.join_sync.proofs.Replies.{refusal_names, reply_fits, request_fits}
use Rattle.join_sync.proofs.Pulls.{batch_comes_after, batch_has_come}
use Rattle.join_sync.proofs.laws.replies_fit.Goals as goal

pub returns : goal.returns
returns g = record {
  replies = reply_fits;
  frames = request_fits;
  batches = batch_comes_after;
  batch = batch_has_come;
  refusals = refusal_names;
}
