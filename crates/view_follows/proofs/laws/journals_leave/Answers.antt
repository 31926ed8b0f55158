use Rattle.view_follows.proofs.Leaving.{journal_runs_follow, journals_leave, safe_bytes_leave}
use Rattle.view_follows.proofs.laws.journals_leave.Goals as goal

pub returns : goal.returns
returns g c = record {
  left = journals_leave _ _ c.own_records_are_read_first.ensures;
  safe = safe_bytes_leave _ _ c.safe_bytes_are_read.ensures;
  follow = journal_runs_follow _ _ _ _ c.own_records_are_read_first.ensures;
}
