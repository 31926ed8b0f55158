use Rattle.commands.proofs.HostLaws.{as_many_logs}
use Rattle.commands.proofs.hosting.hosting_of.Goals as goal

pub returns-clause-bounded : goal.returns-clause-bounded
returns-clause-bounded c = (
  c.requires.words,
  c.requires.ids,
  (
    as_many_logs c.in_ok-log_places.field-0 c.args.request.logs c.args.ids (rw c.as_slice.ensures at c.in_ok-log_places.ensures),
    rw c.len.ensures at c.in_ok-rooms_for.ensures,
  ),
)
