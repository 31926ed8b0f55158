use Rattle.session_log.specs.Stored.{plain_stored}
use Rattle.reflector_core.proofs.StoredLaws.{sound_session}
use Rattle.reflector_core.proofs.session.Session.resume.Goals as goal

pub of_parts-requires : goal.of_parts-requires
of_parts-requires c = rw c.base_of.ensures (sound_session (plain_stored c.args.stored) c.requires)

pub returns : goal.returns
returns c = rw c.base_of.ensures at c.of_parts.ensures
