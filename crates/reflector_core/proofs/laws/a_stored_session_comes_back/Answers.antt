use Rattle.reflector_core.proofs.StoredLaws.{sound_session, stored_session, session_again, stored_again}
use Rattle.reflector_core.proofs.laws.a_stored_session_comes_back.Goals as goal

pub returns : goal.returns
returns c = record { stored = stored_session; session = session_again; sound = sound_session; same = stored_again }
