use Rattle.session_lock.proofs.Histories.{sound_first, sound_end}
use Rattle.session_lock.proofs.laws.sound_at_each_place.Goals as goal

pub returns-clause-place : goal.returns-clause-place
returns-clause-place c = λ opening beginning rest sound. sound_end opening beginning (sound_first opening beginning rest sound)

pub returns-clause-end : goal.returns-clause-end
returns-clause-end c = λ opening history sound. sound_end opening history sound
