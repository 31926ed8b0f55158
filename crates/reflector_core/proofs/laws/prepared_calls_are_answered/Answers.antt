use Rattle.reflector_core.proofs.PreparedLaws.{AnswersPrepared-room}
use Rattle.reflector_core.proofs.laws.prepared_calls_are_answered.Goals as goal

pub returns : goal.returns
returns c = AnswersPrepared-room
