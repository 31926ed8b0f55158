use Rattle.persist_json.proofs.Readings.{same_value}
use Rattle.persist_json.proofs.laws.data_is_of_one_value.Goals as goal

pub returns : goal.returns
returns c = same_value
