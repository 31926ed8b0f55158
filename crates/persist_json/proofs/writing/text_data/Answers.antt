use Rattle.std.proofs.Common.{subst}
use Rattle.std.specs.Prelude.{IsUtf8}
use Rattle.persist_json.proofs.Readings.{scalars-utf8}
use Rattle.persist_json.proofs.writing.text_data.Goals as goal

pub returns-clause-scalars : goal.returns-clause-scalars
returns-clause-scalars c = scalars-utf8 c.args.text.now (subst IsUtf8 c.as_str-text.ensures c.as_str-text.utf8)
