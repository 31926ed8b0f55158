use Rattle.std.specs.Prelude.{codes}
use Rattle.byte_fields.specs.Fields.{list_of}
use Rattle.session_log.specs.Spelling.{log_entry_spelling}
use Rattle.session_log.proofs.Fillings.{fills_on}
use Rattle.session_log.proofs.storing.write_alone.Goals as goal

pub returns : goal.returns
returns c = fills_on _ _ _ (codes "TEALOG01") (list_of log_entry_spelling c.args.log.now.entries) c.put_bytes.ensures c.write_log.ensures
