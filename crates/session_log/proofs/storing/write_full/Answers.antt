use Rattle.std.proofs.Common.{◌++◌}
use Rattle.std.specs.Prelude.{codes}
use Rattle.std.specs.Int.{to_be_bytes, w64}
use Rattle.std.specs.Option.{option_map}
use Rattle.byte_fields.specs.Fields.{list_of}
use Rattle.session_log.specs.Spelling.{log_entry_spelling}
use Rattle.session_log.specs.Stored.{lent_kept, kept_spelling}
use Rattle.session_log.proofs.Fillings.{fills_on}
use Rattle.session_log.proofs.storing.write_full.Goals as goal

pub returns : goal.returns
returns c =
    let horizon = to_be_bytes w64 c.args.horizon in
    let kept = kept_spelling (option_map lent_kept c.args.kept) in
    let entries = list_of log_entry_spelling c.args.log.now.entries in
    let last = fills_on _ _ _ kept entries c.put_kept.ensures c.write_log.ensures in
    fills_on _ _ _ (codes "TEALOG02") (horizon ++ (kept ++ entries)) c.put_bytes.ensures (fills_on _ _ _ horizon (kept ++ entries) c.put_u64.ensures last)
