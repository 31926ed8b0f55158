use Rattle.std.proofs.Common.{◌∙◌, refl, sym, arith}
use Rattle.std.specs.Option.{option_map}
use Rattle.session_log.specs.Stored.{PlainStored, lent_kept, plain_of}
use Rattle.session_log.proofs.StoredBounds.{alone_bound, full_bound}
use Rattle.session_log.proofs.StoredCodec.{spelled_alone, spelled_full}
use Rattle.session_log.proofs.storing.write_stored.Goals as goal

pub write_alone-requires : goal.write_alone-requires
write_alone-requires c = omega (arith, alone_bound (plain_of c.args.log.now.entries c.args.horizon (option_map lent_kept c.args.kept)))

pub write_full-requires-clause-room : goal.write_full-requires-clause-room
write_full-requires-clause-room c = omega (arith, full_bound (plain_of c.args.log.now.entries c.args.horizon (option_map lent_kept c.args.kept)))

pub returns-then-is_log_alone : goal.returns-then-is_log_alone
returns-then-is_log_alone c =
    let s : PlainStored = plain_of c.args.log.now.entries c.args.horizon (option_map lent_kept c.args.kept) in
    rw (spelled_alone s (sym c.is_log_alone.ensures ∙ c.if-is_log_alone.true), c.done.ensures, c.write_alone.ensures.written, c.requires.empty) refl

pub returns : goal.returns
returns c =
    let s : PlainStored = plain_of c.args.log.now.entries c.args.horizon (option_map lent_kept c.args.kept) in
    rw (spelled_full s (sym c.is_log_alone.ensures ∙ c.if-is_log_alone.false), c.done-2.ensures, c.write_full.ensures.written, c.requires.empty) refl
