use Rattle.std.proofs.Common.{◌≡◌, refl, sym}
use Rattle.std.proofs.lemmas.Result.{err_from_is_err_and}
use Rattle.session_log.specs.declared.reading.LogFault.TheVariants as fault
use Rattle.commands.proofs.LogLaws.{is_none}
use Rattle.commands.proofs.opening.read_log.Goals as goal

pub returns-in_err-decode_stored-in-None-clause-bad : goal.returns-in_err-decode_stored-in-None-clause-bad
returns-in_err-decode_stored-in-None-clause-bad c bad =
    let handed = err_from_is_err_and c.from_residual.result c.from_residual.ensures.1 in
    let is = handed.1 in
    let whose = handed.2 in
    let same : c.in_err-decode_stored-in-None.field-0.0 ≡ fault.BadLog = cc in
    is_none c.args.bytes.now (sym c.in-None.ensures) (c.in_err-decode_stored-in-None.ensures.bad (rw same refl))
