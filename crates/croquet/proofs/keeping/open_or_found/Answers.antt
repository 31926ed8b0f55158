use Rattle.std.proofs.Common.{refl}
use Rattle.std.proofs.lemmas.Result.{err_from_is_err_and}
use Rattle.commands.specs.Work.{plain_keeping}
use Rattle.croquet.proofs.KeptRuns.{absent_then, opened_not, opened_there}
use Rattle.croquet.proofs.keeping.open_or_found.Goals as goal

pub returns-in-Some-clause-opens : goal.returns-in-Some-clause-opens
returns-in-Some-clause-opens g c =
    opened_there _ _ _ (plain_keeping c.args.keeping) c.args.keeping c.in-Some.there c.args.files.now c.args.out.now c.open.new.out c.args.stores.now c.open.new.stores refl
    (rw c.in-Some.is at c.in_ok-there.ensures.opens)

pub returns-in-None-clause-opens : goal.returns-in-None-clause-opens
returns-in-None-clause-opens g c =
    let absent = rw c.in-None.is at c.in_ok-there.ensures.opens in
    absent_then _ _ _ (plain_keeping c.args.keeping) c.args.stores.now c.open.new.stores absent.1 c.found_and_open.result c.args.files.now c.args.out.now c.open.new.out _ c.found_and_open.new.stores
    absent.0 (c.found_and_open.ensures.opens c.args.stores.now absent.1)

pub returns-in_err-there-clause-opens : goal.returns-in_err-there-clause-opens
returns-in_err-there-clause-opens g c =
    let handed = err_from_is_err_and c.from_residual.result c.from_residual.ensures.1 in
    rw (handed.1, handed.2)
    (opened_not _ _ _ (plain_keeping c.args.keeping) c.args.files.now c.args.out.now c.open.new.out c.args.stores.now c.open.new.stores c.in_err-there.field-0.0 c.in_err-there.ensures.opens)
