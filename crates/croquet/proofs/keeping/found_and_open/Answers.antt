use Rattle.std.proofs.lemmas.Result.{err_from_is_err_and}
use Rattle.commands.specs.Work.{plain_keeping}
use Rattle.croquet.proofs.KeptRuns.{absent_ends, founded_absent, founded_not, founded_there}
use Rattle.croquet.proofs.keeping.found_and_open.Goals as goal

pub returns-in-Some-clause-opens : goal.returns-in-Some-clause-opens
returns-in-Some-clause-opens g c = λ s absent.
    founded_there _ _ _ (plain_keeping c.args.keeping) s c.args.stores.now absent c.in_ok-keeping.keeping c.args.files.now c.found.new.files c.args.out.now c.found.new.out c.in_ok-keeping.ensures.founds
    c.in-Some.there c.open.new.out c.open.new.stores (rw c.in-Some.is at c.in_ok-there.ensures.opens)

pub returns-in-None-clause-opens : goal.returns-in-None-clause-opens
returns-in-None-clause-opens g c = λ s absent.
    founded_absent _ _ _ (plain_keeping c.args.keeping) s c.args.stores.now absent c.in_ok-keeping.keeping c.args.files.now c.found.new.files c.args.out.now c.found.new.out c.in_ok-keeping.ensures.founds
    c.open.new.out c.tell.new.out c.open.new.stores c.tell.result (rw c.in-None.is at c.in_ok-there.ensures.opens) c.tell.ensures

pub returns-in_err-there-clause-opens : goal.returns-in_err-there-clause-opens
returns-in_err-there-clause-opens g c = λ s absent.
    let handed = err_from_is_err_and c.from_residual-in_err-there.result c.from_residual-in_err-there.ensures.1 in
    rw (handed.1, handed.2)
    (founded_not _ _ _ (plain_keeping c.args.keeping) s c.args.stores.now absent c.in_ok-keeping.keeping c.args.files.now c.found.new.files c.args.out.now c.found.new.out c.in_ok-keeping.ensures.founds
    c.open.new.out c.open.new.stores c.in_err-there.field-0.0 c.in_err-there.ensures.opens)

pub returns-in_err-keeping-clause-opens : goal.returns-in_err-keeping-clause-opens
returns-in_err-keeping-clause-opens g c = λ s absent.
    let handed = err_from_is_err_and c.from_residual.result c.from_residual.ensures.1 in
    rw (handed.1, handed.2)
    (absent_ends _ _ _ (plain_keeping c.args.keeping) s c.args.stores.now absent c.args.files.now c.found.new.files c.args.out.now c.found.new.out c.in_err-keeping.field-0.0 c.in_err-keeping.ensures.founds)
