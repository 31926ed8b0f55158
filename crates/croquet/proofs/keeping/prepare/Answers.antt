use Rattle.std.proofs.lemmas.Result.{err_from_is_err_and}
use Rattle.commands.specs.Work.{plain_keeping}
use Rattle.croquet.proofs.KeptRuns.{prepares_there, prepares_unopened, there_tells}
use Rattle.croquet.proofs.keeping.prepare.Goals as goal

pub resume_there-requires-clause-tells : goal.resume_there-requires-clause-tells
resume_there-requires-clause-tells g c = there_tells _ _ _ (plain_keeping c.args.keeping) (plain_keeping c.in_ok-keeping.keeping) c.in_ok-keeping.there _ _ c.args.stores.now c.open_or_found.new.stores c.in_ok-keeping.ensures.opens

pub returns-clause-prepares : goal.returns-clause-prepares
returns-clause-prepares g c =
    prepares_there _ _ _ (plain_keeping c.args.keeping) c.in_ok-keeping.keeping c.in_ok-keeping.there _ _ c.args.stores.now c.open_or_found.new.stores c.in_ok-keeping.ensures.opens c.resume_there.result _ c.resume_there.new.stores c.resume_there.ensures.resumes

pub returns-in_err-keeping-clause-prepares : goal.returns-in_err-keeping-clause-prepares
returns-in_err-keeping-clause-prepares g c =
    let handed = err_from_is_err_and c.from_residual.result c.from_residual.ensures.1 in
    rw (handed.1, handed.2)
    (prepares_unopened _ _ _ (plain_keeping c.args.keeping) _ _ c.args.stores.now c.open_or_found.new.stores c.in_err-keeping.field-0.0 c.in_err-keeping.ensures.opens)
