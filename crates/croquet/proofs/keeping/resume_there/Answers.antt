use Rattle.journal_store.specs.Stores.{stores_tell}
use Rattle.croquet.proofs.KeptRuns.{resumes_not, resumes_ok}
use Rattle.croquet.proofs.keeping.resume_there.Goals as goal

pub returns-in-Ok-clause-resumes : goal.returns-in-Ok-clause-resumes
returns-in-Ok-clause-resumes g c =
    let stores = stores_tell g.S.Stores g.J.Store in
    resumes_ok _ _ stores c.args.keeping c.args.there c.bytes.result.now c.bytes.ensures c.in-Ok.opening _ _ c.args.stores.now c.in-Ok.ensures

pub returns-in-Err-clause-resumes : goal.returns-in-Err-clause-resumes
returns-in-Err-clause-resumes g c =
    let stores = stores_tell g.S.Stores g.J.Store in
    resumes_not _ _ stores c.args.keeping c.args.there c.bytes.result.now c.bytes.ensures c.in-Err.field-0 _ _ c.args.stores.now c.back.new.self c.in-Err.ensures
    (record { back = c.back.ensures.back; others = λ other not. (c.back.ensures.others other not).0; faults = c.back.ensures.faults })
