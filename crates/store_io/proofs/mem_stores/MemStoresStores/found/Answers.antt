use Rattle.store_io.proofs.Held.{found_holds, found_others, failed_holds, failed_others}
use Rattle.store_io.proofs.mem_stores.MemStoresStores.found.Goals as goal

pub returns-in-Ok-clause-ok : goal.returns-in-Ok-clause-ok
returns-in-Ok-clause-ok c = found_holds c.args.self.now c.try_found.new.self c.args.name.now c.args.bytes.now c.in-Ok.ensures.leaves

pub returns-in-Ok-clause-others : goal.returns-in-Ok-clause-others
returns-in-Ok-clause-others c = λ other differs. found_others c.args.self.now c.try_found.new.self c.args.name.now c.args.bytes.now other c.in-Ok.ensures.leaves differs

pub returns-in-Err-clause-err : goal.returns-in-Err-clause-err
returns-in-Err-clause-err c = failed_holds c.in-Err.fault c.args.self.now c.try_found.new.self c.counted.new.self c.args.name.now c.args.bytes.now _ c.in-Err.ensures.leaves c.counted.ensures.counts

pub returns-in-Err-clause-others : goal.returns-in-Err-clause-others
returns-in-Err-clause-others c = λ other differs. failed_others c.in-Err.fault c.args.self.now c.try_found.new.self c.counted.new.self c.args.name.now c.args.bytes.now other _ c.in-Err.ensures.leaves c.counted.ensures.counts differs
