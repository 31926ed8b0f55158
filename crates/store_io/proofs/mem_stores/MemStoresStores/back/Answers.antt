use Rattle.std.proofs.Common.{ap}
use Rattle.store_io.specs.MemStores.{MemStoresState}
use Rattle.store_io.proofs.Held.{out_is, some_is_out, back_holds, back_others}
use Rattle.store_io.proofs.mem_stores.MemStoresStores.back.Goals as goal

pub put_back-requires : goal.put_back-requires
put_back-requires c = some_is_out c.args.self.now.out c.args.name.now c.requires.out

pub returns-clause-back : goal.returns-clause-back
returns-clause-back c = back_holds c.args.self.now c.put_back.new.self c.args.name.now c.args.store.bytes (c.put_back.ensures c.args.name.now (out_is c.args.self.now.out c.args.name.now c.requires.out))

pub returns-clause-others : goal.returns-clause-others
returns-clause-others c = λ other differs.
    let out = out_is c.args.self.now.out c.args.name.now c.requires.out in
    back_others c.args.self.now c.put_back.new.self c.args.name.now c.args.store.bytes other (c.put_back.ensures c.args.name.now out) out differs

pub returns-clause-leaves : goal.returns-clause-leaves
returns-clause-leaves c = c.put_back.ensures c.args.name.now (out_is c.args.self.now.out c.args.name.now c.requires.out)

pub returns-clause-faults : goal.returns-clause-faults
returns-clause-faults c = ap (λ (s : MemStoresState). s.faults) (c.put_back.ensures c.args.name.now (out_is c.args.self.now.out c.args.name.now c.requires.out))
