use Rattle.std.proofs.Common.{refl}
use Rattle.std.proofs.lemmas.Result.{on_ok_weaker}
use Rattle.system_core.proofs.PartTakes.{counted-past, counted-within, placed-within}
use Rattle.system_core.proofs.PartTurns.{receive-absent, receive-lost, receive-nothing, receive-takes, taken-behind}
use Rattle.system_core.proofs.parts.Parts.receive.Goals as goal

pub returns-in_default : goal.returns-in_default
returns-in_default c = receive-absent c.args.self.now c.args.view c.requires c.in_default.ensures

pub index-requires : goal.index-requires
index-requires c = placed-within c.args.self.now.members c.in-Some.place c.args.view c.in-Some.ensures

pub returns-then-newest-len : goal.returns-then-newest-len
returns-then-newest-len c =
    receive-lost c.args.self.now c.in-Some.place c.args.view c.index.result.now c.requires c.in-Some.ensures c.index.ensures (counted-past c.args.self.now.connections c.len.ensures c.if-newest-len.true)

pub returns-in_default-next_down : goal.returns-in_default-next_down
returns-in_default-next_down c =
    receive-nothing c.args.self.now _ c.in-Some.place c.args.view c.index.result.now c.index_mut.result.now c.next_down.new.self c.requires c.in-Some.ensures c.index.ensures (counted-within c.args.self.now.connections c.len.ensures c.if-newest-len.false) c.index_mut.ensures.value
    c.in_default-next_down.ensures refl refl refl refl refl

pub index_mut-requires-2 : goal.index_mut-requires-2
index_mut-requires-2 c = placed-within c.args.self.now.members c.in-Some.place c.args.view c.in-Some.ensures

pub returns : goal.returns
returns c =
    on_ok_weaker c.want_of.result
    (λ no_want.
    receive-takes c.args.self.now _ c.in-Some.place c.args.view c.index.result.now c.index_mut-2.result.now c.index_mut.result.now c.next_down.new.self c.in-Some-next_down.frame c.take.new.self c.requires c.in-Some.ensures c.index.ensures c.index_mut-2.ensures.value
    (counted-within c.args.self.now.connections c.len.ensures c.if-newest-len.false) c.index_mut.ensures.value c.in-Some-next_down.ensures c.take.ensures.session (taken-behind c.take.result _ _ _ no_want c.take.ensures.taken) refl refl refl refl refl)
    c.want_of.ensures
