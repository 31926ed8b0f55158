use Rattle.std.proofs.Common.{refl, sym, ◌∙◌, arith}
use Rattle.tea_base.specs.Order.{IsBefore}
use Rattle.world_plain.specs.Valid.{KnownRise}
use Rattle.world_plain.proofs.Neighbours.{before_here, goes_on, ended, rise_parts, rise_whole}
use Rattle.world_plain.proofs.objects.names_rise.Goals as goal

pub loop-i-preserved : goal.loop-i-preserved
loop-i-preserved c =
    goes_on KnownRise (λ k n. IsBefore k.name n.name) rise_parts rise_whole c.args.known.now c.loop-i.i c.index-known-i.result c.index-known-i-in-loop-i.result (omega arith) c.loop-i-test.true c.index-known-i.is c.index-known-i-in-loop-i.is (before_here _ _ _ _ c.index-known-i.is c.index-known-i-in-loop-i.is (sym c.is_before.ensures ∙ c.if-not-is_before.false)) c.loop-i.invariant

pub returns : goal.returns
returns c =
    let all = ended KnownRise (λ k n. IsBefore k.name n.name) rise_parts rise_whole c.args.known.now c.loop-i.i (λ _. (tt, tt)) tt (omega arith) c.loop-i-test.false c.loop-i.invariant in
    (λ _. all, λ _. refl)
