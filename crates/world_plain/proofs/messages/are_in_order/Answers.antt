use Rattle.std.proofs.Common.{map, refl, arith}
use Rattle.world_plain.specs.Messages.{plain_message}
use Rattle.world_plain.specs.Valid.{Precedes, AreInOrder}
use Rattle.world_plain.proofs.Neighbours.{goes_on, ended, order_parts, order_whole}
use Rattle.world_plain.proofs.messages.are_in_order.Goals as goal

pub loop-i-preserved : goal.loop-i-preserved
loop-i-preserved c =
    goes_on (λ ms. AreInOrder (map plain_message ms)) (λ m n. Precedes (plain_message m) (plain_message n)) order_parts order_whole c.args.messages.now c.loop-i.i c.index-messages-i.result c.index-messages-i-in-loop-i.result (omega arith) c.loop-i-test.true c.index-messages-i.is c.index-messages-i-in-loop-i.is (c.precedes.ensures.0 c.if-not-precedes.false) c.loop-i.invariant

pub returns : goal.returns
returns c =
    let all = ended (λ ms. AreInOrder (map plain_message ms)) (λ m n. Precedes (plain_message m) (plain_message n)) order_parts order_whole c.args.messages.now c.loop-i.i (λ _. (tt, tt)) tt (omega arith) c.loop-i-test.false c.loop-i.invariant in
    (λ _. all, λ _. refl)
