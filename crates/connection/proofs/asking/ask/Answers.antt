use Rattle.std.proofs.Common.{rules}
use Rattle.connection.proofs.Callers.{answered_so, asked_so, grows_so, may_ask, sees_so, unkept_so}
use Rattle.connection.proofs.asking.ask.Goals as goal

pub offer_kept-requires-clause-allowed : goal.offer_kept-requires-clause-allowed
offer_kept-requires-clause-allowed g c = search (rules, may_ask)

pub returns-then-is_offer-clause-asked : goal.returns-then-is_offer-clause-asked
returns-then-is_offer-clause-asked g c = asked_so _ _ c.args.pass.now c.offer_kept.new.pass c.args.request.now c.offer_kept.result c.offer_kept.ensures.call

pub returns-then-is_offer-clause-sees : goal.returns-then-is_offer-clause-sees
returns-then-is_offer-clause-sees g c = sees_so _ _ c.args.pass.now c.offer_kept.new.pass c.args.request.now c.offer_kept.result c.offer_kept.ensures.call c.offer_kept.ensures.sound

pub returns-then-is_offer-clause-grows : goal.returns-then-is_offer-clause-grows
returns-then-is_offer-clause-grows g c = grows_so _ _ c.args.pass.now c.offer_kept.new.pass c.args.request.now c.offer_kept.result c.offer_kept.ensures.call

pub returns-then-is_offer-clause-reply : goal.returns-then-is_offer-clause-reply
returns-then-is_offer-clause-reply g c = answered_so _ _ c.args.pass.now c.offer_kept.new.pass c.args.request.now c.offer_kept.result c.offer_kept.ensures.call c.offer_kept.ensures.sound

pub returns-else-is_offer-clause-asked : goal.returns-else-is_offer-clause-asked
returns-else-is_offer-clause-asked g c = asked_so _ _ c.args.pass.now c.call_kept.new.pass c.args.request.now c.call_kept.result c.call_kept.ensures.call

pub returns-else-is_offer-clause-sees : goal.returns-else-is_offer-clause-sees
returns-else-is_offer-clause-sees g c = sees_so _ _ c.args.pass.now c.call_kept.new.pass c.args.request.now c.call_kept.result c.call_kept.ensures.call c.call_kept.ensures.sound

pub returns-else-is_offer-clause-grows : goal.returns-else-is_offer-clause-grows
returns-else-is_offer-clause-grows g c = grows_so _ _ c.args.pass.now c.call_kept.new.pass c.args.request.now c.call_kept.result c.call_kept.ensures.call

pub returns-else-is_offer-clause-reply : goal.returns-else-is_offer-clause-reply
returns-else-is_offer-clause-reply g c = answered_so _ _ c.args.pass.now c.call_kept.new.pass c.args.request.now c.call_kept.result c.call_kept.ensures.call c.call_kept.ensures.sound

pub returns-then-is_offer-clause-unkept : goal.returns-then-is_offer-clause-unkept
returns-then-is_offer-clause-unkept g c = unkept_so _ _ c.args.pass.now c.offer_kept.new.pass c.args.request.now c.offer_kept.result c.offer_kept.ensures.call

pub returns-else-is_offer-clause-unkept : goal.returns-else-is_offer-clause-unkept
returns-else-is_offer-clause-unkept g c = unkept_so _ _ c.args.pass.now c.call_kept.new.pass c.args.request.now c.call_kept.result c.call_kept.ensures.call
