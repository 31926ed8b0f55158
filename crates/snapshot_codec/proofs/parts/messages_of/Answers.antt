use Rattle.std.proofs.Common.{◌≡◌, map, ◌++◌, ◌∷◌, []}
use Rattle.std.proofs.lemmas.Result.{err_from_is_err_and}
use Rattle.std.proofs.lemmas.List.{map_push}
use Rattle.byte_fields.proofs.Loops.{goes_on, ends, is_done}
use Rattle.world_plain.specs.Messages.{plain_message}
use Rattle.snapshot_codec.specs.Reading.{message_at}
use Rattle.snapshot_codec.proofs.parts.messages_of.Goals as goal

pub returns-in_err-message : goal.returns-in_err-message
returns-in_err-message c =
    let p = err_from_is_err_and c.from_residual.result c.from_residual.ensures.1 in
    rw (p.1, p.2) (λ bad. ends (λ _. message_at) (map plain_message c.loop.messages) c.args.count c.loop.counter c.loop.rest.now _ c.loop-test.true (c.in_err-message.ensures bad) c.loop.invariant)

pub loop-preserved : goal.loop-preserved
loop-preserved c =
    let e : map plain_message c.push.new.self ≡ map plain_message c.loop.messages ++ plain_message c.in_ok-message.message ∷ [] = rw c.in_ok-push.ensures.ok (map_push _ c.loop.messages c.in_ok-message.message) in
    rw e (goes_on (λ _. message_at) (map plain_message c.loop.messages) c.args.count c.loop.counter c.loop.rest.now (plain_message c.in_ok-message.message) c.in_ok-message.after.now _ c.loop-test.true c.in_ok-message.ensures c.loop.invariant)

pub returns : goal.returns
returns c = is_done (λ _. message_at) (map plain_message c.loop.messages) c.args.count c.loop.counter c.loop.rest.now _ c.loop-test.false c.loop.invariant
