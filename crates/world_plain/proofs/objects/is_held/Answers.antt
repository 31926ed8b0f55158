use Rattle.std.proofs.Common.{rules}
use Rattle.std.proofs.lemmas.List.Sorted.{answers_always}
use Rattle.world_plain.specs.declared.world.PlainObject.{PlainObject}
use Rattle.world_plain.proofs.Held.{searched}
use Rattle.world_plain.proofs.objects.is_held.Goals as goal

-- the closure gives an object's number
pub returns : goal.returns
returns c =
    let facts = c.binary_search_by_key.ensures in
    let by_id = facts.position (λ (o : PlainObject). o.id) (answers_always _ _ _ (λ f a r g called. search rules)) in
    searched c.args.objects.now c.requires c.args.id c.binary_search_by_key.result facts.bound by_id c.is_ok.result c.is_ok.ensures.value
