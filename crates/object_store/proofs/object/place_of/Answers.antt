use Rattle.std.proofs.Common.{rules, ◌∙◌}
use Rattle.std.proofs.lemmas.List.Sorted.{answers_always}
use Rattle.object_store.specs.declared.object.Object.{Object}
use Rattle.object_store.proofs.Objects.{searched}
use Rattle.object_store.proofs.object.place_of.Goals as goal

pub returns : goal.returns
returns c =
    let facts = c.binary_search_by_key.ensures in
    let by_id = facts.position (λ (o : Object). o.id) (answers_always _ _ _ (λ f a r g called. search rules)) in
    c.ok.ensures.value ∙ searched c.args.id c.args.objects.now c.requires c.binary_search_by_key.result facts.bound by_id
