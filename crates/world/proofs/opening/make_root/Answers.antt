use Rattle.std.proofs.Common.{◌≡◌, ℕ, ◌≤◌, List, [], ◌∷◌, replicate, sym, ap, ap₂, subst, ◌∙◌, arith}
use Rattle.std.proofs.lemmas.List.{length-replicate}
use Rattle.model_value.specs.Plain.{nil}
use Rattle.model_value.specs.View.{plain_values}
use Rattle.world_plain.specs.World.{ObjectRecord}
use Rattle.world_plain.specs.declared.world.Known.{Known}
use Rattle.object_store.specs.Store.{AreFields, StoreRecord, store_with}
use Rattle.world_state.specs.Answer.{world_of}
use Rattle.world.specs.Worlds.{Scene, scene_with_world}
use Rattle.world.specs.View.{scene}
use Rattle.world.proofs.Rooted.{made}
use Rattle.object_store.proofs.Objects.{AreFields-in_bounds}
use Rattle.world.proofs.FirstWorld.{nils-fit}
use Rattle.world.proofs.opening.make_root.Goals as goal

nils-held : (n : ℕ) → n ≤ 256 → AreFields (replicate n nil)
nils-held n few = AreFields-in_bounds (replicate n nil) (omega (arith, length-replicate n nil, few)) (nils-fit n)

pub put_back-requires-clause-fields : goal.put_back-requires-clause-fields
put_back-requires-clause-fields c = subst AreFields (sym c.in_ok-fields.ensures) (nils-held c.args.fields c.requires)

pub returns : goal.returns
returns c = λ root e.
    let st = c.args.state.now in
    let o : ObjectRecord = record { id = 1; class = c.args.class; fields = plain_values c.in_ok-fields.fields } in
    let objects : c.put_back.new.self ≡ record { objects = o ∷ []; next = 2 } = c.in_ok-put_back.ensures.ok ∙ ap (store_with o) c.resume-objects.ensures in
    let after : StoreRecord → List Known → Scene = λ s ks. scene_with_world (scene st) (record (world_of st) { next_object = s.next; objects = s.objects; known = ks }) in
    ap₂ after objects c.in_ok-known.ensures
    ∙ ap (scene_with_world (scene st)) (made (world_of st) c.args.class c.args.fields root (plain_values c.in_ok-fields.fields) e c.in_ok-fields.ensures)
