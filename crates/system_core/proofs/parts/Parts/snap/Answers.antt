use Rattle.std.proofs.Common.{List, [], ◌∷◌, ◌++◌, refl, sym, ap, ◌∙◌}
use Rattle.std.proofs.lemmas.Result.{on_ok_weaker}
use Rattle.wire_frames.specs.declared.frame.ClientFrame.{ClientFrame}
use Rattle.wire_frames.specs.declared.frame.ClientFrame.TheVariants as up
use Rattle.system_core.proofs.PartTakes.{counted-past, counted-within, placed-within}
use Rattle.system_core.proofs.PartJoins.{snap-absent, snap-lost, snap-shut, snap-takes}
use Rattle.system_core.proofs.parts.Parts.snap.Goals as goal

pub returns-in_default : goal.returns-in_default
returns-in_default c =
    snap-absent c.args.self.now c.args.view c.requires c.in_default.ensures

pub index-requires : goal.index-requires
index-requires c = placed-within c.args.self.now.members c.in-Some.place c.args.view c.in-Some.ensures

pub returns-then-newest-len : goal.returns-then-newest-len
returns-then-newest-len c =
    snap-lost c.args.self.now c.in-Some.place c.args.view c.index.result.now c.requires c.in-Some.ensures c.index.ensures (counted-past c.args.self.now.connections c.len.ensures c.if-newest-len.true)

pub returns-then-not-is_open : goal.returns-then-not-is_open
returns-then-not-is_open c =
    snap-shut c.args.self.now c.in-Some.place c.args.view c.index.result.now c.index-2.result.now c.requires c.in-Some.ensures c.index.ensures (counted-within c.args.self.now.connections c.len.ensures c.if-newest-len.false) c.index-2.ensures
    (sym c.is_open.ensures ∙ c.if-not-is_open.true)

pub returns : goal.returns
returns c =
    on_ok_weaker c.put_up.result
    (λ after.
    snap-takes c.args.self.now _ c.in-Some.place c.args.view c.index.result.now c.index-3.result.now c.index-4.result.now c.index-2.result.now c.index_mut.result.now c.put_up.new.self c.time-time.result c.in-Ok.bytes c.push.new.items.items
    c.requires c.in-Some.ensures c.index.ensures c.index-3.ensures c.index-4.ensures (counted-within c.args.self.now.connections c.len.ensures c.if-newest-len.false) c.index-2.ensures c.index_mut.ensures.value (sym c.is_open.ensures ∙ c.if-not-is_open.false)
    c.time-time.ensures.time c.in-Ok.ensures (c.in_ok-push.ensures.ok ∙ ap (λ (fs : List ClientFrame). fs ++ up.Snap c.time-time.result c.in-Ok.bytes ∷ []) c.new-frames.ensures.items) after refl refl refl refl refl)
    c.put_up.ensures
