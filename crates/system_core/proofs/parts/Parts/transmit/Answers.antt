use Rattle.std.proofs.Common.{refl, sym, ap, ◌∙◌}
use Rattle.std.proofs.lemmas.Result.{on_ok_weaker}
use Rattle.system_plain.specs.System.{put_up}
use Rattle.system_core.proofs.PartTakes.{counted-past, counted-within, placed-within, transmit-absent, transmit-lost, transmit-shut, transmit-takes}
use Rattle.system_core.proofs.parts.Parts.transmit.Goals as goal

pub returns-in_default : goal.returns-in_default
returns-in_default c =
    transmit-absent c.args.self.now c.args.view c.requires c.in_default.ensures

pub index-requires : goal.index-requires
index-requires c = placed-within c.args.self.now.members c.in-Some.place c.args.view c.in-Some.ensures

pub returns-then-newest-len : goal.returns-then-newest-len
returns-then-newest-len c =
    transmit-lost c.args.self.now c.in-Some.place c.args.view c.index.result.now c.requires c.in-Some.ensures c.index.ensures (counted-past c.args.self.now.connections c.len.ensures c.if-newest-len.true)

pub returns-then-not-is_open : goal.returns-then-not-is_open
returns-then-not-is_open c =
    transmit-shut c.args.self.now c.in-Some.place c.args.view c.index.result.now c.index-2.result.now c.requires c.in-Some.ensures c.index.ensures (counted-within c.args.self.now.connections c.len.ensures c.if-newest-len.false) c.index-2.ensures
    (sym c.is_open.ensures ∙ c.if-not-is_open.true)

pub index_mut-requires : goal.index_mut-requires
index_mut-requires c = placed-within c.args.self.now.members c.in-Some.place c.args.view c.in-Some.ensures

pub returns : goal.returns
returns c =
    on_ok_weaker c.put_up.result
    (λ after.
    transmit-takes c.args.self.now _ c.in-Some.place c.args.view c.index.result.now c.index_mut.result.now c.index-2.result.now c.index_mut-2.result.now c.put_up.new.self c.unsent.new.self c.in_ok-frames.frames
    c.requires c.in-Some.ensures c.index.ensures c.index_mut.ensures.value (counted-within c.args.self.now.connections c.len.ensures c.if-newest-len.false) c.index-2.ensures c.index_mut-2.ensures.value (sym c.is_open.ensures ∙ c.if-not-is_open.false)
    c.in_ok-frames.ensures.ok c.in_ok-frames.ensures.frames (after ∙ ap (put_up c.index_mut-2.result.now) c.into_vec.ensures) refl refl refl refl refl)
    c.put_up.ensures
