use Rattle.std.proofs.Common.{◌≡◌, [], vec_len, length, sym, ◌∙◌, rules}
use Rattle.host_server.proofs.RowLaws.{lead_of, merged_all, merged_at, merged_none, other_of}
use Rattle.host_server.proofs.rooms.merge_seats.Goals as goal

pub loop-pass-init : goal.loop-pass-init
loop-pass-init g c = merged_none c.args.seats.items c.args.leads.now (sym c.requires.leads.as_long ∙ c.requires.seats.as_long)

pub merge-requires-clause-lead : goal.merge-requires-clause-lead
merge-requires-clause-lead g c =
    let as_long : vec_len c.pop.new.self ≡ length c.pop.new.self.items = search rules in
    lead_of c.args.rooms.now c.loop-pass.seats.items c.pop.new.self.items c.args.seats.items c.args.leads.now c.loop-pass.leads c.len-place.result c.index-rooms-place.result c.index-leads-place.result c.in-Some.pass
    (c.len-place.ensures ∙ as_long) c.in-Some.ensures.items (sym c.requires.leads.as_long ∙ c.requires.seats.as_long) c.requires.leads c.loop-pass.invariant c.index-rooms-place.is

pub merge-requires-clause-other : goal.merge-requires-clause-other
merge-requires-clause-other g c =
    let as_long : vec_len c.pop.new.self ≡ length c.pop.new.self.items = search rules in
    other_of c.args.rooms.now c.loop-pass.seats.items c.pop.new.self.items c.args.seats.items c.args.leads.now c.loop-pass.leads c.len-place.result c.index-rooms-place.result c.in-Some.pass
    (c.len-place.ensures ∙ as_long) c.in-Some.ensures.items c.requires.seats c.loop-pass.invariant c.index-rooms-place.is

pub loop-pass-preserved : goal.loop-pass-preserved
loop-pass-preserved g c =
    let as_long : vec_len c.pop.new.self ≡ length c.pop.new.self.items = search rules in
    merged_at c.loop-pass.seats.items c.pop.new.self.items c.args.seats.items c.args.leads.now c.loop-pass.leads c.len-place.result c.index-leads-place.result c.in-Some.pass c.merge.new.lead
    (c.len-place.ensures ∙ as_long) c.in-Some.ensures.items (sym c.requires.leads.as_long ∙ c.requires.seats.as_long) c.loop-pass.invariant c.merge.ensures

pub returns : goal.returns
returns g c =
    let none : c.loop-pass.seats.items ≡ [] = search rules in
    merged_all c.loop-pass.seats.items c.args.seats.items c.args.leads.now c.loop-pass.leads none (sym c.requires.leads.as_long ∙ c.requires.seats.as_long) c.loop-pass.invariant
