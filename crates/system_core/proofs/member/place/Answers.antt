use Rattle.std.proofs.Common.{ℕ, ◌≡◌, ◌+◌, map, suc, take, refl, subst, arith}
use Rattle.std.proofs.lemmas.List.{take_all}
use Rattle.std.proofs.lemmas.Option.{slice_get_read}
use Rattle.system_core.specs.Parts.{IsNoneOf, member_view}
use Rattle.system_core.proofs.Members.{absent-next}
use Rattle.system_core.proofs.member.place.Goals as goal

pub returns : goal.returns
returns c =
    subst (λ members. IsNoneOf c.args.view (map member_view members)) (take_all c.loop-index.index c.args.members.now c.loop-index-test.false) c.loop-index.invariant

pub returns-then-member-view : goal.returns-then-member-view
returns-then-member-view c =
    (c.index-members-index.result, slice_get_read c.args.members.now _ c.loop-index.index c.index-members-index.result refl c.loop-index-test.true c.index-members-index.is, c.if-member-view.true)

pub loop-index-preserved : goal.loop-index-preserved
loop-index-preserved c =
    let next : suc c.loop-index.index ≡ c.loop-index.index + 1 = omega arith in
    subst (λ (k : ℕ). IsNoneOf c.args.view (map member_view (take k c.args.members.now))) next
    (absent-next c.args.view c.args.members.now c.loop-index.index c.index-members-index.result c.loop-index.invariant
    (slice_get_read c.args.members.now _ c.loop-index.index c.index-members-index.result refl c.loop-index-test.true c.index-members-index.is) c.if-member-view.false)
