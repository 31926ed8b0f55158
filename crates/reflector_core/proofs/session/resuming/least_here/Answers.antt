use Rattle.std.proofs.Common.{ℕ, ◌≡◌, length, subst, arith}
use Rattle.reflector_core.proofs.NextHereLaws.{HasFound, none_found, found_more, is_next}
use Rattle.reflector_core.proofs.session.resuming.least_here.Goals as goal

pub loop-i-init : goal.loop-i-init
loop-i-init c = none_found c.args.log.now.entries c.args.above

pub loop-i-preserved : goal.loop-i-preserved
loop-i-preserved c =
    found_more c.args.log.now.entries c.args.above c.loop-i.i c.view_of.result c.loop-i.found c.lesser_here-found.result (omega (arith, c.len-len.ensures.len))
    c.view_of.ensures (c.lesser_here-found.ensures c.args.log.now.entries c.requires) c.loop-i.invariant

pub returns : goal.returns
returns c =
    let all : c.loop-i.i ≡ length c.args.log.now.entries = omega (arith, c.len-len.ensures.len) in
    is_next c.args.log.now.entries c.args.above c.loop-i.found (subst (λ (n : ℕ). HasFound c.args.log.now.entries c.args.above n c.loop-i.found) all c.loop-i.invariant)
