use Rattle.std.proofs.Common.{ℕ, ◌+◌, ◌-◌, ◌≡◌, List, take, take_all, ap, ◌∙◌, arith}
use Rattle.tea_base.specs.declared.entry.Entry.{Entry}
use Rattle.resend_table.specs.Stands.{stand_of}
use Rattle.reflector_core.proofs.session.going_back.stand_in.Goals as goal

pub loop-place-init : goal.loop-place-init
loop-place-init c = c.absent-stand.ensures

pub stand_after-stand-requires-clause-stood : goal.stand_after-stand-requires-clause-stood
stand_after-stand-requires-clause-stood c =
    let same : c.loop-place.place ≡ c.loop-place.place + 1 - 1 = omega arith in
    c.loop-place.invariant ∙ ap (λ (n : ℕ). stand_of (take n c.args.log.now.entries) c.args.view) same

pub loop-place-preserved : goal.loop-place-preserved
loop-place-preserved c = c.stand_after-stand.ensures

pub returns : goal.returns
returns c =
    c.loop-place.invariant ∙ ap (λ (l : List Entry). stand_of l c.args.view) (take_all c.loop-place.place c.args.log.now.entries (omega (arith, c.len-len.ensures.len)))
