use Rattle.std.proofs.Common.{refl, sym, subst, arith, Bool}
use Rattle.live_shell.specs.LiveSteps.{feed_tells}
use Rattle.live_shell.specs.LiveRun.{PausesBy}
use Rattle.live_shell.proofs.Turns.{fewer_is, same_is}
use Rattle.live_shell.proofs.calls.pause_if.Goals as goal

pub returns-then-left-before : goal.returns-then-left-before
returns-then-left-before g c held some is =
    let feed = feed_tells g.K.Feed in
    subst (λ (b : Bool). PausesBy feed b c.args.feed.now c.args.feed.now) (sym (same_is held c.args.before c.args.left some is (λ fewer. omega (arith, fewer, c.if-left-before.true)))) refl

pub returns : goal.returns
returns g c held some is =
    let feed = feed_tells g.K.Feed in
    subst (λ (b : Bool). PausesBy feed b c.args.feed.now c.pause.new.self) (sym (fewer_is held c.args.before c.args.left some is (omega (arith, c.if-left-before.false))))
    (record { told = c.pause.ensures.told; coming = c.pause.ensures.coming; faults = c.pause.ensures.faults })
