use Rattle.std.proofs.Common.{arith}
use Rattle.tea_io.specs.declared.link.Heard.TheVariants.{Frame, Quiet, End, Failed, WantOfMemory}
use Rattle.connection.proofs.Talking.{opening_over, opens, talks_still}
use Rattle.connection.proofs.opening.first_frame.Goals as goal

pub loop-quiets-init : goal.loop-quiets-init
loop-quiets-init g c pass = talks_still _ _ _ _

pub returns-in-Frame : goal.returns-in-Frame
returns-in-Frame g c pass =
    opens _ _ c.loop-quiets._quiets (Frame c.in-Frame.bytes) pass _ _ _ c.loop-quiets-test.true (c.loop-quiets.invariant pass)
    (record { heard = c.in-Frame.ensures.heard; sent = c.in-Frame.ensures.sent; later = c.in-Frame.ensures.later; cause = c.in-Frame.ensures.cause })

pub returns-in-End : goal.returns-in-End
returns-in-End g c pass =
    opens _ _ c.loop-quiets._quiets End pass _ _ _ c.loop-quiets-test.true (c.loop-quiets.invariant pass)
    (record { heard = c.in-End.ensures.heard; sent = c.in-End.ensures.sent; later = c.in-End.ensures.later; cause = c.in-End.ensures.cause })

pub returns-in-Failed : goal.returns-in-Failed
returns-in-Failed g c pass =
    opens _ _ c.loop-quiets._quiets Failed pass _ _ _ c.loop-quiets-test.true (c.loop-quiets.invariant pass)
    (record { heard = c.in-Failed.ensures.heard; sent = c.in-Failed.ensures.sent; later = c.in-Failed.ensures.later; cause = c.in-Failed.ensures.cause })

pub returns-in-WantOfMemory : goal.returns-in-WantOfMemory
returns-in-WantOfMemory g c pass =
    opens _ _ c.loop-quiets._quiets WantOfMemory pass _ _ _ c.loop-quiets-test.true (c.loop-quiets.invariant pass)
    (record { heard = c.in-WantOfMemory.ensures.heard; sent = c.in-WantOfMemory.ensures.sent; later = c.in-WantOfMemory.ensures.later; cause = c.in-WantOfMemory.ensures.cause })

pub loop-quiets-preserved : goal.loop-quiets-preserved
loop-quiets-preserved g c pass =
    opens _ _ c.loop-quiets._quiets Quiet pass _ _ _ c.loop-quiets-test.true (c.loop-quiets.invariant pass)
    (record { heard = c.in-Quiet.ensures.heard; sent = c.in-Quiet.ensures.sent; later = c.in-Quiet.ensures.later; cause = c.in-Quiet.ensures.cause })

pub returns : goal.returns
returns g c pass = opening_over _ _ c.loop-quiets._quiets _ _ (omega (arith, c.loop-quiets-test.false, c.loop-quiets.auto._quiets-end)) (c.loop-quiets.invariant pass)
