use Rattle.std.proofs.Common.{refl, arith}
use Rattle.connection.specs.declared.ending.Ended.TheVariants as ended
use Rattle.tea_io.specs.declared.link.Heard.TheVariants.{End, Failed, WantOfMemory}
use Rattle.host_server.proofs.Quiets.{gives_first, gives_none, idle, quiet_more, quiet_none}
use Rattle.host_server.proofs.hearing.hear.Goals as goal

pub loop-quiets-init : goal.loop-quiets-init
loop-quiets-init g c = quiet_none _

pub loop-quiets-preserved : goal.loop-quiets-preserved
loop-quiets-preserved g c =
    quiet_more c.loop-quiets._quiets _ _ _ c.loop-quiets.invariant
    (record { heard = c.in-Quiet.ensures.heard; sent = c.in-Quiet.ensures.sent; later = c.in-Quiet.ensures.later; cause = c.in-Quiet.ensures.cause })

pub returns-in-Frame : goal.returns-in-Frame
returns-in-Frame g c =
    gives_first c.loop-quiets._quiets c.in-Frame.first _ _ _ c.loop-quiets-test.true c.loop-quiets.invariant
    (record { heard = c.in-Frame.ensures.heard; sent = c.in-Frame.ensures.sent; later = c.in-Frame.ensures.later; cause = c.in-Frame.ensures.cause })

pub returns-in-End : goal.returns-in-End
returns-in-End g c =
    gives_none c.loop-quiets._quiets End ended.LinkEnd _ _ _ c.loop-quiets-test.true (λ id. refl) refl (λ rose. rose) c.loop-quiets.invariant
    (record { heard = c.in-End.ensures.heard; sent = c.in-End.ensures.sent; later = c.in-End.ensures.later; cause = c.in-End.ensures.cause })

pub returns-in-Failed : goal.returns-in-Failed
returns-in-Failed g c =
    gives_none c.loop-quiets._quiets Failed ended.LinkFault _ _ _ c.loop-quiets-test.true (λ id. refl) refl (λ rose. rose) c.loop-quiets.invariant
    (record { heard = c.in-Failed.ensures.heard; sent = c.in-Failed.ensures.sent; later = c.in-Failed.ensures.later; cause = c.in-Failed.ensures.cause })

pub returns-in-WantOfMemory : goal.returns-in-WantOfMemory
returns-in-WantOfMemory g c =
    gives_none c.loop-quiets._quiets WantOfMemory ended.WantOfMemory _ _ _ c.loop-quiets-test.true (λ id. refl) refl (λ rose. rose) c.loop-quiets.invariant
    (record { heard = c.in-WantOfMemory.ensures.heard; sent = c.in-WantOfMemory.ensures.sent; later = c.in-WantOfMemory.ensures.later; cause = c.in-WantOfMemory.ensures.cause })

pub returns : goal.returns
returns g c = idle c.loop-quiets._quiets _ _ (omega (arith, c.loop-quiets-test.false, c.loop-quiets.auto._quiets-end)) c.loop-quiets.invariant
