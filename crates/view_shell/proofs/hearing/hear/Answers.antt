use Rattle.std.proofs.Common.{◌≡◌, ◌==◌, false, refl, sym, arith}
use Rattle.std.proofs.lemmas.Bool.Decides.{nat_tests}
use Rattle.tea_io.specs.Links.{most_quiets}
use Rattle.view_shell.specs.Phases.{Over, heard_quiet, after_frame}
use Rattle.view_shell.specs.declared.ending.ViewEnd.TheVariants as ending
use Rattle.view_shell.specs.Viewers.{viewer}
use Rattle.view_shell.proofs.Going.{handed_on, reaches_end}
use Rattle.view_shell.proofs.Hearings.{hears_frame, hears_quiet, hears_end, hears_stop, hears_nothing_failed, hears_nothing_wanting, quiet_on, quiet_over}
use Rattle.view_shell.proofs.hearing.hear.Goals as goal

pub returns-in_ok-take-in-Frame-clause-talk : goal.returns-in_ok-take-in-Frame-clause-talk
returns-in_ok-take-in-Frame-clause-talk g c address lines aim =
    hears_frame _ (viewer address c.args.watcher.now lines) aim c.args.link.now c.recv.new.self c.in-Frame.bytes (after_frame (viewer address c.take.new.watcher lines) aim c.in_ok-take-in-Frame.field-0)
    (record { is_said = tt; heard = c.in-Frame.ensures.heard; coming = c.in-Frame.ensures.coming; sent = c.in-Frame.ensures.sent; later = c.in-Frame.ensures.later; cause = c.in-Frame.ensures.cause })
    (sym (c.in_ok-take-in-Frame.ensures.taken address lines aim))

pub returns-in_err-take-in-Frame-clause-talk : goal.returns-in_err-take-in-Frame-clause-talk
returns-in_err-take-in-Frame-clause-talk g c address lines aim =
    rw (handed_on c.from_residual.result c.in_err-take-in-Frame.field-0.0 c.from_residual.ensures.1)
    (hears_stop _ (viewer address c.args.watcher.now lines) aim _ _ c.in-Frame.bytes (viewer address c.take.new.watcher lines) c.in_err-take-in-Frame.field-0.0
    (record { is_said = tt; heard = c.in-Frame.ensures.heard; coming = c.in-Frame.ensures.coming; sent = c.in-Frame.ensures.sent; later = c.in-Frame.ensures.later; cause = c.in-Frame.ensures.cause })
    (c.in_err-take-in-Frame.ensures.taken address lines aim))

pub returns-then-watcher-eq-MOST_QUIETS-clause-talk : goal.returns-then-watcher-eq-MOST_QUIETS-clause-talk
returns-then-watcher-eq-MOST_QUIETS-clause-talk g c address lines aim =
    let v = viewer address c.args.watcher.now lines in
    let often : (heard_quiet v).quiets ≡ most_quiets = omega (arith, c.if-watcher-eq-MOST_QUIETS.true) in
    reaches_end _ _ (Over ending.Ended) ending.Ended _ _
    (hears_quiet _ v aim _ _ (Over ending.Ended)
    (record { is_said = tt; heard = c.in-Quiet.ensures.heard; coming = c.in-Quiet.ensures.coming; sent = c.in-Quiet.ensures.sent; later = c.in-Quiet.ensures.later; cause = c.in-Quiet.ensures.cause })
    (sym (quiet_over (heard_quiet v) aim often))) refl

pub returns-else-watcher-eq-MOST_QUIETS-clause-talk : goal.returns-else-watcher-eq-MOST_QUIETS-clause-talk
returns-else-watcher-eq-MOST_QUIETS-clause-talk g c address lines aim =
    let v = viewer address c.args.watcher.now lines in
    let seldom : ((heard_quiet v).quiets == most_quiets) ≡ false = grind (arith, nat_tests, c.if-watcher-eq-MOST_QUIETS.false) in
    hears_quiet _ v aim _ _ _
    (record { is_said = tt; heard = c.in-Quiet.ensures.heard; coming = c.in-Quiet.ensures.coming; sent = c.in-Quiet.ensures.sent; later = c.in-Quiet.ensures.later; cause = c.in-Quiet.ensures.cause })
    (sym (quiet_on (heard_quiet v) aim seldom))

pub returns-in-End-clause-talk : goal.returns-in-End-clause-talk
returns-in-End-clause-talk g c address lines aim =
    hears_end _ (viewer address c.args.watcher.now lines) aim _ _
    (record { is_said = tt; heard = c.in-End.ensures.heard; coming = c.in-End.ensures.coming; sent = c.in-End.ensures.sent; later = c.in-End.ensures.later; cause = c.in-End.ensures.cause })

pub returns-in-Failed-clause-talk : goal.returns-in-Failed-clause-talk
returns-in-Failed-clause-talk g c address lines aim =
    hears_nothing_failed _ (viewer address c.args.watcher.now lines) aim _ _
    (record { is_said = tt; heard = c.in-Failed.ensures.heard; coming = c.in-Failed.ensures.coming; sent = c.in-Failed.ensures.sent; later = c.in-Failed.ensures.later; cause = c.in-Failed.ensures.cause })

pub returns-in-WantOfMemory-clause-talk : goal.returns-in-WantOfMemory-clause-talk
returns-in-WantOfMemory-clause-talk g c address lines aim =
    hears_nothing_wanting _ (viewer address c.args.watcher.now lines) aim _ _
    (record { is_said = tt; heard = c.in-WantOfMemory.ensures.heard; coming = c.in-WantOfMemory.ensures.coming; sent = c.in-WantOfMemory.ensures.sent; later = c.in-WantOfMemory.ensures.later; cause = c.in-WantOfMemory.ensures.cause })
