use Rattle.std.proofs.Common.{◌≡◌, ℕ, ap, subst, ◌∙◌}
use Rattle.std.specs.Prelude.{IfErr, OnOk}
use Rattle.run_steps.specs.Outside.{PrintsText, Well, links_tell, output_tells}
use Rattle.replica_plain.specs.PlainReplica.{published_count}
use Rattle.view_shell.specs.declared.watcher.Watcher.{Watcher}
use Rattle.view_shell.specs.Phases.{TellsText, shown_text}
use Rattle.view_shell.specs.ViewText.{voted_line}
use Rattle.view_shell.specs.Viewers.{viewer}
use Rattle.view_shell.specs.Hearing.{vote_told}
use Rattle.view_shell.specs.ViewRun.{StopsPrinting}
use Rattle.view_shell.proofs.Going.{handed_on, stops_in_link_side}
use Rattle.view_shell.proofs.Flowing.{line_done}
use Rattle.view_shell.proofs.Readiness.{viewer_finished}
use Rattle.view_shell.proofs.lines.tell_vote.Goals as goal

pub returns-in_err-send_unsent-clause-talk : goal.returns-in_err-send_unsent-clause-talk
returns-in_err-send_unsent-clause-talk g c address lines =
    let out = output_tells g.W.Sink in
    let links = links_tell g.L.Link in
    let old = c.args.watcher.now in
    rw (handed_on c.from_residual.result c.in_err-send_unsent.field-0.0 c.from_residual.ensures.1)
    (stops_in_link_side out links c.args.out.now (vote_told (viewer address old lines) c.args.at) c.in_err-send_unsent.field-0.0 c.args.link.now c.send_unsent.new.link
    (c.in_err-send_unsent.ensures.talk address lines (TellsText (voted_line c.args.at (published_count old.replica.plain)))))

pub returns-clause-talk : goal.returns-clause-talk
returns-clause-talk g c address lines =
    let out = output_tells g.W.Sink in
    let links = links_tell g.L.Link in
    let old = c.args.watcher.now in
    let v = viewer address c.send_unsent.new.watcher lines in
    let w = c.args.out.now in
    let w' = c.finish_with.new.out in
    let count : c.send_unsent.new.watcher.published ≡ published_count old.replica.plain = ap (λ (w : Watcher). w.published) c.send_unsent.ensures.kept ∙ c.requires.ready.knows.published in
    line_done out links (vote_told (viewer address old lines) c.args.at) w w' c.args.link.now c.send_unsent.new.link
    v (viewer address c.finish_with.new.watcher lines) (voted_line c.args.at (published_count old.replica.plain)) c.finish_with.result
    (viewer_finished address lines c.send_unsent.new.watcher c.finish_with.new.watcher c.finish_with.result c.finish_with.ensures.kept c.finish_with.ensures.ok)
    (c.in_ok-send_unsent.ensures.talk address lines (TellsText (voted_line c.args.at (published_count old.replica.plain))))
    (subst (λ (n : ℕ). OnOk c.finish_with.result (PrintsText out Well (shown_text v (voted_line c.args.at n)) w w')) count (rw (c.from.ensures, c.from-number.ensures) at c.finish_with.ensures.printed address lines))
    (subst (λ (n : ℕ). IfErr c.finish_with.result (λ end. StopsPrinting out end (shown_text v (voted_line c.args.at n)) w w')) count (rw (c.from.ensures, c.from-number.ensures) at c.finish_with.ensures.err address lines))
