use Rattle.std.proofs.Common.{◌≡◌, ◌<◌, ◌^◌, arith, rules, refl, sym, ap, ◌++◌}
use Rattle.view_script.specs.PlainLine.{Vote}
use Rattle.live_view.proofs.Queues.{lines_first}
use Rattle.live_view.specs.declared.input.Goal.{Goal}
use Rattle.live_view.specs.Doing.{aim_of, votes_for}
use Rattle.live_view.specs.Live.{line_again}
use Rattle.live_view.specs.View.{left}
use Rattle.live_view.proofs.machine.LiveView.put_back.Goals as goal

pub returns-in-Join-clause-left : goal.returns-in-Join-clause-left
returns-in-Join-clause-left c = sym (ap (λ (g : Goal). line_again (aim_of g) ++ left c.args.self.now) c.in-Join.is)

pub returns-in-CatchUp-clause-left : goal.returns-in-CatchUp-clause-left
returns-in-CatchUp-clause-left c = sym (ap (λ (g : Goal). line_again (aim_of g) ++ left c.args.self.now) c.in-CatchUp.is)

-- ---- room for the line that is left

pub put_first-requires-clause-few : goal.put_first-requires-clause-few
put_first-requires-clause-few c = let has = c.requires.lines.room in let counted = c.requires.lines.counted in omega (arith, has, counted)

pub put_first-requires-in-Settle-clause-few : goal.put_first-requires-in-Settle-clause-few
put_first-requires-in-Settle-clause-few c = let has = c.requires.lines.room in let counted = c.requires.lines.counted in omega (arith, has, counted)

pub put_first-requires-in-Snap-clause-few : goal.put_first-requires-in-Snap-clause-few
put_first-requires-in-Snap-clause-few c = let has = c.requires.lines.room in let counted = c.requires.lines.counted in omega (arith, has, counted)

pub put_first-requires-in-See-clause-few : goal.put_first-requires-in-See-clause-few
put_first-requires-in-See-clause-few c = let one : votes_for c.args.goal ≡ 1 = ap votes_for c.in-See.is in let has = c.requires.lines.room in let counted = c.requires.lines.counted in omega (arith, one, has, counted)

pub returns-in-See-clause-lines : goal.returns-in-See-clause-lines
returns-in-See-clause-lines c =
    let s = c.args.self.now in
    let small : c.in-See.at < 2 ^ 32 = search rules in
    lines_first c.put_first-in-See.result s.watcher.published (votes_for c.args.goal) 1 s.queue c.put_first-in-See.new.self (Vote c.in-See.at) small refl (sym (ap votes_for c.in-See.is)) c.requires.lines
    c.put_first-in-See.ensures.left c.put_first-in-See.ensures.within c.put_first-in-See.ensures.counted
