use Rattle.std.proofs.Common.{refl, ap, ◌++◌, ◌∙◌, List, ℕ, string_bytes}
use Rattle.view_shell.specs.Viewers.{viewer}
use Rattle.live_view.proofs.Leading.{finish_comes}
use Rattle.live_view.proofs.doing.tell.Goals as goal

pub returns-clause-told : goal.returns-clause-told
returns-clause-told c address lines =
    finish_comes c.args.out.now (record c.args.out.now { text = c.push_str.new.self }) (viewer address c.args.watcher.now lines) (viewer address c.shown_text.new.watcher lines) c.args.text.now refl
    (c.in_ok-push_str.ensures.bytes ∙ ap (λ (l : List ℕ). string_bytes c.args.out.now.text ++ l) (c.as_str.ensures.value ∙ c.in_ok-shown.ensures.shown address lines))
    (ap (λ w. viewer address w lines) c.shown_text.ensures.kept)
