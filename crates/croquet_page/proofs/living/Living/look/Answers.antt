use Rattle.std.proofs.Common.{◌≡◌, ℕ, List, IfOk, OnOk, string_bytes, subst}
use Rattle.view_shell.specs.Phases.{world_text}
use Rattle.view_shell.specs.Viewers.{viewer}
use Rattle.live_view.specs.declared.machine.LiveView.{LiveView}
use Rattle.live_view.specs.Looking.{rested_at}
use Rattle.live_view.specs.View.{left}
use Rattle.croquet_page.proofs.living.Living.look.Goals as goal

pub returns-clause-rests : goal.returns-clause-rests
returns-clause-rests c =
    subst (λ (old : LiveView). (address : List ℕ) → OnOk c.look.result (viewer address c.look.new.self.watcher (left c.look.new.self) ≡ rested_at old.place (viewer address old.watcher (left old)))) c.self.view_is
    c.look.ensures.rests

pub returns-clause-text : goal.returns-clause-text
returns-clause-text c =
    subst (λ (old : LiveView). (address : List ℕ) → IfOk c.look.result (λ text. string_bytes text ≡ world_text (rested_at old.place (viewer address old.watcher (left old))))) c.self.view_is c.look.ensures.text
