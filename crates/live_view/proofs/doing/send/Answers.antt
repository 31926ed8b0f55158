use Rattle.std.proofs.Common.{◌∙◌, ap, refl, ◌++◌, ◌∷◌, [], List, ℕ}
use Rattle.view_shell.specs.Phases.{send_all}
use Rattle.live_view.specs.Doing.{after}
use Rattle.live_view.specs.Live.{drive}
use Rattle.live_view.proofs.Leading.{after_send}
use Rattle.live_view.proofs.Scripts.{drive_sends}
use Rattle.live_view.proofs.doing.send.Goals as goal

pub returns-clause-talk : goal.returns-clause-talk
returns-clause-talk c v frames task = record {
  leads = λ next.
      let old = c.args.out.now in
      let pushed = c.in_ok-push.ensures.ok ∙ ap (λ (bytes : List ℕ). old.frames ++ bytes ∷ []) c.in_ok-bytes.ensures in
      ap (after old) (drive_sends next v c.args.frame.now frames task)
      ∙ after_send old (record old { frames = c.push.new.self }) c.args.frame.now (drive next (send_all (record v { receives = 0 }) frames task)) (c.requires, c.typed_client.ensures) pushed refl;
}
