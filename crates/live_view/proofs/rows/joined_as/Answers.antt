use Rattle.std.proofs.Common.{sym, ap, ◌∙◌}
use Rattle.tea_io.specs.declared.link.Heard.TheVariants as heard
use Rattle.live_view.specs.declared.input.Goal.{Goal}
use Rattle.live_view.specs.Doing.{aim_of}
use Rattle.live_view.specs.Live.{joined_as}
use Rattle.live_view.proofs.Leading.{joined_if}
use Rattle.live_view.proofs.rows.joined_as.Goals as goal

pub returns-in-Join : goal.returns-in-Join
returns-in-Join c =
    joined_if c.synced_in.result _ (joined_as (aim_of c.args.goal) c.args.heard.now)
    (sym (ap (joined_as (aim_of c.args.goal)) c.in-Frame.is ∙ ap (λ (g : Goal). joined_as (aim_of g) (heard.Frame c.in-Frame.bytes)) c.in-Join.is)) c.synced_in.ensures

pub returns-in-Reach : goal.returns-in-Reach
returns-in-Reach c = sym (ap (joined_as (aim_of c.args.goal)) c.in-Frame.is ∙ ap (λ (g : Goal). joined_as (aim_of g) (heard.Frame c.in-Frame.bytes)) c.in-Reach.is)

pub returns-in-Settle : goal.returns-in-Settle
returns-in-Settle c = sym (ap (joined_as (aim_of c.args.goal)) c.in-Frame.is ∙ ap (λ (g : Goal). joined_as (aim_of g) (heard.Frame c.in-Frame.bytes)) c.in-Settle.is)

pub returns-in-CatchUp : goal.returns-in-CatchUp
returns-in-CatchUp c = sym (ap (joined_as (aim_of c.args.goal)) c.in-Frame.is ∙ ap (λ (g : Goal). joined_as (aim_of g) (heard.Frame c.in-Frame.bytes)) c.in-CatchUp.is)

pub returns-in-Snap : goal.returns-in-Snap
returns-in-Snap c = sym (ap (joined_as (aim_of c.args.goal)) c.in-Frame.is ∙ ap (λ (g : Goal). joined_as (aim_of g) (heard.Frame c.in-Frame.bytes)) c.in-Snap.is)

pub returns-in-Quiet : goal.returns-in-Quiet
returns-in-Quiet c = sym (ap (joined_as (aim_of c.args.goal)) c.in-Quiet.is)

pub returns-in-End : goal.returns-in-End
returns-in-End c = sym (ap (joined_as (aim_of c.args.goal)) c.in-End.is)

pub returns-in-Failed : goal.returns-in-Failed
returns-in-Failed c = sym (ap (joined_as (aim_of c.args.goal)) c.in-Failed.is)

pub returns-in-WantOfMemory : goal.returns-in-WantOfMemory
returns-in-WantOfMemory c = sym (ap (joined_as (aim_of c.args.goal)) c.in-WantOfMemory.is)

pub returns-in-See : goal.returns-in-See
returns-in-See c = sym (ap (joined_as (aim_of c.args.goal)) c.in-Frame.is ∙ ap (λ (g : Goal). joined_as (aim_of g) (heard.Frame c.in-Frame.bytes)) c.in-See.is)
