use Rattle.std.proofs.Common.{sym, subst}
use Rattle.session_lock.specs.Passes.{PassState}
use Rattle.host_posts.specs.Passes.{HasSplitPost, IsPostPass}
use Rattle.host_posts.proofs.SplitLaws.{kept_but_spare, post_pass}
use Rattle.host_posts.proofs.splitting.split_pass.Goals as goal

pub returns : goal.returns
returns g c =
    subst (λ (p : PassState). HasSplitPost p c.split.new.pass c.new.result) c.lead.view_is (record {
      kept = kept_but_spare c.lead.inside.pass c.split.new.pass _ c.split.ensures.kept;
      is_post =
          subst (λ (p : PassState). IsPostPass c.lead.inside.pass p) (sym c.new.ensures)
          (post_pass c.lead.inside.pass c.in-Ok.pass c.in-Ok.ensures.given c.in-Ok.ensures.numbers.1);
      numbers = c.split.ensures.numbers_left;
      spare = c.split.ensures.spare_left;
    })
