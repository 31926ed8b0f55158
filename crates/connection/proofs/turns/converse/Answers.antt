use Rattle.std.proofs.Common.{arith, refl, ap, ◌∙◌}
use Rattle.session_lock.specs.Passes.{PassState}
use Rattle.connection.proofs.Talking.{kept_on, talks_still, talks_then}
use Rattle.connection.proofs.turns.converse.Goals as goal

pub loop-init : goal.loop-init
loop-init g c = record { row = omega arith; session = c.requires.session; standing = c.requires.standing; kept = refl; talk = talks_still _ _ _ _ }

pub loop-preserved : goal.loop-preserved
loop-preserved g c = record {
  row = c.in-Ok.ensures.row;
  session = ap (λ (s : PassState). s.session) c.turn.ensures.kept ∙ c.loop.invariant.session;
  standing = c.in-Ok.ensures.standing;
  kept = kept_on c.args.pass.now c.loop.pass c.turn.new.pass c.loop.invariant.kept c.turn.ensures.kept;
  talk = talks_then _ _ _ _ _ _ _ _ c.loop.invariant.talk c.in-Ok.ensures.talk;
}

pub returns-in-Err-clause-talk : goal.returns-in-Err-clause-talk
returns-in-Err-clause-talk g c = talks_then _ _ _ _ _ _ _ _ c.loop.invariant.talk c.in-Err.ensures.talk
