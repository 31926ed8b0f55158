use Rattle.std.proofs.Common.{◌∙◌, subst, sym}
use Rattle.std.specs.List.{AllByRecursion}
use Rattle.wire_frames.specs.Frames.{FitsServer}
use Rattle.connection.proofs.Talking.{batch_wants, hands_out, talks_to}
use Rattle.connection.proofs.turns.hand_out.Goals as goal

pub tell_all-requires : goal.tell_all-requires
tell_all-requires g c = subst (AllByRecursion FitsServer) (sym (c.as_slice.ensures ∙ c.in-Ok.ensures.frames)) c.requires.fit

pub returns-in-Err-clause-talk : goal.returns-in-Err-clause-talk
returns-in-Err-clause-talk g c pass quiets = talks_to _ _ _ _ _ _ _ c.leave_at.ensures (batch_wants _ _ c.args.cursor.now c.args.batch quiets _)

pub returns-clause-talk : goal.returns-clause-talk
returns-clause-talk g c pass quiets =
    hands_out _ _ c.args.cursor.now _ c.args.batch quiets _ c.tell_all.result _ _ (c.as_slice.ensures ∙ c.in-Ok.ensures.frames) c.in-Ok.ensures.cursor (c.tell_all.ensures pass)
