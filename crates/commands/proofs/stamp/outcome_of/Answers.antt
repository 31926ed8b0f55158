use Rattle.std.proofs.Common.{◌∙◌, ap}
use Rattle.command_stamp.specs.ReplyText.{text_of}
use Rattle.commands.proofs.StampLaws.{answered}
use Rattle.commands.proofs.stamp.outcome_of.Goals as goal

pub returns : goal.returns
returns c =
    answered c.args.opening.plain c.in_ok-session.session.plain c.args.log c.args.requests.now c.in_ok-session.replies c.in_ok-files.files c.from_vec.result
    (rw c.as_slice.ensures at c.in_ok-session.ensures.session)
    (rw c.as_slice.ensures at c.in_ok-session.ensures.replies)
    c.in_ok-files.ensures
    (rw (c.from_vec.ensures, c.into_bytes.ensures.value) (c.in_ok-text.ensures ∙ ap text_of c.as_slice-2.ensures))
