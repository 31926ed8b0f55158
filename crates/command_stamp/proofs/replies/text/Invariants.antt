use Rattle.std.proofs.Common.{◌≡◌, ◌++◌, drop, string_bytes}
use Rattle.command_stamp.specs.ReplyText.{text_of}
use Rattle.command_stamp.proofs.replies.text.Given as goal

-- the text so far, and the lines of the replies that are left
abbrev pub invariant-loop-reply : goal.invariant-loop-reply
invariant-loop-reply l = string_bytes l.text ++ text_of (drop l.reply-index l.replies) ≡ text_of l.replies
