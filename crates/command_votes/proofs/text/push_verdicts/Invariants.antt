use Rattle.std.proofs.Common.{◌≡◌, ◌++◌, flat_map, take, string_bytes}
use Rattle.command_votes.specs.VotesText.{verdict_line}
use Rattle.command_votes.proofs.text.push_verdicts.Given as goal

-- the lines so far
abbrev pub invariant-loop-verdict : goal.invariant-loop-verdict
invariant-loop-verdict l = string_bytes l.text ≡ string_bytes l.fn.text ++ flat_map verdict_line (take l.verdict-index l.verdicts)
