use Rattle.std.proofs.Common.{◌≡◌, drop, map}
use Rattle.std.specs.Str.Lines.{lines}
use Rattle.command_stamp.specs.Script.{requests_of}
use Rattle.command_stamp.specs.ScriptRead.{then_requests}
use Rattle.command_stamp.proofs.script.read_lines.Given as goal

-- the requests so far, and those of the lines that are left
abbrev pub invariant-loop-line : goal.invariant-loop-line
invariant-loop-line l = then_requests l.requests (requests_of (map (λ line. line.now) (drop l.line-index l.line-items))) ≡ requests_of (lines l.text)
