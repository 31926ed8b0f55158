use Rattle.std.proofs.Common.{◌≡◌, drop, map}
use Rattle.std.specs.Str.Lines.{lines}
use Rattle.command_hub.specs.HubScript.{AreNamed, hub_lines_of, then_lines}
use Rattle.command_hub.proofs.script.read_lines.Given as goal

-- the lines so far, and those that are left
abbrev pub invariant-loop-line : goal.invariant-loop-line
invariant-loop-line l = AreNamed l.taken × (then_lines l.taken (hub_lines_of (map (λ line. line.now) (drop l.line-index l.line-items))) ≡ hub_lines_of (lines l.text))
