use Rattle.std.proofs.Common.{◌≡◌, drop, map}
use Rattle.std.specs.Str.Lines.{lines}
use Rattle.host_config.specs.Config.{AreNamed, config_lines_of, then_config}
use Rattle.host_config.proofs.reading.read_lines.Given as goal

-- the lines so far, and those that are left
abbrev pub invariant-loop-line : goal.invariant-loop-line
invariant-loop-line l = AreNamed l.taken.sessions × (then_config l.taken (config_lines_of (map (λ line. line.now) (drop l.line-index l.line-items))) ≡ config_lines_of (lines l.text))
