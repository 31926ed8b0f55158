use Rattle.std.proofs.Common.{map, take}
use Rattle.system_core.specs.Parts.{IsNoneOf, member_view}
use Rattle.system_core.proofs.member.place.Given as goal

-- none of those before is of the view
abbrev pub invariant-loop-index : goal.invariant-loop-index
invariant-loop-index l = IsNoneOf l.view (map member_view (take l.index l.members))
