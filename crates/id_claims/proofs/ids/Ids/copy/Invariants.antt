use Rattle.std.proofs.Common.{◌≡◌, ◌≤◌, take, vec_capacity}
use Rattle.id_claims.specs.Ids.{most_ids}
use Rattle.id_claims.proofs.ids.Ids.copy.Given as goal

abbrev pub invariant-loop-id : goal.invariant-loop-id
invariant-loop-id l = (l.ids.items ≡ take l.id-index l.listed) × (most_ids ≤ vec_capacity l.ids)
