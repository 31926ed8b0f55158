-- What is true of the events that are not acknowledged, as they are in memory.
use Rattle.std.specs.Prelude.{◌≡◌, ◌≤◌, ℕ, List, All, length, sum_by}
use Rattle.tea_base.specs.Limits.{most_payload}
use Rattle.replica_plain.specs.PlainReplica.{most_published}

-- these payloads are held, with this number of bytes
pub record HoldsOutbox (payloads : List (List ℕ)) (bytes : ℕ) : Type 0 where
  pub total : bytes ≡ sum_by length payloads
  pub short : All (λ payload. length payload ≤ most_payload) payloads
  pub few : length payloads ≤ most_published
