use Rattle.std.proofs.Common.{◌≡◌, ◌<◌, ◌^◌, ◌++◌, ℕ, List, take, drop}
use Rattle.sha2.specs.Hashers.{Holds256}
use Rattle.model_value.specs.Plain.{weight_of_all}
use Rattle.model_value.specs.Spelling.{items_spelling}
use Rattle.model_value.specs.View.{plains}
use Rattle.snapshot_codec.proofs.values.+hash_value.Given as goal

abbrev pub invariant-hash_items-loop-item : goal.invariant-hash_items-loop-item
invariant-hash_items-loop-item l = record {
  light : weight_of_all (plains (drop l.item-index l.items)) < 2 ^ 28;
  hashed : (m : List ℕ) → Holds256 l.initial.hasher m → Holds256 l.hasher (m ++ items_spelling (plains (take l.item-index l.items)));
}
