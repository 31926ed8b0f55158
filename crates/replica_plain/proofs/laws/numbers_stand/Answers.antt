use Rattle.std.proofs.Common.{refl, arith}
use Rattle.replica_plain.proofs.Numbers.{taken_counted, lost_counted, counted_anew, counted_so, publishes_counted, gives_counted}
use Rattle.replica_plain.specs.Calls.{joining, loses, takes_out}
use Rattle.replica_plain.proofs.laws.numbers_stand.Goals as goal

pub returns : goal.returns
returns g c = record {
  founded = λ m view. record { least = omega arith; few = omega arith; most = omega arith };
  takes = taken_counted;
  wants = lost_counted;
  joins = λ r how are. counted_anew r (joining r how) refl refl refl are;
  loses = λ m r are. counted_anew r (loses m r) refl refl refl are;
  publishes = publishes_counted;
  gives = gives_counted;
  takes_out = λ r are. counted_so r (takes_out r) refl refl refl are;
}
