use Rattle.std.proofs.Common.{◌≡◌, ◌≤◌, ◌*◌, take, sum}
use Rattle.world_lines.proofs.world_text.faults_sum.Given as goal

-- the faults of the kinds so far
abbrev pub invariant-loop-count : goal.invariant-loop-count
invariant-loop-count l = record {
  so_far : l.total ≡ sum (take l.count-index l.faults);
  bound : l.total ≤ l.count-index * 18446744073709551615;
}
