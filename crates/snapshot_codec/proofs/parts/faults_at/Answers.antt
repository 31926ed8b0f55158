use Rattle.std.proofs.Common.{◌≡◌, ◌<◌, ◌∙◌, List, ℕ, Some, take, length, sym, ap, arith}
use Rattle.std.specs.Int.{w64}
use Rattle.std.proofs.lemmas.List.{take_more_set, take_all, length-set}
use Rattle.byte_fields.specs.Fields.{number_at}
use Rattle.byte_fields.proofs.Loops.{goes_on, ends, is_done}
use Rattle.snapshot_codec.proofs.parts.faults_at.Goals as goal

pub returns-in_err-count : goal.returns-in_err-count
returns-in_err-count c =
    let none = sym c.in_err-count.ensures in
    rw c.from_residual.ensures (sym (ends (λ _. number_at w64) (take c.loop-i.i c.loop-i.faults) 14 c.loop-i.i c.loop-i.rest.now _ c.loop-i-test.true none c.loop-i.invariant.same))

pub loop-i-preserved : goal.loop-i-preserved
loop-i-preserved c =
    let inside : c.loop-i.i < length c.loop-i.faults = omega (arith, c.loop-i-test.true, c.loop-i.invariant.kinds) in
    record {
      kinds = length-set c.loop-i.faults c.loop-i.i c.in_ok-count.count ∙ c.loop-i.invariant.kinds;
      same = rw (take_more_set c.loop-i.faults c.loop-i.i c.in_ok-count.count inside)
          (goes_on (λ _. number_at w64) (take c.loop-i.i c.loop-i.faults) 14 c.loop-i.i c.loop-i.rest.now c.in_ok-count.count c.in_ok-count.after.now _ c.loop-i-test.true (sym c.in_ok-count.ensures) c.loop-i.invariant.same);
    }

pub returns : goal.returns
returns c =
    let all : take c.loop-i.i c.loop-i.faults ≡ c.loop-i.faults = take_all c.loop-i.i c.loop-i.faults (omega (arith, c.loop-i-test.false, c.loop-i.invariant.kinds)) in
    let read = is_done (λ _. number_at w64) (take c.loop-i.i c.loop-i.faults) 14 c.loop-i.i c.loop-i.rest.now _ c.loop-i-test.false c.loop-i.invariant.same in
    sym (read ∙ ap (λ (faults : List ℕ). Some (faults, c.loop-i.rest.now)) all)
