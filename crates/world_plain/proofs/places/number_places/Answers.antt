use Rattle.std.proofs.Common.{ℕ, length, ◌∙◌, arith}
use Rattle.std.specs.List.{range_with_len}
use Rattle.std.proofs.lemmas.List.{map-id}
use Rattle.std.proofs.lemmas.List.FromFn.{fill_by_all}
use Rattle.world_plain.proofs.places.number_places.Goals as goal

pub returns : goal.returns
returns c =
    let n = length c.args.places.now in
    fill_by_all (λ (k : ℕ). k) c.loop-i.places n 0 (omega arith) (λ k h. c.loop-i.invariant k (omega arith)) ∙ map-id (range_with_len 0 n)
