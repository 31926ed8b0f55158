use Rattle.std.proofs.Common.{◌≡◌, ℕ, ap, sym, ◌∙◌, arith}
use Rattle.session_lock.specs.Passes.{PassState, numbers_held}
use Rattle.session_tests.proofs.shared_sessions.session_with_snapshot.Goals as goal

pub close-requires-clause-whole : goal.close-requires-clause-whole
close-requires-clause-whole g c =
    let whole : numbers_held c.in-Ok.first ≡ 4294967296 = ap numbers_held c.in-Ok.ensures.pass in
    omega (arith, whole, c.split.ensures.numbers_left, c.in_ok-second.ensures.numbers.0, c.in_ok-offer_and_join.ensures.first_numbers, c.in_ok-offer_and_join.ensures.second_numbers, c.merge.ensures.numbers)
