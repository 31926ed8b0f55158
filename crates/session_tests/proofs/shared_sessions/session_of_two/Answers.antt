use Rattle.std.proofs.Common.{◌≡◌, ℕ, ap, sym, ◌∙◌, arith}
use Rattle.session_lock.specs.Passes.{PassState, numbers_held}
use Rattle.session_tests.proofs.shared_sessions.session_of_two.Goals as goal

pub close-requires-clause-whole : goal.close-requires-clause-whole
close-requires-clause-whole g c =
    let whole : numbers_held c.in-Ok.first ≡ 4294967296 = ap numbers_held c.in-Ok.ensures.pass in
    omega (arith, whole, c.split.ensures.numbers_left, c.in_ok-second.ensures.numbers.0, c.split-2.ensures.numbers_left, c.in_ok-third.ensures.numbers.0, c.two_join_and_send-first.ensures.first_numbers, c.two_join_and_send-first.ensures.second_numbers, c.merge.ensures.numbers, c.merge-2.ensures.numbers, ap numbers_held c.calls_done.ensures.seen.same, ap numbers_held c.calls_done-2.ensures.seen.same)
