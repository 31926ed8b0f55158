use Rattle.std.proofs.Common.{◌≡◌, List, [], ◌∷◌, ap, sym, ◌∙◌}
use Rattle.session_lock.specs.History.{calls_of}
use Rattle.session_lock.specs.Passes.{PassState, caller, first_pass}
use Rattle.reflect_tests.proofs.Made.{made_so}
use Rattle.reflect_tests.proofs.rejoined.is_refused_as_stale.Goals as goal

pub invariant_of-link : goal.invariant_of-link
invariant_of-link g c =
    let first : c.in_ok-shared.first ≡ first_pass c.in_ok-shared.shared.session c.new.result.plain =
    made_so (λ made. made.1 ≡ first_pass made.0.session c.new.result.plain) c.new-2.result (c.in_ok-shared.shared, c.in_ok-shared.first) (sym c.ok.ensures.value ∙ c.in_ok-shared.ensures.ok_part) c.new-2.ensures.pass in
    record { within = ap (λ (p : PassState). p.session) c.in_ok-pass.ensures.given.same ∙ ap (λ (p : PassState). p.session) first }

pub serve_connection-ended-requires-clause-fresh :
    goal.serve_connection-ended-requires-clause-fresh
serve_connection-ended-requires-clause-fresh g c =
    let first : c.in_ok-shared.first ≡ first_pass c.in_ok-shared.shared.session c.new.result.plain =
    made_so (λ made. made.1 ≡ first_pass made.0.session c.new.result.plain) c.new-2.result (c.in_ok-shared.shared, c.in_ok-shared.first) (sym c.ok.ensures.value ∙ c.in_ok-shared.ensures.ok_part) c.new-2.ensures.pass in
    ap (λ (p : PassState). calls_of (caller p ∷ []) p.seen) c.split.ensures.kept ∙ ap (λ (p : PassState). calls_of (caller p ∷ []) p.seen) first
