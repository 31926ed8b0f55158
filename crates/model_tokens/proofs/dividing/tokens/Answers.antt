use Rattle.std.proofs.Common.{arith}
use Rattle.std.proofs.lemmas.Bool.Decides.{nat_tests}
use Rattle.std.proofs.lemmas.Result.{err_from_is_err_and}
use Rattle.model_tokens.proofs.Steps.{at_start, none_taken, some_taken, all_taken, not_divided, seen_shorter}
use Rattle.model_tokens.proofs.dividing.tokens.Goals as goal

pub loop-rest-init : goal.loop-rest-init
loop-rest-init c = rw c.new-tokens.ensures (at_start c.args.text.now)

pub loop-rest-preserved : goal.loop-rest-preserved
loop-rest-preserved c = none_taken c.loop-rest.tokens c.loop-rest.rest.now c.args.text.now c.in_ok-found.found c.in_ok-found.behind.now c.loop-rest.invariant c.in_ok-found.ensures c.in_default.is

pub loop-rest-preserved-in_ok-push : goal.loop-rest-preserved-in_ok-push
loop-rest-preserved-in_ok-push c =
    rw c.in_ok-push.ensures.ok (some_taken c.loop-rest.tokens c.loop-rest.rest.now c.args.text.now c.in_ok-found.found c.in-Some.token c.in_ok-found.behind.now c.loop-rest.invariant c.in_ok-found.ensures c.in-Some.is)

pub loop-rest-smaller : goal.loop-rest-smaller
loop-rest-smaller c = seen_shorter c.loop-rest.rest.now c.in_ok-found.found c.in_ok-found.behind.now c.in_ok-found.ensures

pub loop-rest-smaller-in_ok-push : goal.loop-rest-smaller-in_ok-push
loop-rest-smaller-in_ok-push c = seen_shorter c.loop-rest.rest.now c.in_ok-found.found c.in_ok-found.behind.now c.in_ok-found.ensures

pub returns-in_err-found : goal.returns-in_err-found
returns-in_err-found c =
    let p = err_from_is_err_and c.from_residual.result c.from_residual.ensures.1 in
    rw (p.1, p.2) (not_divided c.loop-rest.tokens c.loop-rest.rest.now c.args.text.now c.in_err-found.field-0.0 c.loop-rest.invariant c.in_err-found.ensures (grind (arith, nat_tests, c.loop-rest-test.ensures)))

pub returns : goal.returns
returns c = all_taken c.loop-rest.tokens c.loop-rest.rest.now c.args.text.now c.loop-rest.invariant (grind (arith, nat_tests, c.loop-rest-test.ensures))
