use Rattle.std.proofs.Common.{◌≡◌, [], drop}
use Rattle.std.proofs.lemmas.List.{drop_all, append-nil}
use Rattle.reflector_core.proofs.PlayLaws.{TellsItsEvents-all}
use Rattle.reflector_core.proofs.run.play.Goals as goal

pub returns-clause-law : goal.returns-clause-law
returns-clause-law c =
    let done : drop c.loop-request.request-index c.args.requests.now ≡ [] = drop_all _ _ c.loop-request-test.false in
    let replied = rw (done, append-nil) at c.loop-request.invariant.replies in
    let played = rw done at c.loop-request.invariant.session in
    TellsItsEvents-all _ _ _ _ c.loop-request.invariant.sound replied played
