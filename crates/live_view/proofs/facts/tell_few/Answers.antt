use Rattle.std.proofs.Common.{arith}
use Rattle.live_view.proofs.facts.tell_few.Goals as goal

pub returns : goal.returns
returns c =
    let most = c.seen-seen.ensures.sound.numbers.most in
    omega (arith, most)
