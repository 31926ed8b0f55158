use Rattle.std.proofs.Common.{◌≡◌}
use Rattle.net_shares_tests.proofs.threads.take_links.Given as goal

-- each link that came was given back
abbrev pub invariant-loop-turn : goal.invariant-loop-turn
invariant-loop-turn g l = g.P.Share.lent l.share ≡ g.P.Share.lent l.initial.share
