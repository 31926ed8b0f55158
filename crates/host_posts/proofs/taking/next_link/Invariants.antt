use Rattle.std.proofs.Common.{◌≡◌}
use Rattle.host_posts.specs.Shares.{HasWaited, share_tells}
use Rattle.host_posts.proofs.taking.next_link.Given as goal

abbrev pub invariant-loop : goal.invariant-loop
invariant-loop g l = record {
  waited : HasWaited (share_tells g.S.Share) l.initial.share l.share;
  faults : g.S.Share.faults l.share ≡ g.S.Share.faults l.initial.share;
}
