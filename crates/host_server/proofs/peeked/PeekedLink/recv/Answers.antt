use Rattle.std.proofs.Common.{rules}
use Rattle.host_server.proofs.WholeLinks.{peeked_more}
use Rattle.host_server.proofs.peeked.PeekedLink.recv.Goals as goal

pub invariant_of-self-in-None : goal.invariant_of-self-in-None
invariant_of-self-in-None g c =
    peeked_more _ _ c.self.inside.first c.take.new.self _ _ c.recv.result (search rules) c.take.ensures.after c.self.invariant c.recv.ensures.heard
