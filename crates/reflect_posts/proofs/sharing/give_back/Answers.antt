use Rattle.std.proofs.Common.{◌≡◌, ℕ, ◌+◌, ◌-◌, replicate, vec_len, refl, subst, arith, rules}
use Rattle.run_steps.specs.Outside.{links_tell, net_tells}
use Rattle.host_posts.specs.Hosts.{idle_post}
use Rattle.host_posts.specs.Shares.{HasShares, share_tells}
use Rattle.host_posts.proofs.RoundLaws.{shares_none}
use Rattle.host_posts.proofs.ShareLaws.{back_more}
use Rattle.reflect_posts.proofs.Unused.{last_unused}
use Rattle.reflect_posts.proofs.sharing.give_back.Goals as goal

pub loop-share-init : goal.loop-share-init
loop-share-init g c =
    let tells = net_tells {N = g.row.N.Denot} {L = g.row.N-Conn.Denot} g.N.Net in
    let links = links_tell {L = g.row.N-Conn.Denot} g.N.Conn.Link in
    let none : 0 ≡ vec_len c.args.shares.now - vec_len c.args.shares.now = omega arith in
    record {
      within = omega arith;
      shared = refl;
      unused = c.requires.unused;
      back = subst (λ (n : ℕ). HasShares tells links c.args.net.now c.args.net.now (replicate n idle_post)) none (shares_none tells links c.args.net.now);
    }

pub rejoin-requires-clause-shared : goal.rejoin-requires-clause-shared
rejoin-requires-clause-shared g c =
    let same = c.loop-share.invariant.shared in
    let enough = c.requires.shared in
    let within = c.loop-share.invariant.within in
    let one = c.in-Some.ensures.len in
    omega (arith, same, enough, within, one)

pub rejoin-requires-clause-lent : goal.rejoin-requires-clause-lent
rejoin-requires-clause-lent g c =
    let popped = last_unused (net_tells {N = g.row.N.Denot} {L = g.row.N-Conn.Denot} g.N.Net) (share_tells {S = g.row.N-Part.Denot} {L = g.row.N-Conn.Denot} g.N.Part.Share) c.args.net.now c.loop-share.shares.items c.pop.new.self.items c.in-Some.share c.in-Some.ensures.items c.loop-share.invariant.unused in
    popped.1.lent

pub loop-share-preserved : goal.loop-share-preserved
loop-share-preserved g c =
    let tells = net_tells {N = g.row.N.Denot} {L = g.row.N-Conn.Denot} g.N.Net in
    let parts = share_tells {S = g.row.N-Part.Denot} {L = g.row.N-Conn.Denot} g.N.Part.Share in
    let links = links_tell {L = g.row.N-Conn.Denot} g.N.Conn.Link in
    let held = c.loop-share.invariant in
    let popped = last_unused tells parts c.args.net.now c.loop-share.shares.items c.pop.new.self.items c.in-Some.share c.in-Some.ensures.items held.unused in
    let within = held.within in
    let one = c.in-Some.ensures.len in
    let count : vec_len c.args.shares.now - vec_len c.loop-share.shares + 1 ≡ vec_len c.args.shares.now - vec_len c.pop.new.self = omega (arith, within, one) in
    let shared = held.shared in
    let told = c.rejoin.ensures in
    let back = told.shared in
    record {
      within = omega (arith, within, one);
      shared = omega (arith, shared, back, one);
      unused = popped.0;
      back =
          subst (λ (n : ℕ). HasShares tells links c.args.net.now c.rejoin.new.self (replicate n idle_post)) count
          (back_more tells links parts c.args.net.now c.loop-share.net c.rejoin.new.self c.in-Some.share (vec_len c.args.shares.now - vec_len c.loop-share.shares) held.back popped.1
          (record { coming = told.coming; asked = told.asked; over = told.over; lent = told.lent; counts = told.counts; faults = told.faults }));
    }

pub returns-clause-shared : goal.returns-clause-shared
returns-clause-shared g c =
    let none : vec_len c.loop-share.shares ≡ 0 = search rules in
    let shared = c.loop-share.invariant.shared in
    omega (arith, none, shared)

pub returns-clause-back : goal.returns-clause-back
returns-clause-back g c =
    let tells = net_tells {N = g.row.N.Denot} {L = g.row.N-Conn.Denot} g.N.Net in
    let links = links_tell {L = g.row.N-Conn.Denot} g.N.Conn.Link in
    let none : vec_len c.loop-share.shares ≡ 0 = search rules in
    let all : vec_len c.args.shares.now - vec_len c.loop-share.shares ≡ vec_len c.args.shares.now = omega (arith, none) in
    subst (λ (n : ℕ). HasShares tells links c.args.net.now c.loop-share.net (replicate n idle_post)) all c.loop-share.invariant.back
