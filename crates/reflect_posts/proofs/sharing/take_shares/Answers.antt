use Rattle.std.proofs.Common.{◌≡◌, vec_len, refl, ap, ◌∙◌, arith, rules}
use Rattle.run_steps.specs.Outside.{links_tell, net_tells}
use Rattle.net_shares.specs.Shares.{none_of}
use Rattle.host_posts.specs.Shares.{share_tells}
use Rattle.host_posts.proofs.ShareLaws.{given_more, given_none, rose_stays}
use Rattle.reflect_posts.proofs.Unused.{all_still, none_unused, one_more_unused}
use Rattle.reflect_posts.proofs.sharing.take_shares.Goals as goal

pub loop-taken-init : goal.loop-taken-init
loop-taken-init g c =
    let none : vec_len c.args.shares.now ≡ 0 = search rules in
    record {
      number = omega (arith, none);
      room = c.requires.1;
      shared = omega (arith, none);
      none = given_none (net_tells {N = g.row.N.Denot} {L = g.row.N-Conn.Denot} g.N.Net) c.args.net.now;
      asked = refl;
      unused = none_unused (net_tells {N = g.row.N.Denot} {L = g.row.N-Conn.Denot} g.N.Net) (share_tells {S = g.row.N-Part.Denot} {L = g.row.N-Conn.Denot} g.N.Part.Share) c.args.net.now c.args.shares.now.items c.requires.0;
    }

pub loop-taken-preserved : goal.loop-taken-preserved
loop-taken-preserved g c =
    let held = c.loop-taken.invariant in
    let told = c.in-Ok.ensures in
    let number = held.number in
    let room = held.room in
    let shared = held.shared in
    let more = c.push_reserved.ensures.len in
    let same = c.push_reserved.ensures.capacity in
    let given = told.shared in
    record {
      number = omega (arith, number, more);
      room = omega (arith, room, same);
      shared = omega (arith, shared, given);
      none = given_more (net_tells {N = g.row.N.Denot} {L = g.row.N-Conn.Denot} g.N.Net) c.args.net.now c.loop-taken.net c.share.new.self held.none
          (record { coming = told.coming; over = told.over; lent = told.lent; counts = told.counts; faults = told.cause.later });
      asked = told.asked ∙ held.asked;
      unused =
          one_more_unused (net_tells {N = g.row.N.Denot} {L = g.row.N-Conn.Denot} g.N.Net) (share_tells {S = g.row.N-Part.Denot} {L = g.row.N-Conn.Denot} g.N.Part.Share) c.args.net.now c.loop-taken.shares.items c.push_reserved.new.self.items _ c.push_reserved.ensures.items held.unused
          (record { over = told.new_over ∙ ap none_of (told.over ∙ held.none.over); faults = told.new_faults; lent = told.new_lent; counts = told.new_counts });
    }

pub give_back-requires-clause-shared : goal.give_back-requires-clause-shared
give_back-requires-clause-shared g c κs within =
    let shared = c.loop-taken.invariant.shared in
    let number = c.loop-taken.invariant.number in
    let same = c.in-Err.ensures.none_shared in
    omega (arith, shared, number, same)

pub give_back-requires-clause-unused : goal.give_back-requires-clause-unused
give_back-requires-clause-unused g c κs within =
    all_still (net_tells {N = g.row.N.Denot} {L = g.row.N-Conn.Denot} g.N.Net) (share_tells {S = g.row.N-Part.Denot} {L = g.row.N-Conn.Denot} g.N.Part.Share) c.args.net.now c.share.new.self c.loop-taken.shares.items (c.in-Err.ensures.over ∙ c.loop-taken.invariant.none.over) c.loop-taken.invariant.unused

pub returns-in-Err-clause-none_shared : goal.returns-in-Err-clause-none_shared
returns-in-Err-clause-none_shared g c =
    let shared = c.loop-taken.invariant.shared in
    let number = c.loop-taken.invariant.number in
    let same = c.in-Err.ensures.none_shared in
    let back = c.give_back.ensures.shared in
    omega (arith, shared, number, same, back)

pub returns-in-Err-clause-back : goal.returns-in-Err-clause-back
returns-in-Err-clause-back g c =
    let told = c.in-Err.ensures in
    record {
      shares = vec_len c.loop-taken.shares;
      net = record {
        since = c.share.new.self;
        none = given_more (net_tells {N = g.row.N.Denot} {L = g.row.N-Conn.Denot} g.N.Net) c.args.net.now c.loop-taken.net c.share.new.self c.loop-taken.invariant.none
            (record { coming = told.coming; over = told.over; lent = told.lent; counts = told.counts; faults = told.cause.later });
        back = c.give_back.ensures.back;
      };
    }

pub returns-in-Err-clause-asked : goal.returns-in-Err-clause-asked
returns-in-Err-clause-asked g c = c.give_back.ensures.back.asked ∙ (c.in-Err.ensures.asked ∙ c.loop-taken.invariant.asked)

pub returns-in-Err-clause-cause : goal.returns-in-Err-clause-cause
returns-in-Err-clause-cause g c = λ failed.
    let tells = net_tells {N = g.row.N.Denot} {L = g.row.N-Conn.Denot} g.N.Net in
    let links = links_tell {L = g.row.N-Conn.Denot} g.N.Conn.Link in
    rose_stays tells links c.args.net.now c.loop-taken.net c.share.new.self c.give_back.new.net (vec_len c.loop-taken.shares) c.in-Err.fault c.loop-taken.invariant.none c.in-Err.ensures.cause c.give_back.ensures.back failed

pub returns-clause-unused : goal.returns-clause-unused
returns-clause-unused g c =
    all_still (net_tells {N = g.row.N.Denot} {L = g.row.N-Conn.Denot} g.N.Net) (share_tells {S = g.row.N-Part.Denot} {L = g.row.N-Conn.Denot} g.N.Part.Share) c.args.net.now c.loop-taken.net c.loop-taken.shares.items c.loop-taken.invariant.none.over c.loop-taken.invariant.unused

pub returns-clause-number : goal.returns-clause-number
returns-clause-number g c =
    let number = c.loop-taken.invariant.number in
    omega (arith, number, c.loop-taken-test.false, c.loop-taken.auto._taken-end)

pub returns-clause-shared : goal.returns-clause-shared
returns-clause-shared g c =
    let shared = c.loop-taken.invariant.shared in
    omega (arith, shared, c.loop-taken-test.false, c.loop-taken.auto._taken-end)
