use Rattle.std.proofs.Common.{◌≡◌, Some, vec_len, refl, ap, ◌∙◌, arith, rules}
use Rattle.std.proofs.lemmas.List.Elements.{All-pop}
use Rattle.run_steps.specs.Outside.{links_tell, net_tells}
use Rattle.net_shares.specs.Shares.{none_of}
use Rattle.host_posts.specs.Passes.{IsPostRow}
use Rattle.host_posts.specs.Shares.{share_tells}
use Rattle.host_posts.proofs.ShareLaws.{given_more, given_none, new_all, rose_stays, rows_none, rows_push, unused_all, unused_none, unused_push}
use Rattle.host_posts.proofs.hosting.share_out.Goals as goal

pub loop-row-init : goal.loop-row-init
loop-row-init g c =
    let none : vec_len c.args.posts ≡ 0 = search rules in
    record {
      number = omega (arith, none);
      room = c.requires.room.1;
      shared = omega (arith, none);
      none = given_none (net_tells {N = g.row.N.Denot} {L = g.row.N-Conn.Denot} g.N.Net) c.args.net.now;
      asked = refl;
      unused = unused_none (net_tells {N = g.row.N.Denot} {L = g.row.N-Conn.Denot} g.N.Net) (share_tells {S = g.row.N-Part.Denot} {L = g.row.N-Conn.Denot} g.N.Part.Share) c.args.net.now c.args.posts.items c.requires.room.0;
      rows = λ lead all. (all, rows_none lead c.args.posts.items c.requires.room.0);
    }

pub loop-row-preserved : goal.loop-row-preserved
loop-row-preserved g c =
    let held = c.loop-row.invariant in
    let told = c.in-Ok.ensures in
    let number = held.number in
    let room = held.room in
    let shared = held.shared in
    let one = c.in-Some.ensures.len in
    let more = c.push_reserved.ensures.len in
    let same = c.push_reserved.ensures.capacity in
    let given = told.shared in
    record {
      number = omega (arith, number, one, more);
      room = omega (arith, room, same);
      shared = omega (arith, shared, given, more);
      none = given_more (net_tells {N = g.row.N.Denot} {L = g.row.N-Conn.Denot} g.N.Net) c.args.net.now c.loop-row.net c.share.new.self held.none
          (record { coming = told.coming; over = told.over; lent = told.lent; counts = told.counts; faults = told.cause.later });
      asked = told.asked ∙ held.asked;
      unused =
          unused_push (net_tells {N = g.row.N.Denot} {L = g.row.N-Conn.Denot} g.N.Net) (share_tells {S = g.row.N-Part.Denot} {L = g.row.N-Conn.Denot} g.N.Part.Share) c.args.net.now c.loop-row.posts.items c.push_reserved.new.self.items _ c.push_reserved.ensures.items held.unused
          (record { over = told.new_over ∙ ap none_of (told.over ∙ held.none.over); faults = told.new_faults; lent = told.new_lent; counts = told.new_counts }) c.new-counts.ensures;
      rows = λ lead all.
          let had = held.rows lead all in
          let popped = All-pop (IsPostRow lead) c.loop-row.rows.items c.pop.new.self.items (Some c.in-Some.row) c.in-Some.ensures.items had.0 in
          (popped.0, rows_push lead c.loop-row.posts.items c.push_reserved.new.self.items _ c.push_reserved.ensures.items had.1 popped.1);
    }

pub take_back-requires-clause-shared : goal.take_back-requires-clause-shared
take_back-requires-clause-shared g c κs within =
    let shared = c.loop-row.invariant.shared in
    let same = c.in-Err.ensures.none_shared in
    omega (arith, shared, same)

pub take_back-requires-clause-unused : goal.take_back-requires-clause-unused
take_back-requires-clause-unused g c κs within =
    unused_all (net_tells {N = g.row.N.Denot} {L = g.row.N-Conn.Denot} g.N.Net) (share_tells {S = g.row.N-Part.Denot} {L = g.row.N-Conn.Denot} g.N.Part.Share) c.args.net.now c.share.new.self c.loop-row.posts.items (c.in-Err.ensures.over ∙ c.loop-row.invariant.none.over) c.loop-row.invariant.unused

pub returns-in-Err-clause-none_shared : goal.returns-in-Err-clause-none_shared
returns-in-Err-clause-none_shared g c =
    let shared = c.loop-row.invariant.shared in
    let same = c.in-Err.ensures.none_shared in
    let back = c.take_back.ensures.shared in
    omega (arith, shared, same, back)

pub returns-in-Err-clause-back : goal.returns-in-Err-clause-back
returns-in-Err-clause-back g c =
    let told = c.in-Err.ensures in
    record {
      shares = vec_len c.loop-row.posts;
      net = record {
        since = c.share.new.self;
        none = given_more (net_tells {N = g.row.N.Denot} {L = g.row.N-Conn.Denot} g.N.Net) c.args.net.now c.loop-row.net c.share.new.self c.loop-row.invariant.none
            (record { coming = told.coming; over = told.over; lent = told.lent; counts = told.counts; faults = told.cause.later });
        back = c.take_back.ensures.back;
      };
    }

pub returns-in-Err-clause-asked : goal.returns-in-Err-clause-asked
returns-in-Err-clause-asked g c = c.take_back.ensures.back.asked ∙ (c.in-Err.ensures.asked ∙ c.loop-row.invariant.asked)

pub returns-in-Err-clause-cause : goal.returns-in-Err-clause-cause
returns-in-Err-clause-cause g c = λ failed.
    let tells = net_tells {N = g.row.N.Denot} {L = g.row.N-Conn.Denot} g.N.Net in
    let links = links_tell {L = g.row.N-Conn.Denot} g.N.Conn.Link in
    rose_stays tells links c.args.net.now c.loop-row.net c.share.new.self c.take_back.new.net (vec_len c.loop-row.posts) c.in-Err.fault c.loop-row.invariant.none c.in-Err.ensures.cause c.take_back.ensures.back failed

pub returns-clause-posts : goal.returns-clause-posts
returns-clause-posts g c = λ lead all.
    new_all (net_tells {N = g.row.N.Denot} {L = g.row.N-Conn.Denot} g.N.Net) (share_tells {S = g.row.N-Part.Denot} {L = g.row.N-Conn.Denot} g.N.Part.Share) c.args.net.now c.loop-row.net lead c.loop-row.posts.items c.loop-row.invariant.none.over c.loop-row.invariant.unused (let both = c.loop-row.invariant.rows lead all in both.1)

pub returns-clause-number : goal.returns-clause-number
returns-clause-number g c =
    let none : vec_len c.loop-row.rows ≡ 0 = search rules in
    let number = c.loop-row.invariant.number in
    omega (arith, none, number)
