use Rattle.std.proofs.Common.{◌≡◌, ℕ, ◌+◌, ◌*◌, ◌<◌, Some, length, vec_len, refl, sym, subst, ap, arith, rules}
use Rattle.std.proofs.lemmas.List.{with_items_is}
use Rattle.std.proofs.lemmas.List.Elements.{All-pop}
use Rattle.run_steps.specs.Outside.{net_tells}
use Rattle.host_server.specs.Rows.{AtEach, HasGiven}
use Rattle.host_server.proofs.RowLaws.{given_none, given_of}
use Rattle.host_posts.specs.Posts.{post_numbers}
use Rattle.host_posts.specs.Shares.{share_tells}
use Rattle.host_posts.proofs.SplitLaws.{given_enough, given_more, row_for}
use Rattle.reflect_posts.specs.Prepares.{IsBareRow}
use Rattle.reflect_posts.proofs.RowLaws.{all_new, made_more, made_none, posted_more, posted_none}
use Rattle.reflect_posts.proofs.Unused.{last_unused}
use Rattle.reflect_posts.proofs.rows.make_posts.Goals as goal

pub loop-row-init : goal.loop-row-init
loop-row-init g c =
    let tells = net_tells {N = g.row.N.Denot} {L = g.row.N-Conn.Denot} g.N.Net in
    let parts = share_tells {S = g.row.N-Part.Denot} {L = g.row.N-Conn.Denot} g.N.Part.Share in
    let none : vec_len c.args.posts ≡ 0 = search rules in
    let nothing : 0 ≡ vec_len c.args.posts * post_numbers = omega (arith, none) in
    record {
      number = omega (arith, none);
      shares = c.requires.shares;
      room = c.requires.room.1;
      lead = subst (λ (n : ℕ). AtEach (HasGiven n) c.args.lead.now.seats.items c.args.lead.now.seats.items) nothing (given_none c.args.lead.now.seats.items);
      claim = refl;
      rows = c.requires.rows;
      posts = made_none c.args.lead.now c.args.posts.items c.requires.room.0;
      unused = λ net all. (all, posted_none tells parts g.row.K.Denot net c.args.posts.items c.requires.room.0);
    }

pub split_passes-seats-requires-clause-leads : goal.split_passes-seats-requires-clause-leads
split_passes-seats-requires-clause-leads g c =
    rw c.deref_mut.ensures.value
    (given_of c.args.rooms.now (vec_len c.loop-row.posts * post_numbers) c.args.lead.now.seats.items c.loop-row.lead.seats.items c.requires.lead c.loop-row.invariant.lead)

pub split_passes-seats-requires-clause-enough : goal.split_passes-seats-requires-clause-enough
split_passes-seats-requires-clause-enough g c =
    let number = c.loop-row.invariant.number in
    let one = c.in-Some.ensures.len in
    let some : vec_len c.loop-row.posts < vec_len c.args.rows = omega (arith, number, one) in
    rw c.deref_mut.ensures.value
    (given_enough (vec_len c.loop-row.posts) (vec_len c.args.rows) c.args.lead.now.seats.items c.loop-row.lead.seats.items some c.requires.enough c.loop-row.invariant.lead)

pub split_passes-seats-requires-clause-room : goal.split_passes-seats-requires-clause-room
split_passes-seats-requires-clause-room g c =
    let popped = All-pop (IsBareRow c.args.lead.now.claim) c.loop-row.rows.items c.pop.new.self.items (Some c.in-Some.row) c.in-Some.ensures.items c.loop-row.invariant.rows in
    let room = popped.1.room in
    (popped.1.none, omega (arith, room, c.requires.one))

pub loop-row-preserved : goal.loop-row-preserved
loop-row-preserved g c =
    let tells = net_tells {N = g.row.N.Denot} {L = g.row.N-Conn.Denot} g.N.Net in
    let parts = share_tells {S = g.row.N-Part.Denot} {L = g.row.N-Conn.Denot} g.N.Part.Share in
    let held = c.loop-row.invariant in
    let first = c.args.lead.now in
    let lead = c.loop-row.lead in
    let count = vec_len c.loop-row.posts in
    let now = c.split_passes-seats.new.leads in
    let split = rw c.deref_mut.ensures.value at c.split_passes-seats.ensures in
    let as_long = split.as_long in
    let len = c.deref_mut.ensures.len in
    let value = ap length c.deref_mut.ensures.value in
    let written = with_items_is lead.seats now (omega (arith, as_long, len, value)) in
    let popped = All-pop (IsBareRow first.claim) c.loop-row.rows.items c.pop.new.self.items (Some c.in-Some.row) c.in-Some.ensures.items held.rows in
    let number = held.number in
    let shares = held.shares in
    let room = held.room in
    let one = c.in-Some.ensures.len in
    let other = c.in-Some-pop.ensures.len in
    let more = c.push_reserved.ensures.len in
    let same = c.push_reserved.ensures.capacity in
    let many : (count + 1) * post_numbers ≡ vec_len c.push_reserved.new.self * post_numbers = omega (arith, more) in
    record {
      number = omega (arith, number, one, more);
      shares = omega (arith, shares, one, other);
      room = omega (arith, room, same);
      lead = subst (AtEach (HasGiven (vec_len c.push_reserved.new.self * post_numbers)) first.seats.items) (sym written)
          (subst (λ (n : ℕ). AtEach (HasGiven n) first.seats.items now) many (given_more count first.seats.items lead.seats.items now c.split_passes-seats.result.items held.lead split));
      claim = held.claim;
      rows = popped.0;
      posts =
          made_more first c.loop-row.posts.items c.push_reserved.new.self.items _ c.push_reserved.ensures.items held.posts
          (record {
            seats = row_for (count * post_numbers) first.seats.items lead.seats.items now c.split_passes-seats.result.items held.lead split;
            claim = popped.1.claim;
          })
          c.new-counts.ensures;
      unused = λ net all.
          let had = held.unused net all in
          let last = last_unused tells parts net c.loop-row.shares.items c.pop-in-Some.new.self.items c.in-Some-pop.share c.in-Some-pop.ensures.items had.0 in
          (last.0, posted_more tells parts g.row.K.Denot net c.loop-row.posts.items c.push_reserved.new.self.items _ c.push_reserved.ensures.items had.1 last.1);
    }

pub returns-clause-posts : goal.returns-clause-posts
returns-clause-posts g c = λ net all.
    let tells = net_tells {N = g.row.N.Denot} {L = g.row.N-Conn.Denot} g.N.Net in
    let parts = share_tells {S = g.row.N-Part.Denot} {L = g.row.N-Conn.Denot} g.N.Part.Share in
    let held = c.loop-row.invariant in
    let both = held.unused net all in
    all_new tells parts g.row.K.Denot net (vec_len c.loop-row.posts * post_numbers) c.args.lead.now c.loop-row.lead c.loop-row.posts.items held.lead held.claim held.posts both.1

pub returns-clause-number : goal.returns-clause-number
returns-clause-number g c =
    let none : vec_len c.loop-row.rows ≡ 0 = search rules in
    let number = c.loop-row.invariant.number in
    omega (arith, none, number)

pub returns-clause-lead : goal.returns-clause-lead
returns-clause-lead g c =
    let none : vec_len c.loop-row.rows ≡ 0 = search rules in
    let number = c.loop-row.invariant.number in
    let all : vec_len c.loop-row.posts * post_numbers ≡ vec_len c.args.rows * post_numbers = omega (arith, none, number) in
    subst (λ (n : ℕ). AtEach (HasGiven n) c.args.lead.now.seats.items c.loop-row.lead.seats.items) all c.loop-row.invariant.lead
