use Rattle.std.proofs.Common.{◌≡◌, ◌∙◌, refl, arith}
use Rattle.host_server.proofs.ClaimLaws.{all_before, claim_gathers_none}
use Rattle.host_posts.proofs.PostLaws.{claims_then, ends_since, post_more, post_none, post_waited, spare_left, spare_more}
use Rattle.host_posts.proofs.running.run_post.Goals as goal

pub loop-turn-init : goal.loop-turn-init
loop-turn-init g c = record {
  seats = c.requires.ready.seats;
  claim = claim_gathers_none _ 0 c.args.post.row.claim refl;
  spare = c.requires.ready.spare;
  lent = refl;
  faults = refl;
  goes = λ ids all. post_none _ ids _ _ _ _ c.args.post c.requires.ready.seats c.requires.ready.kept;
}

pub serve_next-requires-clause-claim : goal.serve_next-requires-clause-claim
serve_next-requires-clause-claim g c κs within = c.loop-turn.invariant.claim.claims ∙ c.requires.ready.claim

pub serve_next-requires-clause-enough : goal.serve_next-requires-clause-enough
serve_next-requires-clause-enough g c κs within = spare_left c.loop-turn.turn c.loop-turn.post.row.seats.items c.loop-turn-test.true c.loop-turn.invariant.spare

pub loop-turn-preserved : goal.loop-turn-preserved
loop-turn-preserved g c =
    let held = c.loop-turn.invariant in
    let gave = c.in-Ok.ensures.link in
    let next = c.serve_next.ensures in
    let lent = held.lent in let one = gave.lent in let back = next.lent in
    let later = held.faults in let more = gave.faults in let same = next.faults in
    record {
      seats = next.seats;
      claim = claims_then _ c.args.post.row.claim c.loop-turn.post.row.claim c.serve_next.new.post.row.claim held.claim next.claim;
      spare = spare_more c.loop-turn.turn c.loop-turn.post.row.seats.items c.serve_next.new.post.row.seats.items held.spare next.spare;
      lent = omega (arith, lent, one, back);
      faults = same ∙ (more ∙ later);
      goes = λ ids all.
          post_more _ ids _ _ _ _ c.loop-turn.turn c.args.post c.loop-turn.post c.serve_next.new.post c.next_link.new.share c.in-Ok.link
          (held.goes ids (all_before _ _ c.loop-turn.post.row.claim.seen c.serve_next.new.post.row.claim.seen ids next.grows all)) gave (next.served ids all);
    }

pub returns-in-Err : goal.returns-in-Err
returns-in-Err g c =
    let held = c.loop-turn.invariant in
    let waited = c.in-Err.ensures.waited in
    let below = c.loop-turn-test.true in
    record {
      seats = held.seats;
      claim = held.claim;
      lent = waited.lent ∙ held.lent;
      runs = λ ids all. record {
        count = c.loop-turn.turn;
        few = omega (arith, below);
        goes = post_waited _ ids _ _ _ _ c.loop-turn.turn c.args.post c.loop-turn.post c.next_link.new.share (held.goes ids all) waited;
        ended = ends_since _ c.loop-turn.turn _ _ _ c.in-Err.end held.faults (c.in-Err.ensures.ended c.loop-turn.turn);
      };
    }

pub returns : goal.returns
returns g c =
    let held = c.loop-turn.invariant in
    let all_served : c.loop-turn.turn ≡ 67108862 = omega (arith, c.loop-turn-test.false, c.loop-turn.auto.turn-end) in
    record {
      seats = held.seats;
      claim = held.claim;
      lent = held.lent;
      runs = λ ids all. record {
        count = c.loop-turn.turn;
        few = omega (arith, all_served);
        goes = held.goes ids all;
        ended = (all_served, held.faults);
      };
    }
