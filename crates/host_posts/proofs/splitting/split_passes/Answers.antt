use Rattle.std.proofs.Common.{◌+◌, get_or, set, sym, subst, arith}
use Rattle.std.proofs.lemmas.Option.{slice_get-get_or}
use Rattle.host_posts.proofs.SplitLaws.{SplitSoFar, split_more}
use Rattle.host_posts.proofs.splitting.split_passes.Goals as goal

pub loop-place-preserved : goal.loop-place-preserved
loop-place-preserved g c =
    let so_far = c.loop-place.invariant.0 in
    let room = c.loop-place.invariant.1 in
    let below = c.loop-place-test.true in
    let many = c.requires.leads.as_long in
    let long = so_far.as_long in
    let place = c.loop-place.place in
    let leads = c.loop-place.leads in
    let lead = get_or leads place c.index-leads-place.result in (
      subst (SplitSoFar (place + 1) c.args.leads.now (set leads place c.split_pass-pass.new.lead)) (sym c.push_reserved.ensures.items)
          (split_more place c.args.leads.now leads c.loop-place.seats.items lead c.split_pass-pass.new.lead c.split_pass-pass.result so_far (omega (arith, below, many))
          (slice_get-get_or leads place c.index-leads-place.result (omega (arith, below, many, long))) c.split_pass-pass.ensures),
      omega (arith, room, c.push_reserved.ensures.capacity),
    )
