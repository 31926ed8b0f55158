use Rattle.std.proofs.Common.{◌≡◌, true, rules, sym, subst}
use Rattle.drill.specs.Ending.{Catches}
use Rattle.drill.proofs.Wholes.{catches_synced}
use Rattle.drill.proofs.drilling.catch_up.Goals as goal
use Rattle.drill.proofs.drilling.catch_up.Goals.{then-not-is_synced+in_ok-join_closed, else-not-is_synced}

pub take_rest-requires : goal.take_rest-requires
take_rest-requires c =
    let s = c.args.session.now.plain in
    elim c.if-not-is_synced.branch [
      | then-not-is_synced+in_ok-join_closed w ↦ subst (Catches s) (sym w.replica-is) w.in_ok-join_closed.ensures.catches
      | else-not-is_synced w ↦
          let synced : c.args.rested.is_synced ≡ true = search rules in
          subst (Catches s) (sym w.replica-is) (catches_synced s c.args.rested.replica c.args.rested.is_synced synced c.requires.catches)
    ]
