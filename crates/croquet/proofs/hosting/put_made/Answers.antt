use Rattle.commands.specs.Verdict.{Free, Only, ThenAll, made_puts, put_steps}
use Rattle.croquet.proofs.HostRuns.{few_behind}
use Rattle.croquet.proofs.PostRuns.{completes_freely}
use Rattle.croquet.proofs.Runs.{ran_wanting}
use Rattle.croquet.proofs.hosting.put_made.Goals as goal

pub on_demand_places-requires : goal.on_demand_places-requires
on_demand_places-requires g c = rw c.behind-made.ensures (few_behind c.args.places.listed c.args.ids.now _ c.requires)

pub returns-in_default : goal.returns-in_default
returns-in_default g c =
    λ verdict.
    ran_wanting _ _ (ThenAll (put_steps (made_puts c.args.places.listed c.args.places.prefix c.args.ids.now c.args.sessions.now)) (Free (Only verdict))) c.args.files.now c.args.out.now c.tell_want_of_memory.new.out c.tell_want_of_memory.result
    c.tell_want_of_memory.ensures

pub returns : goal.returns
returns g c =
    completes_freely _ _ (put_steps (made_puts c.args.places.listed c.args.places.prefix c.args.ids.now c.args.sessions.now)) c.put_sessions.result c.args.files.now c.put_sessions.new.files c.args.out.now c.put_sessions.new.out
    (rw (c.from-logs.ensures.0, c.into_vec.ensures, c.in-Ok.ensures, c.behind-made.ensures, c.behind.ensures) at c.put_sessions.ensures)
