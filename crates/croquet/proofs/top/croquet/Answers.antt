use Rattle.std.proofs.Common.{inl, inr, [], ◌∷◌, length, refl, arith}
use Rattle.tea_io.specs.declared.net.NetCall.TheVariants.{Listen}
use Rattle.command_words.specs.CommandWords.{command_of}
use Rattle.commands.specs.Verdict.{Comes}
use Rattle.commands.specs.Work.{plain_hosting, plain_keeping, plain_live, plain_reflection, visit_of}
use Rattle.commands.proofs.NetLaws.{never_on_net}
use Rattle.croquet.proofs.Completeness.{is_complete}
use Rattle.croquet.proofs.DrillRuns.{drilled_whole, ran_drilling}
use Rattle.croquet.proofs.HostRuns.{ran_hosting, rooms_are_enough}
use Rattle.croquet.proofs.KeptRuns.{ran_kept, ran_unkept}
use Rattle.croquet.proofs.LiveRuns.{ran_living}
use Rattle.croquet.proofs.PostRuns.{ran_serving, rooms_suffice}
use Rattle.croquet.proofs.ReflectorRuns.{ran_reflecting}
use Rattle.croquet.proofs.VisitRuns.{ran_beside, ran_visiting}
use Rattle.croquet.proofs.top.croquet.Goals as goal

pub returns-in-Over-clause-ran : goal.returns-in-Over-clause-ran
returns-in-Over-clause-ran g c =
    inl (inl (ran_beside _ _ _ _ c.args.net (Comes (command_of c.args.words.now)) c.args.files.now c.begin.new.files c.args.out.now c.begin.new.out c.in-Over.status c.in-Over.ensures.turns), refl, refl)

pub returns-in-Visits-clause-ran : goal.returns-in-Visits-clause-ran
returns-in-Visits-clause-ran g c =
    inl (
      inl (ran_visiting _ _ _ _ (Comes (command_of c.args.words.now)) (visit_of c.in-Visits.request) c.args.files.now c.begin.new.files c.args.out.now c.begin.new.out c.run_visit-status.new.out c.args.net c.run_visit-status.new.net
          c.run_visit-status.result c.in-Visits.ensures.turns c.run_visit-status.ensures),
      refl,
      refl,
    )

pub returns-in-Lives-clause-ran : goal.returns-in-Lives-clause-ran
returns-in-Lives-clause-ran g c =
    inr (inr (
      ran_living _ _ _ _ _ (Comes (command_of c.args.words.now)) (plain_live c.in-Lives.start) c.args.feed.now c.run_live_view-status.new.feed c.args.files.now c.begin.new.files c.args.out.now c.begin.new.out c.run_live_view-status.new.out
          c.args.net c.run_live_view-status.new.net c.run_live_view-status.result c.in-Lives.ensures.turns c.run_live_view-status.ensures,
      refl,
    ))

pub returns-in-Reflects-clause-ran : goal.returns-in-Reflects-clause-ran
returns-in-Reflects-clause-ran g c =
    inl (
      inr (inl (ran_reflecting _ _ _ _ _ _ _ (Comes (command_of c.args.words.now)) (plain_reflection c.in-Reflects.reflection) c.args.files.now c.begin.new.files c.serve_unkept.new.files c.args.out.now c.begin.new.out c.serve_unkept.new.out
          c.args.net c.serve_unkept.result.0 c.serve_unkept.result.1 c.in-Reflects.ensures.turns c.serve_unkept.ensures)),
      refl,
      refl,
    )

pub host-net-requires-clause-ids : goal.host-net-requires-clause-ids
host-net-requires-clause-ids g c _ _ =
    let sessions = c.in-Hosts.ensures.bounded.1 in
    let some = sessions.0 in
    let few = sessions.1 in
    (rw c.as_slice.ensures (omega (arith, some)), rw c.as_slice.ensures (omega (arith, few)))

pub host-net-requires-clause-connections : goal.host-net-requires-clause-connections
host-net-requires-clause-connections g c _ _ = rw c.in-Connections.is at c.in-Hosts.ensures.bounded.0

pub tell_hosted-status-requires : goal.tell_hosted-status-requires
tell_hosted-status-requires g c =
    let hosting = c.in-Hosts.hosting in
    let rooms = c.in-Hosts.ensures.bounded.2 in
    rooms_are_enough _ hosting.ids hosting.on_demand _ _ (Listen hosting.address ∷ []) c.in-Connections.connections c.args.net c.host-net.result.0 c.host-net.result.1 (length hosting.logs) (length hosting.rooms) (rw c.as_slice.ensures at c.host-net.ensures) rooms.0 rooms.1

pub returns-in-Connections-clause-ran : goal.returns-in-Connections-clause-ran
returns-in-Connections-clause-ran g c =
    inl (
      inr (inr (inl (ran_hosting _ _ _ _ _ (Comes (command_of c.args.words.now)) (plain_hosting c.in-Hosts.hosting) c.in-Connections.connections c.host-net.result.1 c.args.files.now c.begin.new.files c.tell_hosted-status.new.files c.args.out.now c.begin.new.out c.tell_hosted-status.new.out
          c.args.net c.host-net.result.0 c.tell_hosted-status.result c.in-Connections.is c.in-Hosts.ensures.turns (rw c.as_slice.ensures at c.host-net.ensures) c.tell_hosted-status.ensures))),
      refl,
      refl,
    )

pub host_on-net-requires-clause-ids : goal.host_on-net-requires-clause-ids
host_on-net-requires-clause-ids g c _ _ =
    let sessions = c.in-Hosts.ensures.bounded.1 in
    let some = sessions.0 in
    let few = sessions.1 in
    (rw c.as_slice-in-Posts.ensures (omega (arith, some)), rw c.as_slice-in-Posts.ensures (omega (arith, few)))

pub host_on-net-requires-clause-posts : goal.host_on-net-requires-clause-posts
host_on-net-requires-clause-posts g c _ _ = rw c.in-Posts.is at c.in-Hosts.ensures.bounded.0

pub tell_posts-status-requires : goal.tell_posts-status-requires
tell_posts-status-requires g c =
    let hosting = c.in-Hosts.hosting in
    let rooms = c.in-Hosts.ensures.bounded.2 in
    rooms_suffice _ _ hosting.ids hosting.on_demand _ _ _ (Listen hosting.address ∷ []) c.in-Posts.links c.args.net c.host_on-net.result.0 c.host_on-net.result.1 (length hosting.logs) (length hosting.rooms) (rw c.as_slice-in-Posts.ensures at c.host_on-net.ensures) rooms.0 rooms.1

pub returns-in-Hosts-clause-ran : goal.returns-in-Hosts-clause-ran
returns-in-Hosts-clause-ran g c =
    inl (
      inr (inr (inr (inl (ran_serving _ _ _ _ _ _ _ (Comes (command_of c.args.words.now)) (plain_hosting c.in-Hosts.hosting) c.in-Posts.links c.in-Posts.until c.host_on-net.result.1 c.args.files.now c.begin.new.files c.tell_posts-status.new.files c.args.out.now c.begin.new.out c.tell_posts-status.new.out
          c.args.net c.host_on-net.result.0 c.tell_posts-status.result c.in-Posts.is c.in-Hosts.ensures.turns (rw (c.as_slice-in-Posts.ensures, c.new-stop.ensures.signs, c.new-stop.ensures.name) at c.host_on-net.ensures) c.tell_posts-status.ensures)))),
      refl,
      refl,
    )

pub tell_drilled-status-requires : goal.tell_drilled-status-requires
tell_drilled-status-requires g c = drilled_whole _ _ c.drill-answer.result c.drill-answer.ensures

pub returns-clause-ran : goal.returns-clause-ran
returns-clause-ran g c =
    inl (
      inr (inr (inr (inr (ran_drilling _ _ _ _ _ (Comes (command_of c.args.words.now)) c.in-Drills.request c.drill-answer.result c.args.files.now c.begin.new.files c.tell_drilled-status.new.files c.args.out.now c.begin.new.out c.tell_drilled-status.new.out
          c.args.net c.tell_drilled-status.result c.in-Drills.ensures.turns c.drill-answer.ensures c.tell_drilled-status.ensures)))),
      refl,
      refl,
    )

pub returns-in-Ok-clause-ran : goal.returns-in-Ok-clause-ran
returns-in-Ok-clause-ran g c =
    inr (inl (
      ran_kept _ _ _ _ c.args.net _ _ _ _ (Comes (command_of c.args.words.now)) (plain_keeping c.in-Keeps.keeping) (plain_keeping c.in-Ok.keeping) c.in-Ok.opening c.args.files.now c.begin.new.files c.prepare.new.files c.serve_kept.new.files
          c.args.out.now c.begin.new.out c.prepare.new.out c.serve_kept.new.out c.serve_kept.result.0 c.args.stores.now c.prepare.new.stores c.serve_kept.new.stores c.serve_kept.result.1
          c.in-Keeps.ensures.turns c.in-Ok.ensures.prepares c.serve_kept.ensures,
      refl,
    ))

pub returns-in-Keeps-clause-ran : goal.returns-in-Keeps-clause-ran
returns-in-Keeps-clause-ran g c =
    inr (inl (
      ran_unkept _ _ _ _ c.args.net _ _ _ _ (Comes (command_of c.args.words.now)) (plain_keeping c.in-Keeps.keeping) c.args.files.now c.begin.new.files c.prepare.new.files c.args.out.now c.begin.new.out c.prepare.new.out
          c.args.stores.now c.prepare.new.stores c.in-Err.status c.in-Keeps.ensures.turns c.in-Err.ensures.prepares,
      refl,
    ))

-- each run is complete
pub returns-in-Over-clause-complete : goal.returns-in-Over-clause-complete
returns-in-Over-clause-complete g c = is_complete _ _ _ _ _ _ _ c.one_verdict.ensures c.ends_are_caused.ensures.peer c.ends_are_caused.ensures.ended c.ends_are_caused.ensures.refused _ _ (command_of c.args.words.now) _ _ _ _ _ _ c.in-Over.status (returns-in-Over-clause-ran g c)

pub returns-in-Visits-clause-complete : goal.returns-in-Visits-clause-complete
returns-in-Visits-clause-complete g c = is_complete _ _ _ _ _ _ _ c.one_verdict.ensures c.ends_are_caused.ensures.peer c.ends_are_caused.ensures.ended c.ends_are_caused.ensures.refused _ _ (command_of c.args.words.now) _ _ _ _ _ _ c.run_visit-status.result (returns-in-Visits-clause-ran g c)

pub returns-in-Lives-clause-complete : goal.returns-in-Lives-clause-complete
returns-in-Lives-clause-complete g c =
    is_complete _ _ _ _ _ _ _ c.one_verdict.ensures c.ends_are_caused.ensures.peer c.ends_are_caused.ensures.ended c.ends_are_caused.ensures.refused _ _ (command_of c.args.words.now) _ _ _ _ _ _ c.run_live_view-status.result (returns-in-Lives-clause-ran g c)

pub returns-in-Reflects-clause-complete : goal.returns-in-Reflects-clause-complete
returns-in-Reflects-clause-complete g c =
    is_complete _ _ _ _ _ _ _ c.one_verdict.ensures c.ends_are_caused.ensures.peer c.ends_are_caused.ensures.ended c.ends_are_caused.ensures.refused _ _ (command_of c.args.words.now) _ _ _ _ _ _ c.serve_unkept.result.1 (returns-in-Reflects-clause-ran g c)

pub returns-in-Connections-clause-complete : goal.returns-in-Connections-clause-complete
returns-in-Connections-clause-complete g c =
    is_complete _ _ _ _ _ _ _ c.one_verdict.ensures c.ends_are_caused.ensures.peer c.ends_are_caused.ensures.ended c.ends_are_caused.ensures.refused _ _ (command_of c.args.words.now) _ _ _ _ _ _ c.tell_hosted-status.result (returns-in-Connections-clause-ran g c)

pub returns-in-Hosts-clause-complete : goal.returns-in-Hosts-clause-complete
returns-in-Hosts-clause-complete g c =
    is_complete _ _ _ _ _ _ _ c.one_verdict.ensures c.ends_are_caused.ensures.peer c.ends_are_caused.ensures.ended c.ends_are_caused.ensures.refused _ _ (command_of c.args.words.now) _ _ _ _ _ _ c.tell_posts-status.result (returns-in-Hosts-clause-ran g c)

pub returns-clause-complete : goal.returns-clause-complete
returns-clause-complete g c = is_complete _ _ _ _ _ _ _ c.one_verdict.ensures c.ends_are_caused.ensures.peer c.ends_are_caused.ensures.ended c.ends_are_caused.ensures.refused _ _ (command_of c.args.words.now) _ _ _ _ _ _ c.tell_drilled-status.result (returns-clause-ran g c)

pub returns-in-Ok-clause-complete : goal.returns-in-Ok-clause-complete
returns-in-Ok-clause-complete g c = is_complete _ _ _ _ _ _ _ c.one_verdict.ensures c.ends_are_caused.ensures.peer c.ends_are_caused.ensures.ended c.ends_are_caused.ensures.refused _ _ (command_of c.args.words.now) _ _ _ _ _ _ c.serve_kept.result.1 (returns-in-Ok-clause-ran g c)

pub returns-in-Keeps-clause-complete : goal.returns-in-Keeps-clause-complete
returns-in-Keeps-clause-complete g c = is_complete _ _ _ _ _ _ _ c.one_verdict.ensures c.ends_are_caused.ensures.peer c.ends_are_caused.ensures.ended c.ends_are_caused.ensures.refused _ _ (command_of c.args.words.now) _ _ _ _ _ _ c.in-Err.status (returns-in-Keeps-clause-ran g c)

-- a command that goes on with a net is `join`, `reflect` or `host`
pub returns-in-Visits-clause-net : goal.returns-in-Visits-clause-net
returns-in-Visits-clause-net g c = λ other. absurd (never_on_net (command_of c.args.words.now) other _ c.in-Visits.ensures.turns.comes tt)

pub returns-in-Lives-clause-net : goal.returns-in-Lives-clause-net
returns-in-Lives-clause-net g c = λ other. absurd (never_on_net (command_of c.args.words.now) other _ c.in-Lives.ensures.turns.comes tt)

pub returns-in-Reflects-clause-net : goal.returns-in-Reflects-clause-net
returns-in-Reflects-clause-net g c = λ other. absurd (never_on_net (command_of c.args.words.now) other _ c.in-Reflects.ensures.turns.comes tt)

pub returns-in-Connections-clause-net : goal.returns-in-Connections-clause-net
returns-in-Connections-clause-net g c = λ other. absurd (never_on_net (command_of c.args.words.now) other _ c.in-Hosts.ensures.turns.comes tt)

pub returns-in-Hosts-clause-net : goal.returns-in-Hosts-clause-net
returns-in-Hosts-clause-net g c = λ other. absurd (never_on_net (command_of c.args.words.now) other _ c.in-Hosts.ensures.turns.comes tt)

pub returns-in-Ok-clause-net : goal.returns-in-Ok-clause-net
returns-in-Ok-clause-net g c = λ other. absurd (never_on_net (command_of c.args.words.now) other _ c.in-Keeps.ensures.turns.comes tt)
