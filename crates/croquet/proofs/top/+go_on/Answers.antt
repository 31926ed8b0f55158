use Rattle.std.proofs.Common.{[], refl}
use Rattle.command_outcome.specs.Outcome.{steps_of}
use Rattle.commands.specs.Verdict.{ByRefusal, ByWant}
use Rattle.croquet.specs.Run.{refusal_ending, OutOfMemory}
use Rattle.croquet.proofs.Runs.{turns_on, ran_unread, ran_unread_memory, ran_closed, ran_done}
use Rattle.croquet.proofs.top.+go_on.Goals as goal

pub returns-in-Ok-clause-turns : goal.returns-in-Ok-clause-turns
returns-in-Ok-clause-turns g t c =
    rw c.in-Reads.is
    (turns_on _ _ c.in-Reads.waiting c.in-Ok.given c.hand.result c.go_on.result c.args.files.now c.read_asked.new.files c.go_on.new.files c.args.out.now c.go_on.new.out
    c.in-Ok.ensures c.hand.ensures.leads c.go_on.ensures.turns)

pub returns-in-Err-Failed-clause-turns : goal.returns-in-Err-Failed-clause-turns
returns-in-Err-Failed-clause-turns g t c =
    rw c.in-Reads.is
    (ran_unread _ _ c.in-Reads.waiting c.args.files.now c.read_asked.new.files c.args.out.now c.tell.new.out c.tell.result
    (rw c.in-Err-Failed.field-0-is at c.in-Err-Failed.ensures) c.tell.ensures)

pub returns-in-Err-WantOfMemory-clause-turns : goal.returns-in-Err-WantOfMemory-clause-turns
returns-in-Err-WantOfMemory-clause-turns g t c =
    rw c.in-Reads.is
    (ran_unread_memory _ _ c.in-Reads.waiting c.args.files.now c.read_asked.new.files c.args.out.now c.tell_want_of_memory.new.out c.tell_want_of_memory.result
    (rw c.in-Err-WantOfMemory.field-0-is at c.in-Err-WantOfMemory.ensures) c.tell_want_of_memory.ensures)

pub returns-in-Refuses-clause-turns : goal.returns-in-Refuses-clause-turns
returns-in-Refuses-clause-turns g t c =
    rw c.in-Refuses.is
    (ran_closed _ _ (ByRefusal c.in-Refuses.refusal) (refusal_ending c.in-Refuses.refusal) c.args.files.now c.args.out.now c.tell_refusal.new.out c.tell_refusal.result (refl, refl) c.tell_refusal.ensures)

pub returns-in-Gives-clause-turns : goal.returns-in-Gives-clause-turns
returns-in-Gives-clause-turns g t c =
    rw c.in-Gives.is
    (ran_done _ _ (steps_of c.in-Gives.outcome.files c.in-Gives.outcome.text) c.args.files.now c.finish.new.files c.args.out.now c.finish.new.out c.finish.result c.finish.ensures)

pub returns-in-Visits-clause-turns : goal.returns-in-Visits-clause-turns
returns-in-Visits-clause-turns g t c = rw c.in-Visits.is (record { steps = []; comes = refl; acts = refl })

pub returns-in-Lives-clause-turns : goal.returns-in-Lives-clause-turns
returns-in-Lives-clause-turns g t c = rw c.in-Lives.is (record { steps = []; comes = refl; acts = refl })

pub returns-in-Reflects-clause-turns : goal.returns-in-Reflects-clause-turns
returns-in-Reflects-clause-turns g t c = rw c.in-Reflects.is c.ready.ensures.turns

pub returns-in-Keeps-clause-turns : goal.returns-in-Keeps-clause-turns
returns-in-Keeps-clause-turns g t c = rw c.in-Keeps.is (record { steps = []; comes = refl; acts = refl })

pub returns-in-Hosts-clause-turns : goal.returns-in-Hosts-clause-turns
returns-in-Hosts-clause-turns g t c = rw c.in-Hosts.is c.ready_to_host.ensures.turns

pub returns-in-Drills-clause-turns : goal.returns-in-Drills-clause-turns
returns-in-Drills-clause-turns g t c = rw c.in-Drills.is (record { steps = []; comes = refl; acts = refl })

pub returns-in-WantOfMemory-clause-turns : goal.returns-in-WantOfMemory-clause-turns
returns-in-WantOfMemory-clause-turns g t c =
    rw c.in-WantOfMemory.is
    (ran_closed _ _ ByWant OutOfMemory c.args.files.now c.args.out.now c.tell_want_of_memory-in-WantOfMemory.new.out c.tell_want_of_memory-in-WantOfMemory.result (refl, refl) c.tell_want_of_memory-in-WantOfMemory.ensures)
