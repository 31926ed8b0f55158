use Rattle.std.proofs.Common.{sym, ◌∙◌, refl}
use Rattle.reflector_core.specs.Kept.{plain_session}
use Rattle.reflector_core.proofs.RepeatLaws.{found_seq, repeats_found, differs_found}
use Rattle.reflector_core.proofs.session.Session.repeat.Goals as goal

pub time_of-requires-clause-named : goal.time_of-requires-clause-named
time_of-requires-clause-named c = (found_seq _ _ _ _ c.self.invariant.sound.legal (rw (← c.self.view_is) at (sym c.in-Some.is ∙ c.seq_of.ensures))).0

pub time_of-requires-clause-there : goal.time_of-requires-clause-there
time_of-requires-clause-there c = (found_seq _ _ _ _ c.self.invariant.sound.legal (rw (← c.self.view_is) at (sym c.in-Some.is ∙ c.seq_of.ensures))).1

pub returns-then-payload_is : goal.returns-then-payload_is
returns-then-payload_is c = λ otherwise.
    let named = rw (← c.self.view_is) at (sym c.in-Some.is ∙ c.seq_of.ensures) in
    let found = repeats_found (plain_session c.self.inside) c.args.view c.args.number c.in-Some.seq c.time_of.result c.args.payload.now c.payload_is.result otherwise c.self.invariant.sound.legal named c.time_of.ensures c.payload_is.ensures in
    rw (← c.self.view_is) (rw c.if-payload_is.true at found)

pub returns-else-payload_is : goal.returns-else-payload_is
returns-else-payload_is c = λ otherwise.
    let named = rw (← c.self.view_is) at (sym c.in-Some.is ∙ c.seq_of.ensures) in
    let found = differs_found (plain_session c.self.inside) c.args.view c.args.number c.in-Some.seq c.args.payload.now otherwise _ c.self.invariant.sound.legal refl named (λ h. let same = c.payload_is.ensures.1 h in let differs = c.if-payload_is.false in cc) in
    rw (← c.self.view_is) found
