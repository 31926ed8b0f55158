use Rattle.std.proofs.Common.{Result, sym, arith, subst}
use Rattle.reflector_core.specs.declared.keeper.CallFault.{CallFault}
use Rattle.reflector_core.specs.declared.keeper.CallFault.TheVariants as fault
use Rattle.reflector_core.specs.declared.request.Reply.{Reply}
use Rattle.session_lock.specs.declared.knowledge.Item.TheVariants.{Did, Void, Unkept}
use Rattle.session_lock.specs.History.{item_of}
use Rattle.session_lock.specs.Keeping.{KeepsHoped}
use Rattle.session_lock.specs.Steps.{HasPutOff, MayPutOff}
use Rattle.session_lock.specs.Trusts.{IsTrusted}
use Rattle.session_lock.proofs.StepLaws.{puts_off_me}
use Rattle.session_lock.proofs.TrustLaws.{is_err, put_off_inside}
use Rattle.session_lock.proofs.lock.SharedSession.put_behind.Goals as goal

pub fetch_add-requires : goal.fetch_add-requires
fetch_add-requires g c = (
  cc (c.requires.table, c.self.view_is),
  omega (arith, c.self.invariant.0),
  puts_off_me (IsTrusted g.T.Trust.allows c.self.inside.table.shared.key.1 c.self.inside.table.shared.key.0) (KeepsHoped g.K.Keeper.holds g.K.Keeper.writes g.K.Keeper.shut g.K.Keeper.faults (g.K.Keeper.faults c.self.inside.table.shared.key.2.me.0.keeper)) _ c.args.seat.now.id c.args.seat.now.me (λ caller. Did caller g.J.Asking.request) c.self.invariant.1
      (put_off_inside g.T.Trust.allows c.self.inside.table.shared.table_id c.self.inside.table.shared.key (g.K.Keeper.faults c.self.inside.table.shared.key.2.me.0.keeper) c.args.self.now c.self.view_is g.K.Keeper.holds g.K.Keeper.writes g.K.Keeper.shut g.K.Keeper.faults g.J.Trusting.first c.args.seat.now.me (λ caller. Did caller g.J.Asking.request) c.requires.first
      (subst (λ (r : Result Reply CallFault). MayPutOff (IsTrusted g.T.Trust.allows c.args.self.now.trust c.args.self.now.id) (KeepsHoped g.K.Keeper.holds g.K.Keeper.writes g.K.Keeper.shut g.K.Keeper.faults g.J.Trusting.first) c.args.seat.now.me (λ caller. item_of caller g.J.Asking.request r)) c.in-Ok.is c.requires.may)),
)

pub fetch_add-requires-in-Err-WantOfMemory : goal.fetch_add-requires-in-Err-WantOfMemory
fetch_add-requires-in-Err-WantOfMemory g c = (
  cc (c.requires.table, c.self.view_is),
  omega (arith, c.self.invariant.0),
  puts_off_me (IsTrusted g.T.Trust.allows c.self.inside.table.shared.key.1 c.self.inside.table.shared.key.0) (KeepsHoped g.K.Keeper.holds g.K.Keeper.writes g.K.Keeper.shut g.K.Keeper.faults (g.K.Keeper.faults c.self.inside.table.shared.key.2.me.0.keeper)) _ c.args.seat.now.id c.args.seat.now.me (λ caller. Void caller) c.self.invariant.1
      (put_off_inside g.T.Trust.allows c.self.inside.table.shared.table_id c.self.inside.table.shared.key (g.K.Keeper.faults c.self.inside.table.shared.key.2.me.0.keeper) c.args.self.now c.self.view_is g.K.Keeper.holds g.K.Keeper.writes g.K.Keeper.shut g.K.Keeper.faults g.J.Trusting.first c.args.seat.now.me (λ caller. Void caller) c.requires.first
      (subst (λ (r : Result Reply CallFault). MayPutOff (IsTrusted g.T.Trust.allows c.args.self.now.trust c.args.self.now.id) (KeepsHoped g.K.Keeper.holds g.K.Keeper.writes g.K.Keeper.shut g.K.Keeper.faults g.J.Trusting.first) c.args.seat.now.me (λ caller. item_of caller g.J.Asking.request r)) (is_err _ c.in-Err-WantOfMemory.field-0 fault.WantOfMemory c.in-Err-WantOfMemory.is (rw c.in-Err-WantOfMemory.is at c.in-Err-WantOfMemory.field-0-is)) c.requires.may)),
)

pub fetch_add-requires-in-Err-Unkept : goal.fetch_add-requires-in-Err-Unkept
fetch_add-requires-in-Err-Unkept g c = (
  cc (c.requires.table, c.self.view_is),
  omega (arith, c.self.invariant.0),
  puts_off_me (IsTrusted g.T.Trust.allows c.self.inside.table.shared.key.1 c.self.inside.table.shared.key.0) (KeepsHoped g.K.Keeper.holds g.K.Keeper.writes g.K.Keeper.shut g.K.Keeper.faults (g.K.Keeper.faults c.self.inside.table.shared.key.2.me.0.keeper)) _ c.args.seat.now.id c.args.seat.now.me (λ caller. Unkept caller) c.self.invariant.1
      (put_off_inside g.T.Trust.allows c.self.inside.table.shared.table_id c.self.inside.table.shared.key (g.K.Keeper.faults c.self.inside.table.shared.key.2.me.0.keeper) c.args.self.now c.self.view_is g.K.Keeper.holds g.K.Keeper.writes g.K.Keeper.shut g.K.Keeper.faults g.J.Trusting.first c.args.seat.now.me (λ caller. Unkept caller) c.requires.first
      (subst (λ (r : Result Reply CallFault). MayPutOff (IsTrusted g.T.Trust.allows c.args.self.now.trust c.args.self.now.id) (KeepsHoped g.K.Keeper.holds g.K.Keeper.writes g.K.Keeper.shut g.K.Keeper.faults g.J.Trusting.first) c.args.seat.now.me (λ caller. item_of caller g.J.Asking.request r)) (is_err _ c.in-Err-Unkept.field-0 fault.Unkept c.in-Err-Unkept.is (rw c.in-Err-Unkept.is at c.in-Err-Unkept.field-0-is)) c.requires.may)),
)

pub returns-in-Ok-clause-put : goal.returns-in-Ok-clause-put
returns-in-Ok-clause-put g c =
    subst (λ (r : Result Reply CallFault). HasPutOff (λ caller. item_of caller g.J.Asking.request r) c.args.seat.now.me c.fetch_add.new.seat.me) (sym c.in-Ok.is) c.fetch_add.ensures.2

pub returns-in-Err-WantOfMemory-clause-put : goal.returns-in-Err-WantOfMemory-clause-put
returns-in-Err-WantOfMemory-clause-put g c =
    subst (λ (r : Result Reply CallFault). HasPutOff (λ caller. item_of caller g.J.Asking.request r) c.args.seat.now.me c.fetch_add-in-Err-WantOfMemory.new.seat.me) (sym (is_err _ c.in-Err-WantOfMemory.field-0 fault.WantOfMemory c.in-Err-WantOfMemory.is (rw c.in-Err-WantOfMemory.is at c.in-Err-WantOfMemory.field-0-is))) c.fetch_add-in-Err-WantOfMemory.ensures.2

pub returns-in-Err-Unkept-clause-put : goal.returns-in-Err-Unkept-clause-put
returns-in-Err-Unkept-clause-put g c =
    subst (λ (r : Result Reply CallFault). HasPutOff (λ caller. item_of caller g.J.Asking.request r) c.args.seat.now.me c.fetch_add-in-Err-Unkept.new.seat.me) (sym (is_err _ c.in-Err-Unkept.field-0 fault.Unkept c.in-Err-Unkept.is (rw c.in-Err-Unkept.is at c.in-Err-Unkept.field-0-is))) c.fetch_add-in-Err-Unkept.ensures.2
