use Rattle.std.proofs.Common.{Result, sym, arith, subst, refl}
use Rattle.reflector_core.specs.declared.keeper.CallFault.{CallFault}
use Rattle.reflector_core.specs.declared.keeper.CallFault.TheVariants as fault
use Rattle.reflector_core.specs.declared.request.Reply.{Reply}
use Rattle.session_lock.specs.declared.knowledge.Item.TheVariants.{Did, Void, Unkept}
use Rattle.session_lock.specs.History.{item_of}
use Rattle.session_lock.specs.Keeping.{KeepsHoped}
use Rattle.session_lock.specs.Steps.{HasCommitted, MayCommit}
use Rattle.session_lock.specs.Trusts.{IsTrusted}
use Rattle.session_lock.proofs.StepLaws.{commits_me}
use Rattle.session_lock.proofs.TrustLaws.{is_err, commit_inside, trusted_outside}
use Rattle.session_lock.proofs.lock.SharedSession.commit.Goals as goal

pub fetch_add-requires : goal.fetch_add-requires
fetch_add-requires g c = (
  cc (c.requires.table, c.self.view_is),
  omega (arith, c.self.invariant.0),
  commits_me (IsTrusted g.T.Trust.allows c.self.inside.table.shared.key.1 c.self.inside.table.shared.key.0) (KeepsHoped g.K.Keeper.holds g.K.Keeper.writes g.K.Keeper.shut g.K.Keeper.faults (g.K.Keeper.faults c.self.inside.table.shared.key.2.me.0.keeper)) g.J.Trusting.trusted (λ s h. c.requires.trusted s (trusted_outside g.T.Trust.allows c.self.inside.table.shared.table_id c.self.inside.table.shared.key (g.K.Keeper.faults c.self.inside.table.shared.key.2.me.0.keeper) c.args.self.now c.self.view_is s h)) _ c.args.seat.now.id c.args.seat.now.me (λ caller. Did caller g.J.Asking.request)
      (commit_inside g.T.Trust.allows c.self.inside.table.shared.table_id c.self.inside.table.shared.key (g.K.Keeper.faults c.self.inside.table.shared.key.2.me.0.keeper) c.args.self.now c.self.view_is c.args.seat.now.me.0 (λ caller. Did caller g.J.Asking.request) (subst (λ (r : Result Reply CallFault). MayCommit (IsTrusted g.T.Trust.allows c.args.self.now.trust c.args.self.now.id) c.args.seat.now.me.0 (λ caller. item_of caller g.J.Asking.request r)) c.in-Ok.is c.requires.may)) refl,
)

pub fetch_add-requires-in-Err-WantOfMemory : goal.fetch_add-requires-in-Err-WantOfMemory
fetch_add-requires-in-Err-WantOfMemory g c = (
  cc (c.requires.table, c.self.view_is),
  omega (arith, c.self.invariant.0),
  commits_me (IsTrusted g.T.Trust.allows c.self.inside.table.shared.key.1 c.self.inside.table.shared.key.0) (KeepsHoped g.K.Keeper.holds g.K.Keeper.writes g.K.Keeper.shut g.K.Keeper.faults (g.K.Keeper.faults c.self.inside.table.shared.key.2.me.0.keeper)) g.J.Trusting.trusted (λ s h. c.requires.trusted s (trusted_outside g.T.Trust.allows c.self.inside.table.shared.table_id c.self.inside.table.shared.key (g.K.Keeper.faults c.self.inside.table.shared.key.2.me.0.keeper) c.args.self.now c.self.view_is s h)) _ c.args.seat.now.id c.args.seat.now.me (λ caller. Void caller)
      (commit_inside g.T.Trust.allows c.self.inside.table.shared.table_id c.self.inside.table.shared.key (g.K.Keeper.faults c.self.inside.table.shared.key.2.me.0.keeper) c.args.self.now c.self.view_is c.args.seat.now.me.0 (λ caller. Void caller) (subst (λ (r : Result Reply CallFault). MayCommit (IsTrusted g.T.Trust.allows c.args.self.now.trust c.args.self.now.id) c.args.seat.now.me.0 (λ caller. item_of caller g.J.Asking.request r)) (is_err _ c.in-Err-WantOfMemory.field-0 fault.WantOfMemory c.in-Err-WantOfMemory.is (rw c.in-Err-WantOfMemory.is at c.in-Err-WantOfMemory.field-0-is)) c.requires.may)) refl,
)

pub fetch_add-requires-in-Err-Unkept : goal.fetch_add-requires-in-Err-Unkept
fetch_add-requires-in-Err-Unkept g c = (
  cc (c.requires.table, c.self.view_is),
  omega (arith, c.self.invariant.0),
  commits_me (IsTrusted g.T.Trust.allows c.self.inside.table.shared.key.1 c.self.inside.table.shared.key.0) (KeepsHoped g.K.Keeper.holds g.K.Keeper.writes g.K.Keeper.shut g.K.Keeper.faults (g.K.Keeper.faults c.self.inside.table.shared.key.2.me.0.keeper)) g.J.Trusting.trusted (λ s h. c.requires.trusted s (trusted_outside g.T.Trust.allows c.self.inside.table.shared.table_id c.self.inside.table.shared.key (g.K.Keeper.faults c.self.inside.table.shared.key.2.me.0.keeper) c.args.self.now c.self.view_is s h)) _ c.args.seat.now.id c.args.seat.now.me (λ caller. Unkept caller)
      (commit_inside g.T.Trust.allows c.self.inside.table.shared.table_id c.self.inside.table.shared.key (g.K.Keeper.faults c.self.inside.table.shared.key.2.me.0.keeper) c.args.self.now c.self.view_is c.args.seat.now.me.0 (λ caller. Unkept caller) (subst (λ (r : Result Reply CallFault). MayCommit (IsTrusted g.T.Trust.allows c.args.self.now.trust c.args.self.now.id) c.args.seat.now.me.0 (λ caller. item_of caller g.J.Asking.request r)) (is_err _ c.in-Err-Unkept.field-0 fault.Unkept c.in-Err-Unkept.is (rw c.in-Err-Unkept.is at c.in-Err-Unkept.field-0-is)) c.requires.may)) refl,
)

pub returns-in-Ok-clause-committed : goal.returns-in-Ok-clause-committed
returns-in-Ok-clause-committed g c =
    subst (λ (r : Result Reply CallFault). HasCommitted g.J.Trusting.trusted (λ caller. item_of caller g.J.Asking.request r) c.args.seat.now.me c.fetch_add.new.seat.me) (sym c.in-Ok.is) c.fetch_add.ensures.2

pub returns-in-Err-WantOfMemory-clause-committed : goal.returns-in-Err-WantOfMemory-clause-committed
returns-in-Err-WantOfMemory-clause-committed g c =
    subst (λ (r : Result Reply CallFault). HasCommitted g.J.Trusting.trusted (λ caller. item_of caller g.J.Asking.request r) c.args.seat.now.me c.fetch_add-in-Err-WantOfMemory.new.seat.me) (sym (is_err _ c.in-Err-WantOfMemory.field-0 fault.WantOfMemory c.in-Err-WantOfMemory.is (rw c.in-Err-WantOfMemory.is at c.in-Err-WantOfMemory.field-0-is))) c.fetch_add-in-Err-WantOfMemory.ensures.2

pub returns-in-Err-Unkept-clause-committed : goal.returns-in-Err-Unkept-clause-committed
returns-in-Err-Unkept-clause-committed g c =
    subst (λ (r : Result Reply CallFault). HasCommitted g.J.Trusting.trusted (λ caller. item_of caller g.J.Asking.request r) c.args.seat.now.me c.fetch_add-in-Err-Unkept.new.seat.me) (sym (is_err _ c.in-Err-Unkept.field-0 fault.Unkept c.in-Err-Unkept.is (rw c.in-Err-Unkept.is at c.in-Err-Unkept.field-0-is))) c.fetch_add-in-Err-Unkept.ensures.2
