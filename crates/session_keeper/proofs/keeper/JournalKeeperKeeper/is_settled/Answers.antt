use Rattle.std.proofs.Common.{◌≡◌, ◌∙◌, inl, inr, true, false, refl, sym}
use Rattle.session_keeper.proofs.keeper.JournalKeeperKeeper.is_settled.Goals as goal

pub returns-then-self-clause-is : goal.returns-then-self-clause-is
returns-then-self-clause-is g c = rw c.if-self.true refl

pub returns-clause-is : goal.returns-clause-is
returns-clause-is g c = rw c.if-self.false c.is_synced.ensures.is

pub returns-clause-open : goal.returns-clause-open
returns-clause-open g c = λ yes shut. elim shut [
  | inl closed ↦ absurd (let e : true ≡ false = sym closed ∙ c.is_synced.ensures.open yes in cc)
  | inr full ↦ absurd (let e : true ≡ false = sym full ∙ c.if-self.false in cc)
]

pub returns-clause-all : goal.returns-clause-all
returns-clause-all g c = λ yes held is.
    record { state = is.state; is_kept = c.is_synced.ensures.synced yes c.args.self.now.id.0 is.state is.is_written; same = is.same }
