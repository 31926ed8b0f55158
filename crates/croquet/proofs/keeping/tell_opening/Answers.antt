use Rattle.croquet.proofs.keeping.tell_opening.Goals as goal

pub returns-in-Unfounded : goal.returns-in-Unfounded
returns-in-Unfounded g c = rw c.in-Unfounded.is c.tell.ensures

pub returns-in-Unopened : goal.returns-in-Unopened
returns-in-Unopened g c = rw c.in-Unopened.is c.tell-in-Unopened.ensures
