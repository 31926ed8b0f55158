use Rattle.croquet.proofs.keeping.tell_ungone.Goals as goal

pub returns-in-Failed : goal.returns-in-Failed
returns-in-Failed g c = rw c.in-Failed.is c.tell.ensures
