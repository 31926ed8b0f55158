use Rattle.std.proofs.Common.{◌++◌, List, ℕ, Some, ap, ◌∙◌, refl}
use Rattle.tea_io.proofs.Writing.{GrowsWithin-nothing}
use Rattle.store_io.proofs.Tearing.{front_written}
use Rattle.store_io.proofs.mem_store.MemStoreStore.append.Goals as goal

pub returns-then-fails-clause-part : goal.returns-then-fails-clause-part
returns-then-fails-clause-part c =
    let held : List ℕ = c.self.inside.bytes.items in
    let e = c.in-Ok.ensures.ok ∙ ap (λ (xs : List ℕ). held ++ xs) (rw c.if-fails.true at c.front_of.ensures) in
    rw (← c.self.view_is) (front_written held c.args.piece.now c.extend.new.bytes.items c.self.inside.torn e)

pub returns-in-Err-clause-part : goal.returns-in-Err-clause-part
returns-in-Err-clause-part c = rw (← c.self.view_is, c.in-Err.ensures.err) (GrowsWithin-nothing (Some c.self.inside.bytes.items) c.args.piece.now)
