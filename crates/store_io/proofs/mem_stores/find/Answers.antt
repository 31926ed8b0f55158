use Rattle.std.proofs.Common.{◌≡◌, ◌+◌, drop, Option, List, ℕ, ap, sym, ◌∙◌}
use Rattle.store_io.specs.MemStores.{newest}
use Rattle.store_io.proofs.Held.{looked_at}
use Rattle.store_io.proofs.mem_stores.find.Goals as goal

pub loop-file-preserved : goal.loop-file-preserved
loop-file-preserved c =
    ap (λ (found : Option (List ℕ)). newest found (drop (c.loop-file.file-index + 1) c.args.files.now) c.args.name.now) c.newer-found.ensures
    ∙ sym (looked_at _ _ _ _ _ c.loop-file-test.true c.file-item.is) ∙ c.loop-file.invariant
