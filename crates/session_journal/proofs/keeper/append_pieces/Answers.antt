use Rattle.std.proofs.Common.{◌++◌, List, ℕ, Option}
use Rattle.tea_io.proofs.Writing.{on_err}
use Rattle.session_journal.proofs.KeeperLaws.{last_part, within_first, within_then}
use Rattle.session_journal.proofs.keeper.append_pieces.Goals as goal

pub returns-in_err-append-clause-part : goal.returns-in_err-append-clause-part
returns-in_err-append-clause-part g c =
    on_err c.from_residual.result
    (within_first (g.S.Store.bytes c.args.store.now) (g.S.Store.bytes c.append.new.self) c.args.head.now (c.args.payload.now ++ c.args.check.now) c.in_err-append.ensures.part)

pub returns-in_err-append-2-clause-part : goal.returns-in_err-append-2-clause-part
returns-in_err-append-2-clause-part g c =
    let first : Option (List ℕ) = g.S.Store.bytes c.append.new.self in
    let second : Option (List ℕ) = g.S.Store.bytes c.append-2.new.self in
    on_err c.from_residual-in_err-append-2.result
    (within_then (g.S.Store.bytes c.args.store.now) first second c.args.head.now (c.args.payload.now ++ c.args.check.now) c.in_ok-append.ensures.ok
    (within_first first second c.args.payload.now c.args.check.now c.in_err-append-2.ensures.part))

pub returns-clause-part : goal.returns-clause-part
returns-clause-part g c =
    last_part c.append-3.result (g.S.Store.bytes c.args.store.now) (g.S.Store.bytes c.append.new.self) (g.S.Store.bytes c.append-2.new.self) (g.S.Store.bytes c.append-3.new.self)
    c.args.head.now c.args.payload.now c.args.check.now c.in_ok-append.ensures.ok c.in_ok-append-2.ensures.ok c.append-3.ensures.part
