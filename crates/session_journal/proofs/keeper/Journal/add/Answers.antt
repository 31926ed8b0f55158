use Rattle.std.proofs.Common.{◌≡◌, ◌+◌, ◌++◌, ◌∷◌, [], ◌∙◌, List, ℕ, Option, length, refl, sym, ap, arith}
use Rattle.std.proofs.lemmas.List.{length-append, take_rest}
use Rattle.tea_io.specs.Told.{with_more}
use Rattle.session_journal.specs.Changes.{change_spelling}
use Rattle.session_journal.specs.Journal.{record_check, records_spelling}
use Rattle.session_journal.specs.Keeper.{KeeperState, keeper_state}
use Rattle.session_journal.proofs.HeadLaws.{body_is, record_is}
use Rattle.session_journal.proofs.KeeperLaws.{writes_more, keeps_behind, keeps_still}
use Rattle.session_journal.proofs.keeper.Journal.add.Goals as goal

pub returns-in-Ok-clause-written : goal.returns-in-Ok-clause-written
returns-in-Ok-clause-written g c = λ id s change writes spelled typed may reached.
    let old : Option (List ℕ) = g.S.Store.bytes c.args.self.now.store in
    let head : List ℕ = c.args.head.now in
    let payload : List ℕ = c.args.payload.now in
    let before : KeeperState = keeper_state c.args.self.now in
    let check : List ℕ = c.check_of-check.result in
    let check_is : check ≡ record_check before.check (change_spelling change) =
    c.check_of-check.ensures.check ∙ ap (λ (front : List ℕ). record_check before.check (front ++ payload)) (take_rest head 4)
    ∙ ap (record_check before.check) (body_is head payload change c.requires.head spelled) in
    let piece : head ++ (payload ++ check) ≡ records_spelling before.check (change ∷ []) = record_is head payload check before.check change spelled check_is in
    let long : length head + (length payload + length check) ≡ length (records_spelling before.check (change ∷ [])) =
    ap (λ (n : ℕ). length head + n) (sym (length-append payload check)) ∙ sym (length-append head (payload ++ check)) ∙ ap length piece in
    writes_more id old (g.S.Store.bytes c.append.new.store) (g.S.Store.safe c.args.self.now.store) (g.S.Store.safe c.append.new.store) before _ change s writes c.requires.unshut typed may
    (c.in-Ok.ensures.ok ∙ ap (λ (xs : List ℕ). with_more old xs) piece) check_is (omega (arith, long, c.check_of-check.ensures.len)) reached refl

pub returns-in-Ok-clause-kept : goal.returns-in-Ok-clause-kept
returns-in-Ok-clause-kept g c = λ id s keeps.
    keeps_behind id (g.S.Store.bytes c.args.self.now.store) (g.S.Store.bytes c.append.new.store) (g.S.Store.safe c.args.self.now.store) (g.S.Store.safe c.append.new.store)
    (c.args.head.now ++ (c.args.payload.now ++ c.check_of-check.result)) s keeps c.in-Ok.ensures.ok c.append.ensures.safe

pub returns-in-Err-clause-kept : goal.returns-in-Err-clause-kept
returns-in-Err-clause-kept g c = λ id s keeps.
    keeps_still id (g.S.Store.bytes c.args.self.now.store) (g.S.Store.bytes c.append.new.store) (g.S.Store.safe c.args.self.now.store) (g.S.Store.safe c.append.new.store)
    (c.args.head.now ++ (c.args.payload.now ++ c.check_of-check.result)) s keeps c.in-Err.ensures.part c.append.ensures.safe
