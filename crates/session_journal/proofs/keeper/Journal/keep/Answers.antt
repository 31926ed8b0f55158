use Rattle.std.proofs.Common.{◌++◌, ◌≡◌, ◌∙◌, Err, List, ℕ, ap, arith, rules, sym}
use Rattle.session_journal.specs.Lent.{lent_change}
use Rattle.session_journal.specs.Heads.{head_bytes}
use Rattle.session_journal.proofs.HeadLaws.{record_long}
use Rattle.session_journal.proofs.keeper.Journal.keep.Goals as goal

pub returns-in_err-add-clause-full : goal.returns-in_err-add-clause-full
returns-in_err-add-clause-full g c = λ e.
    let is : c.from_residual.result ≡ Err c.in_err-add.field-0.0 = search rules in
    let f = c.in_err-add.ensures.full (sym is ∙ e) in
    let long = record_long c.bytes.result.now c.payload_of.result.now (lent_change c.args.change)
    (ap (λ (xs : List ℕ). xs ++ c.payload_of.result.now) c.bytes.ensures ∙ ap (λ (xs : List ℕ). head_bytes c.head_of-head.result ++ xs) c.payload_of.ensures ∙ c.head_of-head.ensures) in
    (omega (arith, long, f.0), f.1)

pub returns-clause-room : goal.returns-clause-room
returns-clause-room g c =
    let long = record_long c.bytes.result.now c.payload_of.result.now (lent_change c.args.change)
    (ap (λ (xs : List ℕ). xs ++ c.payload_of.result.now) c.bytes.ensures ∙ ap (λ (xs : List ℕ). head_bytes c.head_of-head.result ++ xs) c.payload_of.ensures ∙ c.head_of-head.ensures) in
    omega (arith, long, c.in_ok-add.ensures.room)
