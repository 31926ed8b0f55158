use Rattle.std.proofs.Common.{List, ℕ, sym, subst}
use Rattle.model_value.specs.View.{plain}
use Rattle.persist_json.specs.JsonOf.{IsJsonOf}
use Rattle.persist_json.proofs.Readings.{only_want}
use Rattle.persist_json.proofs.laws.write_and_read.Goals as goal

pub returns-clause-want : goal.returns-clause-want
returns-clause-want c =
    let written = subst (λ (bytes : List ℕ). IsJsonOf bytes (plain c.args.value.now)) (sym c.bytes.ensures) c.in_ok-text.ensures.json in
    only_want c.from_json.result (λ bad. c.from_json.ensures.bad bad (plain c.args.value.now) written)
