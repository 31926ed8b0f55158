use Rattle.std.proofs.lemmas.List.{append-nil}
use Rattle.model_value.specs.Plain.{PlainValue, nil}
use Rattle.model_value.proofs.Plains.{plain-Nil}
use Rattle.snapshot_codec.specs.Spelling.{persisted_bytes}
use Rattle.std.proofs.Common.{◌≡◌, ◌++◌, List, [], ℕ, refl, rules, ap, ◌∙◌, sym, subst}
use Rattle.byte_fields.specs.Fields.{text_field}
use Rattle.sha2.specs.Sha256.{sha256}
use Rattle.model_solved.specs.Founding.{CheckedView, founding_of}
use Rattle.drill.specs.Program.{IsDrillProgram, drill_text}
use Rattle.drill.proofs.Making.{name_characters}
use Rattle.drill.proofs.drilling.prepare.Goals as goal

nil_adds_nothing : persisted_bytes nil ≡ []
nil_adds_nothing = refl

pub returns-clause-prepared : goal.returns-clause-prepared
returns-clause-prepared c = record {
  tree = subst (λ (p : CheckedView). IsDrillProgram (founding_of p)) (sym c.in_ok-program.ensures.ok) c.in_ok-drill_program.ensures;
  trusts = search rules;
  same_id = c.in-Ok.ensures.trust.0;
  spelled =
      c.session_id-id.ensures
      ∙ ap (λ (v : PlainValue). sha256 (text_field c.in_ok-name.name ++ drill_text ++ persisted_bytes v)) plain-Nil
      ∙ ap (λ (more : List ℕ). sha256 (text_field c.in_ok-name.name ++ drill_text ++ more)) nil_adds_nothing
      ∙ ap sha256 (append-nil (text_field c.in_ok-name.name ++ drill_text))
      ∙ ap (λ (name : List ℕ). sha256 (text_field name ++ drill_text)) (c.in_ok-name.ensures.characters ∙ name_characters);
}
