use Rattle.std.proofs.Common.{◌≡◌, length, sym, ap, ◌∙◌, arith, w64}
use Rattle.std.proofs.lemmas.Int.{to_z-of_z}
use Rattle.model_builtin.proofs.Lists.{character_given, no_character_past, no_character_before}
use Rattle.model_builtin.proofs.parts.character_at.Goals as goal
use Rattle.model_builtin.proofs.parts.character_at.Goals.{in_default-via-in-Some+else-i-length, in_default-via-in_default}

pub returns-in_ok-copy_part-in-Some : goal.returns-in_ok-copy_part-in-Some
returns-in_ok-copy_part-in-Some c =
    let long : c.count-length.result ≡ length c.args.text.now = c.count-length.ensures ∙ ap length c.characters.ensures in
    character_given c.args.text.now c.in_ok-copy_part-in-Some.field-0 c.args.place c.in-Some.i (sym (to_z-of_z w64 c.args.place c.ranges.place) ∙ c.in-Some.ensures) (omega arith) c.in_ok-copy_part-in-Some.ensures

pub returns-in_default : goal.returns-in_default
returns-in_default c =
    let long : c.count-length.result ≡ length c.args.text.now = c.count-length.ensures ∙ ap length c.characters.ensures in
    let place = sym (to_z-of_z w64 c.args.place c.ranges.place) in
    elim c.in_default.branch [
      | in_default-via-in-Some+else-i-length w ↦ no_character_past c.args.text.now c.args.place w.in-Some.i (place ∙ w.in-Some.ensures) (omega arith)
      | in_default-via-in_default w ↦ let before = w.in_default.ensures in no_character_before c.args.text.now c.args.place (before.0, place ∙ before.1)
    ]
