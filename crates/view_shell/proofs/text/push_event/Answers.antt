use Rattle.std.proofs.Common.{List, ℕ, [], ◌∷◌, ◌++◌, string_bytes, codes}
use Rattle.text_lines.specs.Lines.{spell_numbers}
use Rattle.model_tokens.specs.Spelling.{spelled_text}
use Rattle.model_value.specs.View.{plain}
use Rattle.value_text.specs.ValueText.{value_text}
use Rattle.view_shell.proofs.Texts.{piece_before}
use Rattle.view_shell.proofs.text.push_event.Goals as goal

pub returns : goal.returns
returns c =
    let event = c.args.event.now in
    let value : List ℕ = value_text (plain event.value) ++ 10 ∷ [] in
    let name : List ℕ = spelled_text event.event ++ 32 ∷ value in
    let scope : List ℕ = spelled_text event.scope ++ 32 ∷ name in
    let a : List ℕ = string_bytes c.push_str.new.self in
    let b : List ℕ = string_bytes c.push_str-2.new.self in
    let d : List ℕ = string_bytes c.push_text.new.out in
    let e : List ℕ = string_bytes c.push_str-3.new.self in
    let f : List ℕ = string_bytes c.push_text-2.new.out in
    let h : List ℕ = string_bytes c.push_str-4.new.self in
    let i : List ℕ = string_bytes c.push_value.new.out in
    let last : List ℕ = string_bytes c.push_str-5.new.self in
    piece_before (string_bytes c.args.out.now) a last (spell_numbers (codes "event") (event.time ∷ [])) (32 ∷ scope) (rw (c.as_str.ensures.value, c.in_ok-spell_numbers.ensures) at c.in_ok-push_str.ensures.bytes)
    (piece_before a b last (32 ∷ []) scope c.in_ok-push_str-2.ensures.bytes
    (piece_before b d last (spelled_text event.scope) (32 ∷ name) c.in_ok-push_text.ensures.literal
    (piece_before d e last (32 ∷ []) name c.in_ok-push_str-3.ensures.bytes
    (piece_before e f last (spelled_text event.event) (32 ∷ value) c.in_ok-push_text-2.ensures.literal
    (piece_before f h last (32 ∷ []) value c.in_ok-push_str-4.ensures.bytes
    (piece_before h i last (value_text (plain event.value)) (10 ∷ []) c.in_ok-push_value.ensures.text c.in_ok-push_str-5.ensures.bytes))))))
