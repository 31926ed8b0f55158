use Rattle.std.proofs.Common.{◌++◌, flat_map, string_bytes, sym, ap, ◌∙◌, map-id, append-nil}
use Rattle.std.proofs.lemmas.Iterator.{YieldsList-from_chars}
use Rattle.std.proofs.lemmas.Iterator.Consumers.{YieldsList-end}
use Rattle.std.proofs.lemmas.List.{flat_map_more}
use Rattle.model_tokens.specs.Spelling.{spelled_character}
use Rattle.model_tokens.proofs.writing.push_characters.Goals as goal

pub loop-character-init : goal.loop-character-init
loop-character-init c = sym (append-nil (string_bytes c.args.out.now))

pub loop-character-preserved : goal.loop-character-preserved
loop-character-preserved c =
    c.in_ok-push_character.ensures
    ∙ ap (λ xs. xs ++ spelled_character c.in-Some.character) c.loop-character.invariant
    ∙ flat_map_more spelled_character (string_bytes c.args.out.now) c.loop-character.yielded c.in-Some.character

pub returns : goal.returns
returns c =
    let end = YieldsList-end (YieldsList-from_chars c.args.text.now c.utf8.text cc) c.loop-character.yielded _ c.loop-character.yielded_by _ _ c.in-None.is c.next.ensures.steps in
    c.loop-character.invariant ∙ ap (λ xs. string_bytes c.args.out.now ++ flat_map spelled_character xs) (sym (map-id c.loop-character.yielded) ∙ end.0)
