use Rattle.std.proofs.Common.{◌≡◌, ◌∙◌, rules, tests, cond, length, Some, None, ◌||◌}
use Rattle.std.specs.Prelude.{nat_lt, ◌==◌}
use Rattle.std.specs.List.{prefix_len}
use Rattle.std.proofs.lemmas.Iterator.{YieldsList-from_slice}
use Rattle.std.proofs.lemmas.Iterator.Search.{position_from_yields_List}
use Rattle.model_tokens.proofs.Lists.{place_or_length}
use Rattle.value_text.specs.Reading.{goes_on_word}
use Rattle.value_text.proofs.reading.word_length.Goals as goal

pub returns-clause-length : goal.returns-clause-length
returns-clause-length c =
    let found : c.position.result ≡ cond (nat_lt (prefix_len goes_on_word c.args.bytes.now) (length c.args.bytes.now)) (Some (prefix_len goes_on_word c.args.bytes.now)) None =
    position_from_yields_List (λ b. b == 44 || b == 93) _ _ c.position.result c.position.ensures.ran (YieldsList-from_slice c.args.bytes.now c.iter.ensures.rest) (λ x b q k. search (rules, tests)) in
    c.unwrap_or.ensures ∙ place_or_length goes_on_word c.args.bytes.now c.position.result found
