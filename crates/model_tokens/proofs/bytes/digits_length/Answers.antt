use Rattle.std.proofs.Common.{◌≡◌, ◌∙◌, rules, tests, cond, length, Some, None}
use Rattle.std.specs.Prelude.{nat_lt, not}
use Rattle.std.specs.List.{prefix_len}
use Rattle.std.proofs.lemmas.Iterator.{YieldsList-from_slice}
use Rattle.std.proofs.lemmas.Iterator.Search.{position_from_yields_List}
use Rattle.model_tokens.specs.Bytes.{is_digit}
use Rattle.model_tokens.proofs.Lists.{place_or_length, prefix_not_not}
use Rattle.model_tokens.proofs.bytes.digits_length.Goals as goal

pub returns-clause-length : goal.returns-clause-length
returns-clause-length c =
    let found : c.position.result ≡ cond (nat_lt (prefix_len (λ b. not (not (is_digit b))) c.args.text.now) (length c.args.text.now)) (Some (prefix_len (λ b. not (not (is_digit b))) c.args.text.now)) None =
    position_from_yields_List (λ b. not (is_digit b)) _ _ c.position.result c.position.ensures.ran (YieldsList-from_slice c.args.text.now c.iter.ensures.rest) (λ x b q k. search (rules, tests)) in
    c.unwrap_or.ensures ∙ place_or_length (λ b. not (not (is_digit b))) c.args.text.now c.position.result found ∙ prefix_not_not is_digit c.args.text.now
