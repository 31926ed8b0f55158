use Rattle.std.proofs.Common.{◌≡◌, ap, ◌∙◌, rules, to_z, of_z, w64}
use Rattle.std.specs.Str.{chars}
use Rattle.hex.specs.Hex.{encode_lower}
use Rattle.vote_event.proofs.Votes.{value_of}
use Rattle.vote_event.proofs.event.vote_value.Goals as goal

pub returns : goal.returns
returns c =
    let n = to_z w64 (of_z w64 c.from.result) in
    let number : to_z w64 (of_z w64 c.from.result) ≡ c.from.result = search rules in
    value_of c.args.at c.args.digest.now c.in_ok-digits-2.digits n c.new-items.result.items c.push.new.items.items c.push-2.new.items c.new-items.ensures.items c.in_ok-push.ensures.ok c.in_ok-push-2.ensures.ok
    (number ∙ c.from.ensures) (c.in_ok-digits-2.ensures.characters ∙ ap chars (c.as_str.ensures.value ∙ c.in_ok-digits.ensures ∙ ap encode_lower c.as_slice.ensures))
