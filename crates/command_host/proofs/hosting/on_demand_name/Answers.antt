use Rattle.std.proofs.Common.{◌++◌, ℕ, List, encode_utf8_all, ap, ◌∙◌}
use Rattle.hex.specs.Hex.{encode_lower}
use Rattle.command_host.proofs.Names.{named_by_id}
use Rattle.command_host.proofs.hosting.on_demand_name.Goals as goal

pub returns : goal.returns
returns c =
    let prefix : List ℕ = encode_utf8_all c.args.prefix.now in
    named_by_id c.args.prefix.now c.copy.result c.as_str-3.result.now c.args.id.now c.copy.ensures.ok
    (c.as_str-3.ensures.value ∙ c.in_ok-push_str.ensures.bytes
    ∙ ap (λ (front : List ℕ). front ++ c.as_str-2.result.now) (c.in_ok-name.ensures.ok ∙ c.as_str.ensures)
    ∙ ap (λ (digits : List ℕ). prefix ++ digits) (c.as_str-2.ensures.value ∙ c.in_ok-encode.ensures ∙ ap encode_lower c.as_slice.ensures))
