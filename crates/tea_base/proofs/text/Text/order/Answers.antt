use Rattle.std.proofs.Common.{◌≡◌, sym, ap, ap₂, ◌∙◌}
use Rattle.std.specs.Cmp.Lexicographic.{slice_cmp}
use Rattle.std.specs.Ordering.{nat_cmp}
use Rattle.std.specs.Str.{chars}
use Rattle.tea_base.proofs.text.Text.order.Goals as goal

pub returns : goal.returns
returns c =
    let my_text : c.args.self.now ≡ chars c.as_str.result.now = sym c.self.view_is ∙ ap chars (sym c.as_str.ensures.value) in
    let their_text : c.args.other.now ≡ chars c.as_str-2.result.now = sym c.other.view_is ∙ ap chars (sym c.as_str-2.ensures.value) in
    c.order.ensures ∙ ap₂ (slice_cmp nat_cmp) (sym my_text) (sym their_text)
