use Rattle.std.proofs.Common.{◌≡◌, ◌-◌, length, take, sym, ◌∙◌, arith, encode_utf8_all}
use Rattle.std.specs.Str.{chars}
use Rattle.std.proofs.lemmas.Str.{chars_from_encodes}
use Rattle.tea_base.proofs.Characters.{cut_before, front_is}
use Rattle.model_builtin.proofs.texts.front.Goals as goal

pub range-requires-clause-end_boundary : goal.range-requires-clause-end_boundary
range-requires-clause-end_boundary c = cut_before c.args.text.now (encode_utf8_all (take c.args.count (chars c.args.text.now))) c.behind-rest.result.now c.behind-rest.ensures c.behind-rest.utf8

pub returns : goal.returns
returns c =
    let is = front_is c.args.text.now (encode_utf8_all (take c.args.count (chars c.args.text.now))) c.behind-rest.result.now c.behind-rest.ensures in
    let cut : c.range.result.now ≡ take (length c.args.text.now - length c.behind-rest.result.now) c.args.text.now = grind (arith, c.range.ensures.value) in
    sym (chars_from_encodes (take c.args.count (chars c.args.text.now)) c.range.result.now c.range.utf8 (sym (cut ∙ is)))
