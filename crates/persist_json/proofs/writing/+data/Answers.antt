use Rattle.std.proofs.Common.{sym, ap, ◌∙◌, arith}
use Rattle.std.proofs.lemmas.List.{take_all}
use Rattle.serde_json.specs.View.{items_of}
use Rattle.persist_json.proofs.Items.{data_of_each, items_data-plains}
use Rattle.persist_json.proofs.writing.+data.Goals as goal

pub items_made-returns-clause-data : goal.items_made-returns-clause-data
items_made-returns-clause-data t c =
    ap items_of (c.loop-item.invariant.made ∙ ap data_of_each (take_all c.loop-item.item-index c.args.items.now (omega arith))) ∙ sym (items_data-plains c.args.items.now)
