use Rattle.std.proofs.Common.{rules, ap, ◌∙◌}
use Rattle.std.specs.Prelude.{nat_eq, not}
use Rattle.std.proofs.lemmas.Fn.{filter_same}
use Rattle.world_plain.specs.Messages.{PlainMessage}
use Rattle.world_plain.specs.declared.message.Message.{Message}
use Rattle.message_queue.specs.View.{messages_seen}
use Rattle.message_queue.proofs.Messages.{seen_filter}
use Rattle.message_queue.proofs.pending.remove_object.Goals as goal

pub returns-clause-kept : goal.returns-clause-kept
returns-clause-kept c =
    ap messages_seen (filter_same _ (λ (m : Message). not (nat_eq m.object c.args.object)) _ (λ x b f' k. search rules) _ _ c.retain.ensures.filtered)
    ∙ seen_filter (λ (m : PlainMessage). not (nat_eq m.object c.args.object)) c.args.messages.now.items
