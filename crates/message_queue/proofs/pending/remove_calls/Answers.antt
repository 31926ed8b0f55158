use Rattle.std.proofs.Common.{rules, ap, ◌∙◌}
use Rattle.std.specs.Prelude.{not}
use Rattle.std.proofs.lemmas.Fn.{filter_same}
use Rattle.world_plain.specs.Messages.{PlainMessage, plain_message}
use Rattle.world_plain.specs.declared.message.Message.{Message}
use Rattle.message_queue.specs.Queue.{calls}
use Rattle.message_queue.specs.View.{messages_seen}
use Rattle.message_queue.proofs.Messages.{seen_filter}
use Rattle.message_queue.proofs.pending.remove_calls.Goals as goal

pub returns-clause-kept : goal.returns-clause-kept
returns-clause-kept c =
    ap messages_seen (filter_same _ (λ (m : Message). not (calls c.args.object c.args.method.now (plain_message m))) _ (λ x b f' k. search rules) _ _ c.retain.ensures.filtered)
    ∙ seen_filter (λ (m : PlainMessage). not (calls c.args.object c.args.method.now m)) c.args.messages.now.items
