use Rattle.std.proofs.Common.{◌<◌, length, rules, refl}
use Rattle.std.specs.Prelude.{bytes_eq, string_bytes, vec_items}
use Rattle.std.specs.Cmp.Lexicographic.{nat_list_eq_equiv}
use Rattle.pubsub.specs.Index.{without_handlers_of}
use Rattle.pubsub.proofs.Lookups.{retained}
use Rattle.pubsub.proofs.Tight.{holds_kept}
use Rattle.pubsub.proofs.events.Events.remove_object.Goals as goal

pub returns-clause-found : goal.returns-clause-found
returns-clause-found c = λ e.
    retained _ _ _ (λ k. bytes_eq e (string_bytes k)) (λ x y. nat_list_eq_equiv.congr e (string_bytes x) (string_bytes y)) vec_items (without_handlers_of c.args.object) refl
    (λ k v b w g call. search rules) c.args.self.now.by_event.entries c.retain.new.self.entries c.len-len.ensures.unique c.retain.ensures.filtered

pub returns-clause-handled : goal.returns-clause-handled
returns-clause-handled c = λ e.
    holds_kept _ _ (λ k. bytes_eq e (string_bytes k)) (λ x. 0 < length (vec_items x)) (λ k v b w g call. search rules)
    c.args.self.now.by_event.entries c.retain.new.self.entries c.retain.ensures.filtered
