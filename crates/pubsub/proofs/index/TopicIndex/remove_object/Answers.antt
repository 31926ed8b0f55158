use Rattle.std.proofs.Common.{rules, refl}
use Rattle.std.specs.Prelude.{bytes_eq, string_bytes}
use Rattle.std.specs.Cmp.Lexicographic.{nat_list_eq_equiv}
use Rattle.pubsub.specs.declared.events.Events.{Events}
use Rattle.pubsub.specs.Index.{handlers_in, without_handlers_of, AreTight}
use Rattle.pubsub.proofs.Lookups.{retained}
use Rattle.pubsub.proofs.Tight.{holds_kept}
use Rattle.pubsub.proofs.index.TopicIndex.remove_object.Goals as goal

pub returns-clause-found : goal.returns-clause-found
returns-clause-found c = λ scope e.
    retained _ _ _ (λ k. bytes_eq scope (string_bytes k)) (λ x y. nat_list_eq_equiv.congr scope (string_bytes x) (string_bytes y)) (λ (v : Events). handlers_in v e) (without_handlers_of c.args.object) refl
    (λ k v b w g call. search rules) c.args.self.now.by_scope.entries c.retain.new.self.entries c.len-len.ensures.unique c.retain.ensures.filtered

pub returns-clause-tight : goal.returns-clause-tight
returns-clause-tight c = λ scope.
    holds_kept _ _ (λ k. bytes_eq scope (string_bytes k)) AreTight (λ k v b w g call. search rules)
    c.args.self.now.by_scope.entries c.retain.new.self.entries c.retain.ensures.filtered
