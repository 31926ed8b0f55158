use Rattle.std.proofs.Common.{◌≡◌, false, List, sym, ◌∙◌}
use Rattle.std.specs.Prelude.{None, bytes_eq}
use Rattle.std.specs.HashMap.{get_by_text}
use Rattle.pubsub.specs.declared.handler.Handler.{Handler}
use Rattle.pubsub.specs.declared.events.Events.{Events}
use Rattle.pubsub.specs.Index.{handlers_in, handlers_at, AreHandled, HasEvents, AreTight}
use Rattle.pubsub.proofs.Lookups.{changed, either_same}
use Rattle.pubsub.proofs.Tight.{weaker, joined, holds_changed, closed}
use Rattle.pubsub.proofs.index.TopicIndex.forget_empty.Goals as goal

pub returns-then-is_emptied-clause-found : goal.returns-then-is_emptied-clause-found
returns-then-is_emptied-clause-found c =
    let old = c.args.self.now in
    λ scope e. changed (λ (v : Events). handlers_in v e) c.args.scope.now old.by_scope c.swap_remove.new.self (λ (l : List Handler). l) None c.swap_remove.ensures.updates (sym (c.is_emptied.ensures.found c.if-is_emptied.true e)) scope
    ∙ either_same (bytes_eq c.args.scope.now scope) (handlers_at old scope e)

pub returns-then-is_emptied-clause-tight : goal.returns-then-is_emptied-clause-tight
returns-then-is_emptied-clause-tight c =
    let m = c.args.self.now.by_scope in
    let bs = c.args.scope.now in
    λ but.
    holds_changed (λ _ x. AreTight x) bs m c.swap_remove.new.self None c.swap_remove.ensures.updates tt
    (λ scope apart. weaker (get_by_text m scope) (λ x. AreHandled x × (bytes_eq bs scope ≡ false → HasEvents x)) AreTight (λ x p. (p.0, p.1 apart)) (but scope))

pub returns-else-is_emptied-clause-tight : goal.returns-else-is_emptied-clause-tight
returns-else-is_emptied-clause-tight c =
    let m = c.args.self.now.by_scope in
    let bs = c.args.scope.now in
    λ but.
    closed (λ scope x. AreHandled x × (bytes_eq bs scope ≡ false → HasEvents x)) AreTight bs m (λ scope x apart p. (p.0, p.1 apart))
    (joined (get_by_text m bs) (λ x. AreHandled x × (bytes_eq bs bs ≡ false → HasEvents x)) HasEvents AreTight (λ x p some. (p.0, some)) (but bs) (c.is_emptied.ensures.some c.if-is_emptied.false))
    but
