use Rattle.std.proofs.Common.{◌≡◌, ◌+◌, ◌<◌, List, rules, arith, refl, sym, ap, ◌∙◌, subst, All}
use Rattle.std.specs.Arc.{arc_value}
use Rattle.std.proofs.lemmas.List.Elements.{All-push}
use Rattle.model_solved.specs.Founding.{CheckedView}
use Rattle.session_lock.specs.Passes.{SharedState}
use Rattle.replica.specs.View.{founded_replica}
use Rattle.drill.specs.declared.trust.TrustReplay.{TrustReplay}
use Rattle.drill.specs.declared.worker.Worker.{Worker}
use Rattle.drill.specs.Drilling.{keeper_after}
use Rattle.drill.specs.Workers.{IsFirst}
use Rattle.drill.proofs.Making.{IsMade, is_first, keeper_next, one_more_view}
use Rattle.drill.proofs.drilling.make_workers.Goals as goal

pub loop-made-preserved : goal.loop-made-preserved
loop-made-preserved g c =
    let service = c.args.service.now in
    let prepared = c.args.prepared.now in
    let made = c.loop-made.made in
    let held = c.loop-made.invariant in
    let P : Worker → Type 0 = IsFirst (g.C.Clock.gives service.clock.now) service.size service.shared.now in
    let w : Worker = record { view = made + 1; replica = c.in_ok-found.field-0; source = c.source_of.result; pass = c.in_ok-split.field-0 } in
    let cloned : arc_value c.in_ok-clone.field-0 ≡ arc_value prepared.program = search rules in
    let below : made < service.size.views = search rules in
    let is_made : IsMade service.size prepared made c.loop-made.keeper w = record {
      prepares = c.requires.prepared;
      fits = c.requires.size;
      kept = held.keeper ∙ ap (λ (s : SharedState TrustReplay). keeper_after s made) c.requires.shared;
      next = below;
      pass = c.in_ok-split.ensures.given;
      numbers = c.in_ok-split.ensures.numbers.0;
      view = refl;
      replica = c.in_ok-found.ensures ∙ ap (λ (p : CheckedView). founded_replica p prepared.id.0 (made + 1)) cloned;
      source = c.source_of.ensures;
    } in
    let first : P w = subst (λ (s : SharedState TrustReplay). IsFirst (g.C.Clock.gives service.clock.now) service.size s w) (sym c.requires.shared)
    (is_first (g.C.Clock.gives service.clock.now) service.size prepared made c.loop-made.keeper w is_made) in
    record {
      first = subst (All P) (sym c.in_ok-push.ensures.items) (All-push P c.loop-made.workers.items w held.first first);
      views = one_more_view c.loop-made.workers.items c.push.new.self.items w made c.in_ok-push.ensures.items refl held.views;
      keeper = keeper_next service.shared.now made c.loop-made.keeper c.split.new.pass (omega (arith, below, c.requires.size.views)) held.keeper c.split.ensures.kept;
    }
