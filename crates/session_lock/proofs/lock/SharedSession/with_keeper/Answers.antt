use Rattle.std.proofs.Common.{ap, ◌∙◌, List, [], ◌∷◌, ◌++◌}
use Rattle.atomic_table.specs.Table.{Me}
use Rattle.session_lock.specs.declared.held.KeptSession.{KeptSession}
use Rattle.session_lock.specs.Trusts.{IsTrusted}
use Rattle.session_lock.proofs.Closing.{opens_kept}
use Rattle.session_lock.proofs.lock.SharedSession.with_keeper.Goals as goal

pub new-requires-3 : goal.new-requires-3
new-requires-3 g c =
    opens_kept g.K.Keeper.holds g.K.Keeper.writes g.K.Keeper.shut g.K.Keeper.faults (IsTrusted g.T.Trust.allows c.args.trust c.args.id) c.push.new.self.items c.of-kept.result _ c.args.session.plain c.args.keeper
    (ap (λ (m : Me _ _). m.0) c.in-Ok.ensures.4) c.of-kept.ensures.first (c.in_default-push.ensures.items ∙ ap (λ (kept : List (KeptSession _)). kept ++ c.of-kept.result ∷ []) c.new-slots.ensures.items) c.requires.covered c.requires.written c.requires.unshut c.requires.trusted c.of-kept.ensures.sound
