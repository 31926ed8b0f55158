use Rattle.std.proofs.Common.{List, [], ◌∷◌, ◌++◌, ap, sym, ◌∙◌}
use Rattle.tea_base.specs.declared.entry.SessionId.{SessionId}
use Rattle.id_claims.proofs.Closing.{opens}
use Rattle.id_claims.proofs.claims.Claims.new.Goals as goal

pub new-requires : goal.new-requires
new-requires c =
    opens c.push.new.self.items c.of-key.result.value
    (c.in_ok-push.ensures.items ∙ (ap (λ (l : List (List SessionId)). l ++ c.in_ok-ids.ids ∷ []) c.new-slots.ensures.items ∙ ap (λ (ids : List SessionId). ids ∷ []) (sym c.of-key.ensures)))
