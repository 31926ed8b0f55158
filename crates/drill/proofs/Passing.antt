-- Calls that put nothing into the log, one after the other.
use Rattle.std.proofs.Common.{◌≡◌, ◌+◌, ℕ, List, [], ◌∷◌, ◌++◌, refl, sym, ap, ◌∙◌, subst, arith}
use Rattle.reflector_core.specs.PlainSession.{PlainSession}
use Rattle.reflector_core.specs.Answer.{answer}
use Rattle.reflector_core.specs.Growth.{GrowsTo}
use Rattle.reflector_core.specs.SessionState.{entries_used}
use Rattle.reflector_core.specs.declared.request.Request.{Request}
use Rattle.reflector_core.specs.declared.request.Reply.{Reply}
use Rattle.reflector_core.proofs.GrowthLaws.{GrowsTo-answer, GrowsTo-same, GrowsTo-then}
use Rattle.session_lock.specs.declared.knowledge.Item.{Item}
use Rattle.session_lock.specs.declared.knowledge.Item.TheVariants.{Did, Void, Unkept}
use Rattle.session_lock.specs.History.{play}
use Rattle.session_lock.specs.Passes.{PassState, SharedState, own_calls}
use Rattle.drill.specs.declared.trust.TrustReplay.{TrustReplay}
use Rattle.drill.specs.Asking.{entries_used_by}
use Rattle.drill.specs.Doing.{KeepsFrom}
use Rattle.drill.specs.Drilled.{entries_by}
use Rattle.drill.specs.Workers.{HistoryGoesOn, HasAsked, HasPassed}

pub asked_more : (items : List Item) (view : ℕ) (request : Request) → entries_used_by (items ++ Did view request ∷ []) ≡ entries_used_by items + entries_used request
asked_more [] view request = omega arith
asked_more (Did caller first ∷ rest) view request = omega (arith, asked_more rest view request)
asked_more (Void caller ∷ rest) view request = asked_more rest view request
asked_more (Unkept caller ∷ rest) view request = asked_more rest view request

module _ (gives : ℕ → Type 0) (views view : ℕ) where
  pub stays : (seen : List Item) → HistoryGoesOn gives views view seen seen
  stays seen = record { grows = GrowsTo-same (play seen); kept = λ time keeps. keeps; first = λ whole. whole; apart = λ whole. refl }

  pub then : (a b c : List Item) → HistoryGoesOn gives views view a b → HistoryGoesOn gives views view b c → HistoryGoesOn gives views view a c
  then a b c one two = record {
    grows = GrowsTo-then (play a) (play b) (play c) one.grows two.grows;
    kept = λ time keeps. two.kept time (one.kept time keeps);
    first = λ whole. one.first (two.first whole);
    apart = λ whole. two.apart whole ∙ one.apart (two.first whole);
  }

  pub passes_on : (a b c : PassState) → HasPassed gives views view a b → HasPassed gives views view b c → HasPassed gives views view a c
  passes_on a b c one two = record { on = then a.seen b.seen c.seen one.on two.on; asked = two.asked ∙ one.asked }

  -- a call that leaves the log and what is kept
  pub has_passed : (shared : SharedState TrustReplay) (before after : PassState) (request : Request) (reply : Reply) → HasAsked gives views shared view before after request reply
      → ((s : PlainSession) → (answer s request).session.log ≡ s.log) → ((s : PlainSession) → (answer s request).session.kept ≡ s.kept) → entries_used request ≡ 0
      → HasPassed gives views view before after
  has_passed shared before after request reply asked log kept none =
      let s = play asked.history in
      record {
        on = record {
          grows = GrowsTo-then (play before.seen) s (play after.seen) asked.on.grows (subst (GrowsTo s) (sym asked.session) (GrowsTo-answer s request));
          kept = λ time keeps. subst (KeepsFrom time) (sym (ap (λ (s : PlainSession). s.kept) asked.session ∙ kept s)) (asked.on.kept time keeps);
          first = λ whole. asked.on.first (asked.first whole);
          apart = λ whole. ap (λ (s : PlainSession). entries_by view s.log) asked.session ∙ ap (entries_by view) (log s) ∙ asked.on.apart (asked.first whole);
        };
        asked = ap entries_used_by asked.own ∙ asked_more (own_calls before) view request ∙ omega (arith, none);
      }
