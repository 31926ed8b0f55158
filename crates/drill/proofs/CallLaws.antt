-- Calls behind others.
use Rattle.std.proofs.Common.{◌≡◌, ◌≤◌, ◌+◌, ◌-◌, ℕ, zero, suc, Bool, true, false, List, [], ◌∷◌, refl, sym, ap, ◌∙◌, subst, arith}
use Rattle.reflector_core.specs.declared.request.Request.{Request}
use Rattle.reflector_core.specs.declared.request.Request.TheVariants as request
use Rattle.reflector_core.specs.declared.request.Reply.{Reply}
use Rattle.join_sync.specs.declared.cursor.Cursor.{Cursor}
use Rattle.join_sync.specs.Batches.{most_pulled, next_cursor}
use Rattle.session_lock.specs.Passes.{PassState, SharedState}
use Rattle.reflector_core.specs.Play.{first_session}
use Rattle.connection.specs.Exchanges.{Exchange, exchanges_in}
use Rattle.drill.specs.declared.trust.TrustReplay.{TrustReplay}
use Rattle.drill.specs.Turns.{HasPulled, HasRead}
use Rattle.drill.specs.ViewCalls.{AfterEvent, AfterPulls, AfterReading, AfterTurns, Progress, AsksPull, FollowedBy, AsksTick, has_tick}
use Rattle.drill.specs.Workers.{HasAsked}

-- what is so of the calls before stays so
then_from : (P Q : List Exchange → Type 0) (Last : Request → Reply → Type 0) → ((calls : List Exchange) → P calls → Q calls) → (calls : List Exchange) → FollowedBy P Last calls → FollowedBy Q Last calls
then_from P Q Last so calls after = (after.0, after.1, after.2, after.3, so after.0 after.4, after.5)

module _ (P Q : Progress) (so : (cursor : Cursor) (calls : List Exchange) → P cursor calls → Q cursor calls) where
  pulls_from : (count : ℕ) (cursor : Cursor) (calls : List Exchange) → AfterPulls count P cursor calls → AfterPulls count Q cursor calls
  pulls_from zero cursor calls after = then_from (P cursor) (Q cursor) AsksTick (so cursor) calls after
  pulls_from (suc count) cursor calls after =
      (after.0, then_from (AfterPulls count P after.0) (AfterPulls count Q after.0) (AsksPull after.0 cursor false) (pulls_from count after.0) calls after.1)

  reading_from : (cursor : Cursor) (calls : List Exchange) → AfterReading P cursor calls → AfterReading Q cursor calls
  reading_from cursor calls after =
      (after.0, after.1, then_from (AfterPulls after.0 P after.1) (AfterPulls after.0 Q after.1) (AsksPull after.1 cursor true) (pulls_from after.0 after.1) calls after.2)

-- ---- a turn

-- a turn is made once the log is read behind its event
turn_made : (view number : ℕ) (cursor : Cursor) (calls : List Exchange) → 1 ≤ number → AfterReading (AfterEvent view number (AfterTurns view (number - 1))) cursor calls → AfterTurns view number cursor calls
turn_made view zero cursor calls some after = absurd (omega (arith, some))
turn_made view (suc made) cursor calls some after =
    let last : suc made - 1 ≡ made = omega arith in
    subst (λ (before : ℕ). AfterReading (AfterEvent view (suc made) (AfterTurns view before)) cursor calls) last after

pub turn_read
    : (view number : ℕ) (before after : PassState) (old new : Cursor) → 1 ≤ number → AfterEvent view number (AfterTurns view (number - 1)) old (exchanges_in first_session before.seen view) → HasRead view before after old new
    → AfterTurns view number new (exchanges_in first_session after.seen view)
turn_read view number before after old new some event read =
    turn_made view number new (exchanges_in first_session after.seen view) some
    (reading_from (λ cursor calls. (cursor ≡ old) × (calls ≡ exchanges_in first_session before.seen view)) (AfterEvent view number (AfterTurns view (number - 1)))
    (λ cursor calls at. subst (λ (cursor : Cursor). AfterEvent view number (AfterTurns view (number - 1)) cursor calls) (sym at.0)
    (subst (AfterEvent view number (AfterTurns view (number - 1)) old) (sym at.1) event))
    new (exchanges_in first_session after.seen view) read)

-- ---- pulls

pub has_pulled
    : (gives : ℕ → Type 0) (views : ℕ) (shared : SharedState TrustReplay) (view : ℕ) (before after : PassState) (cursor next : Cursor) (given : Reply) (last : Bool)
    → HasAsked gives views shared view before after (request.Pull cursor.after most_pulled) given → next ≡ next_cursor cursor given → has_tick given ≡ last → HasPulled view before after cursor next last
has_pulled gives views shared view before after cursor next given last asked is told =
    (exchanges_in first_session before.seen view, request.Pull cursor.after most_pulled, given, asked.exchanged, refl, (refl, is, sym told))

-- so many batches since a worker's pass was so, and its cursor this
abbrev pub PullsSince : ℕ → PassState → PassState → Cursor → Cursor → ℕ → Type 0
PullsSince view before after old new count = AfterPulls count (λ cursor calls. (cursor ≡ old) × (calls ≡ exchanges_in first_session before.seen view)) new (exchanges_in first_session after.seen view)

module _ (view count : ℕ) (before mid after : PassState) (old cursor next : Cursor) (since : PullsSince view before mid old cursor count) where
  one_pull : (last : Bool) → HasPulled view mid after cursor next last
      → FollowedBy (AfterPulls count (λ at calls. (at ≡ old) × (calls ≡ exchanges_in first_session before.seen view)) cursor) (AsksPull cursor next last) (exchanges_in first_session after.seen view)
  one_pull last pulled =
      then_from (λ calls. calls ≡ exchanges_in first_session mid.seen view) (AfterPulls count (λ at calls. (at ≡ old) × (calls ≡ exchanges_in first_session before.seen view)) cursor) (AsksPull cursor next last)
      (λ calls is. subst (AfterPulls count (λ at calls. (at ≡ old) × (calls ≡ exchanges_in first_session before.seen view)) cursor) (sym is) since) (exchanges_in first_session after.seen view) pulled

  pub pulls_on : HasPulled view mid after cursor next false → PullsSince view before after old next (count + 1)
  pulls_on pulled =
      let more : suc count ≡ count + 1 = omega arith in
      let on : PullsSince view before after old next (suc count) = (cursor, one_pull false pulled) in
      subst (PullsSince view before after old next) more on

  pub pulls_last : HasPulled view mid after cursor next true → HasRead view before after old next
  pulls_last pulled = (count, cursor, one_pull true pulled)
