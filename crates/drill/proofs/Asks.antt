-- What a call of a worker's pass comes to.
use Rattle.std.proofs.Common.{IfOk, OnOk, MatchResult, Result, Ok, Err, ◌≡◌, ℕ, List, [], ◌∷◌, ◌++◌, slice_index, sym, ap, ◌∙◌, subst}
use Rattle.std.specs.List.{AllByRecursion}
use Rattle.tea_base.specs.declared.want.WantOfMemory.{WantOfMemory}
use Rattle.reflector_core.specs.PlainSession.{PlainSession}
use Rattle.reflector_core.specs.Answer.{answer}
use Rattle.reflector_core.specs.Play.{first_session}
use Rattle.reflector_core.specs.declared.request.Request.{Request}
use Rattle.reflector_core.specs.declared.request.Reply.{Reply}
use Rattle.session_lock.specs.declared.knowledge.Item.{Item}
use Rattle.session_lock.specs.declared.knowledge.Item.TheVariants.{Did}
use Rattle.session_lock.specs.History.{IsSoundThrough, Saw, play, play_from}
use Rattle.session_lock.specs.Passes.{Grew, PassState, Replied, Voided, SharedState, caller, numbers_held, own_calls}
use Rattle.session_lock.proofs.Histories.{history_grows, play_snoc, sound_end, sound_first}
use Rattle.connection.specs.Exchanges.{Answered, exchanges_in}
use Rattle.connection.proofs.Callers.{asked_so}
use Rattle.replica.specs.View.{ReplicaView}
use Rattle.drill.specs.declared.trust.TrustReplay.{TrustReplay}
use Rattle.drill.specs.declared.size.Size.{Size}
use Rattle.drill.specs.declared.worker.Worker.{Worker}
use Rattle.drill.specs.Asking.{IsAskedBy, IsAskedInDrill, IsDrillHistory}
use Rattle.drill.specs.Workers.{HistoryGoesOn, HasAsked, IsTrustedReplay, IsWorker}
use Rattle.drill.proofs.Histories.{apart, history_first, kept_on}

-- a history that goes on without the view's caller
pub saw_goes_on : (gives : ℕ → Type 0) (views view : ℕ) (seen history : List Item) → Saw (view ∷ []) seen history → HistoryGoesOn gives views view seen history
saw_goes_on gives views view seen history saw =
    subst (HistoryGoesOn gives views view seen) saw.1
    (record {
      grows = history_grows first_session seen saw.0;
      kept = λ time. kept_on time seen saw.0;
      first = history_first gives views seen saw.0;
      apart = λ whole. apart gives views view seen saw.0 whole saw.2;
    })

all_more : (P : Item → Type 0) (items : List Item) (item : Item) → AllByRecursion P items → P item → AllByRecursion P (items ++ item ∷ [])
all_more P [] item all one = (one, tt)
all_more P (first ∷ rest) item all one = (all.0, all_more P rest item all.1 one)

module _ (gives : ℕ → Type 0) (size : Size) (shared : SharedState TrustReplay) (w : Worker) (after : PassState) (request : Request) where
  -- the pass calls by the view's number
  called_by : IsWorker gives size shared w → caller w.pass ≡ w.view
  called_by worker = ap (λ (callers : List ℕ). slice_index callers 0) worker.callers

  grown_by : (history : List Item) → IsWorker gives size shared w → Grew w.pass after history (Did (caller w.pass) request) → after.seen ≡ history ++ Did w.view request ∷ []
  grown_by history worker grew = ap (λ (p : PassState). p.seen) grew.same ∙ ap (λ (n : ℕ). history ++ Did n request ∷ []) (called_by worker)

  pub has_asked : (reply : Reply) → IsWorker gives size shared w → Replied (IsTrustedReplay shared) w.pass after request reply → IsSoundThrough w.pass.opening after.seen
      → HasAsked gives size.views shared w.view w.pass after request reply
  has_asked reply worker replied sound =
      let sound_all : IsSoundThrough first_session after.seen = subst (λ (o : PlainSession). IsSoundThrough o after.seen) worker.opening sound in
      let opened : after.opening ≡ first_session = ap (λ (p : PassState). p.opening) replied.grew.same ∙ worker.opening in
      let seen = grown_by replied.history worker replied.grew in
      let saw : Saw (w.view ∷ []) w.pass.seen replied.history = subst (λ (callers : List ℕ). Saw callers w.pass.seen replied.history) worker.callers replied.grew.saw in
      record {
        history = replied.history;
        on = saw_goes_on gives size.views w.view w.pass.seen replied.history saw;
        sound = sound_end first_session replied.history (sound_first first_session replied.history (Did w.view request ∷ []) (subst (IsSoundThrough first_session) seen sound_all));
        trusted = subst (λ (o : PlainSession). IsTrustedReplay shared (play_from o replied.history)) worker.opening replied.trusted;
        seen = seen;
        session = ap play seen ∙ play_snoc first_session replied.history (Did w.view request);
        replies = replied.replies ∙ ap (λ (o : PlainSession). (answer (play_from o replied.history) request).reply) worker.opening;
        own = replied.grew.own ∙ ap (λ (n : ℕ). own_calls w.pass ++ Did n request ∷ []) (called_by worker);
        exchanged =
            ap (exchanges_in first_session after.seen) (sym (ap caller replied.grew.same ∙ called_by worker))
            ∙ ap (λ (o : PlainSession). exchanges_in o after.seen (caller after)) (sym opened)
            ∙ asked_so (IsTrustedReplay shared) ⊥ w.pass after request (Ok reply) replied
            ∙ ap (λ (o : PlainSession). exchanges_in o w.pass.seen (caller w.pass) ++ Answered request reply ∷ []) worker.opening
            ∙ ap (λ (n : ℕ). exchanges_in first_session w.pass.seen n ++ Answered request reply ∷ []) (called_by worker);
        first = λ whole. history_first gives size.views replied.history (Did w.view request ∷ []) (subst (IsDrillHistory gives size.views) seen whole);
      }

  pub asks_on : (reply : Reply) → IsWorker gives size shared w → IsAskedBy gives w.view request → Replied (IsTrustedReplay shared) w.pass after request reply → IsSoundThrough w.pass.opening after.seen
      → IsWorker gives size shared (record w { pass = after })
  asks_on reply worker asked replied sound =
      let same = replied.grew.same in
      let own = replied.grew.own ∙ ap (λ (n : ℕ). own_calls w.pass ++ Did n request ∷ []) (called_by worker) in
      record {
        session = ap (λ (p : PassState). p.session) same ∙ worker.session;
        opening = ap (λ (p : PassState). p.opening) same ∙ worker.opening;
        callers = ap (λ (p : PassState). p.callers) same ∙ worker.callers;
        numbers = ap numbers_held same ∙ worker.numbers;
        named = worker.named;
        asked = subst (AllByRecursion (IsAskedInDrill gives size.views)) (sym own)
            (all_more (IsAskedInDrill gives size.views) (own_calls w.pass) (Did w.view request) worker.asked (worker.named.0, worker.named.1, asked));
        sound = subst (λ (o : PlainSession). IsSoundThrough o after.seen) worker.opening sound;
        trusted = subst (λ (o : PlainSession). IsTrustedReplay shared (play_from o after.seen)) worker.opening replied.trusted_after;
        program = worker.program;
        id = worker.id;
        view = worker.view;
        tree = worker.tree;
      }

  -- whatever the call comes to
  pub told_asked : (result : Result Reply WantOfMemory) → IsWorker gives size shared w
      → MatchResult result (λ reply. Replied (IsTrustedReplay shared) w.pass after request reply) (λ _. Voided (IsTrustedReplay shared) w.pass after request) → IsSoundThrough w.pass.opening after.seen
      → IfOk result (λ reply. HasAsked gives size.views shared w.view w.pass after request reply)
  told_asked (Ok reply) worker told sound = has_asked reply worker told sound
  told_asked (Err want) worker told sound = tt

  pub told_worker : (result : Result Reply WantOfMemory) → IsWorker gives size shared w → IsAskedBy gives w.view request → after ≡ record w.pass { seen = after.seen }
      → MatchResult result (λ reply. Replied (IsTrustedReplay shared) w.pass after request reply) (λ _. Voided (IsTrustedReplay shared) w.pass after request) → IsSoundThrough w.pass.opening after.seen
      → OnOk result (IsWorker gives size shared (record w { pass = after }))
  told_worker (Ok reply) worker asked kept told sound = asks_on reply worker asked told sound
  told_worker (Err want) worker asked kept told sound = tt

-- its source is another one, and its replica another one of the same program, session and view
pub worker_with
    : (gives : ℕ → Type 0) (size : Size) (shared : SharedState TrustReplay) (w : Worker) (source : ℕ) (r : ReplicaView) → r.program ≡ w.replica.program → r.id ≡ w.replica.id
    → r.plain.view ≡ w.replica.plain.view → IsWorker gives size shared w → IsWorker gives size shared (record w { source = source; replica = r })
worker_with gives size shared w source r program id view worker = record {
  session = worker.session;
  opening = worker.opening;
  callers = worker.callers;
  numbers = worker.numbers;
  named = worker.named;
  asked = worker.asked;
  sound = worker.sound;
  trusted = worker.trusted;
  program = program ∙ worker.program;
  id = id ∙ worker.id;
  view = view ∙ worker.view;
  tree = worker.tree;
}
