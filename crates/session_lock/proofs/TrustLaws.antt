-- What is kept stays allowed.
use Rattle.std.proofs.Common.{◌≡◌, ℕ, [], ◌∷◌, List, Option, Some, None, IfSome, Result, Err, sym, refl, ap, ◌∙◌, subst}
use Rattle.tea_base.specs.declared.entry.SessionId.{SessionId}
use Rattle.wire_frames.specs.declared.start.Base.{Base}
use Rattle.reflector_core.specs.declared.keeper.CallFault.{CallFault}
use Rattle.reflector_core.specs.declared.request.Reply.{Reply}
use Rattle.reflector_core.specs.declared.request.Request.{Request}
use Rattle.reflector_core.specs.declared.request.Request.TheVariants.{Join, Send, Tick, Leave, Offer, Pull}
use Rattle.reflector_core.specs.PlainSession.{PlainSession, IsSoundSession}
use Rattle.reflector_core.specs.Answer.{answer}
use Rattle.session_lock.specs.declared.knowledge.Item.{Item}
use Rattle.session_lock.specs.declared.knowledge.Item.TheVariants.{Did, Void, Unkept}
use Rattle.atomic_table.specs.Seated.{TableId}
use Rattle.session_lock.specs.declared.knowledge.Knowledge.{Knowledge}
use Rattle.session_lock.specs.Keeping.{KeepsHoped}
use Rattle.session_lock.specs.Steps.{M, MayCommit, MayPutOff, MayRelease}
use Rattle.session_lock.specs.Passes.{SharedState, shared_state}
use Rattle.session_lock.specs.Trusts.{Allowing, TrustAllows, IsTrusted, Stays, MayBeAsked}
use Rattle.session_lock.specs.History.{play_from, Saw, IsSoundThrough}
use Rattle.reflector_core.proofs.SoundLaws.{offer_along}
use Rattle.reflector_core.proofs.GrowthLaws.{kept-others}
use Rattle.session_lock.proofs.Histories.{play_from_append, sound_start, sound_rest}

module _ {T : Type 0} (allows : Allowing T) (stays : Stays allows) (trust : T) (id : SessionId) where
  weaker : (s s' : PlainSession) (kept : Option Base) → ((time : ℕ) (bytes : List ℕ) → TrustAllows allows trust id s time bytes → TrustAllows allows trust id s' time bytes)
      → IfSome kept (λ base. TrustAllows allows trust id s base.time base.bytes) → IfSome kept (λ base. TrustAllows allows trust id s' base.time base.bytes)
  weaker s s' None more u = u
  weaker s s' (Some base) more a = more base.time base.bytes a

  same_kept : (s : PlainSession) (request : Request) → IsSoundSession s → IsSoundSession (answer s request).session → (answer s request).session.kept ≡ s.kept → IsTrusted allows trust id s → IsTrusted allows trust id (answer s request).session
  same_kept s request sound sound' same h =
      let s' : PlainSession = (answer s request).session in
      subst (λ (kept : Option Base). IfSome kept (λ base. TrustAllows allows trust id s' base.time base.bytes)) (sym same)
      (weaker s s' s.kept (λ time bytes a. stays trust id s request time bytes sound sound' a) h)

  -- after an answer to a request that may be asked
  pub trusted_after : (s : PlainSession) (request : Request) → IsSoundSession s → IsSoundSession (answer s request).session → MayBeAsked allows trust id s request → IsTrusted allows trust id s → IsTrusted allows trust id (answer s request).session
  trusted_after s (Offer view joined time snapshot) sound sound' ok h = offer_along (IsTrusted allows trust id) s view joined time snapshot h (λ short come. ok)
  trusted_after s (Join view now want) sound sound' ok h = same_kept s (Join view now want) sound sound' (kept-others s (Join view now want) refl) h
  trusted_after s (Send view joined number payload now) sound sound' ok h = same_kept s (Send view joined number payload now) sound sound' (kept-others s (Send view joined number payload now) refl) h
  trusted_after s (Tick now) sound sound' ok h = same_kept s (Tick now) sound sound' (kept-others s (Tick now) refl) h
  trusted_after s (Leave view joined now) sound sound' ok h = same_kept s (Leave view joined now) sound sound' (kept-others s (Leave view joined now) refl) h
  trusted_after s (Pull after limit) sound sound' ok h = same_kept s (Pull after limit) sound sound' (kept-others s (Pull after limit) refl) h

  later : (s : PlainSession) (xs : List Item) (time : ℕ) (bytes : List ℕ) → IsSoundThrough s xs → TrustAllows allows trust id s time bytes → TrustAllows allows trust id (play_from s xs) time bytes
  later s [] time bytes sound a = a
  later s (Did c request ∷ xs) time bytes sound a =
      let s' : PlainSession = (answer s request).session in
      later s' xs time bytes sound.1 (stays trust id s request time bytes sound.0 (sound_start s' xs sound.1) a)
  later s (Void c ∷ xs) time bytes sound a = later s xs time bytes sound.1 a
  later s (Unkept c ∷ xs) time bytes sound a = later s xs time bytes sound.1 a

  -- what may be asked of the session that was seen may be asked later
  pub asked_later : (o : PlainSession) (cs : List ℕ) (seen history : List Item) (request : Request) → IsSoundThrough o history → Saw cs seen history → MayBeAsked allows trust id (play_from o seen) request → MayBeAsked allows trust id (play_from o history) request
  asked_later o cs seen history (Join view now want) sound saw ok = ok
  asked_later o cs seen history (Send view joined number payload now) sound saw ok = ok
  asked_later o cs seen history (Tick now) sound saw ok = ok
  asked_later o cs seen history (Leave view joined now) sound saw ok = ok
  asked_later o cs seen history (Offer view joined time snapshot) sound saw ok =
      subst (λ (s : PlainSession). TrustAllows allows trust id s time snapshot) (sym (play_from_append o seen saw.0) ∙ ap (play_from o) saw.1)
      (later (play_from o seen) saw.0 time snapshot (sound_rest o seen saw.0 (subst (IsSoundThrough o) (sym saw.1) sound)) ok)
  asked_later o cs seen history (Pull after limit) sound saw ok = ok

-- what is trusted by what the table was told is trusted by what a contract sees of it, and what may be asked goes back
module _ {T K : Type 0} (allows : Allowing T) (session : TableId) (key : SessionId × T × K) (faults : ℕ) (seen : SharedState T) (is : shared_state session key faults ≡ seen) where
  pub trusted_outside : (s : PlainSession) → IsTrusted allows key.1 key.0 s → IsTrusted allows seen.trust seen.id s
  trusted_outside s h = subst (λ (v : SharedState T). IsTrusted allows v.trust v.id s) is h

  pub asked_inside : (s : PlainSession) (request : Request) → MayBeAsked allows seen.trust seen.id s request → MayBeAsked allows key.1 key.0 s request
  asked_inside s request h = subst (λ (v : SharedState T). MayBeAsked allows v.trust v.id s request) (sym is) h

  -- the count of faults that the lock began with
  pub first_inside : (first : ℕ) → seen.faults ≡ first → faults ≡ first
  first_inside first e = ap (λ (v : SharedState T). v.faults) is ∙ e

  -- so do an item that may come, and one that may be put off
  pub commit_inside : (v : Knowledge) (item : ℕ → Item) → MayCommit (IsTrusted allows seen.trust seen.id) v item → MayCommit (IsTrusted allows key.1 key.0) v item
  commit_inside v item may = subst (λ (w : SharedState T). MayCommit (IsTrusted allows w.trust w.id) v item) (sym is) may

  pub put_off_inside : {S : Type 0} (holds writes : S → PlainSession → Type 0) (shut : S → Type 0) (count : S → ℕ) (first : ℕ) (m : M S) (item : ℕ → Item) → seen.faults ≡ first → MayPutOff (IsTrusted allows seen.trust seen.id) (KeepsHoped holds writes shut count first) m item
      → MayPutOff (IsTrusted allows key.1 key.0) (KeepsHoped holds writes shut count faults) m item
  put_off_inside holds writes shut count first m item counted may =
      subst (λ (n : ℕ). MayPutOff (IsTrusted allows key.1 key.0) (KeepsHoped holds writes shut count n) m item) (sym (first_inside first counted))
      (subst (λ (w : SharedState T). MayPutOff (IsTrusted allows w.trust w.id) (KeepsHoped holds writes shut count first) m item) (sym is) may)

  pub release_inside : {S : Type 0} (holds writes : S → PlainSession → Type 0) (shut : S → Type 0) (count : S → ℕ) (first : ℕ) (m : M S) → seen.faults ≡ first → MayRelease (KeepsHoped holds writes shut count first) m → MayRelease (KeepsHoped holds writes shut count faults) m
  release_inside holds writes shut count first m counted may = subst (λ (n : ℕ). MayRelease (KeepsHoped holds writes shut count n) m) (sym (first_inside first counted)) may

-- why a call has no answer
pub is_err : (result : Result Reply CallFault) (why other : CallFault) → result ≡ Err why → why ≡ other → result ≡ Err other
is_err result why other is same = let err : CallFault → Result Reply CallFault = λ f. Err f in is ∙ ap err same
