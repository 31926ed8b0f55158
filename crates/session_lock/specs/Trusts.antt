-- What a trust allows to be kept.
use Rattle.std.specs.Prelude.{ℕ, List, IfSome}
use Rattle.tea_base.specs.declared.entry.Entry.{Entry}
use Rattle.tea_base.specs.declared.entry.SessionId.{SessionId}
use Rattle.reflector_core.specs.PlainSession.{PlainSession, IsSoundSession}
use Rattle.reflector_core.specs.Answer.{answer}
use Rattle.reflector_core.specs.declared.request.Request.{Request}
use Rattle.reflector_core.specs.declared.request.Request.TheVariants.{Join, Send, Tick, Leave, Offer, Pull}

-- what a trust allows of a session, by its id, log and horizon: a snapshot, by its time and bytes
abbrev pub Allowing : Type 0 → Type 1
Allowing T = T → SessionId → List Entry → ℕ → ℕ → List ℕ → Type 0

-- the snapshot is allowed for the session
abbrev pub TrustAllows : {T : Type 0} → Allowing T → T → SessionId → PlainSession → ℕ → List ℕ → Type 0
TrustAllows allows trust id s time bytes = allows trust id s.log s.horizon time bytes

-- what is allowed for a sound session is allowed after any further request that leaves it sound
abbrev pub Stays : {T : Type 0} → Allowing T → Type 0
Stays {T} allows =
    (trust : T) (id : SessionId) (s : PlainSession) (request : Request) (time : ℕ) (bytes : List ℕ)
    → IsSoundSession s → IsSoundSession (answer s request).session
    → TrustAllows allows trust id s time bytes → TrustAllows allows trust id (answer s request).session time bytes

-- the kept snapshot, if there is one, is allowed for its session
abbrev pub IsTrusted : {T : Type 0} → Allowing T → T → SessionId → PlainSession → Type 0
IsTrusted allows trust id s = IfSome s.kept (λ base. TrustAllows allows trust id s base.time base.bytes)

-- an offered snapshot is allowed for the session; other requests need no leave
abbrev pub MayBeAsked : {T : Type 0} → Allowing T → T → SessionId → PlainSession → Request → Type 0
MayBeAsked allows trust id s (Join view now want) = Unit {0}
MayBeAsked allows trust id s (Send view joined number payload now) = Unit {0}
MayBeAsked allows trust id s (Tick now) = Unit {0}
MayBeAsked allows trust id s (Leave view joined now) = Unit {0}
MayBeAsked allows trust id s (Offer view joined time snapshot) = TrustAllows allows trust id s time snapshot
MayBeAsked allows trust id s (Pull after limit) = Unit {0}
