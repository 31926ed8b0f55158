-- Talks from the first frame to the end.
use Rattle.std.proofs.Common.{◌≡◌, inl, inr, arith, ℕ, ◌-◌, List, [], ◌∷◌, ◌++◌, map, slice_get, Option, Some, None, refl, sym, ap, ◌∙◌, subst}
use Rattle.std.specs.List.{AllByRecursion}
use Rattle.std.proofs.lemmas.List.{append-nil}
use Rattle.tea_base.specs.declared.entry.Entry.{Entry}
use Rattle.tea_base.specs.declared.entry.SessionId.{SessionId}
use Rattle.tea_io.specs.declared.link.Heard.{Heard}
use Rattle.wire_frames.specs.Served.{Served}
use Rattle.wire_frames.specs.Spelling.{server_spelling}
use Rattle.wire_frames.specs.declared.frame.ClientFrame.{ClientFrame}
use Rattle.wire_frames.specs.declared.frame.ClientFrame.TheVariants as client
use Rattle.wire_frames.specs.declared.frame.ServerFrame.{ServerFrame}
use Rattle.wire_frames.specs.declared.frame.ServerFrame.TheVariants.{Sync, Recv, Tick, Done, Snapped, Refused, Alive}
use Rattle.reflector_core.specs.Play.{first_session}
use Rattle.reflector_core.proofs.SoundLaws.{IsSoundSession-first}
use Rattle.reflector_core.specs.PlainSession.{PlainSession}
use Rattle.session_lock.specs.declared.knowledge.Item.{Item}
use Rattle.session_lock.specs.History.{calls_of, play_from}
use Rattle.session_lock.specs.Passes.{PassState, caller}
use Rattle.connection.specs.declared.ending.Ended.{Ended}
use Rattle.connection.specs.Exchanges.{Exchange, exchanges_in, IsAskedInTime, IsMadeSo, IsUnkeptBy}
use Rattle.connection.specs.Phases.{Opening, Over, heard_in, talk_walk}
use Rattle.connection.specs.Standing.{SeesOn}
use Rattle.connection.specs.Talk.{HasTalked, LinkAccount, Talk, TalksOn, account}
use Rattle.connection.specs.TalkServed.{IsTalkServed, IsToldWithin, frames_of}
use Rattle.connection.proofs.Callers.{exchanges_none}
use Rattle.connection.proofs.TalkLines.{talk_served, talk_told}
use Rattle.connection.proofs.Ticks.{ticks_later}

-- ---- a talk in which nothing was asked

no_entry : (place : ℕ) (entry : Entry) → slice_get [] place ≡ Some entry → ⊥
no_entry place entry at = absurd (cc (at))

-- what a log of no entries serves, every log does: one frame at most, which refuses
served_none : (log : List Entry) (given : List (Option ClientFrame)) (frames : List ServerFrame) → Served [] given frames → Served log given frames
served_none log given [] served = tt
served_none log given (Refused about code kept more ∷ frames) served = served
served_none log (Some (client.Join session view want) ∷ given) (Sync joined last from base ∷ frames) served = absurd (no_entry (joined - 1) _ served.1.entry)
served_none log [] (Sync joined last from base ∷ frames) served = absurd served
served_none log (None ∷ given) (Sync joined last from base ∷ frames) served = absurd served
served_none log (Some (client.Send number payload) ∷ given) (Sync joined last from base ∷ frames) served = absurd served
served_none log (Some (client.Snap time bytes) ∷ given) (Sync joined last from base ∷ frames) served = absurd served
served_none log (Some client.Leave ∷ given) (Sync joined last from base ∷ frames) served = absurd served
served_none log (Some client.Alive ∷ given) (Sync joined last from base ∷ frames) served = absurd served
served_none log given (Recv entry ∷ frames) served = absurd served
served_none log given (Tick time ∷ frames) served = absurd served
served_none log given (Done number seq time ∷ frames) served = absurd served
served_none log given (Snapped time ∷ frames) served = absurd served
served_none log given (Alive ∷ frames) served = absurd served

-- it is a talk of no history at all
asks_none : (gives : ℕ → Type 0) (id : SessionId) (opening : PlainSession) (history : List Item) (c : ℕ) (heard : List Heard) (sent : List (List ℕ)) (how : Ended) → exchanges_in opening history c ≡ []
    → Talk gives id opening history c heard sent how → Talk gives id first_session [] c heard sent how
asks_none gives id opening history c heard sent how none talk =
    record { events = talk.events; ends = talk.ends; asked = sym none ∙ talk.asked; said = talk.said; told = talk.told; spelled = talk.spelled; timely = tt }

silent_served : (gives : ℕ → Type 0) (id : SessionId) (opening : PlainSession) (history : List Item) (c : ℕ) (heard : List Heard) (sent : List (List ℕ)) (how : Ended) (log : List Entry) → exchanges_in opening history c ≡ []
    → Talk gives id opening history c heard sent how → IsTalkServed log heard sent
silent_served gives id opening history c heard sent how log none talk =
    let first = talk_served gives id first_session [] c heard sent how IsSoundSession-first (asks_none gives id opening history c heard sent how none talk) in
    record { frames = first.frames; spelling = first.spelling; spelled = first.spelled; served = served_none log (frames_of heard) first.frames first.served }

-- ---- a talk of a pass

still_none : (before now : PassState) (s : SeesOn before now) → calls_of (caller before ∷ []) before.seen ≡ [] → now ≡ record before { seen = now.seen } → s.rest ≡ [] → exchanges_in now.opening now.seen (caller now) ≡ []
still_none before now s fresh kept none =
    let same : now.seen ≡ before.seen = sym s.grew ∙ (ap (λ (l : List Item). before.seen ++ l) none ∙ append-nil before.seen) in
    ap (λ (p : PassState). exchanges_in p.opening p.seen (caller p)) kept
    ∙ (ap (λ (h : List Item). exchanges_in before.opening h (caller before)) same ∙ exchanges_none before.opening (caller before) before.seen fresh)

pass_served : (gives : ℕ → Type 0) (id : SessionId) (before now : PassState) (heard : List Heard) (sent : List (List ℕ)) (how : Ended) → calls_of (caller before ∷ []) before.seen ≡ [] → now ≡ record before { seen = now.seen }
    → SeesOn before now → Talk gives id now.opening now.seen (caller now) heard sent how → IsTalkServed (play_from now.opening now.seen).log heard sent
pass_served gives id before now heard sent how fresh kept sees talk = elim sees.sound [
  | inl none ↦ silent_served gives id now.opening now.seen (caller now) heard sent how (play_from now.opening now.seen).log (still_none before now sees fresh kept none) talk
  | inr sound ↦ talk_served gives id now.opening now.seen (caller now) heard sent how sound talk
]

silent_told : (gives : ℕ → Type 0) (id : SessionId) (opening : PlainSession) (history : List Item) (c : ℕ) (heard : List Heard) (sent : List (List ℕ)) (how : Ended) (horizon : ℕ) → exchanges_in opening history c ≡ []
    → Talk gives id opening history c heard sent how → IsToldWithin horizon sent
silent_told gives id opening history c heard sent how horizon none talk =
    let first = talk_told gives id first_session [] c heard sent how IsSoundSession-first (asks_none gives id opening history c heard sent how none talk) in
    record { frames = first.frames; spelling = first.spelling; spelled = first.spelled; ticks = ticks_later 0 horizon first.frames (omega arith) first.ticks }

pass_told : (gives : ℕ → Type 0) (id : SessionId) (before now : PassState) (heard : List Heard) (sent : List (List ℕ)) (how : Ended) → calls_of (caller before ∷ []) before.seen ≡ [] → now ≡ record before { seen = now.seen }
    → SeesOn before now → Talk gives id now.opening now.seen (caller now) heard sent how → IsToldWithin (play_from now.opening now.seen).horizon sent
pass_told gives id before now heard sent how fresh kept sees talk = elim sees.sound [
  | inl none ↦ silent_told gives id now.opening now.seen (caller now) heard sent how (play_from now.opening now.seen).horizon (still_none before now sees fresh kept none) talk
  | inr sound ↦ talk_told gives id now.opening now.seen (caller now) heard sent how sound talk
]

-- what is so of each call in each of two ways is so in one of them
first_of : {A : Type 0} (P Q : A → Type 0) (xs : List A) → AllByRecursion (λ (x : A). P x × Q x) xs → AllByRecursion P xs
first_of P Q [] all = tt
first_of P Q (x ∷ xs) all = (all.0.0, first_of P Q xs all.1)

second_of : {A : Type 0} (P Q : A → Type 0) (xs : List A) → AllByRecursion (λ (x : A). P x × Q x) xs → AllByRecursion Q xs
second_of P Q [] all = tt
second_of P Q (x ∷ xs) all = (all.0.1, second_of P Q xs all.1)

-- a caller that had asked nothing has asked what its talk asks
asked_whole : (made : Exchange → Type 0) (id : SessionId) (before now : PassState) (old new : LinkAccount) (how : Ended) → calls_of (caller before ∷ []) before.seen ≡ []
    → (talk : TalksOn made id (Opening 0) (Over how) (account before old) (account now new)) → exchanges_in now.opening now.seen (caller now) ≡ (talk_walk id (Opening 0) talk.events).asked
asked_whole made id before now old new how fresh talk =
    talk.asked ∙ ap (λ (l : List Exchange). l ++ (talk_walk id (Opening 0) talk.events).asked) (exchanges_none before.opening (caller before) before.seen fresh)

-- and each of its calls that is Unkept is so since this holds
pub unkept_whole : (gives : ℕ → Type 0) (shut : Type 0) (id : SessionId) (before now : PassState) (old new : LinkAccount) (how : Ended) → calls_of (caller before ∷ []) before.seen ≡ []
    → TalksOn (IsMadeSo gives shut) id (Opening 0) (Over how) (account before old) (account now new) → AllByRecursion (IsUnkeptBy shut) (exchanges_in now.opening now.seen (caller now))
unkept_whole gives shut id before now old new how fresh talk =
    subst (AllByRecursion (IsUnkeptBy shut)) (sym (asked_whole (IsMadeSo gives shut) id before now old new how fresh talk))
    (second_of (IsAskedInTime gives) (IsUnkeptBy shut) (talk_walk id (Opening 0) talk.events).asked talk.calls)

-- a caller that had asked nothing talks from the first frame to its end
pub talks_whole : (gives : ℕ → Type 0) (shut : Type 0) (id : SessionId) (before now : PassState) (old new : LinkAccount) (how : Ended) → calls_of (caller before ∷ []) before.seen ≡ [] → now ≡ record before { seen = now.seen }
    → TalksOn (IsMadeSo gives shut) id (Opening 0) (Over how) (account before old) (account now new) → HasTalked gives id now old new how
talks_whole gives shut id before now old new how fresh kept talk =
    let asked = asked_whole (IsMadeSo gives shut) id before now old new how fresh talk in
    let heard : List Heard = heard_in talk.events in
    let sent : List (List ℕ) = map server_spelling (talk_walk id (Opening 0) talk.events).sent in
    let whole : Talk gives id now.opening now.seen (caller now) heard sent how = record {
      events = talk.events;
      ends = talk.ends;
      asked = asked;
      said = refl;
      told = refl;
      spelled = talk.spelled;
      timely = subst (AllByRecursion (IsAskedInTime gives)) (sym asked) (first_of (IsAskedInTime gives) (IsUnkeptBy shut) (talk_walk id (Opening 0) talk.events).asked talk.calls);
    } in
    record {
      heard = heard;
      sent = sent;
      talk = whole;
      tells_heard = talk.heard;
      tells_sent = talk.sent;
      counts = talk.counts;
      served = pass_served gives id before now heard sent how fresh kept talk.sees whole;
      ticks = pass_told gives id before now heard sent how fresh kept talk.sees whole;
    }
