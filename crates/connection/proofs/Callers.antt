-- What a call adds to the exchanges of its caller.
use Rattle.std.proofs.Common.{Result, Ok, Err, MatchResult, IfOk, ◌≡◌, ◌⊎◌, inl, inr, ℕ, Bool, true, false, eqb, ◌||◌, List, [], ◌∷◌, ◌++◌, if◌then◌else◌, Option, Some, refl, sym, ap, ◌∙◌, subst, append_assoc, eq-eqb}
use Rattle.std.proofs.lemmas.List.{append-nil}
use Rattle.reflector_core.specs.PlainSession.{PlainSession, IsSoundSession}
use Rattle.reflector_core.specs.Answer.{answer}
use Rattle.reflector_core.specs.Growth.{GrowsTo}
use Rattle.reflector_core.specs.declared.keeper.CallFault.{CallFault}
use Rattle.reflector_core.specs.declared.keeper.CallFault.TheVariants as fault
use Rattle.reflector_core.specs.declared.request.Reply.{Reply}
use Rattle.reflector_core.specs.declared.request.Request.{Request}
use Rattle.session_lock.specs.declared.knowledge.Item.{Item}
use Rattle.session_lock.specs.declared.knowledge.Item.TheVariants.{Did, Void, Unkept}
use Rattle.session_lock.specs.History.{after_item, calls_of, play_from, IsSoundThrough}
use Rattle.session_lock.specs.Passes.{PassState, caller, Grew, Missed, Replied}
use Rattle.session_lock.proofs.Histories.{history_grows, play_snoc, saw_each, sound_end, sound_first}
use Rattle.session_lock.specs.Trusts.{Allowing, MayBeAsked, TrustAllows}
use Rattle.tea_base.specs.declared.entry.SessionId.{SessionId}
use Rattle.wire_frames.specs.Served.{place_after_all}
use Rattle.wire_frames.specs.declared.frame.ClientFrame.{ClientFrame}
use Rattle.wire_frames.specs.declared.frame.ClientFrame.TheVariants as client
use Rattle.reflector_core.specs.declared.request.Request.TheVariants.{Join, Send, Tick, Leave, Offer, Pull}
use Rattle.reflector_core.specs.declared.request.Reply.TheVariants as reply
use Rattle.join_sync.specs.Answers.{IsJoinReply, IsReplyTo, first_cursor}
use Rattle.join_sync.specs.Batches.{IsBatchAfter, next_cursor, next_frames}
use Rattle.join_sync.specs.Requests.{IsJoin, first_request}
use Rattle.join_sync.specs.Standing.{StandsAt}
use Rattle.join_sync.specs.declared.cursor.Cursor.{Cursor}
use Rattle.join_sync.specs.declared.early.Early.TheVariants.{OtherSession}
use Rattle.join_sync.proofs.Openings.{joined_stands, stands_on}
use Rattle.join_sync.proofs.Pulls.{batch_comes_after, batch_stands}
use Rattle.join_sync.proofs.Replies.{reply_fits}
use Rattle.system_plain.specs.Turn.{joined_view}
use Rattle.std.specs.Str.{bytes_eq}
use Rattle.connection.proofs.Lines.{pull_nothing}
use Rattle.connection.specs.declared.ending.Halt.{Halt}
use Rattle.connection.specs.Exchanges.{Exchange, Answered, Unanswered, IsUnkeptBy, exchange_in, exchanges_from, exchanges_in}
use Rattle.connection.specs.Standing.{IsAnsweredAt, IsStanding, SeesOn, exchange_of}

-- ---- exchanges along a history

pub exchanges_both : (s : PlainSession) (c : ℕ) (xs ys : List Item) → exchanges_from s c (xs ++ ys) ≡ exchanges_from s c xs ++ exchanges_from (play_from s xs) c ys
exchanges_both s c [] ys = refl
exchanges_both s c (x ∷ xs) ys =
    ap (λ (l : List Exchange). exchange_in s c x ++ l) (exchanges_both (after_item s x) c xs ys)
    ∙ sym (append_assoc (exchange_in s c x) (exchanges_from (after_item s x) c xs) (exchanges_from (play_from (after_item s x) xs) c ys))

-- an item of another caller is none of this one
other_item : (b : Bool) (x : Item) (l : List Item) (e : Exchange) → (if b || false then x ∷ l else l) ≡ [] → ((if b then e ∷ [] else []) ≡ []) × (l ≡ [])
other_item true x l e is = absurd (cc (is))
other_item false x l e is = (refl, is)

pub exchanges_none : (s : PlainSession) (c : ℕ) (xs : List Item) → calls_of (c ∷ []) xs ≡ [] → exchanges_from s c xs ≡ []
exchanges_none s c [] none = refl
exchanges_none s c (Did who request ∷ xs) none =
    let both = other_item (eqb who c) (Did who request) (calls_of (c ∷ []) xs) (Answered request (answer s request).reply) none in
    ap (λ (l : List Exchange). l ++ exchanges_from (after_item s (Did who request)) c xs) both.0 ∙ exchanges_none (after_item s (Did who request)) c xs both.1
exchanges_none s c (Void who ∷ xs) none =
    let both = other_item (eqb who c) (Void who) (calls_of (c ∷ []) xs) (Unanswered fault.WantOfMemory) none in
    ap (λ (l : List Exchange). l ++ exchanges_from s c xs) both.0 ∙ exchanges_none s c xs both.1
exchanges_none s c (Unkept who ∷ xs) none =
    let both = other_item (eqb who c) (Unkept who) (calls_of (c ∷ []) xs) (Unanswered fault.Unkept) none in
    ap (λ (l : List Exchange). l ++ exchanges_from s c xs) both.0 ∙ exchanges_none s c xs both.1

-- what others do behind it changes none
pub exchanges_same : (s : PlainSession) (history more : List Item) (c : ℕ) → calls_of (c ∷ []) more ≡ [] → exchanges_in s (history ++ more) c ≡ exchanges_in s history c
exchanges_same s history more c none =
    exchanges_both s c history more
    ∙ (ap (λ (l : List Exchange). exchanges_in s history c ++ l) (exchanges_none (play_from s history) c more none) ∙ append-nil (exchanges_in s history c))

-- ---- what was seen

pub sees_still : (a : PassState) → SeesOn a a
sees_still a = record { opening = refl; rest = []; grew = append-nil a.seen; sound = inl refl }

pub sees_then : (a b c : PassState) → SeesOn a b → SeesOn b c → SeesOn a c
sees_then a b c f g = record {
  opening = g.opening ∙ f.opening;
  rest = f.rest ++ g.rest;
  grew = sym (append_assoc a.seen f.rest g.rest) ∙ (ap (λ (l : List Item). l ++ g.rest) f.grew ∙ g.grew);
  sound = sound_on g.sound f.sound;
}
  where
    sound_on : ((g.rest ≡ []) ⊎ IsSoundThrough c.opening c.seen) → ((f.rest ≡ []) ⊎ IsSoundThrough b.opening b.seen) → (f.rest ++ g.rest ≡ []) ⊎ IsSoundThrough c.opening c.seen
    sound_on (inr sound) first = inr sound
    sound_on (inl none) (inl still) = inl (ap (λ (l : List Item). l ++ g.rest) still ∙ none)
    sound_on (inl none) (inr sound) =
        let same : b.seen ≡ c.seen = sym (append-nil b.seen) ∙ (ap (λ (l : List Item). b.seen ++ l) (sym none) ∙ g.grew) in
        inr (subst (λ (x : PlainSession × List Item). IsSoundThrough x.0 x.1) (λ i. (sym g.opening i, same i)) sound)

-- ---- one call

-- what a call leaves
record Adds (before after : PassState) (history : List Item) (item : Item) : Type 0 where
  asked : exchanges_in after.opening after.seen (caller after) ≡ exchanges_in before.opening before.seen (caller before) ++ exchanges_from (play_from before.opening history) (caller before) (item ∷ [])
  at : GrowsTo (play_from before.opening before.seen) (play_from before.opening history)
  grows : GrowsTo (play_from before.opening before.seen) (play_from after.opening after.seen)
  same : play_from after.opening after.seen ≡ after_item (play_from before.opening history) item

adds : (before after : PassState) (history : List Item) (item : Item) → Grew before after history item → Adds before after history item
adds before after history item g =
    let seen : exchanges_in before.opening history (caller before) ≡ exchanges_in before.opening before.seen (caller before) =
    ap (λ (h : List Item). exchanges_in before.opening h (caller before)) (sym g.saw.1)
    ∙ exchanges_same before.opening before.seen g.saw.0 (caller before) (saw_each before.callers [] g.saw.0 (g.saw.0, refl, g.saw.2) (caller before) g.mine) in
    let opens : after.opening ≡ before.opening = ap (λ (p : PassState). p.opening) g.same in
    let whole : (before.seen ++ g.saw.0) ++ item ∷ [] ≡ after.seen = ap (λ (h : List Item). h ++ item ∷ []) g.saw.1 ∙ sym (ap (λ (p : PassState). p.seen) g.same) in
    record {
      asked =
          ap (λ (p : PassState). exchanges_in p.opening p.seen (caller p)) g.same
          ∙ (exchanges_both before.opening (caller before) history (item ∷ [])
          ∙ ap (λ (l : List Exchange). l ++ exchanges_from (play_from before.opening history) (caller before) (item ∷ [])) seen);
      at = subst (λ (h : List Item). GrowsTo (play_from before.opening before.seen) (play_from before.opening h)) g.saw.1 (history_grows before.opening before.seen g.saw.0);
      grows = subst (λ (x : PlainSession × List Item). GrowsTo (play_from before.opening before.seen) (play_from x.0 x.1)) (λ i. (sym opens i, (sym (append_assoc before.seen g.saw.0 (item ∷ [])) ∙ whole) i)) (history_grows before.opening before.seen (g.saw.0 ++ item ∷ []));
      same = ap (λ (p : PassState). play_from p.opening p.seen) g.same ∙ play_snoc before.opening history item;
    }

own_did : (s : PlainSession) (c : ℕ) (request : Request) → exchanges_from s c (Did c request ∷ []) ≡ Answered request (answer s request).reply ∷ []
own_did s c request = ap (λ (b : Bool). (if b then Answered request (answer s request).reply ∷ [] else []) ++ []) (eq-eqb c c refl)

own_void : (s : PlainSession) (c : ℕ) → exchanges_from s c (Void c ∷ []) ≡ Unanswered fault.WantOfMemory ∷ []
own_void s c = ap (λ (b : Bool). (if b then Unanswered fault.WantOfMemory ∷ [] else []) ++ []) (eq-eqb c c refl)

own_unkept : (s : PlainSession) (c : ℕ) → exchanges_from s c (Unkept c ∷ []) ≡ Unanswered fault.Unkept ∷ []
own_unkept s c = ap (λ (b : Bool). (if b then Unanswered fault.Unkept ∷ [] else []) ++ []) (eq-eqb c c refl)

-- what a call tells
abbrev pub Called : (PlainSession → Type 0) → Type 0 → PassState → PassState → Request → Result Reply CallFault → Type 0
Called IsTrusted shut before after request r = MatchResult r (λ given. Replied IsTrusted before after request given) (λ why. Missed IsTrusted shut before after request why)

-- the item that a call adds, and its place
abbrev item_of : ℕ → Request → Result Reply CallFault → Item
item_of c request (Ok given) = Did c request
item_of c request (Err fault.WantOfMemory) = Void c
item_of c request (Err fault.Unkept) = Unkept c

record Placed (before after : PassState) (request : Request) (r : Result Reply CallFault) : Type 0 where
  history : List Item
  grew : Grew before after history (item_of (caller before) request r)

placed : (IsTrusted : PlainSession → Type 0) (shut : Type 0) (before after : PassState) (request : Request) (r : Result Reply CallFault) → Called IsTrusted shut before after request r → Placed before after request r
placed IsTrusted shut before after request (Ok given) told = record { history = told.history; grew = told.grew }
placed IsTrusted shut before after request (Err fault.WantOfMemory) told = record { history = told.history; grew = told.grew }
placed IsTrusted shut before after request (Err fault.Unkept) told = record { history = told.history; grew = told.grew }

pub asked_so : (IsTrusted : PlainSession → Type 0) (shut : Type 0) (before after : PassState) (request : Request) (r : Result Reply CallFault) → Called IsTrusted shut before after request r
    → exchanges_in after.opening after.seen (caller after) ≡ exchanges_in before.opening before.seen (caller before) ++ exchange_of request r ∷ []
asked_so IsTrusted shut before after request (Ok given) told =
    (adds before after told.history (Did (caller before) request) told.grew).asked
    ∙ ap (λ (l : List Exchange). exchanges_in before.opening before.seen (caller before) ++ l)
    (own_did (play_from before.opening told.history) (caller before) request ∙ ap (λ (r : Reply). Answered request r ∷ []) (sym told.replies))
asked_so IsTrusted shut before after request (Err fault.WantOfMemory) told =
    (adds before after told.history (Void (caller before)) told.grew).asked
    ∙ ap (λ (l : List Exchange). exchanges_in before.opening before.seen (caller before) ++ l) (own_void (play_from before.opening told.history) (caller before))
asked_so IsTrusted shut before after request (Err fault.Unkept) told =
    (adds before after told.history (Unkept (caller before)) told.grew).asked
    ∙ ap (λ (l : List Exchange). exchanges_in before.opening before.seen (caller before) ++ l) (own_unkept (play_from before.opening told.history) (caller before))

pub grows_so : (IsTrusted : PlainSession → Type 0) (shut : Type 0) (before after : PassState) (request : Request) (r : Result Reply CallFault) → Called IsTrusted shut before after request r
    → GrowsTo (play_from before.opening before.seen) (play_from after.opening after.seen)
grows_so IsTrusted shut before after request r told =
    let at = placed IsTrusted shut before after request r told in (adds before after at.history (item_of (caller before) request r) at.grew).grows

pub unkept_so : (IsTrusted : PlainSession → Type 0) (shut : Type 0) (before after : PassState) (request : Request) (r : Result Reply CallFault) → Called IsTrusted shut before after request r → IsUnkeptBy shut (exchange_of request r)
unkept_so IsTrusted shut before after request (Ok given) told = tt
unkept_so IsTrusted shut before after request (Err fault.WantOfMemory) told = tt
unkept_so IsTrusted shut before after request (Err fault.Unkept) told = told.shut

sees_by : (before after : PassState) (history : List Item) (item : Item) → Grew before after history item → IsSoundThrough before.opening after.seen → SeesOn before after
sees_by before after history item g sound = record {
  opening = ap (λ (p : PassState). p.opening) g.same;
  rest = g.saw.0 ++ item ∷ [];
  grew = sym (append_assoc before.seen g.saw.0 (item ∷ [])) ∙ (ap (λ (h : List Item). h ++ item ∷ []) g.saw.1 ∙ sym (ap (λ (p : PassState). p.seen) g.same));
  sound = inr (subst (λ (o : PlainSession). IsSoundThrough o after.seen) (sym (ap (λ (p : PassState). p.opening) g.same)) sound);
}

pub sees_so : (IsTrusted : PlainSession → Type 0) (shut : Type 0) (before after : PassState) (request : Request) (r : Result Reply CallFault) → Called IsTrusted shut before after request r → IsSoundThrough before.opening after.seen
    → SeesOn before after
sees_so IsTrusted shut before after request r told sound =
    let at = placed IsTrusted shut before after request r told in sees_by before after at.history (item_of (caller before) request r) at.grew sound

-- the session at the place of the call is sound, as all of what was seen tells
sound_before : (before after : PassState) (history : List Item) (item : Item) → Grew before after history item → IsSoundThrough before.opening after.seen → IsSoundSession (play_from before.opening history)
sound_before before after history item g sound =
    sound_end before.opening history (sound_first before.opening history (item ∷ []) (subst (IsSoundThrough before.opening) (ap (λ (p : PassState). p.seen) g.same) sound))

pub answered_so : (IsTrusted : PlainSession → Type 0) (shut : Type 0) (before after : PassState) (request : Request) (r : Result Reply CallFault) → Called IsTrusted shut before after request r → IsSoundThrough before.opening after.seen
    → IfOk r (λ given. (at : PlainSession) × IsAnsweredAt (play_from before.opening before.seen) at (play_from after.opening after.seen) request given)
answered_so IsTrusted shut before after request (Ok given) told sound =
    let added = adds before after told.history (Did (caller before) request) told.grew in (
      play_from before.opening told.history,
      record {
        sound = sound_before before after told.history (Did (caller before) request) told.grew sound;
        grows = added.at;
        replied = told.replies;
        same = added.same;
      },
    )
answered_so IsTrusted shut before after request (Err why) told sound = tt

-- what a trust allows may be offered
pub may_ask : {T : Type 0} (allows : Allowing T) (trust : T) (id : SessionId) (s : PlainSession) (request : Request) → ((time : ℕ) (bytes : List ℕ) → TrustAllows allows trust id s time bytes)
    → MayBeAsked allows trust id s request
may_ask allows trust id s (Join view now want) all = tt
may_ask allows trust id s (Send view joined number payload now) all = tt
may_ask allows trust id s (Tick now) all = tt
may_ask allows trust id s (Leave view joined now) all = tt
may_ask allows trust id s (Offer view joined time bytes) all = all time bytes
may_ask allows trust id s (Pull after limit) all = tt

-- ---- what replies are

-- the reply to a request is one that it may get
pub reply_fits_at : (before at now : PlainSession) (request : Request) (given : Reply) → IsAnsweredAt before at now request given → IsReplyTo request given
reply_fits_at before at now request given told = subst (IsReplyTo request) (sym told.replied) (reply_fits at request)

pub join_fits : (request : Request) (given : Reply) → IsJoin request → IsReplyTo request given → IsJoinReply given
join_fits (Join view now want) given is fits = fits
join_fits (Send view joined number payload now) given is fits = absurd is
join_fits (Tick now) given is fits = absurd is
join_fits (Leave view joined now) given is fits = absurd is
join_fits (Offer view joined time bytes) given is fits = absurd is
join_fits (Pull after limit) given is fits = absurd is

-- the first request of a connection is a Join
pub first_is_join : (frame : ClientFrame) (id : SessionId) (now : ℕ) (request : Request) → first_request frame id now ≡ Ok request → IsJoin request
first_is_join (client.Join session view want) id now request is = entered (bytes_eq session.0 id.0) is
  where
    entered : (same : Bool) → (if same then Ok (Join view now want) else Err OtherSession) ≡ Ok request → IsJoin request
    entered true e = let it : Join view now want ≡ request = cc (e) in subst IsJoin it tt
    entered false e = absurd (cc (e))
first_is_join (client.Send number payload) id now request is = absurd (cc (is))
first_is_join (client.Snap time bytes) id now request is = absurd (cc (is))
first_is_join client.Leave id now request is = absurd (cc (is))
first_is_join client.Alive id now request is = absurd (cc (is))

-- ---- cursors

-- the cursor of a Join that was answered
pub joined_standing : (before at now : PlainSession) (request : Request) (given : Reply) (cursor : Cursor) → IsJoin request → IsAnsweredAt before at now request given → first_cursor (joined_view request) given ≡ Some cursor → IsStanding now cursor
joined_standing before at now (Join view time want) (reply.Joined seq stamp last from base) cursor is told made = (
  record { seen = from; least = stamp },
  subst (λ (s : PlainSession). StandsAt s (record { seen = from; least = stamp }) cursor) (sym told.same)
      (joined_stands at view time want seq stamp last from base cursor (sym told.replied) made),
)
joined_standing before at now (Join view time want) (reply.Stamped seq stamp) cursor is told made = absurd (cc (made))
joined_standing before at now (Join view time want) (reply.Again seq stamp) cursor is told made = absurd (cc (made))
joined_standing before at now (Join view time want) (reply.Ticked stamp) cursor is told made = absurd (cc (made))
joined_standing before at now (Join view time want) (reply.Left seq stamp) cursor is told made = absurd (cc (made))
joined_standing before at now (Join view time want) reply.Kept cursor is told made = absurd (cc (made))
joined_standing before at now (Join view time want) (reply.Batch entries tick) cursor is told made = absurd (cc (made))
joined_standing before at now (Join view time want) (reply.Refused refusal) cursor is told made = absurd (cc (made))
joined_standing before at now (Send view joined number payload time) given cursor is told made = absurd is
joined_standing before at now (Tick time) given cursor is told made = absurd is
joined_standing before at now (Leave view joined time) given cursor is told made = absurd is
joined_standing before at now (Offer view joined time bytes) given cursor is told made = absurd is
joined_standing before at now (Pull after limit) given cursor is told made = absurd is

pub joined_so : (r : Result Cursor Halt) (made : Option Cursor) (before at now : PlainSession) (request : Request) (given : Reply) → IsJoin request → IsAnsweredAt before at now request given
    → made ≡ first_cursor (joined_view request) given → IfOk r (λ cursor. made ≡ Some cursor) → IfOk r (λ cursor. IsStanding now cursor)
joined_so (Ok cursor) made before at now request given is told made_is ok = joined_standing before at now request given cursor is told (sym made_is ∙ ok)
joined_so (Err halt) made before at now request given is told made_is ok = tt

-- a cursor stands there still once more has come
pub stands_still : (before now : PlainSession) (cursor : Cursor) → GrowsTo before now → IsStanding before cursor → IsStanding now cursor
stands_still before now cursor grows standing = (standing.0, stands_on before now standing.0 cursor grows standing.1)

pub still_so : {T : Type 0} (r : Result T Halt) (before now : PlainSession) (cursor : Cursor) → GrowsTo before now → IsStanding before cursor → IfOk r (λ _. IsStanding now cursor)
still_so (Ok x) before now cursor grows standing = stands_still before now cursor grows standing
still_so (Err halt) before now cursor grows standing = tt

-- a Pull behind a cursor is answered by a batch of what comes there
pub batch_at : (before at now : PlainSession) (cursor : Cursor) (limit : ℕ) (given : Reply) → IsStanding before cursor → IsAnsweredAt before at now (Pull cursor.after limit) given → IsBatchAfter cursor.after given
batch_at before at now cursor limit given standing told =
    let here = stands_on before at standing.0 cursor told.grows standing.1 in
    subst (IsBatchAfter cursor.after) (sym told.replied) (batch_comes_after at cursor.after limit told.sound.legal here.within)

pub pulled_standing : (before at now : PlainSession) (cursor : Cursor) (limit : ℕ) (given : Reply) → IsStanding before cursor → IsAnsweredAt before at now (Pull cursor.after limit) given → IsStanding now (next_cursor cursor given)
pulled_standing before at now cursor limit given standing told =
    let here = stands_on before at standing.0 cursor told.grows standing.1 in
    let batch = (answer at (Pull cursor.after limit)).reply in
    let place = place_after_all standing.0 (next_frames cursor batch) in
    let stands : StandsAt now place (next_cursor cursor batch) =
    subst (λ (s : PlainSession). StandsAt s place (next_cursor cursor batch)) (sym (told.same ∙ pull_nothing at cursor.after limit)) (batch_stands at standing.0 cursor limit told.sound here) in
    subst (λ (r : Reply). IsStanding now (next_cursor cursor r)) (sym told.replied) (place, stands)

pub pulled_so : (r : Result (Unit {0}) Halt) (before at now : PlainSession) (cursor new : Cursor) (limit : ℕ) (given : Reply) → IsStanding before cursor → IsAnsweredAt before at now (Pull cursor.after limit) given
    → IfOk r (λ _. new ≡ next_cursor cursor given) → IfOk r (λ _. IsStanding now new)
pulled_so (Ok done) before at now cursor new limit given standing told is = subst (IsStanding now) (sym is) (pulled_standing before at now cursor limit given standing told)
pulled_so (Err halt) before at now cursor new limit given standing told is = tt
