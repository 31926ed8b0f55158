-- What a call makes of its turns.
use Rattle.std.proofs.Common.{◌≡◌, ◌⊎◌, inl, inr, ℕ, ◌+◌, ◌-◌, ◌^◌, ◌≤◌, ◌<◌, Bool, true, false, List, [], ◌∷◌, ◌++◌, drop, length, Option, Some, None, Result, Ok, Err, IfOk, MatchResult, sym, refl, ap, ◌∙◌, subst, arith, append_assoc, length-append}
use Rattle.std.proofs.lemmas.List.{append-nil}
use Rattle.tea_base.specs.declared.entry.SessionId.{SessionId}
use Rattle.reflector_core.specs.PlainSession.{PlainSession, IsSoundSession}
use Rattle.reflector_core.specs.Answer.{SessionOutcome, answer, with_reply, MayWantMemory}
use Rattle.reflector_core.specs.Keeping.{HasCause, MayChange}
use Rattle.reflector_core.specs.declared.keeper.CallFault.{CallFault}
use Rattle.reflector_core.specs.declared.keeper.CallFault.TheVariants as fault
use Rattle.reflector_core.specs.declared.request.Reply.{Reply}
use Rattle.reflector_core.specs.declared.request.Request.{Request}
use Rattle.session_lock.specs.declared.held.KeptSession.{KeptSession}
use Rattle.session_lock.specs.declared.held.Waiting.{Waiting}
use Rattle.session_lock.specs.declared.held.Waiting.TheVariants.{Ended, Lost, GoesOn}
use Rattle.session_lock.specs.declared.knowledge.Hope.{Hope}
use Rattle.session_lock.specs.declared.knowledge.Item.{Item}
use Rattle.session_lock.specs.declared.knowledge.Knowledge.{Knowledge}
use Rattle.session_lock.specs.History.{after_item, caller_of, play_from, reply_from, item_of, Begins, GoesWell, GoesWellWith, Saw, IsSoundThrough}
use Rattle.session_lock.specs.Keeping.{CanGoBack, HasCounts, HasSettled, HasTried, KeepsHoped, SomeShut}
use Rattle.session_lock.specs.Rules.{MayHope, PlaysWell, knows, no_part}
use Rattle.session_lock.specs.Steps.{M, with_ticket, with_turn, with_seen_item, with_rest, with_hope, with_loss, rested, AnswersRequest, Fails, GoesOnSo, HasCommitted, HasEnded, HasMade, HasPutOff, HasTurn, HopesAt, InTurn, IsLostInTurn, IsNextInTurn, IsWaiting, MayEnd, MayPutOff, MayRelease, Rests, Works}
use Rattle.session_lock.specs.Trusts.{Allowing, IsTrusted, MayBeAsked, Stays}
use Rattle.session_lock.proofs.Histories.{play_snoc, calls_none, saw_trans, sound_first}
use Rattle.session_lock.proofs.KeepingLaws.{can_go_back, has_counts}
use Rattle.session_lock.proofs.StepLaws.{hope_gone}
use Rattle.session_lock.proofs.TrustLaws.{asked_later, trusted_after}

pub by_caller : (caller : ℕ) (request : Request) (result : Result Reply CallFault) → caller_of (item_of caller request result) ≡ caller
by_caller caller request (Ok reply) = refl
by_caller caller request (Err fault.WantOfMemory) = refl
by_caller caller request (Err fault.Unkept) = refl

-- the history goes well with what is pending
sound_on : (P : PlainSession → Type 0) (s : PlainSession) (xs ys : List Item) → IsSoundThrough s xs → GoesWell P (play_from s xs) ys → IsSoundThrough s (xs ++ ys)
sound_on P s [] ys sound well = sound_of P s ys well
  where
    sound_of : (P : PlainSession → Type 0) (s : PlainSession) (ys : List Item) → GoesWell P s ys → IsSoundThrough s ys
    sound_of P s [] well = well.0
    sound_of P s (y ∷ ys) well = (well.0.0, sound_of P (after_item s y) ys well.1)
sound_on P s (x ∷ xs) ys sound well = (sound.0, sound_on P (after_item s x) xs ys sound.1 well)

-- with the item of a call the session is trusted as it was
module _ {T : Type 0} (allows : Allowing T) (stays : Stays allows) (trust : T) (id : SessionId) where
  pub well_with : (s : PlainSession) (caller : ℕ) (request : Request) (result : Result Reply CallFault) → MayBeAsked allows trust id s request → IsSoundSession (after_item s (item_of caller request result)) → GoesWellWith (IsTrusted allows trust id) s (item_of caller request result)
  well_with s caller request (Ok reply) asked sound = (sound, λ before trusted. trusted_after allows stays trust id s request before sound asked trusted)
  well_with s caller request (Err fault.WantOfMemory) asked sound = (sound, λ before trusted. trusted)
  well_with s caller request (Err fault.Unkept) asked sound = (sound, λ before trusted. trusted)

  pub asked_then : (o : PlainSession) (seen history : List Item) (request : Request) → IsSoundThrough o history → Begins seen history → MayBeAsked allows trust id (play_from o seen) request → MayBeAsked allows trust id (play_from o history) request
  asked_then o seen history request sound begins asked = asked_later allows stays trust id o [] seen history request sound (begins.0, begins.1, calls_none begins.0) asked

-- what was waited for is the next of what is pending
same_front : (xs ys : List Item) (x : Item) (rest pending : List Item) → (xs ++ x ∷ []) ++ rest ≡ ys ++ pending → length xs ≡ length ys → (xs ≡ ys) × (pending ≡ x ∷ rest)
same_front [] [] x rest pending e long = (refl, sym e)
same_front [] (y ∷ ys) x rest pending e long = absurd (omega arith)
same_front (z ∷ xs) [] x rest pending e long = absurd (omega arith)
same_front (z ∷ xs) (y ∷ ys) x rest pending e long =
    let first : z ≡ y = cc (e) in
    let others : (xs ++ x ∷ []) ++ rest ≡ ys ++ pending = cc (e) in
    let r = same_front xs ys x rest pending others (omega arith) in
    (ap (λ (l : List Item). z ∷ l) r.0 ∙ ap (λ (i : Item). i ∷ ys) first, r.1)

pub hoped_first : (history pending : List Item) (lost : Bool) (hopes : Option Hope) (hope : List Item) (item : Item) → hopes ≡ Some (record { history = hope; item = item }) → MayHope history pending lost hopes → lost ≡ false → length history ≡ length hope
    → (hope ≡ history) × ((rest : List Item) × (pending ≡ item ∷ rest))
hoped_first history pending lost hopes hope item is may whole long =
    elim (subst (MayHope history pending lost) is may) [
      | inl gone ↦ absurd (let e : true ≡ false = sym gone ∙ whole in cc (e))
      | inr begins ↦ let r = same_front hope history item begins.0 pending begins.1 (sym long) in (r.0, (begins.0, r.1))
    ]

-- the reply, or that there is none, is the one due where the session was so
due_reply : {K : Type 0} (shut : K → Type 0) (s before after : PlainSession) (keeper : K) (request : Request) (result : Result Reply CallFault) → before ≡ s → MatchResult result (λ reply. with_reply after reply ≡ answer before request) (λ _. after ≡ before)
    → HasCause (answer before request).reply (shut keeper) result → IfOk result (λ reply. reply ≡ (answer s request).reply) × HasCause (answer s request).reply (SomeShut shut) result
due_reply shut s before after keeper request (Ok reply) is answers cause = (ap (λ (o : SessionOutcome). o.reply) answers ∙ ap (λ (t : PlainSession). (answer t request).reply) is, tt)
due_reply shut s before after keeper request (Err fault.WantOfMemory) is answers cause = (tt, subst (λ (t : PlainSession). MayWantMemory (answer t request).reply) is cause)
due_reply shut s before after keeper request (Err fault.Unkept) is answers cause = (tt, (subst (λ (t : PlainSession). MayChange (answer t request).reply) is cause.0, (keeper, cause.1)))

-- what the pass knows in the end
pub ends_so : {K : Type 0} (Told : PlainSession → Type 0) (shut : K → Type 0) (v : Knowledge) (m : M K) (request : Request) (result : Result Reply CallFault) (history : List Item) (c : ℕ) (others : List ℕ) → v.callers ≡ c ∷ others → Saw v.callers v.seen history
    → m ≡ (knows v.opening v.callers v.spare (history ++ item_of c request result ∷ []), []) → IfOk result (λ reply. reply ≡ reply_from v.opening history request) → HasCause (reply_from v.opening history request) (SomeShut shut) result → Told (play_from v.opening history)
    → MatchResult result (λ reply. AnswersRequest Told v m request reply) (λ why. Fails (SomeShut shut) v m request why)
ends_so Told shut v m request (Ok reply) history c others mine saw is answers cause told = (history, c, others, mine, saw, is, answers, told)
ends_so Told shut v m request (Err fault.WantOfMemory) history c others mine saw is answers cause told = (history, c, others, mine, saw, is, cause)
ends_so Told shut v m request (Err fault.Unkept) history c others mine saw is answers cause told = (history, c, others, mine, saw, is, cause)

same_first : (a b : ℕ) (xs ys : List ℕ) → a ∷ xs ≡ b ∷ ys → a ≡ b
same_first a b xs ys e = cc

-- what the pass knows once its item has come and the turn has ended
pub in_history : {K : Type 0} (Told : PlainSession → Type 0) (shut : K → Type 0) (u w : Knowledge) (c : ℕ) (others : List ℕ) (request : Request) (result : Result Reply CallFault) (history : List Item) (m' : M K) → m' ≡ (with_rest (with_seen_item w (item_of c request result)), [])
    → w.opening ≡ u.opening → w.callers ≡ u.callers → w.spare ≡ u.spare → w.seen ≡ history → w.kept ≡ no_part → w.other ≡ no_part → u.callers ≡ c ∷ others → Saw u.callers u.seen history
    → IfOk result (λ reply. reply ≡ reply_from u.opening history request) → HasCause (reply_from u.opening history request) (SomeShut shut) result → Told (play_from u.opening history)
    → HasMade Told (SomeShut shut) u request result m'
in_history Told shut u w c others request result history m' rests opens callers spare seen kept other mine saw answers cause told =
    let x : Item = item_of c request result in
    let now : with_rest (with_seen_item w x) ≡ knows u.opening u.callers u.spare (history ++ x ∷ []) =
    λ i. record { opening = opens i; callers = callers i; spare = spare i; seen = seen i ++ x ∷ []; ticket = None; holding = false; pending = []; lost = false; hopes = None; kept = kept i; other = other i } in
    ends_so Told shut u m' request result history c others mine saw (rests ∙ ap (λ (k : Knowledge). (k, [])) now) answers cause told

some_is : {X : Type 0} (x y : X) → ◌≡◌ {A = Option X} (Some x) (Some y) → x ≡ y
some_is x y e = cc

first_hand : {K : Type 0} (x y : KeptSession K) → ◌≡◌ {A = List (ℕ × KeptSession K)} ((0, x) ∷ []) ((0, y) ∷ []) → x ≡ y
first_hand x y e = ap (λ (l : List (ℕ × KeptSession _)). (Rattle.std.proofs.Common.get_or l 0 (0, x)).1) e

module _ {K : Type 0} (holds writes : K → PlainSession → Type 0) (shut : K → Type 0) (faults : K → ℕ) (first : ℕ) where
  abbrev pub Keeps : PlainSession → List Item → List Item → Bool → KeptSession K → Type 0
  Keeps = KeepsHoped holds writes shut faults first

  -- ---- a turn is taken

  pub in_turn : (Told : PlainSession → Type 0) (m₀ m₁ m₂ : M K) (ticket : ℕ) → Rests m₀ → m₁ ≡ (with_ticket m₀.0 ticket, m₀.1) → ticket < 2 ^ 64 - 1 → HasTurn Told Keeps m₁ ticket m₂ → InTurn Told Keeps m₀.0 m₂
  in_turn Told m₀ m₁ m₂ ticket rests drawn small turn =
      let same : m₁.0 ≡ with_ticket m₀.0 ticket = ap (λ (m : M K). m.0) drawn in
      let opens : m₁.0.opening ≡ m₀.0.opening = ap (λ (v : Knowledge). v.opening) same in
      record {
        caller = rests.first;
        others = rests.others;
        mine = rests.callers;
        no_kept = rests.kept;
        no_other = rests.other;
        ticket = ticket;
        small = small;
        history = turn.history;
        pending = turn.pending;
        lost = turn.lost;
        kept = turn.taken;
        is = turn.is ∙ ap (λ (v : Knowledge). (with_turn v turn.history turn.pending turn.lost, (0, turn.taken) ∷ [])) same;
        count = turn.count;
        saw = subst (λ (v : Knowledge). Saw v.callers v.seen turn.history) same turn.saw;
        keeps = subst (λ (o : PlainSession). Keeps o turn.history turn.pending turn.lost turn.taken) opens turn.keeps;
        told = subst (λ (o : PlainSession). Told (play_from o turn.history)) opens turn.trusted;
        through = subst (λ (o : PlainSession). IsSoundThrough o (turn.history ++ turn.pending)) opens (sound_on Told m₁.0.opening turn.history turn.pending turn.sound turn.well);
        hopes = subst (λ (v : Knowledge). MayHope turn.history turn.pending turn.lost v.hopes) same turn.hopes;
      }

  pub counts_in_hand : (Told : PlainSession → Type 0) (v : Knowledge) (m : M K) → InTurn Told Keeps v m → (kept : KeptSession K) × (m.1 ≡ (0, kept) ∷ []) × HasCounts kept
  counts_in_hand Told v m turn =
      (turn.kept, ap (λ (n : M K). n.1) turn.is, has_counts holds writes shut faults first v.opening turn.history turn.pending turn.lost turn.kept turn.ticket turn.keeps turn.count turn.small)

  pub can_settle : (Told : PlainSession → Type 0) (v : Knowledge) (m : M K) → InTurn Told Keeps v m → (kept : KeptSession K) × (m.1 ≡ (0, kept) ∷ []) × HasCounts kept × CanGoBack kept
  unfolding counts_in_hand
  can_settle Told v m turn =
      let c = counts_in_hand Told v m turn in
      (c.0, c.1, c.2, can_go_back holds writes shut faults first v.opening turn.history turn.pending turn.lost turn.kept turn.keeps)

  -- ---- behind a commit the session may be given back

  pub may_release : (Trusted Told : PlainSession → Type 0) (m m' : M K) (item : ℕ → Item) → (may : MayEnd Trusted Keeps m item) → HasCommitted Told item m m' → MayRelease Keeps m' × (m'.0 ≡ with_seen_item m.0 (item may.commit.caller))
  may_release Trusted Told m m' item may (caller, rest, called, came, well) =
      let same : caller ≡ may.commit.caller = same_first caller may.commit.caller rest may.commit.others (sym called ∙ may.commit.mine) in
      let now : m' ≡ (with_seen_item m.0 (item may.commit.caller), m.1) = came ∙ ap (λ (n : ℕ). (with_seen_item m.0 (item n), m.1)) same in
      (subst (MayRelease Keeps) (sym now) (record { kept = may.kept; hand = may.hand; holding = may.commit.holding; keeps = may.keeps }), ap (λ (n : M K). n.0) now)

  -- ---- the session is asked in a turn

  module _ (Told : PlainSession → Type 0) (v : Knowledge) (m m' : M K) (request : Request) (result : Result Reply CallFault) (place : Option ℕ) (turn : InTurn Told Keeps v m) (work : Works Keeps shut m request result place m') where
    abbrev pub item : Item
    item = item_of turn.caller request result

    abbrev pub known : Knowledge
    known = record v { ticket = Some turn.ticket; holding = true; seen = turn.history; pending = turn.pending; lost = turn.lost }

    same_kept : work.before ≡ turn.kept
    same_kept = first_hand work.before turn.kept (sym work.had ∙ ap (λ (n : M K). n.1) turn.is)

    pub after_is : m' ≡ (known, (0, work.after) ∷ [])
    after_is = work.has ∙ ap (λ (n : M K). (n.0, (0, work.after) ∷ [])) turn.is

    pub tried : HasTried Keeps v.opening turn.history turn.pending turn.lost item place work.after
    tried = work.tried v.opening turn.history turn.pending turn.lost turn.caller (subst (Keeps v.opening turn.history turn.pending turn.lost) (sym same_kept) turn.keeps)

    pub dues : IfOk result (λ reply. reply ≡ reply_from v.opening (turn.history ++ turn.pending) request) × HasCause (reply_from v.opening (turn.history ++ turn.pending) request) (SomeShut shut) result
    dues = due_reply shut (play_from v.opening (turn.history ++ turn.pending)) work.before.session work.after.session work.after.keeper request result (ap (λ (k : KeptSession K). k.session) same_kept ∙ turn.keeps.plays) work.answers work.cause

    -- where it comes at once
    pub there : place ≡ None → (turn.pending ≡ []) × Keeps v.opening (turn.history ++ item ∷ []) [] turn.lost work.after
    there at_once = subst (λ (p : Option ℕ). HasTried Keeps v.opening turn.history turn.pending turn.lost item p work.after) at_once tried

    pub nothing : place ≡ None → turn.history ++ turn.pending ≡ turn.history
    nothing at_once = ap (λ (l : List Item). turn.history ++ l) (there at_once).0 ∙ append-nil turn.history

    -- where it waits
    pub behind : (at : ℕ) → place ≡ Some at → (turn.lost ≡ false) × (at ≡ length turn.history + length turn.pending) × Keeps v.opening turn.history (turn.pending ++ item ∷ []) turn.lost work.after
    behind at waits = subst (λ (p : Option ℕ). HasTried Keeps v.opening turn.history turn.pending turn.lost item p work.after) waits tried

    -- what it has made once its item has come and the turn has ended
    pub made_at_once : (u : Knowledge) → v.opening ≡ u.opening → v.callers ≡ u.callers → v.spare ≡ u.spare → Saw u.callers u.seen turn.history → place ≡ None → (m'' : M K) → HasEnded Told (λ caller. item_of caller request result) m' m'' → HasMade Told (SomeShut shut) u request result m''
    made_at_once u opens callers spare saw at_once m'' (caller, rest, called, ended, well) =
        let same : caller ≡ turn.caller = same_first caller turn.caller rest turn.others (sym (subst (λ (n : M K). n.0.callers ≡ caller ∷ rest) after_is called) ∙ turn.mine) in
        let now : m'' ≡ (with_rest (with_seen_item known item), []) = ended ∙ (λ i. (with_rest (with_seen_item (after_is i).0 (item_of (same i) request result)), [])) in
        let due = subst (λ (z : PlainSession × List Item). IfOk result (λ reply. reply ≡ reply_from z.0 z.1 request) × HasCause (reply_from z.0 z.1 request) (SomeShut shut) result) (λ i. (opens i, nothing at_once i)) dues in
        in_history Told shut u known turn.caller turn.others request result turn.history m'' now opens callers spare refl turn.no_kept turn.no_other (sym callers ∙ turn.mine) saw due.0 due.1
        (subst (λ (o : PlainSession). Told (play_from o turn.history)) opens turn.told)

    -- what it waits for once it is put off
    pub waits_now : (at : ℕ) → place ≡ Some at → (m'' : M K) → HasPutOff (λ caller. item_of caller request result) m' m'' → IsWaiting shut m'' request result at × (m'' ≡ (with_hope known item, []))
    waits_now at waits m'' (caller, rest, called, put) =
        let same : caller ≡ turn.caller = same_first caller turn.caller rest turn.others (sym (subst (λ (n : M K). n.0.callers ≡ caller ∷ rest) after_is called) ∙ turn.mine) in
        let w : Knowledge = with_hope known item in
        let now : m'' ≡ (w, []) = put ∙ (λ i. (with_hope (after_is i).0 (item_of (same i) request result), [])) in (
          subst (λ (n : M K). IsWaiting shut n request result at) (sym now) (record {
            idle = record { empty = refl; ticket = refl; holding = refl; pending = refl; lost = refl; hopes = refl; kept = turn.no_kept; other = turn.no_other; first = turn.caller; others = turn.others; callers = turn.mine };
            history = turn.history ++ turn.pending;
            hope = refl;
            behind = length-append turn.history turn.pending ∙ sym (behind at waits).1;
            answers = dues.0;
            cause = dues.1;
          }),
          now,
        )

  module _ {T : Type 0} (allows : Allowing T) (stays : Stays allows) (trust : T) (id : SessionId) (Told : PlainSession → Type 0) (v : Knowledge) (m m' : M K) (request : Request) (result : Result Reply CallFault) (place : Option ℕ) (turn : InTurn Told Keeps v m) (work : Works Keeps shut m request result place m') (asked : MayBeAsked allows trust id (play_from v.opening v.seen) request) where
    abbrev its_item : Item
    its_item = item_of turn.caller request result

    asked_here : MayBeAsked allows trust id (play_from v.opening (turn.history ++ turn.pending)) request
    asked_here = asked_then allows stays trust id v.opening v.seen (turn.history ++ turn.pending) request turn.through
        (turn.saw.0 ++ turn.pending, sym (append_assoc v.seen turn.saw.0 turn.pending) ∙ ap (λ (l : List Item). l ++ turn.pending) turn.saw.1) asked

    pub may_end : place ≡ None → MayEnd (IsTrusted allows trust id) Keeps m' (λ caller. item_of caller request result)
    may_end at_once =
        let s : PlainSession = play_from v.opening turn.history in
        let here = there Told v m m' request result place turn work at_once in
        let plays : work.after.session ≡ after_item s its_item = here.1.plays ∙ ap (play_from v.opening) (append-nil (turn.history ++ its_item ∷ [])) ∙ play_snoc v.opening turn.history its_item in
        let with_it : GoesWellWith (IsTrusted allows trust id) s its_item =
        well_with allows stays trust id s turn.caller request result (subst (λ (h : List Item). MayBeAsked allows trust id (play_from v.opening h) request) (nothing Told v m m' request result place turn work at_once) asked_here) (subst IsSoundSession plays work.sound) in
        subst (λ (n : M K). MayEnd (IsTrusted allows trust id) Keeps n (λ caller. item_of caller request result)) (sym (after_is Told v m m' request result place turn work)) (record {
          commit = record {
            caller = turn.caller;
            others = turn.others;
            mine = turn.mine;
            holding = refl;
            kept = turn.no_kept;
            other = turn.no_other;
            turn = turn.ticket;
            ticket = refl;
            count = turn.count;
            next = inr (here.0, with_it);
          };
          kept = work.after;
          hand = refl;
          keeps = subst (λ (l : List Item). Keeps v.opening (turn.history ++ its_item ∷ []) l turn.lost work.after) (sym (ap (drop 1) here.0)) here.1;
        })

    -- it may be asked where it waits
    pub may_wait : (m'' : M K) → m'' ≡ (with_hope (known Told v m m' request result place turn work) its_item, []) → MayBeAsked allows trust id (play_from m''.0.opening m''.0.seen) request
    may_wait m'' is =
        subst (λ (n : M K). MayBeAsked allows trust id (play_from n.0.opening n.0.seen) request) (sym is)
        (asked_then allows stays trust id v.opening v.seen turn.history request (sound_first v.opening turn.history turn.pending turn.through) (turn.saw.0, turn.saw.1) asked)

    pub may_put_off : (at : ℕ) → place ≡ Some at → v.hopes ≡ None → MayPutOff (IsTrusted allows trust id) Keeps m' (λ caller. item_of caller request result)
    may_put_off at waits none =
        let s : PlainSession = play_from v.opening (turn.history ++ turn.pending) in
        let b = behind Told v m m' request result place turn work at waits in
        let plays : work.after.session ≡ after_item s its_item = b.2.plays ∙ ap (play_from v.opening) (sym (append_assoc turn.history turn.pending (its_item ∷ []))) ∙ play_snoc v.opening (turn.history ++ turn.pending) its_item in
        subst (λ (n : M K). MayPutOff (IsTrusted allows trust id) Keeps n (λ caller. item_of caller request result)) (sym (after_is Told v m m' request result place turn work)) (record {
          kept = work.after;
          hand = refl;
          caller = turn.caller;
          others = turn.others;
          mine = turn.mine;
          holding = refl;
          hopes = none;
          whole = b.0;
          turn = turn.ticket;
          ticket = refl;
          count = turn.count;
          keeps = subst (λ (l : Bool). Keeps v.opening turn.history (turn.pending ++ its_item ∷ []) l work.after) b.0 b.2;
          well = well_with allows stays trust id s turn.caller request result asked_here (subst IsSoundSession plays work.sound);
        })

  -- ---- where it goes on with a call that waits

  module _ (Told : PlainSession → Type 0) (v : Knowledge) (m m' : M K) (place : ℕ) (how : Waiting) (turn : InTurn Told Keeps v m) (on : GoesOnSo Keeps m place how m') where
    abbrev so : Knowledge
    so = record v { ticket = Some turn.ticket; holding = true; seen = turn.history; pending = turn.pending; lost = turn.lost }

    kept_is : on.before ≡ turn.kept
    kept_is = first_hand on.before turn.kept (sym on.had ∙ ap (λ (n : M K). n.1) turn.is)

    pub on_is : m' ≡ (so, (0, on.after) ∷ [])
    on_is = on.has ∙ ap (λ (n : M K). (n.0, (0, on.after) ∷ [])) turn.is

    settled_so : HasSettled Keeps v.opening turn.history turn.pending turn.lost place how turn.kept on.after
    settled_so = subst (λ (k : KeptSession K). HasSettled Keeps v.opening turn.history turn.pending turn.lost place how k on.after) kept_is
        (on.settled v.opening turn.history turn.pending turn.lost (subst (Keeps v.opening turn.history turn.pending turn.lost) (sym kept_is) turn.keeps))

    -- another comes first
    pub goes_on : how ≡ GoesOn → MayRelease Keeps m' × (m'.0 ≡ so)
    goes_on is =
        let same : on.after ≡ turn.kept = subst (λ (w : Waiting). HasSettled Keeps v.opening turn.history turn.pending turn.lost place w turn.kept on.after) is settled_so in
        (subst (MayRelease Keeps) (sym (on_is ∙ ap (λ (k : KeptSession K). (so, (0, k) ∷ [])) same)) (record { kept = turn.kept; hand = refl; holding = refl; keeps = turn.keeps }), ap (λ (n : M K). n.0) on_is)

    -- the turn, with other facts of the session in hand
    abbrev turned : (P : PlainSession → List Item → List Item → Bool → KeptSession K → Type 0) → P v.opening turn.history turn.pending turn.lost on.after → InTurn Told P v m'
    turned P holds_so = record {
      caller = turn.caller;
      others = turn.others;
      mine = turn.mine;
      no_kept = turn.no_kept;
      no_other = turn.no_other;
      ticket = turn.ticket;
      small = turn.small;
      history = turn.history;
      pending = turn.pending;
      lost = turn.lost;
      kept = on.after;
      is = on_is;
      count = turn.count;
      saw = turn.saw;
      keeps = holds_so;
      told = turn.told;
      through = turn.through;
      hopes = turn.hopes;
    }

    pub lost_in_turn : how ≡ Lost → IsLostInTurn Told Keeps v m'
    lost_in_turn is =
        let gone : Keeps v.opening turn.history [] true on.after = subst (λ (w : Waiting). HasSettled Keeps v.opening turn.history turn.pending turn.lost place w turn.kept on.after) is settled_so in
        record { turn = turned (λ opening history pending lost kept. Keeps opening history [] true kept) gone }

    pub next_in_turn : how ≡ Ended → HopesAt v place → IsNextInTurn Told Keeps v m'
    next_in_turn is (hope, item, hopes_is, behind) =
        let came : (turn.lost ≡ false) × (length turn.history ≡ place) × ((x : Item) (rest : List Item) → turn.pending ≡ x ∷ rest → Keeps v.opening (turn.history ++ x ∷ []) rest turn.lost on.after) =
        subst (λ (w : Waiting). HasSettled Keeps v.opening turn.history turn.pending turn.lost place w turn.kept on.after) is settled_so in
        let f = hoped_first turn.history turn.pending turn.lost v.hopes hope item hopes_is turn.hopes came.0 (came.1 ∙ sym behind) in
        record {
          hope = record { history = hope; item = item };
          hopes_is = hopes_is;
          rest = f.1.0;
          turn = turned (λ opening history pending lost kept. Keeps opening (history ++ item ∷ []) f.1.0 lost kept) (came.2 item f.1.0 f.1.1);
          next = f.1.1;
          comes = f.0;
        }

  -- ---- a turn of who has taken one before

  pub later_turn : (Told : PlainSession → Type 0) (P : PlainSession → List Item → List Item → Bool → KeptSession K → Type 0) (v : Knowledge) (seen : List Item) (m : M K) → Saw v.callers v.seen seen → InTurn Told P (record v { seen = seen }) m → InTurn Told P v m
  later_turn Told P v seen m saw t = record {
    caller = t.caller;
    others = t.others;
    mine = t.mine;
    no_kept = t.no_kept;
    no_other = t.no_other;
    ticket = t.ticket;
    small = t.small;
    history = t.history;
    pending = t.pending;
    lost = t.lost;
    kept = t.kept;
    is = t.is;
    count = t.count;
    saw = saw_trans v.callers v.seen seen t.history saw t.saw;
    keeps = t.keeps;
    told = t.told;
    through = t.through;
    hopes = t.hopes;
  }

  pub later_next : (Told : PlainSession → Type 0) (v w : Knowledge) (m : M K) → w ≡ record v { seen = w.seen } → Saw v.callers v.seen w.seen → IsNextInTurn Told Keeps w m → IsNextInTurn Told Keeps v m
  unfolding later_turn
  later_next Told v w m same saw next =
      let n : IsNextInTurn Told Keeps (record v { seen = w.seen }) m = subst (λ (u : Knowledge). IsNextInTurn Told Keeps u m) same next in
      record {
        hope = n.hope;
        hopes_is = n.hopes_is;
        rest = n.rest;
        turn = later_turn Told (λ opening history pending lost kept. Keeps opening (history ++ n.hope.item ∷ []) n.rest lost kept) v w.seen m saw n.turn;
        next = n.next;
        comes = n.comes;
      }

  pub later_lost : (Told : PlainSession → Type 0) (v w : Knowledge) (m : M K) → w ≡ record v { seen = w.seen } → Saw v.callers v.seen w.seen → IsLostInTurn Told Keeps w m → IsLostInTurn Told Keeps v m
  unfolding later_turn
  later_lost Told v w m same saw lost =
      let n : IsLostInTurn Told Keeps (record v { seen = w.seen }) m = subst (λ (u : Knowledge). IsLostInTurn Told Keeps u m) same lost in
      record { turn = later_turn Told (λ opening history pending lost kept. Keeps opening history [] true kept) v w.seen m saw n.turn }

  -- another comes first, and the pass rests again
  pub rests_on : (Told : PlainSession → Type 0) (v : Knowledge) (m m' m'' : M K) (place : ℕ) (how : Waiting) → (turn : InTurn Told Keeps v m) → GoesOnSo Keeps m place how m' → how ≡ GoesOn → m'' ≡ (with_rest m'.0, [])
      → v.ticket ≡ None → v.holding ≡ false → v.pending ≡ [] → v.lost ≡ false → m'' ≡ (record v { seen = turn.history }, [])
  rests_on Told v m m' m'' place how turn on is released no_ticket not_held none whole =
      let known : m'.0 ≡ so Told v m m' place how turn on = (goes_on Told v m m' place how turn on is).1 in
      released ∙ ap (λ (k : Knowledge). (with_rest k, [])) known
      ∙ (λ i. (record { opening = v.opening; callers = v.callers; spare = v.spare; seen = turn.history; ticket = sym no_ticket i; holding = sym not_held i; pending = sym none i; lost = sym whole i; hopes = v.hopes; kept = v.kept; other = v.other }, []))

  -- so it waits as before, and has seen more
  pub goes_round : (v₀ v : Knowledge) (history : List Item) (m m' : M K) (place : ℕ) → Rests m → m.0 ≡ v → v ≡ record v₀ { seen = v.seen } → Saw v₀.callers v₀.seen v.seen → Saw v.callers v.seen history → HopesAt v place → m' ≡ (record v { seen = history }, [])
      → Rests m' × HopesAt m'.0 place × (m'.0 ≡ record v₀ { seen = m'.0.seen }) × Saw v₀.callers v₀.seen m'.0.seen
  goes_round v₀ v history m m' place rests at same saw more hopes now =
      let r : Rests {K = K} (v, m.1) = subst (λ (k : Knowledge). Rests {K = K} (k, m.1)) at rests in
      subst (λ (n : M K). Rests n × HopesAt n.0 place × (n.0 ≡ record v₀ { seen = n.0.seen }) × Saw v₀.callers v₀.seen n.0.seen) (sym now) (
        record { empty = refl; ticket = r.ticket; holding = r.holding; pending = r.pending; lost = r.lost; kept = r.kept; other = r.other; first = r.first; others = r.others; callers = r.callers },
        hopes,
        ap (λ (k : Knowledge). record k { seen = history }) same,
        saw_trans v₀.callers v₀.seen v.seen history saw (subst (λ (k : Knowledge). Saw k.callers v.seen history) same more),
      )

  -- ---- what waited has come

  module _ (Told : PlainSession → Type 0) (v : Knowledge) (m : M K) (request : Request) (result : Result Reply CallFault) (place : ℕ) (next : IsNextInTurn Told Keeps v m) (history : List Item) (caller : ℕ) (others : List ℕ) (mine : v.callers ≡ caller ∷ others) (hopes_is : v.hopes ≡ Some (record { history = history; item = item_of caller request result })) where
    abbrev the_turn : InTurn Told (λ opening history pending lost kept. Keeps opening (history ++ next.hope.item ∷ []) next.rest lost kept) v m
    the_turn = next.turn

    same_hope : next.hope ≡ record { history = history; item = item_of caller request result }
    same_hope = some_is next.hope (record { history = history; item = item_of caller request result }) (sym next.hopes_is ∙ hopes_is)

    same_caller : the_turn.caller ≡ caller
    same_caller = same_first the_turn.caller caller the_turn.others others (sym the_turn.mine ∙ mine)

    item_is : next.hope.item ≡ item_of the_turn.caller request result
    item_is = ap (λ (h : Hope). h.item) same_hope ∙ ap (λ (n : ℕ). item_of n request result) (sym same_caller)

    abbrev held : Knowledge
    held = record v { ticket = Some the_turn.ticket; holding = true; seen = the_turn.history; pending = the_turn.pending; lost = the_turn.lost }

    pub next_may_end : (Trusted : PlainSession → Type 0) → MayEnd Trusted Keeps m (λ n. item_of n request result)
    next_may_end Trusted =
        let pending_is : the_turn.pending ≡ item_of the_turn.caller request result ∷ next.rest = next.next ∙ ap (λ (x : Item). x ∷ next.rest) item_is in
        subst (λ (n : M K). MayEnd Trusted Keeps n (λ c. item_of c request result)) (sym the_turn.is) (record {
          commit = record {
            caller = the_turn.caller;
            others = the_turn.others;
            mine = the_turn.mine;
            holding = refl;
            kept = the_turn.no_kept;
            other = the_turn.no_other;
            turn = the_turn.ticket;
            ticket = refl;
            count = the_turn.count;
            next = inl (next.rest, pending_is);
          };
          kept = the_turn.kept;
          hand = refl;
          keeps = subst (λ (z : List Item × Item). Keeps v.opening (the_turn.history ++ z.1 ∷ []) z.0 the_turn.lost the_turn.kept) (λ i. (sym (ap (drop 1) next.next) i, item_is i)) the_turn.keeps;
        })

    pub next_made : IfOk result (λ reply. reply ≡ reply_from v.opening history request) → HasCause (reply_from v.opening history request) (SomeShut shut) result → (m' : M K) → HasEnded Told (λ n. item_of n request result) m m' → HasMade Told (SomeShut shut) (rested v) request result m'
    next_made answers cause m' (n, rest, called, ended, well) =
        let same : n ≡ the_turn.caller = same_first n the_turn.caller rest the_turn.others (sym (subst (λ (k : M K). k.0.callers ≡ n ∷ rest) the_turn.is called) ∙ the_turn.mine) in
        let now : m' ≡ (with_rest (with_seen_item held (item_of the_turn.caller request result)), []) = ended ∙ (λ i. (with_rest (with_seen_item (the_turn.is i).0 (item_of (same i) request result)), [])) in
        let here : history ≡ the_turn.history = sym (ap (λ (h : Hope). h.history) same_hope) ∙ next.comes in
        in_history Told shut (rested v) held the_turn.caller the_turn.others request result the_turn.history m' now refl refl refl refl the_turn.no_kept the_turn.no_other the_turn.mine the_turn.saw
        (subst (λ (h : List Item). IfOk result (λ reply. reply ≡ reply_from v.opening h request)) here answers) (subst (λ (h : List Item). HasCause (reply_from v.opening h request) (SomeShut shut) result) here cause) the_turn.told

  -- ---- what waited was lost

  pub in_turn_lost : (Told : PlainSession → Type 0) (v : Knowledge) (m m' : M K) → (lost : IsLostInTurn Told Keeps v m) → m' ≡ (with_loss m.0, m.1) → InTurn Told Keeps v m'
  in_turn_lost Told v m m' lost loses =
      let t = lost.turn in
      record {
        caller = t.caller;
        others = t.others;
        mine = t.mine;
        no_kept = t.no_kept;
        no_other = t.no_other;
        ticket = t.ticket;
        small = t.small;
        history = t.history;
        pending = [];
        lost = true;
        kept = t.kept;
        is = loses ∙ ap (λ (n : M K). (with_loss n.0, n.1)) t.is;
        count = let few = t.count in omega (arith, few);
        saw = t.saw;
        keeps = t.keeps;
        told = t.told;
        through = subst (IsSoundThrough v.opening) (sym (append-nil t.history)) (sound_first v.opening t.history t.pending t.through);
        hopes = hope_gone t.history [] v.hopes;
      }

  -- and it stays so
  pub lost_then : (Told : PlainSession → Type 0) (v : Knowledge) (m m' : M K) (lost : IsLostInTurn Told Keeps v m) (loses : m' ≡ (with_loss m.0, m.1)) → (in_turn_lost Told v m m' lost loses).lost ≡ true
  unfolding in_turn_lost
  lost_then Told v m m' lost loses = refl

-- nothing is put off where something was lost
pub at_once : {K : Type 0} (Keeps : PlainSession → List Item → List Item → Bool → KeptSession K → Type 0) (o : PlainSession) (history pending : List Item) (lost : Bool) (item : Item) (place : Option ℕ) (after : KeptSession K) → lost ≡ true → HasTried Keeps o history pending lost item place after → place ≡ None
at_once Keeps o history pending lost item None after gone tried = refl
at_once Keeps o history pending lost item (Some place) after gone tried = absurd (let e : true ≡ false = sym gone ∙ tried.0 in cc (e))

-- what it has made, by what it knew earlier
pub made_since : {K : Type 0} (Told : PlainSession → Type 0) (shut : Type 0) (v : Knowledge) (seen : List Item) (request : Request) (result : Result Reply CallFault) (m : M K) → Saw v.callers v.seen seen
    → HasMade Told shut (record v { seen = seen }) request result m → HasMade Told shut v request result m
made_since Told shut v seen request (Ok reply) m saw (history, c, others, mine, more, is, answers, told) = (history, c, others, mine, saw_trans v.callers v.seen seen history saw more, is, answers, told)
made_since Told shut v seen request (Err fault.WantOfMemory) m saw (history, c, others, mine, more, is, due) = (history, c, others, mine, saw_trans v.callers v.seen seen history saw more, is, due)
made_since Told shut v seen request (Err fault.Unkept) m saw (history, c, others, mine, more, is, due) = (history, c, others, mine, saw_trans v.callers v.seen seen history saw more, is, due)

-- the same opening
pub plays_here : {K : Type 0} (Told : PlainSession → Type 0) (o : PlainSession) (m : M K) (history : List Item) → m.0.opening ≡ o → PlaysWell Told m.0.opening history → PlaysWell Told o history
plays_here Told o m history opens well = subst (λ (s : PlainSession). PlaysWell Told s history) opens well
