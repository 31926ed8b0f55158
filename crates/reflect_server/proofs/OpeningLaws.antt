-- The opening Leaves: who is here, and that each is made to leave.
use Rattle.std.proofs.Common.{◌≡◌, inl, inr, ℕ, zero, suc, ◌+◌, ◌<◌, Bool, true, false, eqb, ◌||◌, map, arith, Option, Some, None, List, [], ◌∷◌, ◌++◌, append_assoc, append-nil, drop, get_or, length, take, refl, sym, ap, ◌∙◌, subst}
use Rattle.std.specs.Prelude.{IfSome}
use Rattle.std.specs.List.{AllByRecursion}
use Rattle.std.proofs.lemmas.Bool.{cases_lt}
use Rattle.std.proofs.lemmas.List.{drop_more, take-append-drop, take_more}
use Rattle.tea_base.specs.declared.entry.Entry.{Entry}
use Rattle.tea_base.specs.Legal.{IsLegal}
use Rattle.tea_base.specs.Readings.{current, is_here}
use Rattle.tea_base.proofs.LogLaws.{is_here-zero}
use Rattle.wire_frames.specs.declared.start.Base.{Base}
use Rattle.reflector_core.specs.PlainSession.{PlainSession}
use Rattle.reflector_core.specs.Stored.{IsNextHere}
use Rattle.reflector_core.specs.declared.keeper.CallFault.{CallFault}
use Rattle.reflector_core.specs.declared.keeper.CallFault.TheVariants as fault
use Rattle.reflector_core.specs.declared.request.Request.TheVariants.{Leave}
use Rattle.reflector_core.specs.declared.request.Reply.{Reply}
use Rattle.session_lock.specs.declared.knowledge.Item.{Item}
use Rattle.session_lock.specs.declared.knowledge.Item.TheVariants.{Did, Void, Unkept}
use Rattle.session_lock.specs.History.{has, has_unkept, is_unkept}
use Rattle.session_lock.proofs.Histories.{has_own}
use Rattle.session_lock.specs.Passes.{PassState, Missed, NotKept, Replied, Voided, caller, own_calls}
use Rattle.reflect_server.proofs.PassLaws.{one_caller}
use Rattle.reflect_server.specs.Opening.{AreHereAbove, AreHere, AreJustThoseHere, RiseAbove, AreLeavesOf, IsLeaveOf, HasMadeLeave, HasMadeLeaves, HasMadeUnkept, HasOpened, HasStopped, StopsAtLeave}
use Rattle.reflect_server.specs.Keeping.{KeeperTells, HasNotOpened, HasOnlyOpened, IsUnopened, keeper_tells}
use Rattle.reflector_core.specs.Keeping.{IsCovered}
use Rattle.session_lock.specs.Keeping.{KeepsPlay}
use Rattle.session_lock.proofs.KeepingLaws.{keeps_first}

-- ---- who is here

-- those that were found, and then all that are above the last one, are all
abbrev pub HereSoFar : List Entry → ℕ → List (ℕ × ℕ) → Type 0
HereSoFar log above found = (rest : List (ℕ × ℕ)) → AreHereAbove log above rest → AreHere log (found ++ rest)

pub here_first : (log : List Entry) → HereSoFar log 0 []
here_first log rest here = here

pub here_more : (log : List Entry) (above : ℕ) (found more : List (ℕ × ℕ)) (next : ℕ × ℕ) → more ≡ found ++ next ∷ [] → IsNextHere log above (Some next) → HereSoFar log above found → HereSoFar log next.0 more
here_more log above found more next is here so_far rest others =
    subst (AreHere log) (sym (ap (λ (l : List (ℕ × ℕ)). l ++ rest) is ∙ append_assoc found (next ∷ []) rest)) (so_far (next ∷ rest) (here, others))

pub here_all : (log : List Entry) (above : ℕ) (found : List (ℕ × ℕ)) → IsNextHere log above None → HereSoFar log above found → AreHere log found
here_all log above found none so_far = subst (AreHere log) (append-nil found) (so_far [] none)

-- ---- one Leave

pub leave_did : (IsTrusted : PlainSession → Type 0) (gives : ℕ → Type 0) (before after : PassState) (one : ℕ × ℕ) (now : ℕ) (reply : Reply) → gives now → Replied IsTrusted before after (Leave one.0 one.1 now) reply → HasMadeLeave gives one before after
leave_did IsTrusted gives before after one now reply given told = (Did (caller before) (Leave one.0 one.1 now), (refl, refl, refl, given), told.grew.own)

pub leave_void : (IsTrusted : PlainSession → Type 0) (shut : Type 0) (gives : ℕ → Type 0) (before after : PassState) (one : ℕ × ℕ) (now : ℕ) (why : CallFault) → why ≡ fault.WantOfMemory → Missed IsTrusted shut before after (Leave one.0 one.1 now) why → HasMadeLeave gives one before after
leave_void IsTrusted shut gives before after one now why is told =
    let void : Voided IsTrusted before after (Leave one.0 one.1 now) = subst (Missed IsTrusted shut before after (Leave one.0 one.1 now)) is told in (Void (caller before), refl, void.grew.own)

pub leave_unkept : (IsTrusted : PlainSession → Type 0) (shut : Type 0) (before after : PassState) (one : ℕ × ℕ) (now : ℕ) (why : CallFault) → why ≡ fault.Unkept → Missed IsTrusted shut before after (Leave one.0 one.1 now) why → HasMadeUnkept before after
leave_unkept IsTrusted shut before after one now why is told =
    let unkept : NotKept IsTrusted shut before after (Leave one.0 one.1 now) = subst (Missed IsTrusted shut before after (Leave one.0 one.1 now)) is told in unkept.grew.own

-- ---- and all

leaves_snoc : (gives : ℕ → Type 0) (opener : ℕ) (views : List (ℕ × ℕ)) (items : List Item) (one : ℕ × ℕ) (item : Item) → AreLeavesOf gives opener views items → IsLeaveOf gives opener one item
    → AreLeavesOf gives opener (views ++ one ∷ []) (items ++ item ∷ [])
leaves_snoc gives opener [] [] one item made last = (last, tt)
leaves_snoc gives opener [] (x ∷ xs) one item made last = absurd made
leaves_snoc gives opener (v ∷ vs) [] one item made last = absurd made
leaves_snoc gives opener (v ∷ vs) (x ∷ xs) one item made last = (made.0, leaves_snoc gives opener vs xs one item made.1 last)

pub none_made : (gives : ℕ → Type 0) (before : PassState) → HasMadeLeaves gives [] before before
none_made gives before = ([], tt, sym (append-nil (own_calls before)))

-- one Leave more
pub one_more_made : (gives : ℕ → Type 0) (views : List (ℕ × ℕ)) (before mid after : PassState) (one : ℕ × ℕ) → mid ≡ record before { seen = mid.seen } → HasMadeLeaves gives views before mid → HasMadeLeave gives one mid after
    → HasMadeLeaves gives (views ++ one ∷ []) before after
one_more_made gives views before mid after one kept so_far last =
    let mine : caller mid ≡ caller before = ap caller kept in (
      so_far.0 ++ last.0 ∷ [],
      leaves_snoc gives (caller before) views so_far.0 one last.0 so_far.1 (subst (λ (c : ℕ). IsLeaveOf gives c one last.0) mine last.1),
      last.2 ∙ (ap (λ (l : List Item). l ++ last.0 ∷ []) so_far.2 ∙ append_assoc (own_calls before) so_far.0 (last.0 ∷ [])),
    )

pub leaves_more : (gives : ℕ → Type 0) (views : List (ℕ × ℕ)) (i : ℕ) (none : ℕ × ℕ) (before mid after : PassState) → i < length views → mid ≡ record before { seen = mid.seen } → HasMadeLeaves gives (take i views) before mid
    → HasMadeLeave gives (get_or views i none) mid after → HasMadeLeaves gives (take (i + 1) views) before after
leaves_more gives views i none before mid after within kept so_far last =
    subst (λ (l : List (ℕ × ℕ)). HasMadeLeaves gives l before after) (sym (take_more views i none within)) (one_more_made gives (take i views) before mid after (get_or views i none) kept so_far last)

-- the Leave of the next view was not kept
pub stops_at : (gives : ℕ → Type 0) (views : List (ℕ × ℕ)) (i : ℕ) (none : ℕ × ℕ) (before mid after : PassState) → i < length views → mid ≡ record before { seen = mid.seen } → HasMadeLeaves gives (take i views) before mid
    → HasMadeUnkept mid after → HasStopped gives views before after
stops_at gives views i none before mid after within kept so_far last =
    let mine : caller mid ≡ caller before = ap caller kept in (
      so_far.0 ++ Unkept (caller before) ∷ [],
      record {
        made = take i views;
        next = get_or views i none;
        left = drop (i + 1) views;
        views_are = sym (take-append-drop i views) ∙ ap (λ (l : List (ℕ × ℕ)). take i views ++ l) (drop_more views i none within);
        leaves = so_far.0;
        each = so_far.1;
        items_are = refl;
      },
      last ∙ (ap (λ (c : ℕ). own_calls mid ++ Unkept c ∷ []) mine
          ∙ (ap (λ (l : List Item). l ++ Unkept (caller before) ∷ []) so_far.2 ∙ append_assoc (own_calls before) so_far.0 (Unkept (caller before) ∷ []))),
    )

or_one : (b c : Bool) → c ≡ true → (b || c) ≡ true
or_one true c is = refl
or_one false c is = is

unkept_last : (items : List Item) (c : ℕ) → has_unkept (items ++ Unkept c ∷ []) ≡ true
unkept_last [] c = refl
unkept_last (x ∷ xs) c = or_one (is_unkept x) (has_unkept (xs ++ Unkept c ∷ [])) (unkept_last xs c)

-- ---- the pass that opened

pub all_trusted : (kept : Option Base) → IfSome kept (λ base. Unit {0})
all_trusted None = tt
all_trusted (Some base) = tt

-- a first pass that has made the Leaves of all who are here
pub opened_by : (gives : ℕ → Type 0) (opening : PlainSession) (views : List (ℕ × ℕ)) (before after : PassState) → before.callers ≡ 0 ∷ [] → own_calls before ≡ [] → after ≡ record before { seen = after.seen }
    → AreHere opening.log views → HasMadeLeaves gives views before after → HasOpened gives opening after
opened_by gives opening views before after alone none kept here made =
    let callers : after.callers ≡ 0 ∷ [] = ap (λ (p : PassState). p.callers) kept ∙ alone in
    let mine : caller after ≡ caller before = ap caller kept in
    let all : own_calls after ≡ made.0 = made.2 ∙ ap (λ (l : List Item). l ++ made.0) none in
    record {
      one = one_caller after 0 callers;
      views = views;
      here = here;
      made = subst (λ (c : ℕ). AreLeavesOf gives c views (own_calls after)) (sym mine) (subst (AreLeavesOf gives (caller before) views) (sym all) made.1);
    }

-- the whole history of a session that was opened and no more
pub only_opened : (gives : ℕ → Type 0) (kept : KeeperTells) (pass : PassState) → HasOpened gives pass.opening pass → own_calls pass ≡ pass.seen → kept.keeps pass.seen → HasOnlyOpened gives pass.opening kept
only_opened gives kept pass opened all keeps = record {
  opener = caller pass;
  views = opened.views;
  here = opened.here;
  history = pass.seen;
  made = subst (AreLeavesOf gives (caller pass) opened.views) all opened.made;
  keeps = keeps;
}

-- and of one whose opening was not kept
pub not_opened : (gives : ℕ → Type 0) (opening : PlainSession) (kept : KeeperTells) (views : List (ℕ × ℕ)) (before after : PassState) → own_calls before ≡ [] → AreHere opening.log views → HasStopped gives views before after
    → own_calls after ≡ after.seen → kept.keeps after.seen → (has_unkept after.seen ≡ true → kept.failed) → HasNotOpened gives opening kept
not_opened gives opening kept views before after none here stopped all keeps fails =
    let whole : after.seen ≡ stopped.0 = sym all ∙ (stopped.2 ∙ ap (λ (l : List Item). l ++ stopped.0) none) in
    let some : has_unkept stopped.0 ≡ true = ap has_unkept stopped.1.items_are ∙ unkept_last stopped.1.leaves (caller before) in
    record {
      opener = caller before;
      views = views;
      here = here;
      history = after.seen;
      stops = subst (StopsAtLeave gives (caller before) views) (sym whole) stopped.1;
      keeps = keeps;
      failed = fails (ap has_unkept whole ∙ some);
    }

module _ {K : Type 0} (holds : K → PlainSession → Type 0) (shut : K → Type 0) (faults : K → ℕ) where
  -- the same, said of the count and of the session that it began with
  pub keeps_of : (first begun : ℕ) (opening session : PlainSession) (history : List Item) (keeper : K) → first ≡ begun → opening ≡ session → KeepsPlay holds shut faults first opening history keeper → KeepsPlay holds shut faults begun session history keeper
  keeps_of first begun opening session history keeper counted is keeps =
      subst (λ (n : ℕ). KeepsPlay holds shut faults n session history keeper) counted (subst (λ (o : PlainSession). KeepsPlay holds shut faults first o history keeper) is keeps)

  -- memory was wanted before any call
  pub unopened_wants : (gives : ℕ → Type 0) (opening : PlainSession) (given keeper : K) (why : CallFault) → IsCovered (holds given) opening.kept opening → (shut given → ⊥) → keeper ≡ given → why ≡ fault.WantOfMemory
      → IsUnopened gives opening (keeper_tells holds shut faults (faults given) opening keeper) why
  unopened_wants gives opening given keeper why covered unshut same is =
      subst (IsUnopened gives opening (keeper_tells holds shut faults (faults given) opening keeper)) (sym is)
      (subst (KeepsPlay holds shut faults (faults given) opening []) (sym same) (keeps_first holds shut faults (faults given) opening given covered unshut refl))

-- with other spare numbers it is so still
pub opened_still : (gives : ℕ → Type 0) (opening : PlainSession) (before after : PassState) → after ≡ record before { spare = after.spare } → HasOpened gives opening before → HasOpened gives opening after
opened_still gives opening before after kept opened =
    subst (HasOpened gives opening) (sym kept) (record { one = opened.one; views = opened.views; here = opened.here; made = opened.made })

-- ---- just those who are here

no_such : (here : Bool) → here ≡ true → here ≡ false → ⊥
no_such true is none = cc
no_such false is none = cc

rise : (log : List Entry) (above : ℕ) (views : List (ℕ × ℕ)) → AreHereAbove log above views → RiseAbove above views
rise log above [] here = tt
rise log above (one ∷ rest) here = (here.0.0, rise log one.0 rest here.1)

each_here : (log : List Entry) (above : ℕ) (views : List (ℕ × ℕ)) → AreHereAbove log above views → AllByRecursion (λ (one : ℕ × ℕ). (is_here log one.0 ≡ true) × (one.1 ≡ current log one.0)) views
each_here log above [] here = tt
each_here log above (one ∷ rest) here = ((here.0.1, here.0.2), each_here log one.0 rest here.1)

or_right : (first second : Bool) → second ≡ true → (first || second) ≡ true
or_right true second is = refl
or_right false second is = is

has_first : (view n : ℕ) (ns : List ℕ) → view ≡ n → has view (n ∷ ns) ≡ true
has_first view n ns is = subst (λ (m : ℕ). has view (m ∷ ns) ≡ true) is (has_own view ns)

all_here : (log : List Entry) (above : ℕ) (views : List (ℕ × ℕ)) → AreHereAbove log above views → (view : ℕ) → above < view → is_here log view ≡ true → has view (map (λ (one : ℕ × ℕ). one.0) views) ≡ true
all_here log above [] here view more is = absurd (no_such (is_here log view) is (here view more))
all_here log above (one ∷ rest) here view more is =
    elim (cases_lt view one.0) [
      | inl less ↦ absurd (no_such (is_here log view) is (here.0.3 view more less))
      | inr within ↦ elim (cases_lt one.0 view) [
        | inl later ↦ or_right (eqb view one.0) (has view (map (λ (x : ℕ × ℕ). x.0) rest)) (all_here log one.0 rest here.1 view later is)
        | inr before ↦ has_first view one.0 (map (λ (x : ℕ × ℕ). x.0) rest) (omega (arith, within, before))
      ]
    ]

some_view : (log : List Entry) (view : ℕ) → IsLegal log → is_here log view ≡ true → 0 < view
some_view log zero legal is = absurd (no_such (is_here log 0) is (is_here-zero log legal))
some_view log (suc view) legal is = omega arith

pub just_those : (log : List Entry) (views : List (ℕ × ℕ)) → IsLegal log → AreHere log views → AreJustThoseHere log views
just_those log views legal here = record {
  rise = rise log 0 views here;
  each = each_here log 0 views here;
  all = λ view is. all_here log 0 views here view (some_view log view legal is) is;
}
