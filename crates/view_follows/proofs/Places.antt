-- Where callers stand in a history.
use Rattle.std.proofs.Common.{◌≡◌, ℕ, ◌+◌, ◌≤◌, Bool, true, false, eqb, ◌||◌, List, [], ◌∷◌, ◌++◌, if◌then◌else◌, length, refl, sym, ap, subst, ◌∙◌, arith, eq-eqb, length-append}
use Rattle.std.proofs.lemmas.Bool.{eqb-true}
use Rattle.std.proofs.lemmas.List.{append-nil}
use Rattle.std.specs.List.{AllByRecursion}
use Rattle.reflector_core.specs.Answer.{answer}
use Rattle.reflector_core.specs.PlainSession.{PlainSession}
use Rattle.reflector_core.specs.declared.request.Request.{Request}
use Rattle.reflector_core.specs.declared.request.Request.TheVariants.{Offer}
use Rattle.session_lock.specs.declared.knowledge.Item.{Item}
use Rattle.session_lock.specs.declared.knowledge.Item.TheVariants.{Did}
use Rattle.session_lock.specs.History.{calls_of, caller_of, has, play_from}
use Rattle.session_lock.proofs.Histories.{has_own, none_behind}
use Rattle.connection.specs.Exchanges.{Exchange, Answered, exchanges_from, exchanges_in}
use Rattle.connection.proofs.Callers.{exchanges_both}
use Rattle.reflect_server.specs.Connections.{ServedConnection, callers_of}
use Rattle.reflect_server.specs.Opening.{AreLeavesOf, BeginsWithLeaves, IsLeaveOf}
use Rattle.view_follows.proofs.Lists.{all_back, same_first, same_others}

-- ---- who called

kept_has : (callers : List ℕ) (x : Item) (rest : List Item) (own : Bool) → has (caller_of x) callers ≡ own → AllByRecursion (λ (y : Item). has (caller_of y) callers ≡ true) rest
    → AllByRecursion (λ (y : Item). has (caller_of y) callers ≡ true) (if own then x ∷ rest else rest)
kept_has callers x rest true is all = (is, all)
kept_has callers x rest false is all = all

called_by : (callers : List ℕ) (history : List Item) → AllByRecursion (λ (y : Item). has (caller_of y) callers ≡ true) (calls_of callers history)
called_by callers [] = tt
called_by callers (x ∷ xs) = kept_has callers x (calls_of callers xs) (has (caller_of x) callers) refl (called_by callers xs)

-- where nobody else called, each item is one of theirs
pub is_called : (callers : List ℕ) (history front back : List Item) (x : Item) → calls_of callers history ≡ history → front ++ x ∷ back ≡ history → has (caller_of x) callers ≡ true
is_called callers history front back x whole is =
    let P = λ (y : Item). has (caller_of y) callers ≡ true in
    let all = subst (AllByRecursion P) whole (called_by callers history) in
    (all_back P front (x ∷ back) (subst (AllByRecursion P) (sym is) all)).0

-- the connection of a caller
find_by : {L : Type 0} (P : ServedConnection L → Type 0) (one : ServedConnection L) (rest : List (ServedConnection L)) (caller : ℕ) (own : Bool) → eqb caller one.caller ≡ own → (own || has caller (callers_of rest)) ≡ true → P one
    → (has caller (callers_of rest) ≡ true → (found : ServedConnection L) × (caller ≡ found.caller) × P found) → (found : ServedConnection L) × (caller ≡ found.caller) × P found
find_by P one rest caller true is among holds later = (one, eqb-true caller one.caller is, holds)
find_by P one rest caller false is among holds later = later among

pub find_caller : {L : Type 0} (P : ServedConnection L → Type 0) (connections : List (ServedConnection L)) (caller : ℕ) → has caller (callers_of connections) ≡ true → AllByRecursion P connections
    → (found : ServedConnection L) × (caller ≡ found.caller) × P found
find_caller P [] caller among all = absurd (cc (among))
find_caller P (one ∷ rest) caller among all = find_by P one rest caller (eqb caller one.caller) refl among all.0 (λ later. find_caller P rest caller later all.1)

-- ---- what stands first

own_item : (caller : ℕ) (asked : Request) (front : List Item) → calls_of (caller ∷ []) (Did caller asked ∷ front) ≡ [] → ⊥
own_item caller asked front none =
    let first : Did caller asked ∷ calls_of (caller ∷ []) front ≡ [] = sym (ap (λ (b : Bool). if b then Did caller asked ∷ calls_of (caller ∷ []) front else calls_of (caller ∷ []) front) (has_own caller [])) ∙ none in
    absurd (cc (first))

-- where a caller has made no call yet, none of its calls has been reached
pub is_earlier : (caller : ℕ) (asked : Request) (front back before behind : List Item) → front ++ back ≡ before ++ Did caller asked ∷ behind → calls_of (caller ∷ []) front ≡ [] → length front ≤ length before
is_earlier caller asked [] back before behind is none = omega (arith)
is_earlier caller asked (x ∷ front) back [] behind is none =
    absurd (own_item caller asked front (subst (λ (y : Item). calls_of (caller ∷ []) (y ∷ front) ≡ []) (same_first x (Did caller asked) (front ++ back) behind is) none))
is_earlier caller asked (x ∷ front) back (y ∷ before) behind is none =
    let rest = is_earlier caller asked front back before behind (same_others x y (front ++ back) (before ++ Did caller asked ∷ behind) is) (none_behind (has (caller_of x) (caller ∷ [])) x (calls_of (caller ∷ []) front) none) in
    omega (arith, rest)

-- two beginnings of one list that are as long are the same
pub same_front : (front back other behind : List Item) → front ++ back ≡ other ++ behind → length front ≡ length other → front ≡ other
same_front [] back [] behind is long = refl
same_front [] back (y ∷ other) behind is long = absurd (omega (arith, long))
same_front (x ∷ front) back [] behind is long = absurd (omega (arith, long))
same_front (x ∷ front) back (y ∷ other) behind is long =
    let heads = same_first x y (front ++ back) (other ++ behind) is in
    let rest = same_front front back other behind (same_others x y (front ++ back) (other ++ behind) is) (omega (arith, long)) in
    ap (λ (z : Item). z ∷ front) heads ∙ ap (λ (l : List Item). y ∷ l) rest

-- ---- who offers

never_calls : (caller : ℕ) (asked : Request) (items before behind : List Item) → items ≡ before ++ Did caller asked ∷ behind → calls_of (caller ∷ []) items ≡ [] → ⊥
never_calls caller asked items before behind is none =
    let early = is_earlier caller asked items [] before behind (append-nil items ∙ is) none in
    let long : length items ≡ length before + length (Did caller asked ∷ behind) = ap length is ∙ length-append before (Did caller asked ∷ behind) in
    omega (arith, early, long)

module _ (gives : ℕ → Type 0) (opener : ℕ) (view joined time : ℕ) (bytes : List ℕ) where
  abbrev offered : Item
  offered = Did opener (Offer view joined time bytes)

  -- the opening Leaves are no Offers, and the opener has made no other calls
  opener_never_offers : (views : List (ℕ × ℕ)) (leaves rest before behind : List Item) → AreLeavesOf gives opener views leaves → calls_of (opener ∷ []) rest ≡ [] → leaves ++ rest ≡ before ++ offered ∷ behind → ⊥
  opener_never_offers views [] rest before behind made others is = never_calls opener (Offer view joined time bytes) rest before behind is others
  opener_never_offers [] (item ∷ leaves) rest before behind made others is = absurd made
  opener_never_offers (one ∷ views) (item ∷ leaves) rest [] behind made others is =
      subst (IsLeaveOf gives opener one) (same_first item offered (leaves ++ rest) behind is) made.0
  opener_never_offers (one ∷ views) (item ∷ leaves) rest (other ∷ before) behind made others is =
      opener_never_offers views leaves rest before behind made.1 others (same_others item other (leaves ++ rest) (before ++ offered ∷ behind) is)

-- who offers is none but one of the connections
pub offer_is_called : (gives : ℕ → Type 0) (opening : PlainSession) (opener caller : ℕ) (callers : List ℕ) (history before behind : List Item) (view joined time : ℕ) (bytes : List ℕ) → BeginsWithLeaves gives opening opener history
    → calls_of (opener ∷ callers) history ≡ history → before ++ Did caller (Offer view joined time bytes) ∷ behind ≡ history → has caller callers ≡ true
offer_is_called gives opening opener caller callers history before behind view joined time bytes begins whole is =
    not_opener (eqb caller opener) refl (is_called (opener ∷ callers) history before behind (Did caller (Offer view joined time bytes)) whole is)
  where
    not_opener : (own : Bool) → eqb caller opener ≡ own → (own || has caller callers) ≡ true → has caller callers ≡ true
    not_opener true same among =
        let its : before ++ Did opener (Offer view joined time bytes) ∷ behind ≡ history =
        subst (λ (c : ℕ). before ++ Did c (Offer view joined time bytes) ∷ behind ≡ history) (eqb-true caller opener same) is in
        absurd (opener_never_offers gives opener view joined time bytes begins.views begins.leaves begins.rest before behind begins.made begins.others (begins.first ∙ sym its))
    not_opener false other among = among

-- ---- an item as an exchange

pub item_holds : (P : Exchange → Type 0) (opening : PlainSession) (history before behind : List Item) (caller : ℕ) (asked : Request) → before ++ Did caller asked ∷ behind ≡ history
    → AllByRecursion P (exchanges_in opening history caller) → P (Answered asked (answer (play_from opening before) asked).reply)
item_holds P opening history before behind caller asked is all =
    let at = play_from opening before in
    let replied = (answer at asked).reply in
    let later = exchanges_from (answer at asked).session caller behind in
    let own : exchanges_from at caller (Did caller asked ∷ behind) ≡ Answered asked replied ∷ later = ap (λ (b : Bool). (if b then Answered asked replied ∷ [] else []) ++ later) (eq-eqb caller caller refl) in
    let whole = subst (λ (h : List Item). AllByRecursion P (exchanges_in opening h caller)) (sym is) all in
    let parts = subst (AllByRecursion P) (exchanges_both opening caller before (Did caller asked ∷ behind)) whole in
    (subst (AllByRecursion P) own (all_back P (exchanges_in opening before caller) (exchanges_from at caller (Did caller asked ∷ behind)) parts)).0
