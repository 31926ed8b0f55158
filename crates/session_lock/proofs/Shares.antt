-- A pass is split, and two are merged.
use Rattle.std.proofs.Common.{◌≡◌, ℕ, ◌+◌, ◌≤◌, ◌<◌, Bool, true, false, leb, List, [], ◌∷◌, ◌++◌, length, if◌then◌else◌, set, None, sym, refl, ap, ◌∙◌, subst, arith, eq-eqb, length-append}
use Rattle.std.proofs.lemmas.Bool.{leb-true, leb-false}
use mathlib.Core.Logic.{dite}
use mathlib.Core.Option.{some, some-injective}
use native.Mathlib.Decide.{ℕ_discrete}
use lib.ListN.{get_elem?}
use Rattle.atomic_table.specs.Table.{Splits, Joins}
use Rattle.atomic_table.proofs.Lists.{at_longer, set_else}
use Rattle.reflector_core.specs.PlainSession.{PlainSession}
use Rattle.session_lock.specs.declared.knowledge.Item.{Item}
use Rattle.session_lock.specs.declared.knowledge.Range.{Range}
use Rattle.session_lock.specs.declared.knowledge.Knowledge.{Knowledge}
use Rattle.session_lock.specs.declared.held.KeptSession.{KeptSession}
use Rattle.session_lock.specs.History.{calls_of, Saw}
use Rattle.session_lock.specs.Numbers.{in_ranges, count_of, take_numbers, drop_numbers, first_of_ranges}
use Rattle.session_lock.specs.Rules.{views_total, is_ticket, has_ticket, one_if, one_if_some, is_holding, is_hoping, calls_as, holds_number, number_count, Every, HoldsInTurn, MayHope, SpentHoldsNothing, PartsFit, KnowsOpening, no_part, IsSeenWhole, Locks}
use Rattle.session_lock.specs.Steps.{split_left, split_right, join_left, join_right}
use Rattle.session_lock.proofs.Totals.{total_set, total_snoc, every_set, every_snoc}
use Rattle.session_lock.proofs.Ranges.{cut, cut_count, taken_count, first_out, in_ranges_append, count_append, times_append}
use Rattle.session_lock.proofs.Histories.{calls_append, saw_length, saw_whole, saw_rest, nothing_left, neither, saw_nothing}
use Rattle.session_lock.proofs.StepLaws.{set_at, set_other, told_set, no_caller, part_none, has_callers}

-- who made no call saw as much as all
saw_new : (n : ℕ) (cs : List ℕ) (seen history : List Item) → Saw cs seen history → calls_of (n ∷ []) history ≡ [] → Saw (n ∷ []) seen history
saw_new n cs seen history p none = (p.0, p.1, nothing_left (calls_of (n ∷ []) seen) (calls_of (n ∷ []) p.0) (sym (calls_append (n ∷ []) seen p.0) ∙ (ap (calls_of (n ∷ [])) p.1 ∙ none)))

some_of : (l : List ℕ) → (l ≡ [] → ⊥) → 0 < length l
some_of [] not = absurd (not refl)
some_of (x ∷ xs) not = omega arith

module _ (n : ℕ) (v : Knowledge) (n_some : 0 < n) (enough : n ≤ count_of v.spare) where
  abbrev pub the_taken : List Range
  the_taken = take_numbers n v.spare

  taken_some : 0 < count_of the_taken
  taken_some = let c = taken_count n v.spare enough in omega (arith, c)

  pub same_numbers : (x : ℕ) → holds_number x (split_left n v) + holds_number x (split_right n v) ≡ holds_number x v
  same_numbers x = let two = cut x n v.spare in let out = first_out x the_taken taken_some in omega (arith, two, out)

  pub first_is_spare : 0 < in_ranges (first_of_ranges the_taken) v.spare
  first_is_spare =
      let x : ℕ = first_of_ranges the_taken in
      let two = cut x n v.spare in
      let out : 1 + in_ranges x (drop_numbers 1 the_taken) ≡ in_ranges x the_taken = subst (λ b. (if b then 1 else 0) + in_ranges x (drop_numbers 1 the_taken) ≡ in_ranges x the_taken) (eq-eqb x x refl) (first_out x the_taken taken_some) in
      omega (arith, two, out)

  pub right_size : number_count (split_right n v) ≡ n
  right_size = let c = taken_count n v.spare enough in let a = cut_count 1 the_taken in let b = taken_count 1 the_taken taken_some in omega (arith, a, b, c)

  pub left_size : number_count (split_left n v) + n ≡ number_count v
  left_size = let a = cut_count n v.spare in let c = taken_count n v.spare enough in omega (arith, a, c)

  pub splits : {K : Type 0} (Trusted : PlainSession → Type 0) (Keeps : PlainSession → List Item → List Item → Bool → KeptSession K → Type 0) (id : ℕ) → Splits (Locks Trusted Keeps) id v (split_left n v) (split_right n v)
  splits {K} Trusted Keeps id s (history, pending, lost, k) at =
      let l : Knowledge = split_left n v in
      let r : Knowledge = split_right n v in
      let first : ℕ = first_of_ranges the_taken in
      let both : (f : Knowledge → ℕ) → views_total f (set s.views id l ++ r ∷ []) + f v ≡ views_total f s.views + (f l + f r) = λ f. (let a = total_set f s.views id v l at in let b = total_snoc f (set s.views id l) r in omega (arith, a, b)) in
      let caller_is : 0 < length v.callers = some_of v.callers (λ e. (let t = k.spent id v at e in let gone : count_of v.spare ≡ 0 = ap count_of t.0 in omega (arith, gone, n_some, enough))) in
      let unused : views_total (calls_as first) s.views ≡ 0 = no_caller Trusted Keeps history pending lost s k id v first at first_is_spare in (
        history,
        pending,
        lost,
        record {
          opening = k.opening;
          opened = every_snoc (KnowsOpening k.opening) (set s.views id l) r (every_set (KnowsOpening k.opening) s.views id l k.opened (k.opened id v at)) (λ _. k.opened id v at caller_is);
          next = k.next;
          serving = k.serving;
          words = k.words;
          room = k.room;
          order = k.order;
          count = (let few = k.count in let a = both is_holding in omega (arith, few, a));
          tickets = λ t. (let a = both (has_ticket t) in let b = k.tickets t in omega (arith, a, b));
          numbers = λ x. (let a = both (holds_number x) in let b = same_numbers x in let c = k.numbers x in omega (arith, a, b, c));
          whole = (let a = both number_count in let b = k.whole in omega (arith, a, b, right_size, left_size));
          seen = every_snoc (λ u. Saw u.callers u.seen history) (set s.views id l) r (every_set (λ u. Saw u.callers u.seen history) s.views id l k.seen (k.seen id v at)) (saw_new first v.callers v.seen history (k.seen id v at) (k.called first unused));
          parts = every_snoc (PartsFit history) (set s.views id l) r (every_set (PartsFit history) s.views id l k.parts (k.parts id v at)) (part_none history r no_part refl, part_none history r no_part refl);
          told = (let t = told_set history s.views id v l at refl (λ e. e) k.told in (t.0, t.1, at_longer (set s.views id l) (r ∷ []) t.0 t.1 t.2, t.3, t.4));
          called = λ x none_of. k.called x (let a = both (calls_as x) in omega (arith, a, none_of));
          turn = every_snoc (HoldsInTurn k.serving history pending lost) (set s.views id l) r
              (every_set (HoldsInTurn k.serving history pending lost) s.views id l k.turn
              (λ f. (let t = k.turn id v at f in record { ticket = t.ticket; caller = t.caller; seen = t.seen; pending_is = t.pending_is; lost_is = t.lost_is }))) (λ f. absurd cc);
          spent = every_snoc SpentHoldsNothing (set s.views id l) r (every_set SpentHoldsNothing s.views id l k.spent (λ e. (let t = k.spent id v at e in let gone : count_of v.spare ≡ 0 = ap count_of t.0 in absurd (omega (arith, gone, n_some, enough)))))
              (has_callers r (omega arith));
          hopes = every_snoc (λ u. MayHope history pending lost u.hopes) (set s.views id l) r (every_set (λ u. MayHope history pending lost u.hopes) s.views id l k.hopes (k.hopes id v at)) tt;
          waits = (let most = k.waits in let a = both is_hoping in omega (arith, most, a));
          trusted = k.trusted;
          sound = k.sound;
          well = k.well;
          home = λ nobody. k.home (let a = both is_holding in omega (arith, a, nobody));
          away = λ one. k.away (let a = both is_holding in omega (arith, a, one));
        },
      )

longer_fits : (b : Bool) (xs ys history : List Item) (cs ds : List ℕ) → leb (length xs) (length ys) ≡ b → Saw cs xs history → Saw ds ys history → Saw (cs ++ ds) (if b then ys else xs) history
longer_fits true xs ys history cs ds is p q = (q.0, q.1, neither cs ds q.0 (saw_rest cs ds xs ys history p q (leb-true (length xs) (length ys) is)) q.2)
longer_fits false xs ys history cs ds is p q =
    let lt = leb-false (length xs) (length ys) is in (p.0, p.1, neither cs ds p.0 p.2 (saw_rest ds cs ys xs history q p (omega (arith, lt))))

longer_left : (b : Bool) (xs ys : List Item) → leb (length xs) (length ys) ≡ b → length xs ≤ length (if b then ys else xs)
longer_left true xs ys is = leb-true (length xs) (length ys) is
longer_left false xs ys is = omega arith

longer_right : (b : Bool) (xs ys : List Item) → leb (length xs) (length ys) ≡ b → length ys ≤ length (if b then ys else xs)
longer_right true xs ys is = omega arith
longer_right false xs ys is = let lt = leb-false (length xs) (length ys) is in omega (arith, lt)

longer_is_left : (b : Bool) (xs ys history : List Item) (ds : List ℕ) → leb (length xs) (length ys) ≡ b → xs ≡ history → Saw ds ys history → (if b then ys else xs) ≡ history
longer_is_left true xs ys history ds is e q = let le = leb-true (length xs) (length ys) is in let len : length xs ≡ length history = ap length e in saw_whole ds ys history q (omega (arith, le, len))
longer_is_left false xs ys history ds is e q = e

longer_is_right : (b : Bool) (xs ys history : List Item) (cs : List ℕ) → leb (length xs) (length ys) ≡ b → ys ≡ history → Saw cs xs history → (if b then ys else xs) ≡ history
longer_is_right true xs ys history cs is e p = e
longer_is_right false xs ys history cs is e p =
    let lt = leb-false (length xs) (length ys) is in let len : length ys ≡ length history = ap length e in let most = saw_length cs xs history p in absurd (omega (arith, lt, len, most))

told_merge : (history : List Item) (views : List Knowledge) (id other : ℕ) (v w : Knowledge) → get_elem? views id ≡ some v → get_elem? views other ≡ some w → ¬ (other ≡ id) → Saw v.callers v.seen history → Saw w.callers w.seen history
    → 0 < length v.callers → IsSeenWhole history views → IsSeenWhole history (set (set views id (join_left v w)) other join_right)
told_merge history views id other v w at atw ne saw saw' caller_is told =
    let m : Knowledge = join_left v w in
    let j : ℕ = told.0 in
    let here : get_elem? (set (set views id m) other join_right) id ≡ some m = set_other (set views id m) other id m join_right (λ e. ne (sym e)) (set_at views id v m at) in
    let some_caller : 0 < length m.callers = (let a = length-append v.callers w.callers in omega (arith, a, caller_is)) in
    dite (ℕ_discrete j id)
    (λ is. let same : told.1 ≡ v = some-injective told.1 v (sym told.2 ∙ (ap (λ (n : ℕ). get_elem? views n) is ∙ at)) in
    (id, m, here, longer_is_left (leb (length v.seen) (length w.seen)) v.seen w.seen history w.callers refl (ap (λ (u : Knowledge). u.seen) (sym same) ∙ told.3) saw', some_caller))
    (λ not_id. dite (ℕ_discrete j other)
    (λ is. let same : told.1 ≡ w = some-injective told.1 w (sym told.2 ∙ (ap (λ (n : ℕ). get_elem? views n) is ∙ atw)) in
    (id, m, here, longer_is_right (leb (length v.seen) (length w.seen)) v.seen w.seen history v.callers refl (ap (λ (u : Knowledge). u.seen) (sym same) ∙ told.3) saw, some_caller))
    (λ not_other. (j, told.1, set_other (set views id m) other j told.1 join_right not_other (set_other views id j told.1 m not_id told.2), told.3, told.4)))

-- sums where one view takes in another
total_join : (f : Knowledge → ℕ) (views : List Knowledge) (id other : ℕ) (v w both gone : Knowledge) → get_elem? views id ≡ some v → get_elem? (set views id both) other ≡ some w → f both + f gone ≡ f v + f w
    → views_total f (set (set views id both) other gone) ≡ views_total f views
total_join f views id other v w both gone at also same = let a = total_set f views id v both at in let b = total_set f (set views id both) other w gone also in omega (arith, a, b, same)

pub merges : {K : Type 0} (Trusted : PlainSession → Type 0) (Keeps : PlainSession → List Item → List Item → Bool → KeptSession K → Type 0) (id other : ℕ) (v w : Knowledge) → v.ticket ≡ None → v.holding ≡ false → w.ticket ≡ None → w.holding ≡ false → w.hopes ≡ None → 0 < length v.callers → Joins (Locks Trusted Keeps) id v other w (join_left v w) join_right
merges {K} Trusted Keeps id other v w idle free idle' free' no_hope' caller_is s (history, pending, lost, k) at ne also =
    let m : Knowledge = join_left v w in
    let views : List Knowledge = set (set s.views id m) other join_right in
    let atw : get_elem? s.views other ≡ some w = sym (set_else s.views id other m ne) ∙ also in
    let saw = k.seen id v at in
    let saw' = k.seen other w atw in
    let fits : Saw m.callers m.seen history = longer_fits (leb (length v.seen) (length w.seen)) v.seen w.seen history v.callers w.callers refl saw saw' in
    let left = longer_left (leb (length v.seen) (length w.seen)) v.seen w.seen refl in
    let right = longer_right (leb (length v.seen) (length w.seen)) v.seen w.seen refl in
    let join : (f : Knowledge → ℕ) → f m + f join_right ≡ f v + f w → views_total f views ≡ views_total f s.views = λ f same. total_join f s.views id other v w m join_right at also same in
    let same_holding : views_total is_holding views ≡ views_total is_holding s.views = join is_holding (let a : is_holding w ≡ 0 = ap one_if free' in omega (arith, a)) in
    let some_caller : 0 < length m.callers = (let a = length-append v.callers w.callers in omega (arith, a, caller_is)) in
    let every : (P : Knowledge → Type 0) → Every P s.views → P m → P join_right → Every P views = λ P h p q. every_set P (set s.views id m) other join_right (every_set P s.views id m h p) q in (
      history,
      pending,
      lost,
      record {
        opening = k.opening;
        opened = every (KnowsOpening k.opening) k.opened (λ _. k.opened id v at caller_is) (λ none_of. absurd (omega (arith, none_of)));
        next = k.next;
        serving = k.serving;
        words = k.words;
        room = k.room;
        order = k.order;
        count = (let few = k.count in omega (arith, few, same_holding));
        tickets = λ t. join (has_ticket t) (let a : has_ticket t w ≡ 0 = ap (is_ticket t) idle' in omega (arith, a)) ∙ k.tickets t;
        numbers = λ n. join (holds_number n) (let a = times_append n v.callers w.callers in let b = in_ranges_append n v.spare w.spare in omega (arith, a, b)) ∙ k.numbers n;
        whole = join number_count (let a = length-append v.callers w.callers in let b = count_append v.spare w.spare in omega (arith, a, b)) ∙ k.whole;
        seen = every (λ u. Saw u.callers u.seen history) k.seen fits (saw_nothing history);
        parts = every (PartsFit history) k.parts (
          (saw, left, λ n e. (let a = times_append n v.callers w.callers in omega (arith, a, e))),
          (saw', right, λ n e. (let a = times_append n v.callers w.callers in omega (arith, a, e))),
        )
            (part_none history join_right no_part refl, part_none history join_right no_part refl);
        told = told_merge history s.views id other v w at atw ne saw saw' caller_is k.told;
        called = λ n none_of. k.called n (sym (join (calls_as n) (let a = times_append n v.callers w.callers in omega (arith, a))) ∙ none_of);
        turn = every (HoldsInTurn k.serving history pending lost) k.turn (λ h. absurd (let e : true ≡ false = sym h ∙ free in cc (e))) (λ h. absurd (cc (h)));
        spent = every SpentHoldsNothing k.spent (has_callers m some_caller) (λ _. (refl, refl, refl, refl));
        hopes = every (λ u. MayHope history pending lost u.hopes) k.hopes (k.hopes id v at) tt;
        waits = (let most = k.waits in let same = join is_hoping (let a : is_hoping w ≡ 0 = ap one_if_some no_hope' in omega (arith, a)) in omega (arith, most, same));
        trusted = k.trusted;
        sound = k.sound;
        well = k.well;
        home = λ nobody. k.home (sym same_holding ∙ nobody);
        away = λ one. k.away (sym same_holding ∙ one);
      },
    )
