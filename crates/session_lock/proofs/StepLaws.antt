-- Each step keeps the rule.
use Rattle.std.proofs.Common.{◌≡◌, ◌⊎◌, inl, inr, ℕ, zero, suc, ◌+◌, ◌%◌, ◌^◌, ◌≤◌, ◌<◌, ◌≢◌, Bool, true, false, eqb, List, [], ◌∷◌, ◌++◌, drop, length, if◌then◌else◌, get_or, set, Option, Some, None, sym, refl, ap, ◌∙◌, subst, arith, eq-eqb, ne_eqb, length-append, append_assoc}
use Rattle.std.proofs.lemmas.Bool.Decides.{nat_tests}
use mathlib.Core.Logic.{dite}
use mathlib.Core.Option.{some, none, some-injective, some-ne-none}
use native.Mathlib.Decide.{ℕ_discrete}
use lib.ListN.{get_elem?}
use prog.Atomic.{either}
use Rattle.atomic_table.specs.Table.{State, step, keeps, takes, gives, stepped, Allows}
use Rattle.atomic_table.proofs.Lists.{set_again}
use Rattle.reflector_core.specs.PlainSession.{PlainSession, IsSoundSession}
use Rattle.session_lock.specs.declared.knowledge.Item.{Item}
use Rattle.session_lock.specs.declared.knowledge.Part.{Part}
use Rattle.session_lock.specs.declared.knowledge.Knowledge.{Knowledge}
use Rattle.session_lock.specs.declared.held.KeptSession.{KeptSession}
use Rattle.session_lock.specs.History.{caller_of, after_item, play_from, has, calls_of, Begins, GoesWell, GoesWellWith, Saw, IsSoundThrough}
use Rattle.session_lock.specs.Numbers.{times, in_ranges, count_of, one_between}
use Rattle.session_lock.specs.declared.knowledge.Hope.{Hope}
use Rattle.session_lock.specs.Rules.{all_numbers, views_total, is_ticket, has_ticket, one_if, one_if_some, is_holding, is_hoping, calls_as, holds_number, number_count, HoldsNow, HoldsOnce, HoldsInTurn, MayHope, SpentHoldsNothing, PartFits, PartsFit, KnowsOpening, IsSeenWhole, IsHome, IsInOrder, Locks, no_part}
use Rattle.session_lock.specs.Steps.{Unused, Settles, M, with_ticket, with_turn, with_seen_item, with_rest, with_hope, with_loss, Draws, Looks, Commits, IsNext, MayCommit, MayRelease, MayPutOff, Releases, PutsOff, Loses, CountsHistory}
use Rattle.std.proofs.lemmas.List.{append-nil}
use Rattle.session_lock.proofs.Totals.{total_set, total_same, total_has, total_two, total_none, total_only, every_set, every_set_else}
use Rattle.session_lock.proofs.Histories.{play_snoc, play_from_append, sound_more, calls_append, saw_all, saw_more, saw_length, saw_nothing, saw_between, nothing_first, has_times}

abbrev St : Type 0 → Type 0
St K = State (KeptSession K) Knowledge

-- tests and counts
between_more : (low next t : ℕ) → low ≤ next → one_between low next t + (if eqb t next then 1 else 0) ≡ one_between low (next + 1) t
between_more low next t le = grind (arith, nat_tests)

between_less : (low next t : ℕ) → low < next → one_between (low + 1) next t + (if eqb t low then 1 else 0) ≡ one_between low next t
between_less low next t lt = grind (arith, nat_tests)

between_in : (low next t : ℕ) → 0 < one_between low next t → (low ≤ t) × (t < next)
between_in low next t h = grind (arith, nat_tests)

pub between_most : (low next t : ℕ) → one_between low next t ≤ 1
between_most low next t = grind (arith, nat_tests)

its_ticket : (t : ℕ) → is_ticket t (Some t) ≡ 1
its_ticket t = rw (eq-eqb t t refl) refl

-- a view in the place of another
pub set_at : {A : Type 0} (l : List A) (i : ℕ) (v w : A) → get_elem? l i ≡ some v → get_elem? (set l i w) i ≡ some w
set_at [] i v w e = absurd (some-ne-none v (sym e))
set_at (x ∷ xs) zero v w e = refl
set_at (x ∷ xs) (suc i) v w e = set_at xs i v w e

pub set_other : {A : Type 0} (l : List A) (i j : ℕ) (v w : A) → j ≢ i → get_elem? l j ≡ some v → get_elem? (set l i w) j ≡ some v
set_other [] i j v w n e = e
set_other (x ∷ xs) zero zero v w n e = absurd (n refl)
set_other (x ∷ xs) zero (suc j) v w n e = e
set_other (x ∷ xs) (suc i) zero v w n e = e
set_other (x ∷ xs) (suc i) (suc j) v w n e = set_other xs i j v w (λ p. n (ap suc p)) e

pub told_set : (history : List Item) (views : List Knowledge) (i : ℕ) (v w : Knowledge) → get_elem? views i ≡ some v → w.callers ≡ v.callers → (v.seen ≡ history → w.seen ≡ history)
    → IsSeenWhole history views → IsSeenWhole history (set views i w)
told_set history views i v w at callers seen told = let j : ℕ = told.0 in dite (ℕ_discrete j i)
    (λ here. let same : told.1 ≡ v = some-injective told.1 v (sym told.2 ∙ (ap (λ (k : ℕ). get_elem? views k) here ∙ at)) in (i, w, set_at views i v w at, seen (ap (λ (u : Knowledge). u.seen) (sym same) ∙ told.3), subst (λ (l : List ℕ). 0 < length l) (ap (λ (u : Knowledge). u.callers) same ∙ sym callers) told.4))
    (λ other. (j, told.1, set_other views i j told.1 w other told.2, told.3, told.4))

-- what was known before a merge, in a history that was seen whole, or that has one item of another caller more
parts_seen : (history : List Item) (v : Knowledge) → PartsFit history v → PartsFit history (record v { seen = history })
parts_seen history v p = ((p.0.0, saw_length v.kept.callers v.kept.seen history p.0.0, p.0.2), (p.1.0, saw_length v.other.callers v.other.seen history p.1.0, p.1.2))

part_more : (history : List Item) (x : Item) (u : Knowledge) (p : Part) → PartFits history u p → times (caller_of x) u.callers ≡ 0 → PartFits (history ++ x ∷ []) u p
part_more history x u p fits none_of = (saw_more p.callers p.seen history x fits.0 (has_times (caller_of x) p.callers (fits.2 (caller_of x) none_of)), fits.1, fits.2)

pub part_none : (history : List Item) (w : Knowledge) (p : Part) → p ≡ no_part → PartFits history w p
part_none history w p is = subst (λ (q : Part). PartFits history w q) (sym is) (saw_nothing history, omega arith, λ n e. refl)

-- the same of a view with the same callers that has seen the same
part_same : (history : List Item) (v w : Knowledge) (p q : Part) → p ≡ q → v.seen ≡ w.seen → ((n : ℕ) → times n w.callers ≡ times n v.callers) → PartFits history v p → PartFits history w q
part_same history v w p q part seen callers fits =
    subst (λ (z : Part). PartFits history w z) part
    (fits.0, subst (λ (l : List Item). length p.seen ≤ length l) seen fits.1, λ n none_of. fits.2 n (sym (callers n) ∙ none_of))

-- a view with a caller is not spent
pub has_callers : (w : Knowledge) → 0 < length w.callers → SpentHoldsNothing w
has_callers w caller_is e = let none_of : length w.callers ≡ 0 = ap length e in absurd (omega (arith, caller_is, none_of))

-- ---- what is pending

-- the session goes well where the trust allows more
pub well_told : (P Q : PlainSession → Type 0) → ((s : PlainSession) → P s → Q s) → (s : PlainSession) (xs : List Item) → GoesWell P s xs → GoesWell Q s xs
well_told P Q tells s [] well = (well.0, tells s well.1)
well_told P Q tells s (x ∷ xs) well = ((well.0.0, tells s well.0.1), well_told P Q tells (after_item s x) xs well.1)

pub well_first : (P : PlainSession → Type 0) (s : PlainSession) (xs : List Item) → GoesWell P s xs → IsSoundSession s × P s
well_first P s [] well = well
well_first P s (x ∷ xs) well = well.0

pub well_last : (P : PlainSession → Type 0) (s : PlainSession) (xs : List Item) → GoesWell P s xs → IsSoundSession (play_from s xs) × P (play_from s xs)
well_last P s [] well = well
well_last P s (x ∷ xs) well = well_last P (after_item s x) xs well.1

-- with one item more behind all
pub well_more : (P : PlainSession → Type 0) (s : PlainSession) (xs : List Item) (x : Item) → GoesWell P s xs → GoesWellWith P (play_from s xs) x → GoesWell P s (xs ++ x ∷ [])
well_more P s [] x well with_it = (well, (with_it.0, with_it.1 well.0 well.1))
well_more P s (y ∷ ys) x well with_it = (well.0, well_more P (after_item s y) ys x well.1 with_it)

begins_more : (xs ys more zs : List Item) → ys ++ more ≡ zs → Begins xs ys → Begins xs zs
begins_more xs ys more zs e b = (b.0 ++ more, sym (append_assoc xs b.0 more) ∙ ap (λ (l : List Item). l ++ more) b.1 ∙ e)

-- what is waited for comes still where more is pending, or has come
hope_more : (history pending history' pending' more : List Item) (lost : Bool) (hope : Option Hope) → (history ++ pending) ++ more ≡ history' ++ pending' → MayHope history pending lost hope → MayHope history' pending' lost hope
hope_more history pending history' pending' more lost None e h = tt
hope_more history pending history' pending' more lost (Some hope) e (inl gone) = inl gone
hope_more history pending history' pending' more lost (Some hope) e (inr begins) = inr (begins_more (hope.history ++ hope.item ∷ []) (history ++ pending) more (history' ++ pending') e begins)

pub hope_gone : (history pending : List Item) (hope : Option Hope) → MayHope history pending true hope
hope_gone history pending None = tt
hope_gone history pending (Some hope) = inl refl

-- the items after one of those that were pending came, or after one of none
moved : (pending : List Item) (history : List Item) (x : Item) → ((rest : List Item) × (pending ≡ x ∷ rest)) ⊎ (pending ≡ []) → (more : List Item) × ((history ++ pending) ++ more ≡ (history ++ x ∷ []) ++ drop 1 pending)
moved pending history x (inl (rest, is)) = (
  [],
  append-nil (history ++ pending) ∙ ap (λ (l : List Item). history ++ l) is ∙ sym (append_assoc history (x ∷ []) rest) ∙ ap (λ (l : List Item). (history ++ x ∷ []) ++ l) (sym (ap (drop 1) is)),
)
moved pending history x (inr is) = (
  x ∷ [],
  ap (λ (l : List Item). (history ++ l) ++ x ∷ []) is ∙ ap (λ (l : List Item). l ++ x ∷ []) (append-nil history) ∙ sym (append-nil (history ++ x ∷ [])) ∙ ap (λ (l : List Item). (history ++ x ∷ []) ++ l) (sym (ap (drop 1) is)),
)

module _ {K : Type 0} (Trusted : PlainSession → Type 0) (Keeps : PlainSession → List Item → List Item → Bool → KeptSession K → Type 0) where
  -- nothing changed
  unmoved : (s : St K) (i n id : ℕ) (c : List (ℕ × KeptSession K)) (v : Knowledge) → get_elem? s.views id ≡ some v → set s.words i n ≡ s.words → Locks Trusted Keeps s → Locks Trusted Keeps (stepped s i n id c v keeps)
  unmoved s i n id c v at words k =
      subst (λ (z : List ℕ × List Knowledge). Locks Trusted Keeps (record { words = z.0; homes = s.homes; views = z.1 })) (λ j. (sym words j, sym (set_again s.views id v at) j)) k

  -- a word that is read stays
  read_word : (history pending : List Item) (lost : Bool) (s : St K) → IsInOrder Trusted Keeps history pending lost s → (i : ℕ) → i < 3 → set s.words i (get_or s.words i 0) ≡ s.words
  read_word history pending lost s k i within = subst (λ (l : List ℕ). set l i (get_or l i 0) ≡ l) (sym k.words) (read i within)
    where
      read : (i : ℕ) → i < 3 → set (k.next ∷ k.serving ∷ length history ∷ []) i (get_or (k.next ∷ k.serving ∷ length history ∷ []) i 0) ≡ k.next ∷ k.serving ∷ length history ∷ []
      read zero lt = refl
      read (suc zero) lt = refl
      read (suc (suc zero)) lt = refl
      read (suc (suc (suc i))) lt = absurd (omega arith)

  pub draws : (slots id : ℕ) (me : M K) (old : ℕ) → me.0.ticket ≡ None → me.0.holding ≡ false → 0 < length me.0.callers → old < 18446744073709551615
      → Allows (Locks Trusted Keeps) slots id me 0 (λ n. either (eqb n old) (old + 1) n) (Draws (step slots 0 old (old + 1) none) me)
  draws slots id me old idle free caller_is fits s (history, pending, lost, k) wide at small = let x : ℕ = get_or s.words 0 0 in let is : x ≡ k.next = ap (λ (l : List ℕ). get_or l 0 0) k.words in dite (ℕ_discrete x old)
      (λ hit. let v : Knowledge = me.0 in let w : Knowledge = with_ticket v x in (
        w,
        keeps,
        tt,
        (
          history,
          pending,
          lost,
          record {
            opening = k.opening;
            opened = every_set (KnowsOpening k.opening) s.views id w k.opened (k.opened id v at);
            next = old + 1;
            serving = k.serving;
            words = subst (λ b. set s.words 0 (either b (old + 1) x) ≡ (old + 1) ∷ k.serving ∷ length history ∷ []) (sym (eq-eqb x old hit)) (ap (λ (l : List ℕ). set l 0 (old + 1)) k.words);
            room = omega arith;
            order = let o = k.order in omega arith;
            count = let c = k.count in let same = total_same is_holding s.views id v w at refl in omega (arith, c, same);
            tickets = λ t.
                let sum = total_set (has_ticket t) s.views id v w at in
                let none_yet : has_ticket t v ≡ 0 = ap (is_ticket t) idle in
                let here : has_ticket t w ≡ (if eqb t k.next then 1 else 0) = ap (λ (n : ℕ). if eqb t n then 1 else 0) is in
                let were = k.tickets t in
                let more = between_more k.serving k.next t k.order in
                let last : one_between k.serving (k.next + 1) t ≡ one_between k.serving (old + 1) t = ap (λ (n : ℕ). one_between k.serving (n + 1) t) (sym is ∙ hit) in
                omega (arith, sum, none_yet, here, were, more, last);
            numbers = λ n. total_same (holds_number n) s.views id v w at refl ∙ k.numbers n;
            whole = total_same number_count s.views id v w at refl ∙ k.whole;
            seen = every_set (λ u. Saw u.callers u.seen history) s.views id w k.seen (k.seen id v at);
            parts = every_set (PartsFit history) s.views id w k.parts (k.parts id v at);
            told = told_set history s.views id v w at refl (λ e. e) k.told;
            called = λ n none_of. k.called n (sym (total_same (calls_as n) s.views id v w at refl) ∙ none_of);
            turn = every_set (HoldsInTurn k.serving history pending lost) s.views id w k.turn (λ h. absurd (let e : true ≡ false = sym h ∙ free in cc));
            spent = every_set SpentHoldsNothing s.views id w k.spent (has_callers w caller_is);
            hopes = every_set (λ u. MayHope history pending lost u.hopes) s.views id w k.hopes (k.hopes id v at);
            waits = let c = k.waits in let same = total_same is_hoping s.views id v w at refl in omega (arith, c, same);
            trusted = k.trusted;
            sound = k.sound;
            well = k.well;
            home = λ nobody. k.home (sym (total_same is_holding s.views id v w at refl) ∙ nobody);
            away = λ one. k.away (sym (total_same is_holding s.views id v w at refl) ∙ one);
          },
        ),
        ((λ _. refl), λ not. absurd (not hit)),
      ))
      (λ miss. (
        me.0,
        keeps,
        tt,
        unmoved s 0 (either (eqb x old) (old + 1) x) id me.1 me.0 at
            (subst (λ b. set s.words 0 (either b (old + 1) x) ≡ s.words) (sym (ne_eqb x old miss)) (read_word history pending lost s k 0 (omega arith))) (history, pending, lost, k),
        ((λ hit. absurd (miss hit)), λ _. refl),
      ))

  -- no other view has this ticket
  alone : (history pending : List Item) (lost : Bool) (s : St K) (k : IsInOrder Trusted Keeps history pending lost s) (id : ℕ) (v : Knowledge) (t : ℕ) → get_elem? s.views id ≡ some v → v.ticket ≡ Some t
      → (j : ℕ) (u : Knowledge) → get_elem? s.views j ≡ some u → j ≢ id → u.ticket ≢ Some t
  alone history pending lost s k id v t at has_it j u atj ne also =
      let both = total_two (has_ticket t) s.views j id u v atj at ne in
      let one : has_ticket t v ≡ 1 = ap (is_ticket t) has_it ∙ its_ticket t in
      let two : has_ticket t u ≡ 1 = ap (is_ticket t) also ∙ its_ticket t in
      let most = between_most k.serving k.next t in
      let are = k.tickets t in
      omega (arith, both, one, two, most, are)

  pub not_holding : (b : Bool) → (b ≡ true → ⊥) → one_if b ≡ 0
  not_holding true h = absurd (h refl)
  not_holding false h = refl

  -- before the turn begins nobody holds the session
  nobody_holds : (history pending : List Item) (lost : Bool) (s : St K) (k : IsInOrder Trusted Keeps history pending lost s) (id : ℕ) (v : Knowledge) → get_elem? s.views id ≡ some v → v.ticket ≡ Some k.serving → v.holding ≡ false → views_total is_holding s.views ≡ 0
  nobody_holds history pending lost s k id v at has_it free = total_none is_holding s.views (λ j u e. dite (ℕ_discrete j id)
      (λ here. let same : u ≡ v = some-injective u v (sym e ∙ (ap (λ (n : ℕ). get_elem? s.views n) here ∙ at)) in ap one_if (ap (λ (z : Knowledge). z.holding) same ∙ free))
      (λ other. not_holding u.holding (λ holds. alone history pending lost s k id v k.serving at has_it j u e other (k.turn j u e holds).ticket)))

  -- in its turn who holds the session is the only one
  one_holds : (history pending : List Item) (lost : Bool) (s : St K) (k : IsInOrder Trusted Keeps history pending lost s) (id : ℕ) (v : Knowledge) → get_elem? s.views id ≡ some v → v.holding ≡ true → (views_total is_holding s.views ≡ 1) × (is_holding v ≡ 1)
  one_holds history pending lost s k id v at holds =
      let has_it : v.ticket ≡ Some k.serving = (k.turn id v at holds).ticket in
      let one : is_holding v ≡ 1 = ap one_if holds in
      (total_only is_holding s.views id v at (λ j u atj other. not_holding u.holding (λ also. alone history pending lost s k id v k.serving at has_it j u atj other (k.turn j u atj also).ticket)) ∙ one, one)

  pub looks : (Told : PlainSession → Type 0) → ((s : PlainSession) → Trusted s → Told s) → (ToldKeeps : PlainSession → List Item → List Item → Bool → KeptSession K → Type 0) → ((o : PlainSession) (h p : List Item) (l : Bool) (k : KeptSession K) → Keeps o h p l k → ToldKeeps o h p l k) → (slots id : ℕ) (v : Knowledge) (t : ℕ) → v.ticket ≡ Some t → v.holding ≡ false → 0 < length v.callers → Allows (Locks Trusted Keeps) slots id (v, []) 1 (λ n. n) (Looks Told ToldKeeps (step slots 1 0 0 none) (v, []))
  looks Told tells ToldKeeps tells_keeps slots id v t has_it free caller_is s (history, pending, lost, k) wide at small = let x : ℕ = get_or s.words 1 0 in let is : x ≡ k.serving = ap (λ (l : List ℕ). get_or l 1 0) k.words in
      let same_words : set s.words 1 x ≡ s.words = read_word history pending lost s k 1 (omega arith) in
      dite (ℕ_discrete x t)
      (λ hit. let w : Knowledge = with_turn v history pending lost in let served : v.ticket ≡ Some k.serving = has_it ∙ ap (λ (n : ℕ). Some n) (sym hit ∙ is) in
      let nobody : views_total is_holding s.views ≡ 0 = nobody_holds history pending lost s k id v at served free in
      let same : k.opening ≡ v.opening = sym (k.opened id v at caller_is) in
      let home : IsHome Keeps v.opening history pending lost s.homes = subst (λ (o : PlainSession). IsHome Keeps o history pending lost s.homes) same (k.home nobody) in
      let well : (Told (play_from v.opening history) × IsSoundThrough v.opening history) × GoesWell Told (play_from v.opening history) pending =
      subst (λ (o : PlainSession). (Told (play_from o history) × IsSoundThrough o history) × GoesWell Told (play_from o history) pending) same ((tells (play_from k.opening history) k.trusted, k.sound), well_told Trusted Told tells (play_from k.opening history) pending k.well) in
      let sum = total_set is_holding s.views id v w at in
      let was : is_holding v ≡ 0 = ap one_if free in (
        w,
        takes 0 home.there,
        ap (λ (l : List (mathlib.Core.Option.Option (KeptSession K))). get_elem? l 0) home.at,
        (
          history,
          pending,
          lost,
          record {
            opening = k.opening;
            opened = every_set (KnowsOpening k.opening) s.views id w k.opened (k.opened id v at);
            next = k.next;
            serving = k.serving;
            words = same_words ∙ k.words;
            room = k.room;
            order = k.order;
            count = let c = k.count in omega (arith, c, sum, was);
            tickets = λ n. total_same (has_ticket n) s.views id v w at refl ∙ k.tickets n;
            numbers = λ n. total_same (holds_number n) s.views id v w at refl ∙ k.numbers n;
            whole = total_same number_count s.views id v w at refl ∙ k.whole;
            seen = every_set (λ u. Saw u.callers u.seen history) s.views id w k.seen (saw_all v.callers history);
            parts = every_set (PartsFit history) s.views id w k.parts (parts_seen history v (k.parts id v at));
            told = told_set history s.views id v w at refl (λ e. refl) k.told;
            called = λ n none_of. k.called n (sym (total_same (calls_as n) s.views id v w at refl) ∙ none_of);
            turn = every_set (HoldsInTurn k.serving history pending lost) s.views id w k.turn (λ _. record { ticket = served; caller = caller_is; seen = refl; pending_is = refl; lost_is = refl });
            spent = every_set SpentHoldsNothing s.views id w k.spent (has_callers w caller_is);
            hopes = every_set (λ u. MayHope history pending lost u.hopes) s.views id w k.hopes (k.hopes id v at);
            waits = let c = k.waits in let same_hopes = total_same is_hoping s.views id v w at refl in omega (arith, c, same_hopes);
            trusted = k.trusted;
            sound = k.sound;
            well = k.well;
            home = λ none_holds. let one = total_has is_holding (set s.views id w) id w (set_at s.views id v w at) in absurd (omega (arith, one, none_holds));
            away = λ _. ap (λ (l : List (mathlib.Core.Option.Option (KeptSession K))). set l 0 none) home.at;
          },
        ),
        (
          (λ _. record {
            history = history;
            pending = pending;
            lost = lost;
            taken = home.there;
            count = let c = k.count in omega (arith, c, nobody, is, hit);
            saw = k.seen id v at;
            is = refl;
            keeps = tells_keeps v.opening history pending lost home.there home.keeps;
            trusted = well.0.0;
            sound = well.0.1;
            well = well.1;
            hopes = k.hopes id v at;
          }),
          λ not. absurd (not (has_it ∙ ap (λ (n : ℕ). Some n) (sym hit))),
        ),
      ))
      (λ miss. (
        v,
        keeps,
        tt,
        unmoved s 1 x id [] v at same_words (history, pending, lost, k),
        ((λ hit. absurd (miss (let e : Some x ≡ Some t = sym hit ∙ has_it in cc))), λ _. refl),
      ))

  pub holds_own : (n : ℕ) (others : List ℕ) → 0 < times n (n ∷ others)
  holds_own n others = rw (eq-eqb n n refl) (omega arith)

  only_home : (homes : List (mathlib.Core.Option.Option (KeptSession K))) (y : KeptSession K) → length homes ≡ 1 → set homes 0 (some y) ≡ some y ∷ []
  only_home [] y e = absurd (omega arith)
  only_home (h ∷ []) y e = refl
  only_home (h ∷ (g ∷ gs)) y e = absurd (omega arith)

  -- what is known of the rule by who holds the session
  record KnowsRule (history pending : List Item) (lost : Bool) (s : St K) (v : Knowledge) : Type 0 where
    k : IsInOrder Trusted Keeps v.seen v.pending v.lost s
    opening_is : k.opening ≡ v.opening
    ticket_is : v.ticket ≡ Some k.serving
    caller_is : 0 < length v.callers

  knows_rule : (history pending : List Item) (lost : Bool) (s : St K) (k : IsInOrder Trusted Keeps history pending lost s) (id : ℕ) (v : Knowledge) → get_elem? s.views id ≡ some v → v.holding ≡ true → KnowsRule history pending lost s v
  knows_rule history pending lost s k id v at holding =
      let now : HoldsNow k.serving history pending lost v = k.turn id v at holding in
      let k' : IsInOrder Trusted Keeps v.seen v.pending v.lost s = subst (λ (z : (List Item × List Item) × Bool). IsInOrder Trusted Keeps z.0.0 z.0.1 z.1 s) (λ i. ((sym now.seen i, sym now.pending_is i), sym now.lost_is i)) k in
      let now' : HoldsNow k'.serving v.seen v.pending v.lost v = k'.turn id v at holding in
      record { k = k'; opening_is = sym (k'.opened id v at now'.caller); ticket_is = now'.ticket; caller_is = now'.caller }

  -- what comes of the session with the next item
  next_well : (v : Knowledge) (x : Item) → GoesWell Trusted (play_from v.opening v.seen) v.pending → IsNext Trusted v x → (IsSoundSession (after_item (play_from v.opening v.seen) x) × Trusted (after_item (play_from v.opening v.seen) x)) × GoesWell Trusted (after_item (play_from v.opening v.seen) x) (drop 1 v.pending)
  next_well v x well (inl (rest, is)) =
      let s : PlainSession = play_from v.opening v.seen in
      let on : GoesWell Trusted (after_item s x) rest = (subst (GoesWell Trusted s) is well).1 in
      (well_first Trusted (after_item s x) rest on, subst (GoesWell Trusted (after_item s x)) (sym (ap (drop 1) is)) on)
  next_well v x well (inr (is, with_it)) =
      let s : PlainSession = play_from v.opening v.seen in
      let first = well_first Trusted s v.pending well in
      let now : IsSoundSession (after_item s x) × Trusted (after_item s x) = (with_it.0, with_it.1 first.0 first.1) in
      (now, subst (GoesWell Trusted (after_item s x)) (sym (ap (drop 1) is)) now)

  next_is : (v : Knowledge) (x : Item) → IsNext Trusted v x → ((rest : List Item) × (v.pending ≡ x ∷ rest)) ⊎ (v.pending ≡ [])
  next_is v x (inl first) = inl first
  next_is v x (inr none_is) = inr none_is.0

  -- so many are pending then, and so many calls wait
  fewer : (pending : List Item) (x : Item) (hopes : Option Hope) (before after others : ℕ) → ((rest : List Item) × (pending ≡ x ∷ rest)) ⊎ (pending ≡ []) → length pending ≤ before → after + one_if_some hopes ≡ before + 0 → length (drop 1 pending) ≤ after
  fewer pending x None before after others (inl (rest, is)) most sum = let a = ap length is in let b = ap (λ (l : List Item). length (drop 1 l)) is in omega (arith, a, b, most, sum)
  fewer pending x (Some hope) before after others (inl (rest, is)) most sum = let a = ap length is in let b = ap (λ (l : List Item). length (drop 1 l)) is in omega (arith, a, b, most, sum)
  fewer pending x hopes before after others (inr is) most sum = let b = ap (λ (l : List Item). length (drop 1 l)) is in omega (arith, b)

  committed_count : (pending : List Item) (x : Item) → ((rest : List Item) × (pending ≡ x ∷ rest)) ⊎ (pending ≡ []) → (before after serving holding : ℕ) → after ≡ before + 1 → before + length pending ≤ serving → holding ≡ 1 → after + length (drop 1 pending) ≤ serving + holding
  committed_count pending x (inl (rest, is)) before after serving holding more most one = let a = ap length is in let b = ap (λ (l : List Item). length (drop 1 l)) is in omega (arith, a, b, more, most, one)
  committed_count pending x (inr is) before after serving holding more most one = let b = ap (λ (l : List Item). length (drop 1 l)) is in omega (arith, b, more, most, one)

  pub commits : (Told : PlainSession → Type 0) → ((s : PlainSession) → Trusted s → Told s) → (slots id : ℕ) (v : Knowledge) (carried : List (ℕ × KeptSession K)) (item : ℕ → Item) → (may : MayCommit Trusted v item) → caller_of (item may.caller) ≡ may.caller
      → Allows (Locks Trusted Keeps) slots id (v, carried) 2 (λ n. (n + 1) % 2 ^ 64) (Commits Told item (step slots 2 1 0 none) (v, carried))
  commits Told tells slots id v carried item may by s (history, pending, lost, k₀) wide at small =
      let rule = knows_rule history pending lost s k₀ id v at may.holding in
      let h : List Item = v.seen in
      let k : IsInOrder Trusted Keeps h v.pending v.lost s = rule.k in
      let c : ℕ = may.caller in
      let x : Item = item c in
      let w : Knowledge = with_seen_item v x in
      let o : PlainSession = v.opening in
      let which = next_is v x may.next in
      let now = moved v.pending h x which in
      let turn_is : may.turn ≡ k.serving = (let e : Some may.turn ≡ Some k.serving = sym may.ticket ∙ rule.ticket_is in cc) in
      let well : (IsSoundThrough o h × GoesWell Trusted (play_from o h) v.pending) = subst (λ (p : PlainSession). IsSoundThrough p h × GoesWell Trusted (play_from p h) v.pending) rule.opening_is (k.sound, k.well) in
      let after = next_well v x well.1 may.next in
      let trusted_now : Trusted (play_from o (h ++ x ∷ [])) = subst Trusted (sym (play_snoc o h x)) after.0.1 in
      let sound_now : IsSoundThrough o (h ++ x ∷ []) = sound_more o h x well.0 after.0.0 in
      let mine_once : 0 < times c v.callers = subst (λ (l : List ℕ). 0 < times c l) (sym may.mine) (holds_own c may.others) in
      let long : length (h ++ x ∷ []) ≡ length h + 1 = length-append h (x ∷ []) in
      let own_ticket : has_ticket k.serving v ≡ 1 = ap (is_ticket k.serving) rule.ticket_is ∙ its_ticket k.serving in
      let below = (between_in k.serving k.next k.serving (let one = total_has (has_ticket k.serving) s.views id v at in let is = k.tickets k.serving in omega (arith, one, is, own_ticket))).1 in
      let room = k.room in
      let word : (get_or s.words 2 0 + 1) % 2 ^ 64 ≡ length (h ++ x ∷ []) = let is : get_or s.words 2 0 ≡ length h = ap (λ (l : List ℕ). get_or l 2 0) k.words in let few = may.count in omega (arith, is, long, few, turn_is, below, room) in
      let away : (j : ℕ) (u : Knowledge) → j ≢ id → get_elem? s.views j ≡ some u → times (caller_of x) u.callers ≡ 0 = λ j u ne atj.
      (let both = total_two (holds_number c) s.views j id u v atj at ne in let most = between_most 0 all_numbers c in let are = k.numbers c in
      ap (λ (n : ℕ). times n u.callers) by ∙ omega (arith, both, most, are, mine_once)) in
      let holding_now = one_holds h v.pending v.lost s k id v at may.holding in
      let same_holding = total_same is_holding s.views id v w at refl in (
        w,
        keeps,
        tt,
        (
          h ++ x ∷ [],
          drop 1 v.pending,
          v.lost,
          record {
            opening = o;
            opened = every_set (KnowsOpening o) s.views id w (λ j u e some_of. k.opened j u e some_of ∙ rule.opening_is) (λ _. refl);
            next = k.next;
            serving = k.serving;
            words = ap (λ (n : ℕ). set s.words 2 n) word ∙ ap (λ (l : List ℕ). set l 2 (length (h ++ x ∷ []))) k.words;
            room = room;
            order = k.order;
            count = (let few = may.count in let one = holding_now.0 in committed_count v.pending x which (length h) (length (h ++ x ∷ [])) k.serving (views_total is_holding (set s.views id w)) long (omega (arith, few, turn_is)) (same_holding ∙ one));
            tickets = λ t. total_same (has_ticket t) s.views id v w at refl ∙ k.tickets t;
            numbers = λ n. total_same (holds_number n) s.views id v w at refl ∙ k.numbers n;
            whole = total_same number_count s.views id v w at refl ∙ k.whole;
            seen = every_set_else (λ u. Saw u.callers u.seen h) (λ u. Saw u.callers u.seen (h ++ x ∷ [])) s.views id w
                (λ j u ne atj saw. saw_more u.callers u.seen h x saw (has_times (caller_of x) u.callers (away j u ne atj)))
                k.seen (saw_all v.callers (h ++ x ∷ []));
            parts = every_set_else (PartsFit h) (PartsFit (h ++ x ∷ [])) s.views id w
                (λ j u ne atj fits. (
                  part_more h x u u.kept fits.0 (away j u ne atj),
                  part_more h x u u.other fits.1 (away j u ne atj),
                ))
                k.parts (part_none (h ++ x ∷ []) w v.kept may.kept, part_none (h ++ x ∷ []) w v.other may.other);
            told = (id, w, set_at s.views id v w at, refl, rule.caller_is);
            called = λ n none_of.
                let all_none : views_total (calls_as n) s.views ≡ 0 = sym (total_same (calls_as n) s.views id v w at refl) ∙ none_of in
                let mine_none = total_has (calls_as n) s.views id v at in
                let ne : c ≢ n = λ e. (let one : 0 < times n v.callers = subst (λ (m : ℕ). 0 < times m v.callers) e mine_once in omega (arith, mine_none, one, all_none)) in
                let other : has (caller_of x) (n ∷ []) ≡ false = ap (λ (m : ℕ). has m (n ∷ [])) by ∙ rw (ne_eqb c n ne) refl in
                calls_append (n ∷ []) h (x ∷ []) ∙ (ap (λ (l : List Item). l ++ calls_of (n ∷ []) (x ∷ [])) (k.called n all_none) ∙ ap (λ (b : Bool). if b then x ∷ [] else []) other);
            turn = every_set_else (HoldsInTurn k.serving h v.pending v.lost) (HoldsInTurn k.serving (h ++ x ∷ []) (drop 1 v.pending) v.lost) s.views id w
                (λ j u ne atj was holds. absurd (alone h v.pending v.lost s k id v k.serving at rule.ticket_is j u atj ne (was holds).ticket)) k.turn
                (λ _. record { ticket = rule.ticket_is; caller = rule.caller_is; seen = refl; pending_is = refl; lost_is = refl });
            spent = every_set SpentHoldsNothing s.views id w k.spent (has_callers w rule.caller_is);
            hopes = every_set_else (λ u. MayHope h v.pending v.lost u.hopes) (λ u. MayHope (h ++ x ∷ []) (drop 1 v.pending) v.lost u.hopes) s.views id w
                (λ j u ne atj hope. hope_more h v.pending (h ++ x ∷ []) (drop 1 v.pending) now.0 v.lost u.hopes now.1 hope) k.hopes tt;
            waits = (let sum = total_set is_hoping s.views id v w at in fewer v.pending x v.hopes (views_total is_hoping s.views) (views_total is_hoping (set s.views id w)) 0 which k.waits sum);
            trusted = trusted_now;
            sound = sound_now;
            well = subst (λ (p : PlainSession). GoesWell Trusted p (drop 1 v.pending)) (sym (play_snoc o h x)) after.1;
            home = λ nobody. let one = holding_now.0 in absurd (omega (arith, one, same_holding, nobody));
            away = λ one. k.away (sym same_holding ∙ one);
          },
        ),
        (c, may.others, may.mine, refl, (tells (play_from o (h ++ x ∷ [])) trusted_now, sound_now)),
      )

  -- the session is given back, with this pending behind the history, where the pass's own knowledge is otherwise the same
  gives_back : (history pending : List Item) (lost : Bool) (s : St K) (k₀ : IsInOrder Trusted Keeps history pending lost s) (id : ℕ) (v w : Knowledge) (y : KeptSession K) (more : List Item) → get_elem? s.views id ≡ some v → v.holding ≡ true → length s.homes ≡ 1
      → w.opening ≡ v.opening → w.callers ≡ v.callers → w.spare ≡ v.spare → w.seen ≡ v.seen → w.kept ≡ v.kept → w.other ≡ v.other → w.ticket ≡ None → w.holding ≡ false
      → Keeps v.opening v.seen (v.pending ++ more) v.lost y → MayHope v.seen (v.pending ++ more) v.lost w.hopes → length more + is_hoping v ≤ is_hoping w → ((t : ℕ) → v.ticket ≡ Some t → length v.seen + (length v.pending + length more) ≤ t + 1)
      → GoesWell Trusted (play_from v.opening v.seen) (v.pending ++ more)
      → Locks Trusted Keeps (stepped s 1 ((get_or s.words 1 0 + 1) % 2 ^ 64) id ((0, y) ∷ []) w gives)
  gives_back history pending lost s k₀ id v w y more at holding wide opens callers spare seen kept other no_ticket free keeps_y hope_w waits_w few well_w =
      let rule = knows_rule history pending lost s k₀ id v at holding in
      let h : List Item = v.seen in
      let p : List Item = v.pending ++ more in
      let k : IsInOrder Trusted Keeps h v.pending v.lost s = rule.k in
      let o : PlainSession = v.opening in
      let own_ticket : has_ticket k.serving v ≡ 1 = ap (is_ticket k.serving) rule.ticket_is ∙ its_ticket k.serving in
      let below = (between_in k.serving k.next k.serving (let one = total_has (has_ticket k.serving) s.views id v at in let is = k.tickets k.serving in omega (arith, one, is, own_ticket))).1 in
      let room = k.room in
      let word : (get_or s.words 1 0 + 1) % 2 ^ 64 ≡ k.serving + 1 = let is : get_or s.words 1 0 ≡ k.serving = ap (λ (l : List ℕ). get_or l 1 0) k.words in omega (arith, is, below, room) in
      let holding_now = one_holds h v.pending v.lost s k id v at holding in
      let held = total_set is_holding s.views id v w at in
      let not_held : is_holding w ≡ 0 = ap one_if free in
      let hoped = total_set is_hoping s.views id v w at in
      let long = length-append v.pending more in
      let same_callers : (n : ℕ) → times n w.callers ≡ times n v.callers = λ n. ap (times n) callers in (
        h,
        p,
        v.lost,
        record {
          opening = o;
          opened = every_set (KnowsOpening o) s.views id w (λ j u e some_of. k.opened j u e some_of ∙ rule.opening_is) (λ _. opens);
          next = k.next;
          serving = k.serving + 1;
          words = ap (λ (n : ℕ). set s.words 1 n) word ∙ ap (λ (l : List ℕ). set l 1 (k.serving + 1)) k.words;
          room = room;
          order = omega (arith, below);
          count = let f = few k.serving rule.ticket_is in omega (arith, f, long);
          tickets = λ t.
              let sum = total_set (has_ticket t) s.views id v w at in
              let mine_was : has_ticket t v ≡ (if eqb t k.serving then 1 else 0) = ap (is_ticket t) rule.ticket_is in
              let none_now : has_ticket t w ≡ 0 = ap (is_ticket t) no_ticket in
              let were = k.tickets t in
              let less = between_less k.serving k.next t below in
              omega (arith, sum, mine_was, none_now, were, less);
          numbers = λ n. total_same (holds_number n) s.views id v w at (λ i. times n (callers i) + in_ranges n (spare i)) ∙ k.numbers n;
          whole = total_same number_count s.views id v w at (λ i. length (callers i) + count_of (spare i)) ∙ k.whole;
          seen = every_set (λ u. Saw u.callers u.seen h) s.views id w k.seen (subst (λ (z : List ℕ × List Item). Saw z.0 z.1 h) (λ i. (sym callers i, sym seen i)) (k.seen id v at));
          parts = every_set (PartsFit h) s.views id w k.parts
              (let fits = k.parts id v at in (part_same h v w v.kept w.kept (sym kept) (sym seen) same_callers fits.0, part_same h v w v.other w.other (sym other) (sym seen) same_callers fits.1));
          told = told_set h s.views id v w at callers (λ e. seen ∙ e) k.told;
          called = λ n none_of. k.called n (sym (total_same (calls_as n) s.views id v w at (same_callers n)) ∙ none_of);
          turn = every_set_else (HoldsInTurn k.serving h v.pending v.lost) (HoldsInTurn (k.serving + 1) h p v.lost) s.views id w
              (λ j u ne atj was holds. absurd (alone h v.pending v.lost s k id v k.serving at rule.ticket_is j u atj ne (was holds).ticket)) k.turn (λ f. absurd (let e : true ≡ false = sym f ∙ free in cc));
          spent = every_set SpentHoldsNothing s.views id w k.spent (has_callers w (subst (λ (l : List ℕ). 0 < length l) (sym callers) rule.caller_is));
          hopes = every_set_else (λ u. MayHope h v.pending v.lost u.hopes) (λ u. MayHope h p v.lost u.hopes) s.views id w
              (λ j u ne atj hope. hope_more h v.pending h p more v.lost u.hopes (append_assoc h v.pending more) hope) k.hopes hope_w;
          waits = let c = k.waits in omega (arith, c, hoped, waits_w, long);
          trusted = subst (λ (z : PlainSession). Trusted (play_from z h)) rule.opening_is k.trusted;
          sound = subst (λ (z : PlainSession). IsSoundThrough z h) rule.opening_is k.sound;
          well = well_w;
          home = λ nobody. record { there = y; at = only_home s.homes y wide; keeps = keeps_y };
          away = λ one. let only = holding_now.0 in absurd (omega (arith, one, held, not_held, only, holding_now.1));
        },
      )

  -- nothing more is pending
  pub releases : (slots id : ℕ) (v : Knowledge) (y : KeptSession K) → slots ≡ 1 → v.holding ≡ true → Keeps v.opening v.seen v.pending v.lost y
      → Allows (Locks Trusted Keeps) slots id (v, (0, y) ∷ []) 1 (λ n. (n + 1) % 2 ^ 64) (Releases (step slots 1 1 0 none) (v, (0, y) ∷ []))
  releases slots id v y one holding keeps_y s (history, pending, lost, k) wide at small =
      let rule = knows_rule history pending lost s k id v at holding in
      let same : v.pending ++ [] ≡ v.pending = append-nil v.pending in
      let well : GoesWell Trusted (play_from v.opening v.seen) v.pending = subst (λ (o : PlainSession). GoesWell Trusted (play_from o v.seen) v.pending) rule.opening_is rule.k.well in
      let held = one_holds v.seen v.pending v.lost s rule.k id v at holding in
      let counted : (t : ℕ) → v.ticket ≡ Some t → length v.seen + (length v.pending + 0) ≤ t + 1 = λ t is.
      (let c = rule.k.count in let only = held.0 in let e : t ≡ rule.k.serving = (let f : Some t ≡ Some rule.k.serving = sym is ∙ rule.ticket_is in cc) in omega (arith, c, only, e)) in (
        with_rest v,
        gives,
        tt,
        gives_back history pending lost s k id v (with_rest v) y [] at holding (wide ∙ one) refl refl refl refl refl refl refl refl
            (subst (λ (p : List Item). Keeps v.opening v.seen p v.lost y) (sym same) keeps_y) (subst (λ (p : List Item). MayHope v.seen p v.lost v.hopes) (sym same) (rule.k.hopes id v at)) (omega arith) counted
            (subst (GoesWell Trusted (play_from v.opening v.seen)) (sym same) well),
        refl,
      )

  pub puts_off : (slots id : ℕ) (v : Knowledge) (y : KeptSession K) (item : ℕ → Item) (c : ℕ) (others : List ℕ) (turn : ℕ) → slots ≡ 1 → v.holding ≡ true → v.callers ≡ c ∷ others → v.hopes ≡ None → v.lost ≡ false → v.ticket ≡ Some turn → length v.seen + length v.pending ≤ turn
      → Keeps v.opening v.seen (v.pending ++ item c ∷ []) false y → GoesWellWith Trusted (play_from v.opening (v.seen ++ v.pending)) (item c)
      → Allows (Locks Trusted Keeps) slots id (v, (0, y) ∷ []) 1 (λ n. (n + 1) % 2 ^ 64) (PutsOff item (step slots 1 1 0 none) (v, (0, y) ∷ []))
  puts_off slots id v y item c others turn one holding mine no_hope kept_all ticket few keeps_y with_it s (history, pending, lost, k) wide at small =
      let rule = knows_rule history pending lost s k id v at holding in
      let x : Item = item c in
      let well : GoesWell Trusted (play_from v.opening v.seen) v.pending = subst (λ (o : PlainSession). GoesWell Trusted (play_from o v.seen) v.pending) rule.opening_is rule.k.well in
      let none_yet : is_hoping v ≡ 0 = ap one_if_some no_hope in
      let counted : (t : ℕ) → v.ticket ≡ Some t → length v.seen + (length v.pending + 1) ≤ t + 1 = λ t is. (let e : Some t ≡ Some turn = sym is ∙ ticket in let same : t ≡ turn = cc in omega (arith, few, same)) in (
        with_hope v x,
        gives,
        tt,
        gives_back history pending lost s k id v (with_hope v x) y (x ∷ []) at holding (wide ∙ one) refl refl refl refl refl refl refl refl
            (subst (λ (l : Bool). Keeps v.opening v.seen (v.pending ++ x ∷ []) l y) (sym kept_all) keeps_y) (inr ([], append-nil ((v.seen ++ v.pending) ++ x ∷ []) ∙ append_assoc v.seen v.pending (x ∷ []))) (omega (arith, none_yet)) counted
            (well_more Trusted (play_from v.opening v.seen) v.pending x well (subst (λ (p : PlainSession). GoesWellWith Trusted p x) (play_from_append v.opening v.seen v.pending) with_it)),
        (c, others, mine, refl),
      )

  -- what was pending is gone
  pub loses : (slots id : ℕ) (v : Knowledge) (c : List (ℕ × KeptSession K)) → v.holding ≡ true → Allows (Locks Trusted Keeps) slots id (v, c) 2 (λ n. n) (Loses (step slots 2 0 0 none) (v, c))
  loses slots id v c holding s (history, pending, lost, k₀) wide at small =
      let rule = knows_rule history pending lost s k₀ id v at holding in
      let h : List Item = v.seen in
      let k : IsInOrder Trusted Keeps h v.pending v.lost s = rule.k in
      let w : Knowledge = with_loss v in
      let same_words : set s.words 2 (get_or s.words 2 0) ≡ s.words = read_word h v.pending v.lost s k 2 (omega arith) in
      let only = one_holds h v.pending v.lost s k id v at holding in
      let same_holding = total_same is_holding s.views id v w at refl in (
        w,
        keeps,
        tt,
        (
          h,
          [],
          true,
          record {
            opening = k.opening;
            opened = every_set (KnowsOpening k.opening) s.views id w k.opened (k.opened id v at);
            next = k.next;
            serving = k.serving;
            words = same_words ∙ k.words;
            room = k.room;
            order = k.order;
            count = let few = k.count in omega (arith, few, same_holding);
            tickets = λ t. total_same (has_ticket t) s.views id v w at refl ∙ k.tickets t;
            numbers = λ n. total_same (holds_number n) s.views id v w at refl ∙ k.numbers n;
            whole = total_same number_count s.views id v w at refl ∙ k.whole;
            seen = every_set (λ u. Saw u.callers u.seen h) s.views id w k.seen (k.seen id v at);
            parts = every_set (PartsFit h) s.views id w k.parts (k.parts id v at);
            told = told_set h s.views id v w at refl (λ e. e) k.told;
            called = λ n none_of. k.called n (sym (total_same (calls_as n) s.views id v w at refl) ∙ none_of);
            turn = every_set_else (HoldsInTurn k.serving h v.pending v.lost) (HoldsInTurn k.serving h [] true) s.views id w
                (λ j u ne atj was holds. absurd (alone h v.pending v.lost s k id v k.serving at rule.ticket_is j u atj ne (was holds).ticket)) k.turn
                (λ _. record { ticket = rule.ticket_is; caller = rule.caller_is; seen = refl; pending_is = refl; lost_is = refl });
            spent = every_set SpentHoldsNothing s.views id w k.spent (has_callers w rule.caller_is);
            hopes = λ j u e. hope_gone h [] u.hopes;
            waits = omega arith;
            trusted = k.trusted;
            sound = k.sound;
            well = well_first Trusted (play_from k.opening h) v.pending k.well;
            home = λ nobody. absurd (let one = only.0 in omega (arith, one, same_holding, nobody));
            away = λ one. k.away (sym same_holding ∙ one);
          },
        ),
        refl,
      )

  -- a view that knows more, of the same callers, numbers and ticket
  renewed : (history pending : List Item) (lost : Bool) (s : St K) → IsInOrder Trusted Keeps history pending lost s → (i id : ℕ) (c : List (ℕ × KeptSession K)) (v w : Knowledge) → get_elem? s.views id ≡ some v → set s.words i (get_or s.words i 0) ≡ s.words
      → w.opening ≡ v.opening → w.callers ≡ v.callers → w.spare ≡ v.spare → w.ticket ≡ v.ticket → w.holding ≡ v.holding → w.pending ≡ v.pending → w.lost ≡ v.lost → w.hopes ≡ v.hopes → Saw w.callers w.seen history → PartsFit history w → (v.seen ≡ history → w.seen ≡ history)
      → IsInOrder Trusted Keeps history pending lost (stepped s i (get_or s.words i 0) id c w keeps)
  renewed history pending lost s k i id c v w at same_words opens callers spare ticket holding pending_is lost_is hopes saw fits told = record {
    opening = k.opening;
    opened = every_set (KnowsOpening k.opening) s.views id w k.opened (λ some_of. opens ∙ k.opened id v at (subst (λ (l : List ℕ). 0 < length l) callers some_of));
    next = k.next;
    serving = k.serving;
    words = same_words ∙ k.words;
    room = k.room;
    order = k.order;
    count = let few = k.count in let same = total_same is_holding s.views id v w at (ap one_if holding) in omega (arith, few, same);
    tickets = λ t. total_same (has_ticket t) s.views id v w at (ap (is_ticket t) ticket) ∙ k.tickets t;
    numbers = λ n. total_same (holds_number n) s.views id v w at (λ i. times n (callers i) + in_ranges n (spare i)) ∙ k.numbers n;
    whole = total_same number_count s.views id v w at (λ i. length (callers i) + count_of (spare i)) ∙ k.whole;
    seen = every_set (λ u. Saw u.callers u.seen history) s.views id w k.seen saw;
    parts = every_set (PartsFit history) s.views id w k.parts fits;
    told = told_set history s.views id v w at callers told k.told;
    called = λ n none_of. k.called n (sym (total_same (calls_as n) s.views id v w at (ap (times n) callers)) ∙ none_of);
    turn = every_set (HoldsInTurn k.serving history pending lost) s.views id w k.turn
        (λ holds. let t = k.turn id v at (sym holding ∙ holds) in
        record { ticket = ticket ∙ t.ticket; caller = subst (λ (l : List ℕ). 0 < length l) (sym callers) t.caller; seen = told t.seen; pending_is = pending_is ∙ t.pending_is; lost_is = lost_is ∙ t.lost_is });
    spent = every_set SpentHoldsNothing s.views id w k.spent (λ e. let t = k.spent id v at (sym callers ∙ e) in (spare ∙ t.0, ticket ∙ t.1, holding ∙ t.2, hopes ∙ t.3));
    hopes = every_set (λ u. MayHope history pending lost u.hopes) s.views id w k.hopes (subst (MayHope history pending lost) (sym hopes) (k.hopes id v at));
    waits = let most = k.waits in let same = total_same is_hoping s.views id v w at (ap one_if_some hopes) in omega (arith, most, same);
    trusted = k.trusted;
    sound = k.sound;
    well = k.well;
    home = λ nobody. k.home (sym (total_same is_holding s.views id v w at (ap one_if holding)) ∙ nobody);
    away = λ one. k.away (sym (total_same is_holding s.views id v w at (ap one_if holding)) ∙ one);
  }

  pub counts : (Told : PlainSession → Type 0) → ((s : PlainSession) → Trusted s → Told s) → (slots id : ℕ) (v : Knowledge) (carried : List (ℕ × KeptSession K)) → 0 < length v.callers → Allows (Locks Trusted Keeps) slots id (v, carried) 2 (λ n. n) (CountsHistory Told (step slots 2 0 0 none) (v, carried))
  counts Told tells slots id v carried caller_is s (history, pending, lost, k) wide at small = let w : Knowledge = record v { seen = history } in (
    w,
    keeps,
    tt,
    (history, pending, lost, renewed history pending lost s k 2 id carried v w at (read_word history pending lost s k 2 (omega arith)) refl refl refl refl refl refl refl refl (saw_all v.callers history) (parts_seen history v (k.parts id v at)) (λ e. refl)),
    (history, sym (ap (λ (l : List ℕ). get_or l 2 0) k.words), k.seen id v at, refl, subst (λ (o : PlainSession). Told (play_from o history) × IsSoundThrough o history) (sym (k.opened id v at caller_is)) (tells (play_from k.opening history) k.trusted, k.sound)),
  )

  pub looks_me : (Told : PlainSession → Type 0) → ((s : PlainSession) → Trusted s → Told s) → (ToldKeeps : PlainSession → List Item → List Item → Bool → KeptSession K → Type 0) → ((o : PlainSession) (h p : List Item) (l : Bool) (k : KeptSession K) → Keeps o h p l k → ToldKeeps o h p l k) → (slots id : ℕ) (me : M K) (t : ℕ) → me.1 ≡ [] → me.0.ticket ≡ Some t → me.0.holding ≡ false → 0 < length me.0.callers → Allows (Locks Trusted Keeps) slots id me 1 (λ n. n) (Looks Told ToldKeeps (step slots 1 0 0 none) me)
  looks_me Told tells ToldKeeps tells_keeps slots id me t empty has_it free caller_is =
      subst (λ (c : List (ℕ × KeptSession K)). Allows (Locks Trusted Keeps) slots id (me.0, c) 1 (λ n. n) (Looks Told ToldKeeps (step slots 1 0 0 none) (me.0, c))) (sym empty) (looks Told tells ToldKeeps tells_keeps slots id me.0 t has_it free caller_is)

  pub counts_me : (Told : PlainSession → Type 0) → ((s : PlainSession) → Trusted s → Told s) → (slots id : ℕ) (me : M K) → 0 < length me.0.callers → Allows (Locks Trusted Keeps) slots id me 2 (λ n. n) (CountsHistory Told (step slots 2 0 0 none) me)
  counts_me Told tells slots id me caller_is = counts Told tells slots id me.0 me.1 caller_is

  pub commits_me : (Told : PlainSession → Type 0) → ((s : PlainSession) → Trusted s → Told s) → (slots id : ℕ) (me : M K) (item : ℕ → Item) → (may : MayCommit Trusted me.0 item) → caller_of (item may.caller) ≡ may.caller → Allows (Locks Trusted Keeps) slots id me 2 (λ n. (n + 1) % 2 ^ 64) (Commits Told item (step slots 2 1 0 none) me)
  commits_me Told tells slots id me item may by = commits Told tells slots id me.0 me.1 item may by

  pub releases_me : (slots id : ℕ) (me : M K) → slots ≡ 1 → MayRelease Keeps me → Allows (Locks Trusted Keeps) slots id me 1 (λ n. (n + 1) % 2 ^ 64) (Releases (step slots 1 1 0 none) me)
  releases_me slots id me one may =
      subst (λ (c : List (ℕ × KeptSession K)). Allows (Locks Trusted Keeps) slots id (me.0, c) 1 (λ n. (n + 1) % 2 ^ 64) (Releases (step slots 1 1 0 none) (me.0, c))) (sym may.hand)
      (releases slots id me.0 may.kept one may.holding may.keeps)

  pub puts_off_me : (slots id : ℕ) (me : M K) (item : ℕ → Item) → slots ≡ 1 → MayPutOff Trusted Keeps me item → Allows (Locks Trusted Keeps) slots id me 1 (λ n. (n + 1) % 2 ^ 64) (PutsOff item (step slots 1 1 0 none) me)
  puts_off_me slots id me item one may =
      subst (λ (c : List (ℕ × KeptSession K)). Allows (Locks Trusted Keeps) slots id (me.0, c) 1 (λ n. (n + 1) % 2 ^ 64) (PutsOff item (step slots 1 1 0 none) (me.0, c))) (sym may.hand)
      (puts_off slots id me.0 may.kept item may.caller may.others may.turn one may.holding may.mine may.hopes may.whole may.ticket may.count may.keeps may.well)

  pub loses_me : (slots id : ℕ) (me : M K) → me.0.holding ≡ true → Allows (Locks Trusted Keeps) slots id me 2 (λ n. n) (Loses (step slots 2 0 0 none) me)
  loses_me slots id me holding = loses slots id me.0 me.1 holding

  total_add : (f g h : Knowledge → ℕ) (views : List Knowledge) → ((v : Knowledge) → h v ≡ f v + g v) → views_total h views ≡ views_total f views + views_total g views
  total_add f g h [] e = refl
  total_add f g h (v ∷ vs) e = let r = total_add f g h vs e in let is = e v in omega (arith, r, is)

  -- no view holds a number twice
  pub holds_once : (history pending : List Item) (lost : Bool) (s : St K) (k : IsInOrder Trusted Keeps history pending lost s) (id : ℕ) (v : Knowledge) → get_elem? s.views id ≡ some v → HoldsOnce v
  holds_once history pending lost s k id v at n = let a = total_has (holds_number n) s.views id v at in let b = k.numbers n in omega (arith, a, b)

  abbrev pub spare_as : ℕ → Knowledge → ℕ
  spare_as n v = in_ranges n v.spare

  -- a spare number is no caller's
  pub no_caller : (history pending : List Item) (lost : Bool) (s : St K) (k : IsInOrder Trusted Keeps history pending lost s) (id : ℕ) (v : Knowledge) (n : ℕ) → get_elem? s.views id ≡ some v → 0 < in_ranges n v.spare → views_total (calls_as n) s.views ≡ 0
  no_caller history pending lost s k id v n at is_spare =
      let a = total_add (calls_as n) (spare_as n) (holds_number n) s.views (λ u. refl) in let b = total_has (spare_as n) s.views id v at in let c = k.numbers n in let d = between_most 0 all_numbers n in omega (arith, a, b, c, d, is_spare)

  pub sees_unused : (slots id : ℕ) (me : M K) → Allows (Locks Trusted Keeps) slots id me 0 (λ n. n) (Unused (step slots 0 0 0 none) me)
  sees_unused slots id me s (history, pending, lost, k) wide at small = (
    me.0,
    keeps,
    tt,
    unmoved s 0 (get_or s.words 0 0) id me.1 me.0 at (read_word history pending lost s k 0 (omega arith)) (history, pending, lost, k),
    (
      refl,
      λ n is_spare. let saw = k.seen id me.0 at in nothing_first (calls_of (n ∷ []) me.0.seen) (calls_of (n ∷ []) saw.0)
          (sym (calls_append (n ∷ []) me.0.seen saw.0) ∙ (ap (calls_of (n ∷ [])) saw.1 ∙ k.called n (no_caller history pending lost s k id me.0 n at is_spare))),
      holds_once history pending lost s k id me.0 at,
    ),
  )

  pub settles : (slots id : ℕ) (v : Knowledge) (c : List (ℕ × KeptSession K)) → Allows (Locks Trusted Keeps) slots id (v, c) 0 (λ n. n) (Settles (step slots 0 0 0 none) (v, c))
  settles slots id v c s (history, pending, lost, k) wide at small = let w : Knowledge = record v { kept = no_part; other = no_part } in let fits = k.parts id v at in (
    w,
    keeps,
    tt,
    (history, pending, lost, renewed history pending lost s k 0 id c v w at (read_word history pending lost s k 0 (omega arith)) refl refl refl refl refl refl refl refl (k.seen id v at) (part_none history w no_part refl, part_none history w no_part refl) (λ e. e)),
    (
      refl,
      saw_between v.kept.callers v.callers v.kept.seen v.seen history fits.0.0 (k.seen id v at) fits.0.1,
      saw_between v.other.callers v.callers v.other.seen v.seen history fits.1.0 (k.seen id v at) fits.1.1,
      holds_once history pending lost s k id v at,
    ),
  )

  pub settles_me : (slots id : ℕ) (me : M K) → Allows (Locks Trusted Keeps) slots id me 0 (λ n. n) (Settles (step slots 0 0 0 none) me)
  settles_me slots id me = settles slots id me.0 me.1
