-- Passes that have made no call: split off, and merged.
use Rattle.std.proofs.Common.{◌≡◌, ℕ, ◌+◌, ◌≤◌, Bool, true, false, ◌||◌, eqb, if◌then◌else◌, List, [], ◌∷◌, ◌++◌, slice_index, append-nil, refl, sym, ap, ◌∙◌, subst, ◌⊎◌, inl, inr, arith}
use Rattle.std.proofs.lemmas.Bool.{eq-eqb}
use Rattle.session_lock.specs.declared.knowledge.Item.{Item}
use Rattle.session_lock.specs.History.{has, calls_of, Saw}
use Rattle.session_lock.specs.Numbers.{times, take_numbers, first_of_ranges}
use Rattle.session_lock.specs.Passes.{PassState, caller, numbers_held, Given, Merged}
use Rattle.session_lock.proofs.Histories.{calls_append, nothing_first, only_caller, saw_all, saw_each, saw_trans}
use Rattle.session_lock.proofs.Ranges.{times_append}
use Rattle.reflect_server.specs.Passes.{HasCalledAs, IsFresh, Keeps}

-- ---- numbers in lists

some_times : (b h : Bool) (t : ℕ) → (1 ≤ t → h ≡ true) → 1 ≤ (if b then 1 else 0) + t → (b || h) ≡ true
some_times true h t go some = refl
some_times false h t go some = go (omega arith)

-- what stands in a list at least once stands in it
pub has_some : (n : ℕ) (ns : List ℕ) → 1 ≤ times n ns → has n ns ≡ true
has_some n [] some = absurd (omega arith)
has_some n (m ∷ ms) some = some_times (eqb n m) (has n ms) (times n ms) (has_some n ms) some

pub times_first : (n : ℕ) (ns : List ℕ) → 1 ≤ times n (n ∷ ns)
times_first n ns = rw (eq-eqb n n refl) (omega arith)

pub times_behind : (n m : ℕ) (ms : List ℕ) → times n ms ≤ times n (m ∷ ms)
times_behind n m ms = omega arith

none_more : (xs ys : List Item) → xs ++ ys ≡ xs → ys ≡ []
none_more [] ys is = is
none_more (x ∷ xs) ys is = let behind : xs ++ ys ≡ xs = cc (is) in none_more xs ys behind

-- behind what was seen, none of these callers has made a call
pub none_behind_seen : (callers : List ℕ) (seen history : List Item) (c : ℕ) → (saw : Saw callers seen history) → has c callers ≡ true → calls_of (c ∷ []) saw.0 ≡ []
none_behind_seen callers seen history c saw own =
    none_more (calls_of (c ∷ []) seen) (calls_of (c ∷ []) saw.0)
    (sym (calls_append (c ∷ []) seen saw.0) ∙ (ap (calls_of (c ∷ [])) saw.1 ∙ saw_each callers seen history saw c own))

-- ---- who stands in a list

pub or_both : (a b : Bool) → (a || b) ≡ true → (a ≡ true) ⊎ (b ≡ true)
or_both true b is = inl refl
or_both false b is = inr is

pub or_first : (a b : Bool) → (a || b) ≡ false → a ≡ false
or_first true b is = absurd (cc (is))
or_first false b is = refl

or_second : (a b : Bool) → (a || b) ≡ false → b ≡ false
or_second true b is = absurd (cc (is))
or_second false b is = is

or_before : (a b c : Bool) → (a || (b || c)) ≡ ((a || b) || c)
or_before true b c = refl
or_before false b c = refl

has_both : (n : ℕ) (xs ys : List ℕ) → has n (xs ++ ys) ≡ (has n xs || has n ys)
has_both n [] ys = refl
has_both n (x ∷ xs) ys = ap (λ (b : Bool). eqb n x || b) (has_both n xs ys) ∙ or_before (eqb n x) (has n xs) (has n ys)

-- who stands in two lists that are one stands in one of them
pub has_either : (n : ℕ) (xs ys : List ℕ) → has n (xs ++ ys) ≡ true → (has n xs ≡ true) ⊎ (has n ys ≡ true)
has_either n xs ys is = or_both (has n xs) (has n ys) (sym (has_both n xs ys) ∙ is)

pub not_first : (n m : ℕ) (ms : List ℕ) → has n (m ∷ ms) ≡ false → has n (m ∷ []) ≡ false
not_first n m ms not = ap (λ (b : Bool). b || false) (or_first (eqb n m) (has n ms) not)

-- nor is who stands in neither of two lists in their first
pub not_second : (n a b : ℕ) (cs : List ℕ) → has n (a ∷ b ∷ cs) ≡ false → has n (a ∷ cs) ≡ false
not_second n a b cs not =
    ap (λ (x : Bool). x || has n cs) (or_first (eqb n a) (has n (b ∷ cs)) not)
    ∙ or_second (eqb n b) (has n cs) (or_second (eqb n a) (has n (b ∷ cs)) not)

pub not_behind : (n m : ℕ) (ms : List ℕ) → has n (m ∷ ms) ≡ false → has n ms ≡ false
not_behind n m ms not = or_second (eqb n m) (has n ms) not

-- ---- merges

-- after a merge only those have made calls who had before
pub called_merged : (a b m : PassState) (cs ds es : List ℕ) → Merged a b m → HasCalledAs cs a → HasCalledAs ds b
    → ((n : ℕ) → has n es ≡ false → has n cs ≡ false) → ((n : ℕ) → has n es ≡ false → has n ds ≡ false) → HasCalledAs es m
called_merged a b m cs ds es merged ca cb not_a not_b n own other =
    elim (has_either n a.callers b.callers (sym (ap (λ (p : PassState). has n p.callers) merged.same) ∙ own)) [
      | inl is ↦ merged.each n is ∙ ca n is (not_a n other)
      | inr is ↦ merged.each_other n is ∙ cb n is (not_b n other)
    ]

-- a pass with one caller
pub called_alone : (p : PassState) (c : ℕ) → p.callers ≡ c ∷ [] → HasCalledAs (c ∷ []) p
called_alone p c one n own other = absurd (cc (sym (ap (has n) one) ∙ own, other))

fresh_called : (lead p : PassState) → IsFresh lead p → HasCalledAs [] p
fresh_called lead p fresh n own other =
    subst (λ (m : ℕ). calls_of (m ∷ []) p.seen ≡ []) (sym (only_caller n (caller p) (sym (ap (has n) fresh.one) ∙ own))) fresh.calls

-- what was seen, by one of the pass's callers
pub saw_one : (callers : List ℕ) (c : ℕ) (seen history : List Item) → Saw callers seen history → has c callers ≡ true → Saw (c ∷ []) seen history
saw_one callers c seen history saw own = (saw.0, saw.1, none_behind_seen callers seen history c saw own)

-- a pass with one caller is only what it is
pub keeps_itself : (p : PassState) → p.callers ≡ caller p ∷ [] → Keeps p p
keeps_itself p one = record {
  session = refl;
  opening = refl;
  callers = λ n. omega (arith, ap (times n) one);
  calls = called_alone p (caller p) one;
  saw = saw_all (caller p ∷ []) p.seen;
}

-- the first caller of a pass that keeps another one is among its own
pub keeps_caller : (before a : PassState) (cs : List ℕ) → ((n : ℕ) → times n (caller before ∷ cs) ≤ times n a.callers) → has (caller before) a.callers ≡ true
keeps_caller before a cs more = has_some (caller before) a.callers (omega (arith, times_first (caller before) cs, more (caller before)))

pub idle_merged : (before a b m : PassState) → Keeps before a → IsFresh before b → Merged a b m → Keeps before m
idle_merged before a b m keeps fresh merged = record {
  session = ap (λ (p : PassState). p.session) merged.same ∙ keeps.session;
  opening = ap (λ (p : PassState). p.opening) merged.same ∙ keeps.opening;
  callers = λ n.
      let more : times n m.callers ≡ times n a.callers + times n b.callers = ap (times n) (ap (λ (p : PassState). p.callers) merged.same) ∙ times_append n a.callers b.callers in
      omega (arith, keeps.callers n);
  calls = called_merged a b m (caller before ∷ []) [] (caller before ∷ []) merged keeps.calls (fresh_called before b fresh) (λ n no. no) (λ n no. refl);
  saw =
      saw_trans (caller before ∷ []) before.seen a.seen m.seen keeps.saw
      (saw_one a.callers (caller before) a.seen m.seen merged.saw (keeps_caller before a [] keeps.callers));
}

-- a fresh pass had made no call in what the other had seen
pub fresh_before : (lead p : PassState) → IsFresh lead p → calls_of (caller p ∷ []) lead.seen ≡ []
fresh_before lead p fresh =
    nothing_first (calls_of (caller p ∷ []) lead.seen) (calls_of (caller p ∷ []) fresh.rest)
    (sym (calls_append (caller p ∷ []) lead.seen fresh.rest) ∙ (ap (calls_of (caller p ∷ [])) fresh.begins ∙ fresh.calls))

-- ---- splits

pub one_caller : (p : PassState) (c : ℕ) → p.callers ≡ c ∷ [] → p.callers ≡ caller p ∷ []
one_caller p c one = one ∙ ap (λ (m : ℕ). m ∷ []) (sym (ap (λ (l : List ℕ). slice_index l 0) one))

-- a pass that was split off another one is fresh
pub split_fresh : (lead before p : PassState) (count : ℕ) → before ≡ record lead { spare = before.spare } → Given before count p → numbers_held p ≡ 1 → IsFresh lead p
split_fresh lead before p count kept given numbers =
    let callers : p.callers ≡ first_of_ranges (take_numbers count before.spare) ∷ [] = ap (λ (q : PassState). q.callers) given.same in
    record {
      session = ap (λ (q : PassState). q.session) given.same ∙ ap (λ (q : PassState). q.session) kept;
      opening = ap (λ (q : PassState). q.opening) given.same ∙ ap (λ (q : PassState). q.opening) kept;
      one = one_caller p (first_of_ranges (take_numbers count before.spare)) callers;
      calls = subst (λ (l : List ℕ). calls_of l p.seen ≡ []) (one_caller p (first_of_ranges (take_numbers count before.spare)) callers) given.own;
      numbers = numbers;
      rest = [];
      begins = append-nil lead.seen ∙ sym (ap (λ (q : PassState). q.seen) given.same ∙ ap (λ (q : PassState). q.seen) kept);
    }
