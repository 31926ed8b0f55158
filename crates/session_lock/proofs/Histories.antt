-- Histories that grow.
use Rattle.std.proofs.Common.{◌≡◌, ◌⊎◌, inl, inr, ℕ, ◌+◌, ◌≤◌, Bool, true, false, ◌||◌, eqb, List, [], ◌∷◌, ◌++◌, length, if◌then◌else◌, sym, refl, ap, ◌∙◌, subst, arith, append_assoc, length-append, eq-eqb, ne_eqb}
use mathlib.Core.Logic.{dite}
use native.Mathlib.Decide.{ℕ_discrete}
use Rattle.std.proofs.lemmas.Bool.{eqb-true}
use Rattle.std.proofs.lemmas.List.{append-nil}
use Rattle.session_lock.specs.declared.knowledge.Item.{Item}
use Rattle.reflector_core.specs.PlainSession.{PlainSession, IsSoundSession}
use Rattle.session_lock.specs.declared.knowledge.Item.TheVariants.{Did, Void, Unkept}
use Rattle.reflector_core.specs.Answer.{answer}
use Rattle.reflector_core.specs.Play.{after_all}
use Rattle.reflector_core.specs.Growth.{GrowsTo}
use Rattle.reflector_core.proofs.GrowthLaws.{GrowsTo-after_all}
use Rattle.session_lock.specs.Numbers.{times}
use Rattle.session_lock.specs.History.{caller_of, after_item, play_from, has, calls_of, SameCallsOfEach, Saw, history_requests, IsSoundThrough}

pub play_from_append : (s : PlainSession) (xs ys : List Item) → play_from s (xs ++ ys) ≡ play_from (play_from s xs) ys
play_from_append s [] ys = refl
play_from_append s (x ∷ xs) ys = play_from_append (after_item s x) xs ys

pub play_snoc : (s : PlainSession) (history : List Item) (x : Item) → play_from s (history ++ x ∷ []) ≡ after_item (play_from s history) x
play_snoc s history x = play_from_append s history (x ∷ [])

-- a Void changes nothing, and neither does an Unkept
pub play_requests : (s : PlainSession) (xs : List Item) → play_from s xs ≡ after_all s (history_requests xs)
play_requests s [] = refl
play_requests s (Did caller request ∷ xs) = play_requests (answer s request).session xs
play_requests s (Void caller ∷ xs) = play_requests s xs
play_requests s (Unkept caller ∷ xs) = play_requests s xs

-- the log of a beginning grows
pub history_grows : (s : PlainSession) (beginning rest : List Item) → GrowsTo (play_from s beginning) (play_from s (beginning ++ rest))
history_grows s beginning rest =
    subst (GrowsTo (play_from s beginning)) (sym (play_from_append s beginning rest ∙ play_requests (play_from s beginning) rest)) (GrowsTo-after_all (play_from s beginning) (history_requests rest))

-- soundness all the way: one item more, its start and end, a beginning, and what is left behind that
pub sound_more : (s : PlainSession) (xs : List Item) (x : Item) → IsSoundThrough s xs → IsSoundSession (after_item (play_from s xs) x) → IsSoundThrough s (xs ++ x ∷ [])
sound_more s [] x sound last = (sound, last)
sound_more s (y ∷ ys) x sound last = (sound.0, sound_more (after_item s y) ys x sound.1 last)

pub sound_start : (s : PlainSession) (xs : List Item) → IsSoundThrough s xs → IsSoundSession s
sound_start s [] sound = sound
sound_start s (x ∷ xs) sound = sound.0

pub sound_end : (s : PlainSession) (xs : List Item) → IsSoundThrough s xs → IsSoundSession (play_from s xs)
sound_end s [] sound = sound
sound_end s (x ∷ xs) sound = sound_end (after_item s x) xs sound.1

pub sound_first : (s : PlainSession) (xs ys : List Item) → IsSoundThrough s (xs ++ ys) → IsSoundThrough s xs
sound_first s [] ys sound = sound_start s ys sound
sound_first s (x ∷ xs) ys sound = (sound.0, sound_first (after_item s x) xs ys sound.1)

pub sound_rest : (s : PlainSession) (xs ys : List Item) → IsSoundThrough s (xs ++ ys) → IsSoundThrough (play_from s xs) ys
sound_rest s [] ys sound = sound
sound_rest s (x ∷ xs) ys sound = sound_rest (after_item s x) xs ys sound.1

calls_cons : (b : Bool) (x : Item) (xs ys : List Item) → (if b then x ∷ (xs ++ ys) else (xs ++ ys)) ≡ (if b then x ∷ xs else xs) ++ ys
calls_cons true x xs ys = refl
calls_cons false x xs ys = refl

pub calls_append : (cs : List ℕ) (xs ys : List Item) → calls_of cs (xs ++ ys) ≡ calls_of cs xs ++ calls_of cs ys
calls_append cs [] ys = refl
calls_append cs (x ∷ xs) ys =
    ap (λ (l : List Item). if has (caller_of x) cs then x ∷ l else l) (calls_append cs xs ys) ∙ calls_cons (has (caller_of x) cs) x (calls_of cs xs) (calls_of cs ys)

-- all of it was seen
pub saw_all : (cs : List ℕ) (history : List Item) → Saw cs history history
saw_all cs history = ([], append-nil history, refl)

pub saw_trans : (cs : List ℕ) (xs ys zs : List Item) → Saw cs xs ys → Saw cs ys zs → Saw cs xs zs
saw_trans cs xs ys zs p q = (
  p.0 ++ q.0,
  sym (append_assoc xs p.0 q.0) ∙ (ap (λ w. w ++ q.0) p.1 ∙ q.1),
  calls_append cs p.0 q.0 ∙ (ap (λ w. w ++ calls_of cs q.0) p.2 ∙ q.2),
)

-- an item of another caller
pub saw_more : (cs : List ℕ) (seen history : List Item) (x : Item) → Saw cs seen history → has (caller_of x) cs ≡ false → Saw cs seen (history ++ x ∷ [])
saw_more cs seen history x p other = saw_trans cs seen history (history ++ x ∷ []) p (x ∷ [], refl, ap (λ (b : Bool). if b then x ∷ [] else []) other)

pub saw_length : (cs : List ℕ) (seen history : List Item) → Saw cs seen history → length seen ≤ length history
saw_length cs seen history p = omega (arith, sym (ap length p.1) ∙ length-append seen p.0)

-- what is as long as the whole is the whole
nothing_after : (xs ys zs : List Item) → xs ++ ys ≡ zs → length zs ≤ length xs → xs ≡ zs
nothing_after xs [] zs e le = sym (append-nil xs) ∙ e
nothing_after xs (y ∷ ys) zs e le = absurd (omega (arith, sym (ap length e) ∙ length-append xs (y ∷ ys)))

pub saw_whole : (cs : List ℕ) (seen history : List Item) → Saw cs seen history → length history ≤ length seen → seen ≡ history
saw_whole cs seen history p le = nothing_after seen p.0 history p.1 le

has_times_step : (b : Bool) (h : Bool) (t : ℕ) → (if b then 1 else 0) + t ≡ 0 → (t ≡ 0 → h ≡ false) → (b || h) ≡ false
has_times_step true h t e go = absurd (omega arith)
has_times_step false h t e go = go (omega arith)

pub has_times : (n : ℕ) (cs : List ℕ) → times n cs ≡ 0 → has n cs ≡ false
has_times n [] e = refl
has_times n (m ∷ ms) e = has_times_step (eqb n m) (has n ms) (times n ms) e (has_times n ms)

-- the callers' own calls are those that were seen
pub saw_own : (cs : List ℕ) (seen history : List Item) → Saw cs seen history → calls_of cs history ≡ calls_of cs seen
saw_own cs seen history p = ap (calls_of cs) (sym p.1) ∙ (calls_append cs seen p.0 ∙ (ap (λ (l : List Item). calls_of cs seen ++ l) p.2 ∙ append-nil (calls_of cs seen)))

-- where none of these calls, none stands in the rest, and the first item is of another caller
pub none_behind : (b : Bool) (x : Item) (xs : List Item) → (if b then x ∷ xs else xs) ≡ [] → xs ≡ []
none_behind true x xs e = absurd (cc (e))
none_behind false x xs e = e

none_first : (b : Bool) (x : Item) (xs : List Item) → (if b then x ∷ xs else xs) ≡ [] → b ≡ false
none_first true x xs e = absurd (cc (e))
none_first false x xs e = refl

-- where these callers make no call, each of them makes none
none_of_each : (n : ℕ) (cs : List ℕ) (xs : List Item) → has n cs ≡ true → calls_of cs xs ≡ [] → calls_of (n ∷ []) xs ≡ []
none_of_each n cs [] own e = refl
none_of_each n cs (x ∷ xs) own e = dite (ℕ_discrete (caller_of x) n)
    (λ same. let yes : has (caller_of x) cs ≡ true = ap (λ (m : ℕ). has m cs) same ∙ own in let no : has (caller_of x) cs ≡ false = none_first (has (caller_of x) cs) x (calls_of cs xs) e in absurd (cc (yes, no)))
    (λ other. rw (ne_eqb (caller_of x) n other) (none_of_each n cs xs own (none_behind (has (caller_of x) cs) x (calls_of cs xs) e)))

-- the same of each of them by itself
pub saw_each : (cs : List ℕ) (seen history : List Item) → Saw cs seen history → SameCallsOfEach cs seen history
saw_each cs seen history p n own =
    ap (calls_of (n ∷ [])) (sym p.1) ∙ (calls_append (n ∷ []) seen p.0 ∙ (ap (λ (l : List Item). calls_of (n ∷ []) seen ++ l) (none_of_each n cs p.0 own p.2) ∙ append-nil (calls_of (n ∷ []) seen)))

-- who stands in a list of one caller is that caller
is_or : (a b : Bool) → (a || b) ≡ true → (a ≡ true) ⊎ (b ≡ true)
is_or true b is = inl refl
is_or false b is = inr is

pub only_caller : (n c : ℕ) → has n (c ∷ []) ≡ true → n ≡ c
only_caller n c is = elim (is_or (eqb n c) false is) [ inl same ↦ eqb-true n c same | inr never ↦ absurd (cc (never)) ]

-- among the calls of these is none of another
pub none_among : (callers : List ℕ) (n : ℕ) (history : List Item) → has n callers ≡ false → calls_of (n ∷ []) (calls_of callers history) ≡ []
none_among callers n [] other = refl
none_among callers n (x ∷ xs) other = step (none_among callers n xs other) (has (caller_of x) callers) refl
  where
    own_call : calls_of (n ∷ []) (calls_of callers xs) ≡ [] → (b : Bool) → has (caller_of x) (n ∷ []) ≡ b → has (caller_of x) callers ≡ true
        → (if b then x ∷ calls_of (n ∷ []) (calls_of callers xs) else calls_of (n ∷ []) (calls_of callers xs)) ≡ []
    own_call rest true is among = absurd (cc (sym (ap (λ (m : ℕ). has m callers) (only_caller (caller_of x) n is)) ∙ among, other))
    own_call rest false is among = rest

    step : calls_of (n ∷ []) (calls_of callers xs) ≡ [] → (b : Bool) → has (caller_of x) callers ≡ b
        → calls_of (n ∷ []) (if b then x ∷ calls_of callers xs else calls_of callers xs) ≡ []
    step rest true is = own_call rest (has (caller_of x) (n ∷ [])) refl is
    step rest false is = rest

pub has_own : (n : ℕ) (others : List ℕ) → has n (n ∷ others) ≡ true
has_own n others = rw (eq-eqb n n refl) refl

-- one more call of theirs
pub saw_call : (cs : List ℕ) (seen history : List Item) (x : Item) → Saw cs seen history → has (caller_of x) cs ≡ true → calls_of cs (history ++ x ∷ []) ≡ calls_of cs seen ++ x ∷ []
saw_call cs seen history x p mine = calls_append cs history (x ∷ []) ∙ (ap (λ (b : Bool). calls_of cs history ++ (if b then x ∷ [] else [])) mine ∙ ap (λ (l : List Item). l ++ x ∷ []) (saw_own cs seen history p))

pub calls_none : (xs : List Item) → calls_of [] xs ≡ []
calls_none [] = refl
calls_none (x ∷ xs) = calls_none xs

pub saw_nothing : (history : List Item) → Saw [] [] history
saw_nothing history = (history, refl, calls_none history)

pub nothing_first : (xs ys : List Item) → xs ++ ys ≡ [] → xs ≡ []
nothing_first [] ys e = refl
nothing_first (x ∷ xs) ys e = absurd (cc (e))

pub nothing_left : (xs ys : List Item) → xs ++ ys ≡ [] → ys ≡ []
nothing_left [] ys e = e
nothing_left (x ∷ xs) ys e = absurd (cc (e))

-- of two beginnings of one list the shorter begins the longer
pub suffix : (xs r ys q : List Item) → xs ++ r ≡ ys ++ q → length xs ≤ length ys → (mid : List Item) × (xs ++ mid ≡ ys) × (r ≡ mid ++ q)
suffix [] r ys q e le = (ys, refl, e)
suffix (x ∷ xs) r [] q e le = absurd (omega arith)
suffix (x ∷ xs) r (y ∷ ys) q e le =
    let heads : x ≡ y = cc (e) in
    let rest = suffix xs r ys q (let t : xs ++ r ≡ ys ++ q = cc (e) in t) (omega arith) in
    (rest.0, cc (heads, rest.1), rest.2)

pub saw_between : (cs ds : List ℕ) (xs ys history : List Item) → Saw cs xs history → Saw ds ys history → length xs ≤ length ys → Saw cs xs ys
saw_between cs ds xs ys history p q le =
    let m = suffix xs p.0 ys q.0 (p.1 ∙ sym q.1) le in
    (m.0, m.1, nothing_first (calls_of cs m.0) (calls_of cs q.0) (sym (calls_append cs m.0 q.0) ∙ (ap (calls_of cs) (sym m.2) ∙ p.2)))

-- they made no call in the rest that is left
pub saw_rest : (cs ds : List ℕ) (xs ys history : List Item) → (p : Saw cs xs history) → (q : Saw ds ys history) → length xs ≤ length ys → calls_of cs q.0 ≡ []
saw_rest cs ds xs ys history p q le =
    let m = suffix xs p.0 ys q.0 (p.1 ∙ sym q.1) le in nothing_left (calls_of cs m.0) (calls_of cs q.0) (sym (calls_append cs m.0 q.0) ∙ (ap (calls_of cs) (sym m.2) ∙ p.2))

has_append : (n : ℕ) (cs ds : List ℕ) → has n (cs ++ ds) ≡ (has n cs || has n ds)
has_append n [] ds = refl
has_append n (c ∷ cs) ds = or_step (eqb n c) (has n (cs ++ ds)) (has n cs) (has n ds) (has_append n cs ds)
  where
    or_step : (a b c d : Bool) → b ≡ (c || d) → (a || b) ≡ ((a || c) || d)
    or_step true b c d e = refl
    or_step false b c d e = e

neither_step : (a b c : Bool) (x : Item) (l m n : List Item) → c ≡ (a || b) → (if a then x ∷ l else l) ≡ [] → (if b then x ∷ m else m) ≡ [] → (l ≡ [] → m ≡ [] → n ≡ []) → (if c then x ∷ n else n) ≡ []
neither_step true b c x l m n is e f rec = absurd (cc (e))
neither_step false true c x l m n is e f rec = absurd (cc (f))
neither_step false false c x l m n is e f rec = ap (λ (t : Bool). if t then x ∷ n else n) is ∙ rec e f

pub neither : (cs ds : List ℕ) (xs : List Item) → calls_of cs xs ≡ [] → calls_of ds xs ≡ [] → calls_of (cs ++ ds) xs ≡ []
neither cs ds [] e f = refl
neither cs ds (x ∷ xs) e f =
    neither_step (has (caller_of x) cs) (has (caller_of x) ds) (has (caller_of x) (cs ++ ds)) x (calls_of cs xs) (calls_of ds xs) (calls_of (cs ++ ds) xs) (has_append (caller_of x) cs ds) e f (neither cs ds xs)
