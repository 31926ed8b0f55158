-- From what the steps tell to what callers are told.
use Rattle.std.proofs.Common.{◌≡◌, ℕ, ◌+◌, ◌≤◌, ◌<◌, true, List, [], ◌∷◌, ◌++◌, length, slice_index, Result, Ok, Err, MatchResult, sym, refl, ap, ◌∙◌, subst, arith, length-append}
use Rattle.atomic_table.specs.Seated.{TableId}
use Rattle.tea_base.specs.declared.entry.SessionId.{SessionId}
use Rattle.reflector_core.specs.declared.request.Request.{Request}
use Rattle.reflector_core.specs.declared.request.Reply.{Reply}
use Rattle.reflector_core.specs.Keeping.{MayChange}
use Rattle.reflector_core.specs.declared.keeper.CallFault.{CallFault}
use Rattle.reflector_core.specs.declared.keeper.CallFault.TheVariants as fault
use Rattle.reflector_core.specs.Answer.{MayWantMemory}
use Rattle.reflector_core.specs.PlainSession.{PlainSession}
use Rattle.session_lock.specs.declared.knowledge.Item.{Item}
use Rattle.session_lock.specs.declared.knowledge.Item.TheVariants.{Did, Void, Unkept}
use Rattle.session_lock.specs.declared.knowledge.Knowledge.{Knowledge}
use Rattle.session_lock.specs.History.{caller_of, play_from, has, calls_of, Saw}
use Rattle.session_lock.specs.Rules.{HoldsOnce, holds_number, knows, no_part, longer}
use Rattle.session_lock.specs.Steps.{M, HasCounted, AnswersRequest, Misses, Fails, join_left, split_left, split_right, IsIdle, HasMade}
use Rattle.session_lock.specs.Passes.{SharedState, shared_state, PassState, pass_state, Grew, Replied, Voided, NotKept, Missed, Caught, Given, Merged, HeldOnce, UsedNoSpare, times_held, caller, numbers_held}
use Rattle.session_lock.proofs.Histories.{saw_own, saw_each, saw_call, has_own}
use Rattle.session_lock.specs.Numbers.{in_ranges, count_of, take_numbers, first_of_ranges}
use Rattle.session_lock.proofs.Ranges.{cut_count, taken_count, count_append, times_append, in_ranges_append}
use Rattle.session_lock.proofs.Shares.{same_numbers, first_is_spare, left_size, right_size}

-- a pass of a shared session has a seat of its table
pub fits : {T K : Type 0} (z y : TableId) (v : Knowledge) (key : SessionId × T × K) (faults : ℕ) (p : PassState) (shared : SharedState T) → pass_state z v ≡ p → p.session ≡ shared.session → shared_state y key faults ≡ shared → z ≡ y
fits {T} {K} z y v key faults p shared is same looks = ap (λ (q : PassState). q.session) is ∙ (same ∙ sym (ap (λ (s : SharedState T). s.session) looks))

pub caught : {K : Type 0} (Trusted : PlainSession → Type 0) (z z' : TableId) (m m' : M K) (p : PassState) (found : ℕ) → pass_state z m.0 ≡ p → z' ≡ z → HasCounted Trusted m found m' → Caught Trusted p (pass_state z' m'.0)
caught {K} Trusted z z' m m' p found view table (history, len, saw, is, well) =
    subst (λ (t : PassState × (TableId × M K)). Caught Trusted t.0 (pass_state t.1.0 t.1.1.0)) (λ i. (view i, (sym table i, sym is i))) (record { saw = saw; same = refl; own = saw_own m.0.callers m.0.seen history saw; trusted_after = well.0 })

-- the call of a view's own caller
grew : (z : TableId) (v : Knowledge) (history : List Item) (item : ℕ → Item) (c : ℕ) (others : List ℕ) → v.callers ≡ c ∷ others → Saw v.callers v.seen history → ((n : ℕ) → caller_of (item n) ≡ n)
    → Grew (pass_state z v) (pass_state z (knows v.opening v.callers v.spare (history ++ item c ∷ []))) history (item (slice_index v.callers 0))
grew z v history item c others mine saw by =
    let first : c ≡ slice_index v.callers 0 = sym (ap (λ (l : List ℕ). slice_index l 0) mine) in
    let own : has c v.callers ≡ true = ap (has c) mine ∙ has_own c others in
    let told : Grew (pass_state z v) (pass_state z (knows v.opening v.callers v.spare (history ++ item c ∷ []))) history (item c) =
    record {
      saw = saw;
      same = refl;
      own = saw_call v.callers v.seen history (item c) saw (ap (λ (n : ℕ). has n v.callers) (by c) ∙ own);
      mine = ap (λ (n : ℕ). has n v.callers) (sym first) ∙ own;
    }
    in
    subst (λ (n : ℕ). Grew (pass_state z v) (pass_state z (knows v.opening v.callers v.spare (history ++ item c ∷ []))) history (item n)) first told

pub replied : {K : Type 0} (Trusted : PlainSession → Type 0) (z : TableId) (v : Knowledge) (m : M K) (request : Request) (reply : Reply) → AnswersRequest Trusted v m request reply → Trusted (play_from v.opening m.0.seen) → Replied Trusted (pass_state z v) (pass_state z m.0) request reply
replied {K} Trusted z v m request reply (history, c, others, mine, saw, is, gives, trusted) after_it =
    let told : Replied Trusted (pass_state z v) (pass_state z (knows v.opening v.callers v.spare (history ++ Did c request ∷ []))) request reply =
    record { history = history; grew = grew z v history (λ (n : ℕ). Did n request) c others mine saw (λ n. refl); replies = gives; trusted = trusted; trusted_after = subst (λ (k : M K). Trusted (play_from v.opening k.0.seen)) is after_it }
    in
    subst (λ (k : M K). Replied Trusted (pass_state z v) (pass_state z k.0) request reply) (sym is) told

pub voided : {K : Type 0} (Trusted : PlainSession → Type 0) (z : TableId) (v : Knowledge) (m : M K) (request : Request) → Misses (λ caller. Void caller) MayWantMemory v m request → Trusted (play_from v.opening m.0.seen) → Voided Trusted (pass_state z v) (pass_state z m.0) request
voided {K} Trusted z v m request (history, c, others, mine, saw, is, due) after_it =
    let told : Voided Trusted (pass_state z v) (pass_state z (knows v.opening v.callers v.spare (history ++ Void c ∷ []))) request =
    record { history = history; grew = grew z v history (λ (n : ℕ). Void n) c others mine saw (λ n. refl); due = due; trusted_after = subst (λ (k : M K). Trusted (play_from v.opening k.0.seen)) is after_it }
    in
    subst (λ (k : M K). Voided Trusted (pass_state z v) (pass_state z k.0) request) (sym is) told

pub not_kept : {K : Type 0} (Trusted : PlainSession → Type 0) (shut : Type 0) (z : TableId) (v : Knowledge) (m : M K) (request : Request) → Misses (λ caller. Unkept caller) (λ reply. MayChange reply × shut) v m request → Trusted (play_from v.opening m.0.seen)
    → NotKept Trusted shut (pass_state z v) (pass_state z m.0) request
not_kept {K} Trusted shut z v m request (history, c, others, mine, saw, is, due) after_it =
    let told : NotKept Trusted shut (pass_state z v) (pass_state z (knows v.opening v.callers v.spare (history ++ Unkept c ∷ []))) request =
    record { history = history; grew = grew z v history (λ (n : ℕ). Unkept n) c others mine saw (λ n. refl); due = due.0; shut = due.1; trusted_after = subst (λ (k : M K). Trusted (play_from v.opening k.0.seen)) is after_it }
    in
    subst (λ (k : M K). NotKept Trusted shut (pass_state z v) (pass_state z k.0) request) (sym is) told

missed : {K : Type 0} (Trusted : PlainSession → Type 0) (shut : Type 0) (why : CallFault) (z : TableId) (v : Knowledge) (m : M K) (request : Request) → Fails shut v m request why → Trusted (play_from v.opening m.0.seen) → Missed Trusted shut (pass_state z v) (pass_state z m.0) request why
missed Trusted shut fault.WantOfMemory z v m request h after_it = voided Trusted z v m request h after_it
missed Trusted shut fault.Unkept z v m request h after_it = not_kept Trusted shut z v m request h after_it

-- what a call is told
abbrev IsToldCall : (PlainSession → Type 0) → Type 0 → PassState → PassState → Request → Result Reply CallFault → Type 0
IsToldCall Trusted shut p q request r = MatchResult r (λ reply. Replied Trusted p q request reply) (λ why. Missed Trusted shut p q request why)

pub told_call : {K : Type 0} (Trusted : PlainSession → Type 0) (shut : Type 0) (r : Result Reply CallFault) (z z' : TableId) (v : Knowledge) (m : M K) (p : PassState) (request : Request) → pass_state z v ≡ p → z' ≡ z
    → MatchResult r (λ reply. AnswersRequest Trusted v m request reply) (λ why. Fails shut v m request why) → Trusted (play_from v.opening m.0.seen) → IsToldCall Trusted shut p (pass_state z' m.0) request r
told_call Trusted shut (Ok reply) z z' v m p request view table h after_it = subst (λ (t : PassState × TableId). Replied Trusted t.0 (pass_state t.1 m.0) request reply) (λ i. (view i, sym table i)) (replied Trusted z v m request reply h after_it)
told_call Trusted shut (Err why) z z' v m p request view table h after_it = subst (λ (t : PassState × TableId). Missed Trusted shut t.0 (pass_state t.1 m.0) request why) (λ i. (view i, sym table i)) (missed Trusted shut why z v m request h after_it)

same_but_seen : (p q : PassState) (history : List Item) (item : Item) → Grew p q history item → q ≡ record p { seen = q.seen }
same_but_seen p q history item h = h.same ∙ ap (λ (l : List Item). record p { seen = l }) (sym (ap (λ (s : PassState). s.seen) h.same))

pub call_kept : (Trusted : PlainSession → Type 0) (shut : Type 0) (r : Result Reply CallFault) (p q : PassState) (request : Request) → IsToldCall Trusted shut p q request r → q ≡ record p { seen = q.seen }
call_kept Trusted shut (Ok reply) p q request h = same_but_seen p q _ _ h.grew
call_kept Trusted shut (Err fault.WantOfMemory) p q request h = same_but_seen p q _ _ h.grew
call_kept Trusted shut (Err fault.Unkept) p q request h = same_but_seen p q _ _ h.grew

abbrev Settled : {K : Type 0} → M K → M K → Type 0
Settled m m' = (m' ≡ (record m.0 { kept = no_part; other = no_part }, m.1)) × Saw m.0.kept.callers m.0.kept.seen m.0.seen × Saw m.0.other.callers m.0.other.seen m.0.seen × HoldsOnce m.0

-- what is known once the two views were put together and looked at
pub put_together : {K : Type 0} (m₀ m₁ m₂ : M K) (w : Knowledge) → m₁ ≡ (join_left m₀.0 w, m₀.1) → Settled m₁ m₂
    → (m₂ ≡ (record (join_left m₀.0 w) { kept = no_part; other = no_part }, m₀.1)) × Saw m₀.0.callers m₀.0.seen (longer m₀.0.seen w.seen) × Saw w.callers w.seen (longer m₀.0.seen w.seen) × HoldsOnce (join_left m₀.0 w)
put_together {K} m₀ m₁ m₂ w e settled = subst (λ (m : M K). Settled m m₂) e settled

pub merged_told : {K : Type 0} (z z₁ z₂ : TableId) (m₀ m₁ m₂ : M K) (w : Knowledge) (p q : PassState) → pass_state z m₀.0 ≡ p → pass_state z₁ w ≡ q → z₂ ≡ z → m₁ ≡ (join_left m₀.0 w, m₀.1) → Settled m₁ m₂ → Merged p q (pass_state z₂ m₂.0)
merged_told {K} z z₁ z₂ m₀ m₁ m₂ w p q view view' table e settled =
    let t = put_together m₀ m₁ m₂ w e settled in
    let told : Merged (pass_state z m₀.0) (pass_state z₁ w) (pass_state z (join_left m₀.0 w)) =
    record {
      same = refl;
      saw = t.1;
      saw_other = t.2;
      own = saw_own m₀.0.callers m₀.0.seen (longer m₀.0.seen w.seen) t.1;
      own_other = saw_own w.callers w.seen (longer m₀.0.seen w.seen) t.2;
      each = saw_each m₀.0.callers m₀.0.seen (longer m₀.0.seen w.seen) t.1;
      each_other = saw_each w.callers w.seen (longer m₀.0.seen w.seen) t.2;
    }
    in
    subst (λ (x : (PassState × PassState) × (TableId × M K)). Merged x.0.0 x.0.1 (pass_state x.1.0 x.1.1.0)) (λ i. ((view i, view' i), (sym table i, sym t.0 i))) told

pub merged_count : {K : Type 0} (z z₁ z₂ : TableId) (m₀ m₁ m₂ : M K) (w : Knowledge) (p q : PassState) → pass_state z m₀.0 ≡ p → pass_state z₁ w ≡ q → m₁ ≡ (join_left m₀.0 w, m₀.1) → Settled m₁ m₂
    → numbers_held (pass_state z₂ m₂.0) ≡ numbers_held p + numbers_held q
merged_count {K} z z₁ z₂ m₀ m₁ m₂ w p q view view' e settled =
    let t = put_together m₀ m₁ m₂ w e settled in
    let a = ap (λ (m : M K). numbers_held (pass_state z₂ m.0)) t.0 in
    let b = ap numbers_held view in
    let c = ap numbers_held view' in
    let d = length-append m₀.0.callers w.callers in
    let f = count_append m₀.0.spare w.spare in
    omega (arith, a, b, c, d, f)

-- the numbers of the two are distinct, and the pass stays its own caller's
pub merged_apart : {K : Type 0} (z z₁ : TableId) (m₀ m₁ m₂ : M K) (w : Knowledge) (p q : PassState) → pass_state z m₀.0 ≡ p → pass_state z₁ w ≡ q → m₁ ≡ (join_left m₀.0 w, m₀.1) → Settled m₁ m₂ → HeldOnce p q
merged_apart z z₁ m₀ m₁ m₂ w p q view view' e settled n =
    let once = (put_together m₀ m₁ m₂ w e settled).3 n in
    let a = ap (times_held n) view in
    let b = ap (times_held n) view' in
    let c = times_append n m₀.0.callers w.callers in
    let d = in_ranges_append n m₀.0.spare w.spare in
    omega (arith, once, a, b, c, d)

pub merged_caller : (z : TableId) (v : Knowledge) (p q r : PassState) (c : ℕ) (others : List ℕ) → pass_state z v ≡ p → v.callers ≡ c ∷ others → Merged p q r → (0 < length p.callers) × (caller r ≡ caller p)
merged_caller z v p q r c others view mine merged =
    let is : p.callers ≡ c ∷ others = sym (ap (λ (s : PassState). s.callers) view) ∙ mine in
    let both : r.callers ≡ c ∷ (others ++ q.callers) = ap (λ (s : PassState). s.callers) merged.same ∙ ap (λ (l : List ℕ). l ++ q.callers) is in
    (subst (λ (l : List ℕ). 0 < length l) (sym is) (omega arith), ap (λ (l : List ℕ). slice_index l 0) both ∙ sym (ap (λ (l : List ℕ). slice_index l 0) is))

pub given_new : {K : Type 0} (z z' : TableId) (v : Knowledge) (m : M K) (p : PassState) (n : ℕ) → pass_state z v ≡ p → z' ≡ z → m ≡ (split_right n v, []) → 0 < n → n ≤ count_of v.spare → ((x : ℕ) → 0 < in_ranges x v.spare → calls_of (x ∷ []) v.seen ≡ [])
    → Given p n (pass_state z' m.0)
given_new {K} z z' v m p n view table is some_number enough unused =
    subst (λ (t : PassState × (TableId × M K)). Given t.0 n (pass_state t.1.0 t.1.1.0)) (λ i. (view i, (sym table i, sym is i))) (record { same = refl; own = unused (first_of_ranges (take_numbers n v.spare)) (first_is_spare n v some_number enough) })

-- no number is with both
pub given_apart : (z z' : TableId) (v left right : Knowledge) (n : ℕ) → left ≡ split_left n v → right ≡ split_right n v → 0 < n → n ≤ count_of v.spare → HoldsOnce v → HeldOnce (pass_state z left) (pass_state z' right)
given_apart z z' v left right n left_is right_is some_number enough once x =
    let a = ap (holds_number x) left_is in
    let b = ap (holds_number x) right_is in
    let c = same_numbers n v some_number enough x in
    let d = once x in
    omega (arith, a, b, c, d)

pub spare_unused : (z : TableId) (v : Knowledge) (p : PassState) → pass_state z v ≡ p → ((n : ℕ) → 0 < in_ranges n v.spare → calls_of (n ∷ []) v.seen ≡ []) → UsedNoSpare p
spare_unused z v p view unused = subst UsedNoSpare view unused

-- the numbers of the new pass, and those that are left
pub given_count : {K : Type 0} (z : TableId) (v : Knowledge) (m : M K) (n : ℕ) → m ≡ (split_right (n + 1) v, []) → n < count_of v.spare → (numbers_held (pass_state z m.0) ≡ n + 1) × (count_of m.0.spare ≡ n)
given_count {K} z v m n is enough =
    let a = ap (λ (k : M K). numbers_held (pass_state z k.0)) is in
    let b = right_size (n + 1) v (omega arith) (omega (arith, enough)) in
    let c = ap (λ (k : M K). count_of k.0.spare) is in
    (omega (arith, a, b), omega (arith, b, c))

pub left_count : (z z' : TableId) (v w : Knowledge) (p : PassState) (n : ℕ) → pass_state z v ≡ p → w ≡ split_left (n + 1) v → n < count_of v.spare → (numbers_held (pass_state z' w) + (n + 1) ≡ numbers_held p) × (count_of w.spare + (n + 1) ≡ count_of p.spare)
left_count z z' v w p n view is enough =
    let a = ap (λ (k : Knowledge). numbers_held (pass_state z' k)) is in
    let b = left_size (n + 1) v (omega arith) (omega (arith, enough)) in
    let c = ap numbers_held view in
    let d = ap (λ (k : Knowledge). count_of k.spare) is in
    let e = cut_count (n + 1) v.spare in
    let f = taken_count (n + 1) v.spare (omega (arith, enough)) in
    let h = ap (λ (k : PassState). count_of k.spare) view in
    (omega (arith, a, b, c), omega (arith, d, e, f, h))

-- ---- a pass rests between its calls

pub idle_made : {K : Type 0} (Told : PlainSession → Type 0) (shut : Type 0) (v : Knowledge) (request : Request) (result : Result Reply CallFault) (m : M K) → HasMade Told shut v request result m → IsIdle m
idle_made Told shut v request (Ok reply) m (history, c, others, mine, saw, is, answers, told) =
    subst (λ (n : M _). IsIdle n) (sym is) (record { empty = refl; ticket = refl; holding = refl; pending = refl; lost = refl; hopes = refl; kept = refl; other = refl; first = c; others = others; callers = mine })
idle_made Told shut v request (Err fault.WantOfMemory) m (history, c, others, mine, saw, is, due) =
    subst (λ (n : M _). IsIdle n) (sym is) (record { empty = refl; ticket = refl; holding = refl; pending = refl; lost = refl; hopes = refl; kept = refl; other = refl; first = c; others = others; callers = mine })
idle_made Told shut v request (Err fault.Unkept) m (history, c, others, mine, saw, is, due) =
    subst (λ (n : M _). IsIdle n) (sym is) (record { empty = refl; ticket = refl; holding = refl; pending = refl; lost = refl; hopes = refl; kept = refl; other = refl; first = c; others = others; callers = mine })

-- it has seen more
pub idle_counted : {K : Type 0} (Trusted : PlainSession → Type 0) (m m' : M K) (found : ℕ) → IsIdle m → HasCounted Trusted m found m' → IsIdle m'
idle_counted Trusted m m' found k (history, long, saw, is, plays) =
    subst (λ (n : M _). IsIdle n) (sym is)
    (record { empty = k.empty; ticket = k.ticket; holding = k.holding; pending = k.pending; lost = k.lost; hopes = k.hopes; kept = k.kept; other = k.other; first = k.first; others = k.others; callers = k.callers })

-- it has given numbers, or was made of them
pub idle_left : {K : Type 0} (m m' : M K) (n : ℕ) → IsIdle m → m' ≡ (split_left n m.0, m.1) → IsIdle m'
idle_left m m' n k is =
    subst (λ (z : M _). IsIdle z) (sym is)
    (record { empty = k.empty; ticket = k.ticket; holding = k.holding; pending = k.pending; lost = k.lost; hopes = k.hopes; kept = k.kept; other = k.other; first = k.first; others = k.others; callers = k.callers })

pub idle_right : {K : Type 0} (m : M K) (v : Knowledge) (n : ℕ) → m ≡ (split_right n v, []) → IsIdle m
idle_right m v n is =
    subst (λ (z : M _). IsIdle z) (sym is)
    (record { empty = refl; ticket = refl; holding = refl; pending = refl; lost = refl; hopes = refl; kept = refl; other = refl; first = first_of_ranges (take_numbers n v.spare); others = []; callers = refl })
