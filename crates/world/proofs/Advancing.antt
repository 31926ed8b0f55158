-- A world advances message by message: the bound is never met, it comes to rest, and in two steps it comes to the same.
use Rattle.std.proofs.Common.{◌≡◌, ℕ, zero, suc, ◌+◌, ◌<◌, ◌≤◌, ⊎_elim, Bool, true, false, if◌then◌else◌, nat_lt, nat_le, List, [], ◌∷◌, length, Option, Some, None, refl, sym, ap, ◌∙◌, subst, arith}
use Rattle.std.proofs.lemmas.Bool.{leb-true, ltb-true, ltb-false, le-leb, cases_lt, lt-ltb}
use Rattle.std.proofs.lemmas.Option.{none-some}
use Rattle.world_plain.specs.Messages.{PlainMessage}
use Rattle.world_plain.specs.World.{WorldRecord}
use Rattle.world_plain.specs.Valid.{Valid, most_turns, most_messages}
use Rattle.tea_base.specs.Limits.{time_limit}
use Rattle.model_tree.specs.Tree.{ProgramTree}
use Rattle.model_eval.specs.Kept.{now_due}
use Rattle.model_eval.specs.Kept as kept
use Rattle.world.specs.Worlds.{Scene, scene_with_world, with_next_turn, at_later_time, first_where, due, after_method, after_message, enough, on_due, advance_within, advance}
use Rattle.world.proofs.Running.{Fits, begun-valid, ran-keeps}
use Rattle.world.proofs.Moving.{AllFrom, due-none, due-some, moved-valid, taken-valid, first-fits, rest-from, arrived-valid}

-- the world as a message begins: its time is the message's, and one more turn counts
abbrev pub opened : PlainMessage → List PlainMessage → WorldRecord → WorldRecord
opened m rest w = with_next_turn (at_later_time m.time (record w { pending = rest }))

pub opened-valid : (counts : List ℕ) (m : PlainMessage) (rest : List PlainMessage) (w : WorldRecord) → w.pending ≡ m ∷ rest → Valid counts w → Valid counts (opened m rest w)
opened-valid counts m rest w e v =
    begun-valid counts (at_later_time m.time (record w { pending = rest })) (moved-valid counts m.time (record w { pending = rest }) (first-fits counts w m rest e v).1 (rest-from counts w m rest e v) (taken-valid counts w m rest e v))

pub handled-valid : (counts : List ℕ) (program : ProgramTree) (m : PlainMessage) (rest : List PlainMessage) (s : Scene) → Fits counts program → s.world.pending ≡ m ∷ rest → Valid counts s.world → Valid counts (after_message program m rest s).world
handled-valid counts program m rest s fits e v =
    (ran-keeps counts program m.object m.method m.args (scene_with_world s (opened m rest s.world)) fits).valid (opened-valid counts m rest s.world e v, (first-fits counts s.world m rest e v).6)

due-le : (t : ℕ) (ms : List PlainMessage) → kept.count_due t ms ≤ length ms
due-le t [] = omega arith
due-le t (m ∷ ms) = due_le_if t (nat_le m.time t) ms (due-le t ms)
  where
    due_le_if : (t : ℕ) (b : Bool) (ms : List PlainMessage) → kept.count_due t ms ≤ length ms → (if b then 1 else 0) + kept.count_due t ms ≤ suc (length ms)
    due_le_if t true ms h = omega (arith, h)
    due_le_if t false ms h = omega (arith, h)

few-due : (counts : List ℕ) (w : WorldRecord) → Valid counts w → now_due w ≤ most_messages
few-due counts w v = omega (arith, due-le w.time w.pending, v.messages.few)

-- the bound falls where the time rises, where turns are left, and where at the same time fewer messages are due
falls_if : (t : ℕ) (m : PlainMessage) (rest : List PlainMessage) (w v : WorldRecord) (later : Bool) → later ≡ nat_lt w.time m.time → w.pending ≡ m ∷ rest → w.time ≤ m.time → m.time ≤ t → w.turns ≤ most_turns
    → (let o : WorldRecord = with_next_turn (if later then record w { pending = rest; time = m.time; turns = 0 } else record w { pending = rest }) in
    (v.time ≡ o.time) × (v.turns ≡ o.turns) × (o.turns ≡ most_turns → now_due v ≤ now_due o))
    → now_due v ≤ most_messages → enough t v < enough t w
falls_if t m rest w v true e first from le few k due = omega (arith, ltb-true w.time m.time (sym e), le, k.0, k.1, due)
falls_if t m rest w v false e first from le few k due =
    let same : m.time ≡ w.time = (let le : m.time ≤ w.time = ltb-false w.time m.time (sym e) in omega (arith, le, from)) in
    ⊎_elim
    (λ left. let turns : v.turns ≡ w.turns + 1 = omega (arith, k.1, left) in omega (arith, k.0, turns, due, left))
    (λ most. let full : w.turns ≡ most_turns = omega (arith, most, few) in
    let turns : v.turns ≡ most_turns = omega (arith, k.1, full) in
    let calm : now_due v ≤ kept.count_due w.time rest = k.2 (omega (arith, full)) in
    let counts : now_due w ≡ kept.count_due w.time rest + 1 = ap (kept.count_due w.time) first ∙ one_due w.time m rest (omega (arith, same)) in
    omega (arith, k.0, turns, full, calm, counts))
    (cases_lt w.turns most_turns)
  where
    one_due_if : (time : ℕ) (b : Bool) (n : ℕ) → b ≡ true → (if b then 1 else 0) + n ≡ n + 1
    one_due_if time true n h = omega arith
    one_due_if time false n h = cc

    one_due : (time : ℕ) (m : PlainMessage) (rest : List PlainMessage) → m.time ≤ time → kept.count_due time (m ∷ rest) ≡ kept.count_due time rest + 1
    one_due time m rest le = one_due_if time (nat_le m.time time) (kept.count_due time rest) (le-leb m.time time le)

pub enough-falls : (counts : List ℕ) (program : ProgramTree) (t : ℕ) (m : PlainMessage) (rest : List PlainMessage) (s : Scene) → Fits counts program → Valid counts s.world → s.world.pending ≡ m ∷ rest → m.time ≤ t → enough t (after_message program m rest s).world < enough t s.world
enough-falls counts program t m rest s fits v e le =
    let o : Scene = scene_with_world s (opened m rest s.world) in
    let k = ran-keeps counts program m.object m.method m.args o fits in
    let after : Valid counts (after_message program m rest s).world = handled-valid counts program m rest s fits e v in
    falls_if t m rest s.world (after_message program m rest s).world (nat_lt s.world.time m.time) refl e (first-fits counts s.world m rest e v).0 le v.clock.turns_fit (k.time, k.turns, k.calm) (few-due counts (after_message program m rest s).world after)

-- a message that is due, as what is handled
record IsDue (t : ℕ) (s : Scene) (d : PlainMessage × List PlainMessage) : Type 0 where
  first : s.world.pending ≡ d.0 ∷ d.1
  time : d.0.time ≤ t

is-due : (t : ℕ) (s : Scene) (d : PlainMessage × List PlainMessage) → due t s.world.pending ≡ Some d → IsDue t s d
is-due t s d e = let f = due-some t s.world.pending d.0 d.1 e in record { first = f.first; time = f.time }

-- any bound that is enough gives the same
same_by : (counts : List ℕ) (program : ProgramTree) (t n k : ℕ) (s : Scene) (d : Option (PlainMessage × List PlainMessage)) → due t s.world.pending ≡ d → Fits counts program → Valid counts s.world
    → ((u : Scene) → Valid counts u.world → enough t u.world < enough t s.world → advance_within program n t u ≡ advance_within program k t u)
    → on_due program t (advance_within program n t) d s ≡ on_due program t (advance_within program k t) d s
same_by counts program t n k s None e fits v same = refl
same_by counts program t n k s (Some d) e fits v same =
    let is = is-due t s d e in
    same (after_message program d.0 d.1 s) (handled-valid counts program d.0 d.1 s fits is.first v) (enough-falls counts program t d.0 d.1 s fits v is.first is.time)

nothing_due : (counts : List ℕ) (program : ProgramTree) (t : ℕ) (s : Scene) (d : Option (PlainMessage × List PlainMessage)) → due t s.world.pending ≡ d → Fits counts program → Valid counts s.world → enough t s.world ≤ 0 → (more : Scene → Scene) → on_due program t more d s ≡ scene_with_world s (at_later_time t s.world)
nothing_due counts program t s None e fits v none more = refl
nothing_due counts program t s (Some d) e fits v none more =
    let is = is-due t s d e in
    absurd (omega (arith, none, enough-falls counts program t d.0 d.1 s fits v is.first is.time))

pub within-enough : (counts : List ℕ) (program : ProgramTree) (t n k : ℕ) (s : Scene) → Fits counts program → Valid counts s.world → enough t s.world ≤ n → enough t s.world ≤ k → advance_within program n t s ≡ advance_within program k t s
within-enough counts program t zero zero s fits v a b = refl
within-enough counts program t zero (suc k) s fits v a b = sym (nothing_due counts program t s (due t s.world.pending) refl fits v a (advance_within program k t))
within-enough counts program t (suc n) zero s fits v a b = nothing_due counts program t s (due t s.world.pending) refl fits v b (advance_within program n t)
within-enough counts program t (suc n) (suc k) s fits v a b =
    same_by counts program t n k s (due t s.world.pending) refl fits v (λ u valid less. within-enough counts program t n k u fits valid (omega (arith, a, less)) (omega (arith, b, less)))

-- one message, or the end
pub advance-step : (counts : List ℕ) (program : ProgramTree) (t : ℕ) (s : Scene) → Fits counts program → Valid counts s.world → advance program t s ≡ on_due program t (advance program t) (due t s.world.pending) s
advance-step counts program t s fits v =
    let all = enough t s.world in
    within-enough counts program t all (suc all) s fits v (omega arith) (omega arith) ∙ step (due t s.world.pending) refl
  where
    step : (d : Option (PlainMessage × List PlainMessage)) → due t s.world.pending ≡ d → on_due program t (advance_within program (enough t s.world) t) d s ≡ on_due program t (advance program t) d s
    step None e = refl
    step (Some d) e =
        let is = is-due t s d e in
        let u = after_message program d.0 d.1 s in
        within-enough counts program t (enough t s.world) (enough t u.world) u fits (handled-valid counts program d.0 d.1 s fits is.first v) (omega (arith, enough-falls counts program t d.0 d.1 s fits v is.first is.time)) (omega arith)

-- ---- what advancing leaves

-- a property of where it ends, from what holds at each message and at the end
module _ (counts : List ℕ) (program : ProgramTree) (t : ℕ) (fits : Fits counts program) (P : Scene → Type 0) (at_end : (s : Scene) → Valid counts s.world → due t s.world.pending ≡ None → P (scene_with_world s (at_later_time t s.world))) where
  ends_by : (n : ℕ) (s : Scene) (d : Option (PlainMessage × List PlainMessage)) → due t s.world.pending ≡ d → Valid counts s.world → ((u : Scene) → Valid counts u.world → enough t u.world < enough t s.world → P (advance program t u)) → P (on_due program t (advance program t) d s)
  ends_by n s None e v later = at_end s v e
  ends_by n s (Some d) e v later =
      let is = is-due t s d e in
      later (after_message program d.0 d.1 s) (handled-valid counts program d.0 d.1 s fits is.first v) (enough-falls counts program t d.0 d.1 s fits v is.first is.time)

  ends : (n : ℕ) (s : Scene) → Valid counts s.world → enough t s.world ≤ n → P (advance program t s)
  ends zero s v le = subst P (sym (advance-step counts program t s fits v)) (ends_by zero s (due t s.world.pending) refl v (λ u valid less. absurd (omega (arith, less, le))))
  ends (suc n) s v le = subst P (sym (advance-step counts program t s fits v)) (ends_by n s (due t s.world.pending) refl v (λ u valid less. ends n u valid (omega (arith, less, le))))

  pub ends-so : (s : Scene) → Valid counts s.world → P (advance program t s)
  ends-so s v = ends (enough t s.world) s v (omega arith)

pub advance-valid : (counts : List ℕ) (program : ProgramTree) (t : ℕ) (s : Scene) → Fits counts program → t < time_limit → Valid counts s.world → Valid counts (advance program t s).world
advance-valid counts program t s fits below v = ends-so counts program t fits (λ u. Valid counts u.world) (λ u valid none. arrived-valid counts t u.world below none valid) s v

moved-pending : (t : ℕ) (w : WorldRecord) → (at_later_time t w).pending ≡ w.pending
moved-pending t w = pending_if (nat_lt w.time t) t w
  where
    pending_if : (later : Bool) (t : ℕ) (w : WorldRecord) → (if later then record w { time = t; turns = 0 } else w).pending ≡ w.pending
    pending_if true t w = refl
    pending_if false t w = refl

-- nothing is due any more
pub advance-rests : (counts : List ℕ) (program : ProgramTree) (t : ℕ) (s : Scene) → Fits counts program → Valid counts s.world → due t (advance program t s).world.pending ≡ None
advance-rests counts program t s fits v = ends-so counts program t fits (λ u. due t u.world.pending ≡ None) (λ u valid none. ap (due t) (moved-pending t u.world) ∙ none) s v

-- the world's time is where it arrives
moved_time_if : (later : Bool) (t : ℕ) (w : WorldRecord) → later ≡ nat_lt w.time t → w.time ≤ t → (if later then record w { time = t; turns = 0 } else w).time ≡ t
moved_time_if true t w e le = refl
moved_time_if false t w e le = let back : t ≤ w.time = ltb-false w.time t (sym e) in omega (arith, back, le)

opened_time_if : (later : Bool) (t : ℕ) (m : PlainMessage) (rest : List PlainMessage) (w : WorldRecord) → w.time ≤ t → m.time ≤ t → (with_next_turn (if later then record w { pending = rest; time = m.time; turns = 0 } else record w { pending = rest })).time ≤ t
opened_time_if true t m rest w le due = due
opened_time_if false t m rest w le due = le

pub handled-time : (counts : List ℕ) (program : ProgramTree) (t : ℕ) (m : PlainMessage) (rest : List PlainMessage) (s : Scene) → Fits counts program → s.world.time ≤ t → m.time ≤ t → (after_message program m rest s).world.time ≤ t
handled-time counts program t m rest s fits le due =
    let o : Scene = scene_with_world s (opened m rest s.world) in
    let same = (ran-keeps counts program m.object m.method m.args o fits).time in
    let before : o.world.time ≤ t = opened_time_if (nat_lt s.world.time m.time) t m rest s.world le due in
    omega (arith, same, before)

module _ (counts : List ℕ) (program : ProgramTree) (t : ℕ) (fits : Fits counts program) where
  arrives_by : (s : Scene) (d : Option (PlainMessage × List PlainMessage)) → due t s.world.pending ≡ d → Valid counts s.world → s.world.time ≤ t
      → ((u : Scene) → Valid counts u.world → u.world.time ≤ t → enough t u.world < enough t s.world → (advance program t u).world.time ≡ t)
      → (on_due program t (advance program t) d s).world.time ≡ t
  arrives_by s None e v le later = moved_time_if (nat_lt s.world.time t) t s.world refl le
  arrives_by s (Some d) e v le later =
      let is = is-due t s d e in
      later (after_message program d.0 d.1 s) (handled-valid counts program d.0 d.1 s fits is.first v) (handled-time counts program t d.0 d.1 s fits le is.time) (enough-falls counts program t d.0 d.1 s fits v is.first is.time)

  arrives : (n : ℕ) (s : Scene) → Valid counts s.world → s.world.time ≤ t → enough t s.world ≤ n → (advance program t s).world.time ≡ t
  arrives zero s v le few = ap (λ (u : Scene). u.world.time) (advance-step counts program t s fits v) ∙ arrives_by s (due t s.world.pending) refl v le (λ u valid at less. absurd (omega (arith, less, few)))
  arrives (suc n) s v le few = ap (λ (u : Scene). u.world.time) (advance-step counts program t s fits v) ∙ arrives_by s (due t s.world.pending) refl v le (λ u valid at less. arrives n u valid at (omega (arith, less, few)))

  pub advance-arrives : (s : Scene) → Valid counts s.world → s.world.time ≤ t → (advance program t s).world.time ≡ t
  advance-arrives s v le = arrives (enough t s.world) s v le (omega arith)

-- ---- two steps

abbrev at_time : ℕ → WorldRecord → WorldRecord
at_time t w = record w { time = t; turns = 0 }

-- moving to s and then to a later t is moving to t
from_later : (b late : Bool) (s t : ℕ) (w : WorldRecord) → b ≡ nat_lt s t → late ≡ nat_lt w.time t → w.time < s → s ≤ t → (if b then at_time t w else at_time s w) ≡ (if late then at_time t w else w)
from_later true late s t w e l lt le =
    let late_is : late ≡ true = l ∙ lt-ltb w.time t (omega (arith, lt, le)) in
    rw late_is refl
from_later false late s t w e l lt le =
    let back : t ≤ s = ltb-false s t (sym e) in
    let same : s ≡ t = omega (arith, back, le) in
    let late_is : late ≡ true = l ∙ lt-ltb w.time t (omega (arith, lt, le)) in
    rw late_is (ap (λ (u : ℕ). at_time u w) same)

moved_twice_if : (early : Bool) (s t : ℕ) (w : WorldRecord) → early ≡ nat_lt w.time s → s ≤ t → at_later_time t (if early then at_time s w else w) ≡ at_later_time t w
moved_twice_if false s t w e le = refl
moved_twice_if true s t w e le = from_later (nat_lt s t) (nat_lt w.time t) s t w refl refl (ltb-true w.time s (sym e)) le

moved-moved : (s t : ℕ) (w : WorldRecord) → s ≤ t → at_later_time t (at_later_time s w) ≡ at_later_time t w
moved-moved s t w le = moved_twice_if (nat_lt w.time s) s t w refl le

-- a message behind s begins alike, whether or not the time was moved to s before
opened_if : (early : Bool) (s : ℕ) (m : PlainMessage) (rest : List PlainMessage) (w : WorldRecord) → early ≡ nat_lt w.time s → s ≤ m.time → opened m rest (if early then at_time s w else w) ≡ opened m rest w
opened_if false s m rest w e le = refl
opened_if true s m rest w e le = ap with_next_turn (from_later (nat_lt s m.time) (nat_lt w.time m.time) s m.time (record w { pending = rest }) refl refl (ltb-true w.time s (sym e)) le)

opened-moved : (s : ℕ) (m : PlainMessage) (rest : List PlainMessage) (w : WorldRecord) → s ≤ m.time → opened m rest (at_later_time s w) ≡ opened m rest w
opened-moved s m rest w le = opened_if (nat_lt w.time s) s m rest w refl le

-- nothing is due at s, so the messages are all behind it
behind-due : (counts : List ℕ) (s t : ℕ) (a : Scene) (d : PlainMessage × List PlainMessage) → Valid counts a.world → due s a.world.pending ≡ None → due t a.world.pending ≡ Some d → s ≤ d.0.time
behind-due counts s t a d v none some =
    let is = is-due t a d some in
    let all = due-none s a.world.pending v.messages.order none in
    let here : AllFrom (s + 1) (d.0 ∷ d.1) = subst (AllFrom (s + 1)) is.first all in
    omega (arith, here.0)

module _ (counts : List ℕ) (program : ProgramTree) (s t : ℕ) (fits : Fits counts program) (le : s ≤ t) (below : s < time_limit) where
  -- from where nothing is due at s
  rested_by : (a : Scene) (d : Option (PlainMessage × List PlainMessage)) → due t a.world.pending ≡ d → Valid counts a.world → due s a.world.pending ≡ None
      → on_due program t (advance program t) d (scene_with_world a (at_later_time s a.world)) ≡ on_due program t (advance program t) d a
  rested_by a None e v none = ap (scene_with_world a) (moved-moved s t a.world le)
  rested_by a (Some d) e v none =
      let same : opened d.0 d.1 (at_later_time s a.world) ≡ opened d.0 d.1 a.world = opened-moved s d.0 d.1 a.world (behind-due counts s t a d v none e) in
      ap (λ (w : WorldRecord). advance program t (after_method program d.0.object d.0.method d.0.args (scene_with_world a w))) same

  rested : (a : Scene) → Valid counts a.world → due s a.world.pending ≡ None → advance program t (scene_with_world a (at_later_time s a.world)) ≡ advance program t a
  rested a v none =
      let valid : Valid counts (at_later_time s a.world) = arrived-valid counts s a.world below none v in
      let same : due t (at_later_time s a.world).pending ≡ due t a.world.pending = ap (due t) (moved-pending s a.world) in
      advance-step counts program t (scene_with_world a (at_later_time s a.world)) fits valid
      ∙ ap (λ d. on_due program t (advance program t) d (scene_with_world a (at_later_time s a.world))) same
      ∙ rested_by a (due t a.world.pending) refl v none
      ∙ sym (advance-step counts program t a fits v)

  due_later_if : (early late : Bool) (m : PlainMessage) (rest : List PlainMessage) (d : PlainMessage × List PlainMessage) → early ≡ nat_le m.time s → late ≡ nat_le m.time t → first_where early m rest ≡ Some d → first_where late m rest ≡ Some d
  due_later_if true late m rest d e l h =
      let is : late ≡ true = l ∙ le-leb m.time t (let early : m.time ≤ s = leb-true m.time s (sym e) in omega (arith, early, le)) in
      ap (λ b. first_where b m rest) is ∙ h
  due_later_if false late m rest d e l h = absurd (none-some d h)

  due_later : (ms : List PlainMessage) (d : PlainMessage × List PlainMessage) → due s ms ≡ Some d → due t ms ≡ Some d
  due_later [] d h = absurd (none-some d h)
  due_later (m ∷ ms) d h = due_later_if (nat_le m.time s) (nat_le m.time t) m ms d refl refl h

  twice_by : (a : Scene) (d : Option (PlainMessage × List PlainMessage)) → due s a.world.pending ≡ d → Valid counts a.world
      → ((u : Scene) → Valid counts u.world → enough s u.world < enough s a.world → advance program t (advance program s u) ≡ advance program t u)
      → advance program t (on_due program s (advance program s) d a) ≡ advance program t a
  twice_by a None e v later = rested a v e
  twice_by a (Some d) e v later =
      let is = is-due s a d e in
      let u : Scene = after_message program d.0 d.1 a in
      later u (handled-valid counts program d.0 d.1 a fits is.first v) (enough-falls counts program s d.0 d.1 a fits v is.first is.time)
      ∙ ap (λ o. on_due program t (advance program t) o a) (sym (due_later a.world.pending d e))
      ∙ sym (advance-step counts program t a fits v)

  twice : (n : ℕ) (a : Scene) → Valid counts a.world → enough s a.world ≤ n → advance program t (advance program s a) ≡ advance program t a
  twice zero a v few = ap (advance program t) (advance-step counts program s a fits v) ∙ twice_by a (due s a.world.pending) refl v (λ u valid less. absurd (omega (arith, less, few)))
  twice (suc n) a v few = ap (advance program t) (advance-step counts program s a fits v) ∙ twice_by a (due s a.world.pending) refl v (λ u valid less. twice n u valid (omega (arith, less, few)))

  pub advance-twice : (a : Scene) → Valid counts a.world → advance program t (advance program s a) ≡ advance program t a
  advance-twice a v = twice (enough s a.world) a v (omega arith)
