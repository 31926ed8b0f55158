-- Reading on, as a loop does.
use Rattle.std.proofs.Common.{◌≡◌, ℕ, suc, ◌+◌, ◌-◌, ◌<◌, ◌≤◌, Bool, true, false, cond, List, Option, Some, None, refl, sym, ap, ◌∙◌, arith}
use Rattle.byte_fields.specs.Fields.{◌>>=◌, whole}
use Rattle.session_log.specs.Stored.{PlainStored}
use Rattle.session_journal.specs.declared.change.Change.{Change}
use Rattle.session_journal.specs.Changes.{change_at}
use Rattle.session_journal.specs.Frames.{Check, Step, Place, frame_at, next_place, read_on}
use Rattle.session_journal.specs.State.{after_change, may_come, body_step}
use Rattle.session_journal.specs.Journal.{record_check}
use Rattle.session_journal.specs.Reading.{record_at}
use Rattle.session_journal.proofs.FrameLaws.{goes_on, stays}

pub one_more : {S : Type 0} (check : Check) (step : Step S) (count i : ℕ) (at next end : Place S) → i < count → next_place check step at ≡ Some next
    → read_on check step (count - i) at ≡ end → read_on check step (count - (i + 1)) next ≡ end
one_more check step count i at next end lt e so_far =
    let k : count - i ≡ suc (count - (i + 1)) = omega arith in
    sym (goes_on check step (count - (i + 1)) at next e) ∙ ap (λ (room : ℕ). read_on check step room at) (sym k) ∙ so_far

pub no_more : {S : Type 0} (check : Check) (step : Step S) (room : ℕ) (at end : Place S) → next_place check step at ≡ None
    → read_on check step room at ≡ end → at ≡ end
no_more check step room at end e so_far = sym (stays check step room at e) ∙ so_far

pub all_read : {S : Type 0} (check : Check) (step : Step S) (count i : ℕ) (at end : Place S) → count ≤ i
    → read_on check step (count - i) at ≡ end → at ≡ end
unfolding read_on
all_read check step count i at end le so_far =
    let k : count - i ≡ 0 = omega arith in
    ap (λ (room : ℕ). read_on check step room at) (sym k) ∙ so_far

-- ---- the next record

-- where a reader is after a change, if it may come
abbrev place_if : Place PlainStored → Change × (List ℕ × List ℕ) → Option (Place PlainStored)
place_if at x = cond (may_come at.state x.0) (Some (record { state = after_change at.state x.0; check = x.1.0; rest = x.1.1 })) None

-- where a reader is after a body
abbrev to_place : List ℕ → List ℕ → PlainStored → Option (Place PlainStored)
to_place check rest s = Some (record { state = s; check = check; rest = rest })

if_may : (b : Bool) (s : PlainStored) (check rest : List ℕ) → (cond b (Some s) None >>= to_place check rest) ≡ cond b (to_place check rest s) None
if_may true s check rest = refl
if_may false s check rest = refl

if_said : (said : Option Change) (at : Place PlainStored) (check rest : List ℕ)
    → ((said >>= λ c. cond (may_come at.state c) (Some (after_change at.state c)) None) >>= to_place check rest)
    ≡ ((said >>= λ c. Some (c, (check, rest))) >>= place_if at)
if_said None at check rest = refl
if_said (Some c) at check rest = if_may (may_come at.state c) (after_change at.state c) check rest

if_framed : (found : Option (List ℕ × List ℕ)) (at : Place PlainStored)
    → (found >>= λ x. body_step at.state x.0 >>= to_place (record_check at.check x.0) x.1)
    ≡ ((found >>= λ x. whole change_at x.0 >>= λ c. Some (c, (record_check at.check x.0, x.1))) >>= place_if at)
unfolding body_step
if_framed None at = refl
if_framed (Some x) at = if_said (whole change_at x.0) at (record_check at.check x.0) x.1

by_record : (at : Place PlainStored) → next_place record_check body_step at ≡ (record_at at.check at.rest >>= place_if at)
by_record at = if_framed (frame_at record_check at.check at.rest) at

-- no record is read
pub no_record : (at : Place PlainStored) → None ≡ record_at at.check at.rest → next_place record_check body_step at ≡ None
no_record at e = by_record at ∙ ap (λ (found : Option (Change × (List ℕ × List ℕ))). found >>= place_if at) (sym e)

-- what it says may not come
pub not_now : (at : Place PlainStored) (change : Change) (check rest : List ℕ) → Some (change, (check, rest)) ≡ record_at at.check at.rest
    → false ≡ may_come at.state change → next_place record_check body_step at ≡ None
not_now at change check rest e may =
    by_record at ∙ ap (λ (found : Option (Change × (List ℕ × List ℕ))). found >>= place_if at) (sym e)
    ∙ ap (λ (b : Bool). cond b (Some (record { state = after_change at.state change; check = check; rest = rest })) None) (sym may)

-- it comes
pub comes : (at : Place PlainStored) (change : Change) (check rest : List ℕ) → Some (change, (check, rest)) ≡ record_at at.check at.rest
    → true ≡ may_come at.state change → next_place record_check body_step at ≡ Some (record { state = after_change at.state change; check = check; rest = rest })
comes at change check rest e may =
    by_record at ∙ ap (λ (found : Option (Change × (List ℕ × List ℕ))). found >>= place_if at) (sym e)
    ∙ ap (λ (b : Bool). cond b (Some (record { state = after_change at.state change; check = check; rest = rest })) None) (sym may)
