-- What an answer adds to a log.
use Rattle.std.proofs.Common.{ℕ, ◌≡◌, Bool, true, false, ◌&&◌, ◌==◌, not, if◌then◌else◌, List, length, nat_le, nat_lt, refl}
use Rattle.tea_base.specs.declared.entry.Entry.{Entry}
use Rattle.tea_base.specs.declared.entry.What.{What}
use Rattle.tea_base.specs.declared.entry.What.TheVariants as what
use Rattle.tea_base.specs.Readings.{is_here, here_count}
use Rattle.tea_base.specs.Limits.{most_here, end_of_time}
use Rattle.session_log.specs.LogState.{with_next}
use Rattle.reflector_core.specs.PlainSession.{PlainSession}
use Rattle.reflector_core.specs.Answer.{SessionOutcome, answer, is_ahead, is_closed, is_stale, stamp}
use Rattle.reflector_core.specs.declared.request.Request.{Request}
use Rattle.reflector_core.specs.declared.request.Request.TheVariants.{Join, Send, Tick, Leave, Offer, Pull}
use Rattle.reflector_core.proofs.SoundLaws.{send_along, offer_along}

pub if_is : (P : SessionOutcome → Type 0) (test : Bool) {a b : SessionOutcome} → (test ≡ true → P a) → (test ≡ false → P b) → P (if test then a else b)
if_is P true first second = first refl
if_is P false first second = second refl

-- of the view and of what the request may add
abbrev pub OnAdded : (ℕ → What → Type 0) → Request → Type 0
OnAdded Q (Join view now want) = Q view what.Join
OnAdded Q (Send view joined number payload now) = Q view (what.Event number payload)
OnAdded Q (Tick now) = Unit {0}
OnAdded Q (Leave view joined now) = Q view what.Exit
OnAdded Q (Offer view joined time bytes) = Unit {0}
OnAdded Q (Pull after limit) = Unit {0}

-- what is so of the log, and of the log with what may be added, is so after the answer
pub log_after : (P : List Entry → Type 0) (s : PlainSession) (request : Request) → P s.log → OnAdded (λ view what. (time : ℕ) → P (with_next s.log time view what)) request
    → P (answer s request).session.log
log_after P s (Join view now want) same added =
    let Q : SessionOutcome → Type 0 = λ o. P o.session.log in
    if_is Q (view == 0) (λ _. same) (λ _.
    if_is Q (is_ahead s.horizon want) (λ _. same) (λ _.
    if_is Q (not (is_here s.log view) && nat_le most_here (here_count s.log)) (λ _. same) (λ _.
    if_is Q (is_closed s.log) (λ _. same) (λ _.
    if_is Q (nat_le end_of_time s.horizon) (λ _. same) (λ _. added (stamp s.horizon now))))))
log_after P s (Send view joined number payload now) same added =
    send_along (λ new. P new.log) s view joined number payload now same (λ _ _ _ _ _ _. added (stamp s.horizon now))
log_after P s (Tick now) same added = same
log_after P s (Leave view joined now) same added = if_is (λ o. P o.session.log) (is_stale s.log view joined) (λ _. same) (λ _. added (stamp s.horizon now))
log_after P s (Offer view joined time bytes) same added = offer_along (λ new. P new.log) s view joined time bytes same (λ _ _. same)
log_after P s (Pull after limit) same added = if_is (λ o. P o.session.log) (nat_lt (length s.log) after) (λ _. same) (λ _. same)
