-- Where a step changes nothing, what a turn puts on its connection, and what the table says in words.
use Rattle.std.proofs.lemmas.Bool.Decides.{nat_tests}
use Rattle.std.proofs.Common.{ℕ, ◌≡◌, ◌≢◌, ◌+◌, ◌≤◌, ◌<◌, Bool, true, false, cond, not, eqb, nat_le, nat_lt, ◌&&◌, ◌||◌, List, [], ◌∷◌, ◌++◌, Option, Some, None, Result, Ok, Err, is_some, length, slice_get, refl, sym, ap, ◌∙◌, arith}
use Rattle.tea_base.specs.Limits.{most_payload}
use Rattle.wire_frames.specs.declared.frame.ClientFrame.{ClientFrame}
use Rattle.reflector_core.specs.PlainSession.{PlainSession}
use Rattle.reflector_core.specs.declared.request.Refusal.{Refusal}
use Rattle.reflector_core.specs.declared.request.Refusal.TheVariants as refusal
use Rattle.reflector_core.specs.declared.request.Reply.{Reply}
use Rattle.reflector_core.specs.declared.request.Reply.TheVariants as reply
use Rattle.reflector_core.specs.declared.request.Request.{Request}
use Rattle.replica_plain.specs.declared.fault.PublishRefusal.{PublishRefusal}
use Rattle.replica_plain.specs.declared.fault.PublishRefusal.TheVariants.{Full, TooLong, WantOfMemory}
use Rattle.replica_plain.specs.declared.how.How.TheVariants.{Fresh, Resume, Whole}
use Rattle.replica_plain.specs.Calls.{Publishes, join_frame, joining, publishes}
use Rattle.replica_plain.specs.PlainReplica.{PlainReplica, new_replica, most_published, published_count}
use Rattle.replica_plain.specs.Worlds.{Worlds}
use Rattle.join_sync.specs.declared.cursor.Cursor.{Cursor}
use Rattle.system_plain.specs.Steps.{Found, Pull, Restart, Take, after_joined, after_leave, after_next, after_step, may_publish, pull_on, restart_by, take_on, told_connection, with_both}
use Rattle.system_plain.specs.System.{Client, Connection, System, connecting, view_client}
use Rattle.system_plain.specs.Turn.{ask_told, ends_connection, join_told}
use Rattle.system_plain.proofs.Openings.{or_true}
use Rattle.system_plain.proofs.Turns.{both_same}

-- a test that fails, and a choice by it
pub false_chosen : {A : Type 0} (test : Bool) (made unmade : A) → test ≡ false → cond test made unmade ≡ unmade
false_chosen true made unmade is = absurd cc
false_chosen false made unmade is = refl

pub true_chosen : {A : Type 0} (test : Bool) (made unmade : A) → test ≡ true → cond test made unmade ≡ made
true_chosen true made unmade is = refl
true_chosen false made unmade is = absurd cc

-- ---- Found

pub found_row : {W O : Type 0} (m : Worlds W O) (s : System W O) (view : ℕ) → view ≢ 0 → view_client s.clients view ≡ None
    → after_step m s (Found view) ≡ record s { clients = s.clients ++ record { replica = joining (new_replica m view) Fresh; newest = length s.connections } ∷ []; connections = s.connections ++ connecting view (join_frame m (new_replica m view) Fresh) ∷ [] }
found_row m s view named none =
    let nonzero : eqb view 0 ≡ false = grind (arith, nat_tests) in
    let test : (eqb view 0 || is_some (view_client s.clients view)) ≡ false = rw (nonzero, none) refl in
    false_chosen (eqb view 0 || is_some (view_client s.clients view)) s _ test

and_false : (b : Bool) → (b && false) ≡ false
and_false true = refl
and_false false = refl

or_some : (zero : Bool) → (zero || true) ≡ true
or_some true = refl
or_some false = refl

pub found_again : {W O : Type 0} (m : Worlds W O) (s : System W O) (view : ℕ) (client : Client W O) → view_client s.clients view ≡ Some client → after_step m s (Found view) ≡ s
found_again m s view client is =
    let test : (eqb view 0 || is_some (view_client s.clients view)) ≡ true = ap (λ (found : Option (Client _ _)). eqb view 0 || is_some found) is ∙ or_some (eqb view 0) in
    true_chosen (eqb view 0 || is_some (view_client s.clients view)) s _ test

-- ---- Take and Pull

-- on a connection that is not over
pub going_row : {W O : Type 0} (m : Worlds W O) (s : System W O) (number now : ℕ) (c : Connection) (ups : List ClientFrame) → slice_get s.connections number ≡ Some c → c.over ≡ false → c.up ≡ ups
    → after_step m s (Take number now) ≡ with_both s number (after_next (record { 0 = m.session }) s.session c ups now)
going_row m s number now c ups at going is =
    ap (λ (found : Option Connection). take_on m s number found now) at ∙ ap (with_both s number) (false_chosen c.over (s.session, c) (after_next (record { 0 = m.session }) s.session c c.up now) going)
    ∙ ap (λ (l : List ClientFrame). with_both s number (after_next (record { 0 = m.session }) s.session c l now)) is

pub pull_going : {W O : Type 0} (m : Worlds W O) (s : System W O) (number : ℕ) (c : Connection) → slice_get s.connections number ≡ Some c → c.over ≡ false → after_step m s (Pull number) ≡ with_both s number (after_joined s.session c c.cursor)
pull_going m s number c at going = ap (λ (found : Option Connection). pull_on s number found) at ∙ ap (with_both s number) (false_chosen c.over (s.session, c) (after_joined s.session c c.cursor) going)

-- and where nothing is done
both_rest : {W O : Type 0} (s : System W O) (number : ℕ) (c : Connection) (new : PlainSession × Connection) → slice_get s.connections number ≡ Some c → new ≡ (s.session, c) → with_both s number new ≡ s
both_rest s number c new at is = ap (with_both s number) is ∙ both_same s number c at

pub over_rests : {W O : Type 0} (m : Worlds W O) (s : System W O) (number now : ℕ) (c : Connection) → slice_get s.connections number ≡ Some c → c.over ≡ true → (after_step m s (Take number now) ≡ s) × (after_step m s (Pull number) ≡ s)
over_rests m s number now c at over = (
  ap (λ (found : Option Connection). take_on m s number found now) at ∙ both_rest s number c _ at (true_chosen c.over (s.session, c) (after_next (record { 0 = m.session }) s.session c c.up now) over),
  ap (λ (found : Option Connection). pull_on s number found) at ∙ both_rest s number c _ at (true_chosen c.over (s.session, c) (after_joined s.session c c.cursor) over),
)

same_chosen : {A : Type 0} (test : Bool) (a b : A) → b ≡ a → cond test a b ≡ a
same_chosen true a b is = refl
same_chosen false a b is = is

pub no_pull : {W O : Type 0} (m : Worlds W O) (s : System W O) (number : ℕ) (c : Connection) → slice_get s.connections number ≡ Some c → c.cursor ≡ None → after_step m s (Pull number) ≡ s
no_pull m s number c at fresh =
    ap (λ (found : Option Connection). pull_on s number found) at
    ∙ both_rest s number c _ at (same_chosen c.over (s.session, c) (after_joined s.session c c.cursor) (ap (after_joined s.session c) fresh))

take_rests : {W O : Type 0} (m : Worlds W O) (s : System W O) (number now : ℕ) (c : Connection) → slice_get s.connections number ≡ Some c → c.up ≡ [] → after_leave s.session c c.cursor now ≡ (s.session, c) → after_step m s (Take number now) ≡ s
take_rests m s number now c at ups stays =
    ap (λ (found : Option Connection). take_on m s number found now) at
    ∙ both_rest s number c _ at (same_chosen c.over (s.session, c) (after_next (record { 0 = m.session }) s.session c c.up now) (ap (λ (l : List ClientFrame). after_next (record { 0 = m.session }) s.session c l now) ups ∙ stays))

open_stays : (s : PlainSession) (c : Connection) (cursor : Option Cursor) (now : ℕ) → c.closed ≡ false → after_leave s c cursor now ≡ (s, c)
open_stays s c None now unclosed = refl
open_stays s c (Some cursor) now unclosed = false_chosen c.closed _ (s, c) unclosed

pub no_take : {W O : Type 0} (m : Worlds W O) (s : System W O) (number now : ℕ) (c : Connection) → slice_get s.connections number ≡ Some c → c.up ≡ [] → c.closed ≡ false → after_step m s (Take number now) ≡ s
no_take m s number now c at ups unclosed = take_rests m s number now c at ups (open_stays s.session c c.cursor now unclosed)

pub no_leave : {W O : Type 0} (m : Worlds W O) (s : System W O) (number now : ℕ) (c : Connection) → slice_get s.connections number ≡ Some c → c.up ≡ [] → c.cursor ≡ None → after_step m s (Take number now) ≡ s
no_leave m s number now c at ups fresh = take_rests m s number now c at ups (ap (λ (cursor : Option Cursor). after_leave s.session c cursor now) fresh)

-- ---- in words

both_true : (a b : Bool) → (a && b) ≡ true → (a ≡ true) × (b ≡ true)
both_true true true is = (refl, refl)
both_true true false is = absurd cc
both_true false b is = absurd cc

pub publishes_so : {W O : Type 0} (r new : PlainReplica W O) (payload : List ℕ) → may_publish r payload ≡ true → Publishes (Ok (published_count r + 1)) r (publishes r payload) payload
publishes_so r new payload may =
    let both = both_true (nat_le (length payload) most_payload) (nat_lt (published_count r) most_published) may in
    let short = both.0 in
    let few = both.1 in
    (grind (arith, nat_tests), grind (arith, nat_tests), refl, refl)

pub publishes_not : {W O : Type 0} (r new : PlainReplica W O) (payload : List ℕ) (number : ℕ) → may_publish r payload ≡ false → Publishes (Ok number) r new payload → ⊥
publishes_not r new payload number may published =
    let short : nat_le (length payload) most_payload ≡ true = let h = published.0 in grind (arith, nat_tests) in
    let few : nat_lt (published_count r) most_published ≡ true = let h = published.1 in grind (arith, nat_tests) in
    let both : (nat_le (length payload) most_payload && nat_lt (published_count r) most_published) ≡ true = rw (short, few) refl in
    cc

lost_by : {W O : Type 0} (m : Worlds W O) (s : System W O) (found : Option (Client W O)) → restart_by m s Resume found ≡ restart_by m s Whole found
lost_by m s None = refl
lost_by m s (Some client) = refl

pub lost_row : {W O : Type 0} (m : Worlds W O) (s : System W O) (view : ℕ) → after_step m s (Restart view Resume) ≡ after_step m s (Restart view Whole)
lost_row m s view = lost_by m s (view_client s.clients view)

pub refused_row : (c : Connection) (asked : Request) (why : Refusal) → (told_connection c (join_told asked (reply.Refused why))).over ≡ true
refused_row c asked why = or_true c.over

pub stale_row : (c : Connection) (cursor : Cursor) (asked : Request) (current : ℕ) → (told_connection c (ask_told cursor asked (reply.Refused (refusal.Stale current)))).over ≡ true
stale_row c cursor asked current = or_true c.over

pub left_row : (c : Connection) (cursor : Cursor) (asked : Request) (seq time : ℕ) → (told_connection c (ask_told cursor asked (reply.Left seq time))).over ≡ true
left_row c cursor asked seq time = or_true c.over

ends_not : (given : Reply) → ((seq time : ℕ) → given ≡ reply.Left seq time → ⊥) → ((current : ℕ) → given ≡ reply.Refused (refusal.Stale current) → ⊥) → ends_connection given ≡ false
ends_not (reply.Left seq time) left stale = absurd (left seq time refl)
ends_not (reply.Refused (refusal.Stale current)) left stale = absurd (stale current refl)
ends_not other left stale = refl

or_false : (b : Bool) → (b || false) ≡ b
or_false true = refl
or_false false = refl

pub stays_row : (c : Connection) (cursor : Cursor) (asked : Request) (given : Reply) → ((seq time : ℕ) → given ≡ reply.Left seq time → ⊥) → ((current : ℕ) → given ≡ reply.Refused (refusal.Stale current) → ⊥) → (told_connection c (ask_told cursor asked given)).over ≡ c.over
stays_row c cursor asked given left stale = ap (λ (ends : Bool). c.over || ends) (ends_not given left stale) ∙ or_false c.over

-- ---- publications

long_may_not : {W O : Type 0} (r : PlainReplica W O) (payload : List ℕ) → most_payload < length payload → may_publish r payload ≡ false
long_may_not r payload long = let test : nat_le (length payload) most_payload ≡ false = grind (arith, nat_tests) in ap (λ (short : Bool). short && nat_lt (published_count r) most_published) test

full_may_not : {W O : Type 0} (r : PlainReplica W O) (payload : List ℕ) → most_published ≤ published_count r → may_publish r payload ≡ false
full_may_not r payload full =
    let test : nat_lt (published_count r) most_published ≡ false = grind (arith, nat_tests) in
    ap (λ (few : Bool). nat_le (length payload) most_payload && few) test ∙ and_false (nat_le (length payload) most_payload)

pub publication_decided : {W O : Type 0} (result : Result ℕ PublishRefusal) (r new : PlainReplica W O) (payload : List ℕ) → (result ≡ Err WantOfMemory → ⊥) → Publishes result r new payload → new ≡ cond (may_publish r payload) (publishes r payload) r
publication_decided (Ok number) r new payload held published =
    let short : nat_le (length payload) most_payload ≡ true = let h = published.0 in grind (arith, nat_tests) in
    let few : nat_lt (published_count r) most_published ≡ true = let h = published.1 in grind (arith, nat_tests) in
    let may : may_publish r payload ≡ true = ap (λ (a : Bool). a && nat_lt (published_count r) most_published) short ∙ few in
    published.3 ∙ sym (true_chosen (may_publish r payload) (publishes r payload) r may)
publication_decided (Err (TooLong len)) r new payload held published = published.2 ∙ sym (false_chosen (may_publish r payload) (publishes r payload) r (long_may_not r payload published.0))
publication_decided (Err (Full count)) r new payload held published =
    let all = published.1 in published.3 ∙ sym (false_chosen (may_publish r payload) (publishes r payload) r (full_may_not r payload (omega arith)))
publication_decided (Err WantOfMemory) r new payload held published = absurd (held refl)
