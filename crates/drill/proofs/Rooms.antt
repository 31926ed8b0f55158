-- What a drill needs of a log's room.
use Rattle.std.proofs.Common.{ℕ, ◌+◌, ◌*◌, ◌≡◌, ◌≤◌, Bool, true, false, refl, eqb, ◌&&◌, ◌||◌, not, List, [], ◌∷◌, length, length-append, zero, suc, arith, if◌then◌else◌, nat_le}
use Rattle.std.specs.List.{AllByRecursion, list_any}
use Rattle.std.proofs.ByRecursion.{All-push}
use Rattle.std.proofs.lemmas.Bool.Decides.{nat_tests}
use Rattle.tea_base.specs.declared.entry.Entry.{Entry}
use Rattle.tea_base.specs.declared.entry.What.{What}
use Rattle.tea_base.specs.declared.entry.What.TheVariants as what
use Rattle.tea_base.specs.Readings.{here_count, is_exit, is_join, is_presence_of, payload_bytes, payload_len}
use Rattle.tea_base.proofs.LogLaws.{payload_bytes-push}
use Rattle.session_log.specs.LogState.{next_entry, with_next}
use Rattle.reflector_core.specs.PlainSession.{PlainSession}
use Rattle.reflector_core.specs.SessionState.{entries_used}
use Rattle.reflector_core.specs.Answer.{answer}
use Rattle.reflector_core.specs.declared.request.Request.{Request}
use Rattle.reflector_core.specs.declared.request.Request.TheVariants.{Join, Send, Tick, Leave, Offer, Pull}
use Rattle.session_lock.specs.declared.knowledge.Item.{Item}
use Rattle.session_lock.specs.declared.knowledge.Item.TheVariants.{Did, Void, Unkept}
use Rattle.session_lock.specs.History.{play_from}
use Rattle.drill.specs.Asking.{IsAskedBy, IsAskedInDrill, entries_used_by, most_short}
use Rattle.drill.specs.Drilled.{IsOfDrill}
use Rattle.drill.proofs.Outcomes.{OnAdded, log_after}

-- ---- no more views are here than there are

-- how many of the views 1 to n have a Join or an Exit
abbrev views_seen : ℕ → List Entry → ℕ
views_seen zero log = 0
views_seen (suc n) log = (if list_any (is_presence_of (suc n)) log then 1 else 0) + views_seen n log

seen_few : (n : ℕ) (log : List Entry) → views_seen n log ≤ n
seen_few zero log = omega arith
seen_few (suc n) log = grind (arith, seen_few n log)

seen_step : (joins exits any any_last same upto before : Bool) (count count_after : ℕ)
    → (same ≡ true → any ≡ any_last) → (same ≡ true → before ≡ false) → (same ≡ false → upto ≡ before)
    → (if (joins && not any) && before then 1 else 0) + count ≤ count_after
    → (if (joins && not any) && upto then 1 else 0) + ((if any_last then 1 else 0) + count) ≤ (if (same && (joins || exits)) || any_last then 1 else 0) + count_after
seen_step joins exits any any_last same upto before count count_after p q r more = grind arith

same_any : (rest : List Entry) (a b : ℕ) → eqb a b ≡ true → list_any (is_presence_of a) rest ≡ list_any (is_presence_of b) rest
same_any rest a b same = let e : a ≡ b = grind (arith, nat_tests) in rw e refl

-- a Join that none comes after is of a view that was not counted
seen_more : (n : ℕ) (first : Entry) (rest : List Entry) → 1 ≤ first.view
    → (if (is_join first.what && not (list_any (is_presence_of first.view) rest)) && nat_le first.view n then 1 else 0) + views_seen n rest ≤ views_seen n (first ∷ rest)
seen_more zero first rest named = grind (arith, nat_tests)
seen_more (suc n) first rest named =
    seen_step (is_join first.what) (is_exit first.what) (list_any (is_presence_of first.view) rest) (list_any (is_presence_of (suc n)) rest) (eqb first.view (suc n))
    (nat_le first.view (suc n)) (nat_le first.view n) (views_seen n rest) (views_seen n (first ∷ rest))
    (same_any rest first.view (suc n)) (λ same. grind (arith, nat_tests)) (λ other. grind (arith, nat_tests)) (seen_more n first rest named)

here_seen : (n : ℕ) (log : List Entry) → AllByRecursion (λ (e : Entry). IsOfDrill n e.view) log → here_count log ≤ views_seen n log
here_seen n [] named = omega arith
here_seen n (first ∷ rest) named =
    let within : nat_le first.view n ≡ true = grind (arith, nat_tests, named.0.1) in
    let more = seen_more n first rest named.0.0 in
    let so_far = here_seen n rest named.1 in
    grind arith

pub here_few : (n : ℕ) (log : List Entry) → AllByRecursion (λ (e : Entry). IsOfDrill n e.view) log → here_count log ≤ n
here_few n log named = omega (arith, here_seen n log named, seen_few n log)

-- ---- few and short entries

-- at most so many entries, each of a view of the drill, and with a short payload
pub record IsSmall (views entries : ℕ) (log : List Entry) : Type 0 where
  pub named : AllByRecursion (λ (e : Entry). IsOfDrill views e.view) log
  pub few : length log ≤ entries
  pub short : payload_bytes log ≤ most_short * length log

small_more : (views few many : ℕ) (log : List Entry) → few ≤ many → IsSmall views few log → IsSmall views many log
small_more views few many log le small = record { named = small.named; few = omega (arith, small.few); short = small.short }

small_push : (views entries : ℕ) (log : List Entry) (time view : ℕ) (what : What) → IsOfDrill views view → payload_len what ≤ most_short → IsSmall views entries log
    → IsSmall views (1 + entries) (with_next log time view what)
small_push views entries log time view what own le small = record {
  named = All-push (λ (e : Entry). IsOfDrill views e.view) log (next_entry log time view what) small.named own;
  few = omega (arith, small.few, length-append log (next_entry log time view what ∷ []));
  short = omega (arith, small.short, le, length-append log (next_entry log time view what ∷ []), payload_bytes-push log (next_entry log time view what));
}

small_request : (gives : ℕ → Type 0) (views caller entries : ℕ) (s : PlainSession) (request : Request) → IsOfDrill views caller → IsAskedBy gives caller request
    → IsSmall views entries s.log → IsSmall views (entries_used request + entries) (answer s request).session.log
small_request gives views caller entries s request own asked small =
    log_after (IsSmall views (entries_used request + entries)) s request (small_more views entries (entries_used request + entries) s.log (omega arith) small) (by request asked)
  where
    of_drill : (view : ℕ) → view ≡ caller → IsOfDrill views view
    of_drill view same = (omega (arith, own.0, same), omega (arith, own.1, same))

    by : (request : Request) → IsAskedBy gives caller request → OnAdded (λ view what. (time : ℕ) → IsSmall views (entries_used request + entries) (with_next s.log time view what)) request
    by (Join view now want) asked = λ time. small_push views entries s.log time view what.Join (of_drill view asked.0) (omega arith) small
    by (Send view joined number payload now) asked = λ time. small_push views entries s.log time view (what.Event number payload) (of_drill view asked.0) asked.2 small
    by (Tick now) asked = tt
    by (Leave view joined now) asked = λ time. small_push views entries s.log time view what.Exit (of_drill view asked.0) (omega arith) small
    by (Offer view joined time bytes) asked = tt
    by (Pull after limit) asked = tt

pub small_from : (gives : ℕ → Type 0) (views entries most : ℕ) (s : PlainSession) (items : List Item) → AllByRecursion (IsAskedInDrill gives views) items
    → entries + entries_used_by items ≤ most → IsSmall views entries s.log → IsSmall views most (play_from s items).log
small_from gives views entries most s [] asked le small = small_more views entries most s.log (omega arith) small
small_from gives views entries most s (Did caller request ∷ xs) asked le small =
    small_from gives views (entries_used request + entries) most (answer s request).session xs asked.1 (omega arith)
    (small_request gives views caller entries s request (asked.0.0, asked.0.1) asked.0.2 small)
small_from gives views entries most s (Void caller ∷ xs) asked le small = small_from gives views entries most s xs asked.1 le small
small_from gives views entries most s (Unkept caller ∷ xs) asked le small = small_from gives views entries most s xs asked.1 le small
