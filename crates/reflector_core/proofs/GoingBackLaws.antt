-- The last entries are taken away from a log and its table.
use Rattle.std.proofs.Common.{ℕ, ◌+◌, ◌-◌, ◌<◌, ◌≤◌, ◌≡◌, Bool, cond, eqb, List, [], ◌∷◌, ◌++◌, Option, Some, option_map, length, length-append, length-take, slice_get, take, get_or, refl, sym, ap, ◌∙◌, subst, arith}
use Rattle.std.proofs.lemmas.List.{take_more, take_at}
use Rattle.std.proofs.lemmas.Option.{slice_get-get_or}
use Rattle.tea_base.specs.declared.entry.Entry.{Entry}
use Rattle.tea_base.specs.Legal.{IsLegal}
use Rattle.tea_base.specs.Limits.{most_entries}
use Rattle.session_log.specs.declared.kinds.EntryKind.{EntryKind}
use Rattle.session_log.specs.Kinds as kinds
use Rattle.session_log.specs.LogState.{LosesLast}
use Rattle.resend_table.specs.declared.stand.Kind.{Kind}
use Rattle.resend_table.specs.declared.stand.Stand.{Stand}
use Rattle.resend_table.specs.declared.table.Resend.{Resend}
use Rattle.resend_table.specs.Stands.{stand_of, stand_after, IsNotedAs}
use Rattle.resend_table.specs.Noted.{HasNoted}
use Rattle.resend_table.proofs.Readings.{few_before, stand-push}
use Rattle.wire_frames.proofs.Times.{seq_at}
use Rattle.wire_frames.specs.declared.start.Base.{Base}
use Rattle.reflector_core.specs.PlainSession.{PlainSession}
use Rattle.reflector_core.specs.NextHere.{noted_kind}
use Rattle.reflector_core.proofs.StoredLaws.{same_kind, noted_as}

at_end : (log : List Entry) (last : Entry) → slice_get (log ++ last ∷ []) (length log) ≡ Some last
at_end [] last = refl
at_end (first ∷ rest) last = at_end rest last

-- the last entry is as the log said of it
pub last_noted_as : (old new : List Entry) (seq view : ℕ) (kind : EntryKind) (k : Kind) → IsLegal old → (lost : LosesLast old new view kind) → seq ≡ length old → k ≡ noted_kind kind → IsNotedAs seq view k lost.last
last_noted_as old new seq view kind k legal lost counted is =
    let at : slice_get old (length new) ≡ Some lost.last = ap (λ (log : List Entry). slice_get log (length new)) lost.whole ∙ at_end new lost.last in
    let long : length old ≡ length new + 1 = ap length lost.whole ∙ length-append new (lost.last ∷ []) in
    (seq_at old (length new) lost.last legal at ∙ sym long ∙ sym counted, lost.of_view, sym (same_kind lost.last.what) ∙ ap noted_kind lost.of_kind ∙ sym is)

-- the table after the last entry was forgotten
pub noted_less : (old new : List Entry) (seq view : ℕ) (kind : EntryKind) (k : Kind) (stand : Stand) (before after : Resend) → IsLegal old → length old ≤ most_entries → (lost : LosesLast old new view kind) → seq ≡ length old → k ≡ noted_kind kind → stand ≡ stand_of new view
    → ((log : List Entry) → (entry : Entry) → HasNoted before (log ++ entry ∷ []) → length log < most_entries → IsNotedAs seq view k entry → stand ≡ stand_of log view → HasNoted after log)
    → HasNoted before old → HasNoted after new
noted_less old new seq view kind k stand before after legal short lost counted is stood forgets noted =
    let long : length old ≡ length new + 1 = ap length lost.whole ∙ length-append new (lost.last ∷ []) in
    forgets new lost.last (subst (HasNoted before) lost.whole noted) (omega (arith, long, short)) (last_noted_as old new seq view kind k legal lost counted is) stood

-- ---- how a view stands

some_is : {X : Type 0} (x y : X) → ◌≡◌ {A = Option X} (Some x) (Some y) → x ≡ y
some_is x y e = cc

stands_on : (b : Bool) (log : List Entry) (entry : Entry) (seq at view : ℕ) (k : Kind) → eqb at view ≡ b → IsNotedAs seq at k entry → cond b (stand_after (stand_of log view) seq k) (stand_of log view) ≡ stand_of (log ++ entry ∷ []) view
stands_on b log entry seq at view k e is =
    ap (λ (t : Bool). cond t (stand_after (stand_of log view) seq k) (stand_of log view)) (sym e)
    ∙ rw (← is.0, ← is.1, ← is.2) (sym (stand-push log entry view))

-- after the entry at a place
pub stood_more : (log : List Entry) (i at view : ℕ) (kind : EntryKind) (k : Kind) → IsLegal log → i < length log
    → option_map (λ (e : Entry). e.view) (slice_get log i) ≡ Some at → option_map (λ (e : Entry). kinds.entry_kind e.what) (slice_get log i) ≡ Some kind → k ≡ noted_kind kind
    → cond (eqb at view) (stand_after (stand_of (take i log) view) (i + 1) k) (stand_of (take i log) view) ≡ stand_of (take (i + 1) log) view
stood_more [] i at view kind k legal below seen of_kind is = absurd (omega arith)
stood_more (first ∷ rest) i at view kind k legal below seen of_kind is =
    let log : List Entry = first ∷ rest in
    let entry : Entry = get_or log i first in
    let there : slice_get log i ≡ Some entry = slice_get-get_or log i first below in
    let as_noted : IsNotedAs (i + 1) at k entry = noted_as log i at kind k entry legal there seen of_kind is in
    stands_on (eqb at view) (take i log) entry (i + 1) at view k refl as_noted ∙ ap (λ (l : List Entry). stand_of l view) (sym (take_more log i first below))

-- as the table tells it
pub stood_next : (log : List Entry) (seq at view : ℕ) (kind : EntryKind) (k : Kind) (stand after : Stand) → IsLegal log → length log ≤ most_entries → 0 < seq → seq ≤ length log → stand ≡ stand_of (take (seq - 1) log) view
    → option_map (λ (e : Entry). e.view) (slice_get log (seq - 1)) ≡ Some at → option_map (λ (e : Entry). kinds.entry_kind e.what) (slice_get log (seq - 1)) ≡ Some kind → k ≡ noted_kind kind
    → (stand.last < most_entries → after ≡ cond (eqb at view) (stand_after stand seq k) stand) → after ≡ stand_of (take seq log) view
stood_next log seq at view kind k stand after legal short counted there stood seen of_kind is goes =
    let more : seq - 1 + 1 ≡ seq = omega (arith, counted) in
    let few : stand.last < most_entries = few_before (take (seq - 1) log) view stand stood (omega (arith, length-take (seq - 1) log, short, there, counted)) in
    goes few
    ∙ ap (λ (s : Stand). cond (eqb at view) (stand_after s seq k) s) stood
    ∙ subst (λ (n : ℕ). cond (eqb at view) (stand_after (stand_of (take (seq - 1) log) view) n k) (stand_of (take (seq - 1) log) view) ≡ stand_of (take n log) view) more
    (stood_more log (seq - 1) at view kind k legal (omega (arith, there, counted)) seen of_kind is)

-- ---- a log that goes back

abbrev made_session : ℕ → Option Base → List Entry → PlainSession
made_session horizon kept log = record { log = log; horizon = horizon; kept = kept }

-- a session, by its log
pub by_log : (log new : List Entry) (horizon : ℕ) (kept : Option Base) → log ≡ new → ◌≡◌ {A = PlainSession} (record { log = log; horizon = horizon; kept = kept }) (record { log = new; horizon = horizon; kept = kept })
by_log log new horizon kept e = ap (made_session horizon kept) e

-- a beginning, by how many it has
pub take_front : (all front rest : List Entry) (n : ℕ) → all ≡ front ++ rest → length front ≡ n → front ≡ take n all
take_front all front rest n whole counted = sym (ap (take n) whole ∙ take_at front rest n counted)
