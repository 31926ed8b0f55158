-- A session that is stored, and one that goes on.
use Rattle.std.proofs.Common.{ℕ, ◌≡◌, ◌+◌, ◌-◌, ◌<◌, ◌≤◌, List, [], ◌∷◌, ◌++◌, Option, Some, None, option_map, length, length-take, slice_get, take, get_or, refl, sym, ap, ◌∙◌, subst, arith}
use Rattle.std.proofs.lemmas.List.{take_more}
use Rattle.std.proofs.lemmas.Option.{slice_get-get_or}
use Rattle.tea_base.specs.declared.entry.Entry.{Entry}
use Rattle.tea_base.specs.declared.entry.What.{What}
use Rattle.tea_base.specs.declared.entry.What.TheVariants as what
use Rattle.tea_base.specs.Legal.{IsLegal}
use Rattle.tea_base.specs.Limits.{most_entries}
use Rattle.session_log.specs.declared.stored.Kept.{Kept}
use Rattle.session_log.specs.declared.kinds.EntryKind.{EntryKind}
use Rattle.session_log.specs.Kinds as kinds
use Rattle.session_log.specs.Stored.{PlainStored, plain_of, MayBeKept, IsStored}
use Rattle.session_log.proofs.RoomLaws.{HasRoom-legal}
use Rattle.resend_table.specs.declared.stand.Kind.{Kind}
use Rattle.resend_table.specs.declared.table.Resend.{Resend}
use Rattle.resend_table.specs.Stands.{entry_kind, IsNotedAs}
use Rattle.resend_table.specs.Noted.{HasNoted}
use Rattle.wire_frames.specs.declared.start.Base.{Base}
use Rattle.wire_frames.proofs.Times.{seq_at}
use Rattle.reflector_core.specs.PlainSession.{PlainSession, IsKeptBy, IsSoundSession}
use Rattle.reflector_core.specs.Stored.{base_of, kept_of, session_of, stored_of}
use Rattle.reflector_core.specs.NextHere.{noted_kind}

-- ---- there and back

kept_sound : (horizon : ℕ) (kept : Option Kept) → MayBeKept horizon kept → IsKeptBy horizon (base_of kept)
kept_sound horizon None may = tt
kept_sound horizon (Some kept) may = may

pub sound_session : (s : PlainStored) → IsStored s → IsSoundSession (session_of s)
sound_session s is =
    let room = HasRoom-legal s.log is.legal in
    record { legal = is.legal; latest = is.latest; here = room.here; room = room.room; bounded = is.bounded; kept = kept_sound s.horizon s.kept is.kept }

kept_stored : (horizon : ℕ) (kept : Option Base) → IsKeptBy horizon kept → MayBeKept horizon (kept_of kept)
kept_stored horizon None may = tt
kept_stored horizon (Some base) may = may

pub stored_session : (s : PlainSession) → IsSoundSession s → IsStored (stored_of s)
stored_session s sound =
    record { legal = sound.legal; latest = sound.latest; bounded = sound.bounded; kept = kept_stored s.horizon s.kept sound.kept }

base_again : (kept : Option Base) → base_of (kept_of kept) ≡ kept
base_again None = refl
base_again (Some base) = refl

pub session_again : (s : PlainSession) → session_of (stored_of s) ≡ s
session_again s =
    let with : Option Base → PlainSession = λ kept. record { log = s.log; horizon = s.horizon; kept = kept } in
    ap with (base_again s.kept)

kept_again : (kept : Option Kept) → kept_of (base_of kept) ≡ kept
kept_again None = refl
kept_again (Some kept) = refl

pub stored_again : (s : PlainStored) → stored_of (session_of s) ≡ s
stored_again s = ap (plain_of s.log s.horizon) (kept_again s.kept)

-- ---- the table of a log

pub same_kind : (recorded : What) → noted_kind (kinds.entry_kind recorded) ≡ entry_kind recorded
same_kind what.Join = refl
same_kind what.Exit = refl
same_kind (what.Event number payload) = refl

some_is : {X : Type 0} (x y : X) → ◌≡◌ {A = Option X} (Some x) (Some y) → x ≡ y
some_is x y e = cc

-- the entry with a seq is as the log says of it
pub noted_as : (log : List Entry) (i view : ℕ) (kind : EntryKind) (k : Kind) (entry : Entry) → IsLegal log → slice_get log i ≡ Some entry
    → option_map (λ (e : Entry). e.view) (slice_get log i) ≡ Some view → option_map (λ (e : Entry). kinds.entry_kind e.what) (slice_get log i) ≡ Some kind
    → k ≡ noted_kind kind → IsNotedAs (i + 1) view k entry
noted_as log i view kind k entry legal at seen of_kind is =
    let view_is : ◌≡◌ {A = Option ℕ} (Some entry.view) (Some view) = rw at at seen in
    let kind_is : ◌≡◌ {A = Option EntryKind} (Some (kinds.entry_kind entry.what)) (Some kind) = rw at at of_kind in
    (seq_at log i entry legal at, some_is entry.view view view_is, sym (same_kind entry.what) ∙ ap noted_kind (some_is (kinds.entry_kind entry.what) kind kind_is) ∙ sym is)

-- the table after one more entry
pub noted_more : (log : List Entry) (i view : ℕ) (kind : EntryKind) (k : Kind) (before after : Resend) → IsLegal log → length log ≤ most_entries → i < length log
    → option_map (λ (e : Entry). e.view) (slice_get log (i + 1 - 1)) ≡ Some view → option_map (λ (e : Entry). kinds.entry_kind e.what) (slice_get log (i + 1 - 1)) ≡ Some kind → k ≡ noted_kind kind
    → ((l : List Entry) → (entry : Entry) → HasNoted before l → length l < most_entries → IsNotedAs (i + 1) view k entry → HasNoted after (l ++ entry ∷ []))
    → HasNoted before (take i log) → HasNoted after (take (i + 1) log)
noted_more [] i view kind k before after legal short below seen of_kind is notes noted = absurd (omega arith)
noted_more (first ∷ rest) i view kind k before after legal short below seen of_kind is notes noted =
    let log : List Entry = first ∷ rest in
    let entry : Entry = get_or log i first in
    let at : slice_get log i ≡ Some entry = slice_get-get_or log i first below in
    let place : i + 1 - 1 ≡ i = omega arith in
    let as_noted : IsNotedAs (i + 1) view k entry = noted_as log i view kind k entry legal at (rw place at seen) (rw place at of_kind) is in
    let few : length (take i log) < most_entries = omega (arith, length-take i log) in
    subst (HasNoted after) (sym (take_more log i first below)) (notes (take i log) entry noted few as_noted)
