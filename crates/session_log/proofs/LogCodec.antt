-- Entries are read exactly where those of a legal log have their spelling.
use Rattle.std.proofs.Common.{◌≡◌, ℕ, ◌+◌, ◌^◌, ◌<◌, List, [], ◌∷◌, ◌++◌, length, refl, ap, arith}
use Rattle.std.specs.Int.{w64}
use Rattle.tea_base.specs.declared.entry.Entry.{Entry}
use Rattle.tea_base.specs.declared.entry.What.{What}
use Rattle.tea_base.specs.declared.entry.What.TheVariants.{Join, Exit, Event}
use Rattle.tea_base.specs.Legal.{IsLegal, IsLegalAfter, MayFollow, LogAllows}
use Rattle.tea_base.specs.Limits.{most_entries}
use Rattle.tea_base.proofs.LogLaws.{MayFollow-short}
use Rattle.byte_fields.specs.Fields.{list_of, list_at}
use Rattle.byte_fields.proofs.Codecs.{Codec, EachFits, wide64, number_codec, u32_codec, paired_codec, made_codec, tested_codec, said_codec, list_codec}
use Rattle.entry_fields.proofs.WhatCodec.{HasWhatSpelling, what_codec}
use Rattle.session_log.specs.LogState.{next_entry}
use Rattle.session_log.specs.Spelling.{log_entry_spelling}
use Rattle.session_log.specs.Legality.{may_follow}
use Rattle.session_log.specs.Reading.{log_entry_at, entry_after}
use Rattle.session_log.proofs.LegalityLaws.{may_follow-Decides, length-legal, last_number-le}

-- ---- entries

-- it has a spelling, and the seq that its place gives
record FitsEntry (log : List Entry) (entry : Entry) : Type 0 where
  pub seq : entry.seq ≡ length log + 1
  pub time : entry.time < 2 ^ 64
  pub view : entry.view < 2 ^ 32
  pub what : HasWhatSpelling entry.what

entry_is : (log : List Entry) (entry : Entry) → FitsEntry log entry → entry ≡ next_entry log entry.time entry.view entry.what
entry_is log entry fits =
    let make : ℕ → Entry = λ seq. record { seq = seq; time = entry.time; view = entry.view; what = entry.what } in
    ap make fits.seq

entry_codec : (log : List Entry) → Codec Entry log_entry_spelling (FitsEntry log) (log_entry_at log)
unfolding log_entry_at log_entry_spelling
entry_codec log =
    made_codec (λ p. next_entry log p.0 p.1.0 p.1.1) log_entry_spelling (FitsEntry log)
    (paired_codec (number_codec w64 (2 ^ 64) wide64) (paired_codec u32_codec what_codec))
    (λ entry fits. ((entry.time, (entry.view, entry.what)), entry_is log entry fits, (fits.time, (fits.view, fits.what))))
    (λ p fits. record { seq = refl; time = fits.0; view = fits.1.0; what = fits.1.1 })
    (λ p _. refl)

what_fits : (log : List Entry) (view : ℕ) (what : What) → length log < most_entries → LogAllows log view what → HasWhatSpelling what
what_fits log view Join short allowed = (tt, tt)
what_fits log view Exit short allowed = (tt, tt)
what_fits log view (Event number payload) short allowed =
    let number-is = allowed.1 in
    let len = allowed.2 in
    (omega arith, omega (arith, last_number-le log view))

entry_fits : (log : List Entry) (entry : Entry) → MayFollow log entry → FitsEntry log entry
entry_fits log entry may =
    let bound = may.time_bound in
    record { seq = may.seq; time = omega arith; view = may.view_bound; what = what_fits log entry.view entry.what (MayFollow-short log entry may) may.allowed }

after_codec : (log : List Entry) → Codec Entry log_entry_spelling (MayFollow log) (entry_after log)
unfolding entry_after
after_codec log =
    said_codec log_entry_spelling (MayFollow log) (λ entry _. refl)
    (λ entry f. (may_follow-Decides log entry f.0.seq f.0.view).0 f.1)
    (λ entry may. (entry_fits log entry may, (may_follow-Decides log entry may.seq may.view_bound).1 may))
    (tested_codec (may_follow log) (entry_codec log))

-- ---- the log

-- a legal log is one whose entries each may follow those before it
legal_each : (before log : List Entry) → EachFits MayFollow before log → IsLegalAfter before log
legal_each before [] each = tt
legal_each before (entry ∷ log) each = (each.0, legal_each (before ++ entry ∷ []) log each.1)

each_legal : (before log : List Entry) → IsLegalAfter before log → EachFits MayFollow before log
each_legal before [] legal = tt
each_legal before (entry ∷ log) legal = (legal.0, each_legal (before ++ entry ∷ []) log legal.1)

-- the entries, and how many there are
pub entries_codec : Codec (List Entry) (list_of log_entry_spelling) IsLegal (list_at entry_after)
entries_codec =
    said_codec (list_of log_entry_spelling) IsLegal (λ log _. refl) (λ log f. legal_each [] log f.1) (λ log legal. (omega (arith, length-legal log legal), each_legal [] log legal))
    (list_codec log_entry_spelling MayFollow entry_after after_codec)
