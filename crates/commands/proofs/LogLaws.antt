-- What the bytes of a log hold: one thing, or nothing.
use Rattle.std.proofs.Common.{◌≡◌, ◌⊎◌, inl, inr, ℕ, ◌≤◌, Bool, true, false, cond, ltb, codes, List, [], ◌++◌, length, take, drop, Option, Some, None, option_map, refl, sym, ap, subst, ◌∙◌, arith}
use Rattle.std.specs.Str.{bytes_eq}
use Rattle.std.proofs.lemmas.Bool.{ltb-false, le-ltb}
use Rattle.std.proofs.lemmas.List.{length-append, length-take-le, take_at, drop_at}
use Rattle.std.proofs.lemmas.Option.{same_Some}
use Rattle.std.proofs.lemmas.Slice.Eq.{bytes_eq-Decides}
use Rattle.std.specs.Int.{to_be_bytes, w64}
use Rattle.byte_fields.specs.Fields.{bytes_at, list_of, mark_at, whole}
use Rattle.byte_fields.proofs.Codecs.{whole_again}
use Rattle.session_log.specs.Spelling.{log_entry_spelling}
use Rattle.session_log.specs.Stored.{PlainStored, IsStored, is_log_alone, kept_spelling, stored_spelling}
use Rattle.session_log.specs.StoredReading.{stored_at}
use Rattle.session_log.proofs.StoredCodec.{stored_codec}
use Rattle.session_journal.specs.Frames.{Place}
use Rattle.session_journal.specs.Journal.{Found, NoJournal, OtherSession, Goes, first_check, found_after, header_at, read_journal, read_records}
use Rattle.session_journal.proofs.Growing.{bind_some, refused_some}
use Rattle.commands.specs.Verdict.{Coming, Free, IsJournalLog, IsLog, OfLog, PlainSource, Verdict}

-- ---- the header of a journal

-- the bytes begin with the whole header of this id
record IsNamed (id : List ℕ) (found : Option (List ℕ × List ℕ)) : Type 0 where
  pub rest : List ℕ
  pub is : found ≡ Some (id, rest)

named_if : (b : Bool) (id named rest : List ℕ) (place : Place PlainStored) → bytes_eq named id ≡ b → cond b (Goes (read_records (first_check id) rest)) OtherSession ≡ Goes place → IsNamed id (Some (named, rest))
named_if true id named rest place is e = record { rest = rest; is = ap (λ (xs : List ℕ). Some (xs, rest)) ((bytes_eq-Decides named id).0 is) }
named_if false id named rest place is e = absurd cc

named_in : (id : List ℕ) (found : Option (List ℕ × List ℕ)) (place : Place PlainStored) → found_after id found ≡ Goes place → IsNamed id found
named_in id None place e = absurd cc
named_in id (Some named) place e = named_if (bytes_eq named.0 id) id named.0 named.1 place refl e

-- where a session is read, its header is there
named_by : (id bytes : List ℕ) (place : Place PlainStored) → length id ≡ 32 → read_journal id bytes ≡ Goes place → IsNamed id (header_at 32 bytes)
unfolding read_journal
named_by id bytes place long e =
    named_in id (header_at 32 bytes) place (subst (λ (n : ℕ). found_after id (header_at n bytes) ≡ Goes place) long e)

-- an id that is named has 32 bytes
named_long : (bytes id rest : List ℕ) → header_at 32 bytes ≡ Some (id, rest) → length id ≡ 32
named_long bytes id rest e =
    let m = bind_some (mark_at (codes "TEALOG03") bytes) (bytes_at 32) (id, rest) e in
    let g = refused_some (ltb (length m.0) 32) (take 32 m.0, drop 32 m.0) (id, rest) m.2 in
    let long : 32 ≤ length m.0 = ltb-false _ _ g.0 in
    let same : take 32 m.0 ≡ id = ap (λ (q : List ℕ × List ℕ). q.0) g.1 in
    ap length (sym same) ∙ length-take-le 32 m.0 long

-- where a header is there, a session is read
named_goes : (id bytes rest : List ℕ) → length id ≡ 32 → header_at 32 bytes ≡ Some (id, rest) → read_journal id bytes ≡ Goes (read_records (first_check id) rest)
unfolding read_journal
named_goes id bytes rest long e =
    let same : bytes_eq id id ≡ true = (bytes_eq-Decides id id).1 refl in
    ap (λ (n : ℕ). found_after id (header_at n bytes)) long ∙ ap (found_after id) e ∙ rw same refl

bytes_front : (front rest : List ℕ) (count : ℕ) → length front ≡ count → bytes_at count (front ++ rest) ≡ Some (front, rest)
bytes_front front rest count long =
    let enough : ltb (length (front ++ rest)) count ≡ false = le-ltb _ _ (omega (arith, length-append front rest, long)) in
    rw (enough, take_at front rest count long, drop_at front rest count long) refl

-- another mark is none of a journal
other_mark : (mark rest : List ℕ) → length mark ≡ length (codes "TEALOG03") → bytes_eq mark (codes "TEALOG03") ≡ false → header_at 32 (mark ++ rest) ≡ None
other_mark mark rest long differs =
    let front = bytes_front mark rest (length (codes "TEALOG03")) long in
    rw (front, differs) refl

-- the spelling of a stored session has none
unnamed_if : (b : Bool) (alone told : List ℕ) → header_at 32 alone ≡ None → header_at 32 told ≡ None → header_at 32 (cond b alone told) ≡ None
unnamed_if true alone told first second = first
unnamed_if false alone told first second = second

stored_unnamed : (stored : PlainStored) → header_at 32 (stored_spelling stored) ≡ None
unfolding stored_spelling
stored_unnamed stored =
    let entries : List ℕ = list_of log_entry_spelling stored.log in
    let told : List ℕ = to_be_bytes w64 stored.horizon ++ (kept_spelling stored.kept ++ entries) in
    unnamed_if (is_log_alone stored) (codes "TEALOG01" ++ entries) (codes "TEALOG02" ++ told) (other_mark (codes "TEALOG01") entries refl refl) (other_mark (codes "TEALOG02") told refl refl)

no_pair : (q : List ℕ × List ℕ) → None ≡ Some q → ⊥
no_pair q e = absurd cc

never_named : (id : List ℕ) (found : Option (List ℕ × List ℕ)) → found ≡ None → IsNamed id found → ⊥
never_named id found none named = no_pair (id, named.rest) (sym none ∙ named.is)

-- ---- one thing at most

same_stored : (stored other : PlainStored) → IsStored stored → IsStored other → stored_spelling stored ≡ stored_spelling other → stored ≡ other
same_stored stored other is is' same =
    same_Some stored other (sym (whole_again stored_codec stored is) ∙ ap (whole stored_at) same ∙ whole_again stored_codec other is')

-- what is the spelling of a stored session is no journal
not_both : (bytes : List ℕ) (stored : PlainStored) (source : PlainSource) {fact : Type 0} → bytes ≡ stored_spelling stored → IsJournalLog bytes source → fact
not_both bytes stored source spelled (id, place, long, read, is) =
    absurd (never_named id (header_at 32 bytes) (ap (header_at 32) spelled ∙ stored_unnamed stored) (named_by id bytes place long read))

abbrev source_of : (named : Option (List ℕ)) (stored : PlainStored) → PlainSource
source_of named stored = record { named = named; stored = stored }

same_parts : (source other : PlainSource) → source.named ≡ other.named → source.stored ≡ other.stored → source ≡ other
same_parts source other named stored = ap (λ (n : Option (List ℕ)). source_of n source.stored) named ∙ ap (source_of other.named) stored

id_or_none : Option (List ℕ × List ℕ) → List ℕ
id_or_none None = []
id_or_none (Some named) = named.0

same_id : (id other : List ℕ) (found : Option (List ℕ × List ℕ)) → IsNamed id found → IsNamed other found → id ≡ other
unfolding id_or_none
same_id id other found named also = ap id_or_none (sym named.is ∙ also.is)

goes_is : (place other : Place PlainStored) → Goes place ≡ Goes other → place ≡ other
goes_is place other e = cc

pub same_source : (bytes : List ℕ) (source other : PlainSource) → IsLog bytes source → IsLog bytes other → source ≡ other
same_source bytes source other (inl (none, is, spelled)) (inl (none', is', spelled')) =
    same_parts source other (none ∙ sym none') (same_stored source.stored other.stored is is' (sym spelled ∙ spelled'))
same_source bytes source other (inl (none, is, spelled)) (inr journal) = not_both bytes source.stored other spelled journal
same_source bytes source other (inr journal) (inl (none, is, spelled)) = not_both bytes other.stored source spelled journal
same_source bytes source other (inr (id, place, long, read, is)) (inr (id', place', long', read', is')) =
    let same : id ≡ id' = same_id id id' (header_at 32 bytes) (named_by id bytes place long read) (named_by id' bytes place' long' read') in
    let places : place ≡ place' = goes_is place place' (sym read ∙ ap (λ (i : List ℕ). read_journal i bytes) same ∙ read') in
    is ∙ ap (λ (i : List ℕ). source_of (Some i) place.state) same ∙ ap (λ (p : Place PlainStored). source_of (Some id') p.state) places ∙ sym is'

-- ---- what a reader finds

names_in : (id : List ℕ) (found : Option (List ℕ × List ℕ)) → option_map (λ x. x.0) found ≡ Some id → IsNamed id found
names_in id None e = absurd cc
names_in id (Some named) e = record { rest = named.1; is = ap (λ (xs : List ℕ). Some (xs, named.1)) (same_Some named.0 id e) }

-- they are read as the journal of the id that they name
pub is_journal : (id bytes : List ℕ) (place : Place PlainStored) → option_map (λ x. x.0) (header_at 32 bytes) ≡ Some id → read_journal id bytes ≡ Goes place
    → IsLog bytes (record { named = Some id; stored = place.state })
is_journal id bytes place e read =
    let named = names_in id (header_at 32 bytes) e in
    inr (id, place, named_long bytes id named.rest named.is, read, refl)

not_found : (found : Found) (place : Place PlainStored) → found ≡ Goes place → (found ≡ NoJournal) ⊎ (found ≡ OtherSession) → ⊥
not_found found place goes (inl none) = let never : NoJournal ≡ Goes place = sym none ∙ goes in absurd cc
not_found found place goes (inr other) = let never : OtherSession ≡ Goes place = sym other ∙ goes in absurd cc

-- so they are not read as none, or as that of another session
pub is_read : (id bytes : List ℕ) (found : Found) {fact : Type 0} → option_map (λ x. x.0) (header_at 32 bytes) ≡ Some id → read_journal id bytes ≡ found
    → (found ≡ NoJournal) ⊎ (found ≡ OtherSession) → fact
is_read id bytes found e read other =
    let named = names_in id (header_at 32 bytes) e in
    let goes : found ≡ Goes (read_records (first_check id) named.rest) = sym read ∙ named_goes id bytes named.rest (named_long bytes id named.rest named.is) named.is in
    absurd (not_found found (read_records (first_check id) named.rest) goes other)

names_none : (found : Option (List ℕ × List ℕ)) → option_map (λ x. x.0) found ≡ None → found ≡ None
names_none None e = refl
names_none (Some named) e = absurd cc

-- bytes that name no id and spell no stored session are no log
pub is_none : (bytes : List ℕ) → option_map (λ x. x.0) (header_at 32 bytes) ≡ None → ((stored : PlainStored) → IsStored stored → bytes ≡ stored_spelling stored → ⊥)
    → (source : PlainSource) → ¬ IsLog bytes source
is_none bytes unnamed unspelled source (inl (none, is, spelled)) = unspelled source.stored is spelled
is_none bytes unnamed unspelled source (inr (id, place, long, read, is)) =
    never_named id (header_at 32 bytes) (names_none (header_at 32 bytes) unnamed) (named_by id bytes place long read)

-- ---- what comes of it

pub log_comes : (next : PlainSource → Coming) (bytes : List ℕ) (source : PlainSource) (verdict : Verdict) → IsLog bytes source → Free (next source) verdict → Free (OfLog next bytes) verdict
log_comes next bytes source verdict is (inl want) = inl want
log_comes next bytes source verdict is (inr comes) = inr (inl (source, is, comes))
