-- A stored session is read exactly where it has its spelling.
use Rattle.std.proofs.Common.{◌≡◌, ℕ, ◌+◌, ◌^◌, ◌<◌, Bool, true, false, not, cond, eqb, ◌&&◌, List, [], ◌∷◌, ◌++◌, length, get_or, Option, Some, None, refl, sym, ap, ◌∙◌, arith}
use Rattle.std.specs.Prelude.{codes, nat_le, nat_lt}
use Rattle.std.specs.Int.{w64, to_be_bytes}
use Rattle.std.specs.Str.{bytes_eq}
use Rattle.std.proofs.lemmas.Bool.{eqb-true, eq-eqb}
use Rattle.std.proofs.lemmas.Bool.Decides.{nat_tests}
use Rattle.std.proofs.lemmas.Slice.Eq.{bytes_eq-Decides}
use Rattle.tea_base.specs.declared.entry.Entry.{Entry}
use Rattle.tea_base.specs.Legal.{IsLegal}
use Rattle.tea_base.specs.Limits.{time_limit, most_snapshot}
use Rattle.tea_base.specs.Readings.{here_count, last_time}
use Rattle.byte_fields.specs.Fields.{FitsBlob, blob, blob_at, list_of, number_at, paired_at, made_at, whole}
use Rattle.byte_fields.proofs.Codecs.{Codec, wide64, number_codec, byte_codec, bytes_codec, blob_codec, paired_codec, headed_codec, made_codec, tested_codec, said_codec, never_codec, chosen_codec, bare_codec, tagged_codec, not_tag, whole_again}
use Rattle.session_log.specs.Spelling.{log_entry_spelling, log_spelling}
use Rattle.session_log.specs.Stored.{PlainStored, plain_of, MayBeKept, IsStored, is_log_alone, kept_spelling, full_spelling, stored_spelling}
use Rattle.session_log.specs.StoredReading.{kept_of_mark, kept_at, may_be_kept, may_be_stored, alone, alone_at, told_at, stored_of_mark, stored_at}
use Rattle.session_log.specs.declared.stored.Kept.{Kept}
use Rattle.session_log.proofs.LogCodec.{entries_codec}

-- ---- what is kept

-- its numbers fit their fields
abbrev FitsKept : Option Kept → Type 0
FitsKept None = Unit {0}
FitsKept (Some kept) = (kept.time < 2 ^ 64) × FitsBlob kept.bytes

abbrev kept_mark : Option Kept → ℕ
kept_mark None = 0
kept_mark (Some kept) = 1

abbrev kept_body : Option Kept → List ℕ
kept_body None = []
kept_body (Some kept) = to_be_bytes w64 kept.time ++ blob kept.bytes

abbrev OfMark : ℕ → Option Kept → Type 0
OfMark mark kept = (kept_mark kept ≡ mark) × FitsKept kept

none_is : (k : Option Kept) → kept_mark k ≡ 0 → FitsKept k → k ≡ None
none_is None e fits = refl
none_is k e fits = absurd (omega arith)

some_is : (k : Option Kept) → kept_mark k ≡ 1 → FitsKept k → (p : ℕ × List ℕ) × (k ≡ Some (record { time = p.0; bytes = p.1 })) × ((p.0 < 2 ^ 64) × FitsBlob p.1)
some_is (Some kept) e fits = ((kept.time, kept.bytes), refl, fits)
some_is k e fits = absurd (omega arith)

held_codec : Codec (Option Kept) kept_body (OfMark 1) (made_at (λ p. Some (record { time = p.0; bytes = p.1 })) (paired_at (number_at w64) blob_at))
held_codec =
    made_codec (λ p. Some (record { time = p.0; bytes = p.1 })) kept_body (OfMark 1) (paired_codec (number_codec w64 (2 ^ 64) wide64) blob_codec)
    (λ k f. some_is k f.0 f.1) (λ p fits. (refl, fits)) (λ p _. refl)

no_mark : (mark : ℕ) (k : Option Kept) → eqb mark 0 ≡ false → eqb mark 1 ≡ false → kept_mark k ≡ mark → ⊥
no_mark mark None x y e = not_tag mark 0 x e
no_mark mark (Some kept) x y e = not_tag mark 1 y e

kept_mark_codec : (mark : ℕ) → Codec (Option Kept) kept_body (OfMark mark) (kept_of_mark mark)
kept_mark_codec mark =
    tagged_codec kept_mark kept_body FitsKept mark 0 (bare_codec kept_mark kept_body FitsKept 0 None refl refl tt none_is)
    (λ x. tagged_codec kept_mark kept_body FitsKept mark 1 held_codec
    (λ y. never_codec kept_body (OfMark mark) (λ k f. no_mark mark k x y f.0)))

kept_mark_below : (k : Option Kept) → kept_mark k < 256
kept_mark_below None = omega arith
kept_mark_below k = omega arith

kept_spelled : (k : Option Kept) → kept_spelling k ≡ kept_mark k ∷ kept_body k
unfolding kept_spelling
kept_spelled None = refl
kept_spelled (Some kept) = refl

kept_codec : Codec (Option Kept) kept_spelling FitsKept kept_at
unfolding kept_at
kept_codec =
    said_codec kept_spelling FitsKept (λ k _. kept_spelled k) (λ k f. f.1) (λ k f. (kept_mark_below k, f))
    (headed_codec kept_mark kept_body FitsKept kept_of_mark byte_codec (λ mark _. kept_mark_codec mark))

-- ---- the tests

both : (a b : Bool) → (a && b) ≡ true → (a ≡ true) × (b ≡ true)
both true b e = (refl, e)
both false b e = absurd cc

kept_passes : (horizon : ℕ) (k : Option Kept) → MayBeKept horizon k → may_be_kept horizon k ≡ true
kept_passes horizon None may = refl
kept_passes horizon (Some kept) may =
    let early : nat_le kept.time horizon ≡ true = let h = may.0 in grind (arith, nat_tests) in
    let short : nat_le (length kept.bytes) most_snapshot ≡ true = let h = may.1 in grind (arith, nat_tests) in
    rw (early, short) refl

kept_may : (horizon : ℕ) (k : Option Kept) → may_be_kept horizon k ≡ true → MayBeKept horizon k
kept_may horizon None e = tt
kept_may horizon (Some kept) e =
    let parts = both (nat_le kept.time horizon) (nat_le (length kept.bytes) most_snapshot) e in
    let early = parts.0 in
    let short = parts.1 in
    (grind (arith, nat_tests), grind (arith, nat_tests))

stored_passes : (s : PlainStored) → IsStored s → may_be_stored s ≡ true
stored_passes s is =
    let late : nat_le (last_time s.log) s.horizon ≡ true = let h = is.latest in grind (arith, nat_tests) in
    let below : nat_lt (s.horizon + here_count s.log) time_limit ≡ true = let h = is.bounded in grind (arith, nat_tests) in
    rw (late, below, kept_passes s.horizon s.kept is.kept) refl

stored_is : (s : PlainStored) → IsLegal s.log → may_be_stored s ≡ true → IsStored s
stored_is s legal e =
    let parts = both (nat_le (last_time s.log) s.horizon) (nat_lt (s.horizon + here_count s.log) time_limit && may_be_kept s.horizon s.kept) e in
    let rest = both (nat_lt (s.horizon + here_count s.log) time_limit) (may_be_kept s.horizon s.kept) parts.1 in
    let late = parts.0 in
    let below = rest.0 in
    record { legal = legal; latest = grind (arith, nat_tests); bounded = grind (arith, nat_tests); kept = kept_may s.horizon s.kept rest.1 }

-- ---- a log that tells all

alone_is : (log : List Entry) (horizon : ℕ) (k : Option Kept) → is_log_alone (plain_of log horizon k) ≡ true → plain_of log horizon k ≡ alone log
alone_is log horizon None e = ap (λ (h : ℕ). plain_of log h None) (eqb-true horizon (last_time log) e)
alone_is log horizon (Some kept) e = absurd cc

abbrev entries_of : PlainStored → List ℕ
entries_of s = list_of log_entry_spelling s.log

abbrev IsAlone : PlainStored → Type 0
IsAlone s = (is_log_alone s ≡ true) × IsLegal s.log

alone_codec : Codec PlainStored entries_of (λ s. (is_log_alone s ≡ true) × IsStored s) alone_at
unfolding alone_at
alone_codec =
    said_codec entries_of (λ s. (is_log_alone s ≡ true) × IsStored s) (λ s _. refl)
    (λ s f. (f.0.0, stored_is s f.0.1 f.1)) (λ s f. ((f.0, f.1.legal), stored_passes s f.1))
    (tested_codec may_be_stored (made_codec alone entries_of IsAlone entries_codec
    (λ s f. (s.log, alone_is s.log s.horizon s.kept f.0, f.1))
    (λ log legal. (eq-eqb (last_time log) (last_time log) refl, legal))
    (λ log _. refl)))

-- ---- the horizon and what is kept

abbrev told_spelling : PlainStored → List ℕ
told_spelling s = to_be_bytes w64 s.horizon ++ (kept_spelling s.kept ++ entries_of s)

abbrev FitsTold : PlainStored → Type 0
FitsTold s = (s.horizon < 2 ^ 64) × (FitsKept s.kept × IsLegal s.log)

kept_fits : (horizon : ℕ) (k : Option Kept) → horizon < time_limit → MayBeKept horizon k → FitsKept k
kept_fits horizon None below may = tt
kept_fits horizon (Some kept) below may = (omega (arith, may.0), omega (arith, may.1))

told_fits : (s : PlainStored) → IsStored s → FitsTold s
told_fits s is = (omega (arith, is.bounded), (kept_fits s.horizon s.kept (omega (arith, is.bounded)) is.kept, is.legal))

not_is : (b : Bool) → not b ≡ true → b ≡ false
not_is true e = absurd cc
not_is false e = refl

told_codec : Codec PlainStored told_spelling (λ s. (is_log_alone s ≡ false) × IsStored s) told_at
unfolding told_at
told_codec =
    said_codec told_spelling (λ s. (is_log_alone s ≡ false) × IsStored s) (λ s _. refl)
    (λ s f. let parts = both (not (is_log_alone s)) (may_be_stored s) f.1 in (not_is (is_log_alone s) parts.0, stored_is s f.0.1.1 parts.1))
    (λ s f. (told_fits s f.1, rw (f.0, stored_passes s f.1) refl))
    (tested_codec (λ s. not (is_log_alone s) && may_be_stored s)
    (made_codec (λ p. plain_of p.1.1 p.0 p.1.0) told_spelling FitsTold
    (paired_codec (number_codec w64 (2 ^ 64) wide64) (paired_codec kept_codec entries_codec))
    (λ s f. ((s.horizon, (s.kept, s.log)), refl, f)) (λ p f. f) (λ p _. refl)))

-- ---- the mark says which

abbrev mark_if : Bool → List ℕ
mark_if true = codes "TEALOG01"
mark_if false = codes "TEALOG02"

abbrev body_if : Bool → PlainStored → List ℕ
body_if true s = entries_of s
body_if false s = told_spelling s

abbrev mark_of : PlainStored → List ℕ
mark_of s = mark_if (is_log_alone s)

abbrev body_of : PlainStored → List ℕ
body_of s = body_if (is_log_alone s) s

eight : (b : Bool) → length (mark_if b) ≡ 8
eight true = refl
eight false = refl

marks_alone : (b : Bool) → mark_if b ≡ mark_if true → b ≡ true
marks_alone true e = refl
marks_alone false e =
    let last : ◌≡◌ {A = ℕ} 50 49 = ap (λ (l : List ℕ). get_or l 7 0) e in
    absurd (omega arith)

marks_told : (b : Bool) → mark_if b ≡ mark_if false → b ≡ false
marks_told false e = refl
marks_told true e =
    let last : ◌≡◌ {A = ℕ} 49 50 = ap (λ (l : List ℕ). get_or l 7 0) e in
    absurd (omega arith)

abbrev OfBytes : List ℕ → PlainStored → Type 0
OfBytes mark s = (mark_of s ≡ mark) × IsStored s

no_bytes : (mark : List ℕ) (b : Bool) → bytes_eq mark (codes "TEALOG01") ≡ false → bytes_eq mark (codes "TEALOG02") ≡ false → mark_if b ≡ mark → ⊥
no_bytes mark true x y e =
    let same : bytes_eq mark (codes "TEALOG01") ≡ true = (bytes_eq-Decides mark (codes "TEALOG01")).1 (sym e) in
    let wrong : true ≡ false = sym same ∙ x in
    cc
no_bytes mark false x y e =
    let same : bytes_eq mark (codes "TEALOG02") ≡ true = (bytes_eq-Decides mark (codes "TEALOG02")).1 (sym e) in
    let wrong : true ≡ false = sym same ∙ y in
    cc

stored_mark_codec : (mark : List ℕ) → Codec PlainStored body_of (OfBytes mark) (stored_of_mark mark)
stored_mark_codec mark =
    chosen_codec (bytes_eq mark (codes "TEALOG01"))
    (λ x.
    let is : mark ≡ mark_if true = (bytes_eq-Decides mark (codes "TEALOG01")).0 x in
    said_codec body_of (OfBytes mark) (λ s f. ap (λ (b : Bool). body_if b s) f.0)
    (λ s f. (ap mark_if f.0 ∙ sym is, f.1)) (λ s f. (marks_alone (is_log_alone s) (f.0 ∙ is), f.1)) alone_codec)
    (λ x. chosen_codec (bytes_eq mark (codes "TEALOG02"))
    (λ y.
    let is : mark ≡ mark_if false = (bytes_eq-Decides mark (codes "TEALOG02")).0 y in
    said_codec body_of (OfBytes mark) (λ s f. ap (λ (b : Bool). body_if b s) f.0)
    (λ s f. (ap mark_if f.0 ∙ sym is, f.1)) (λ s f. (marks_told (is_log_alone s) (f.0 ∙ is), f.1)) told_codec)
    (λ y. never_codec body_of (OfBytes mark) (λ s f. no_bytes mark (is_log_alone s) x y f.0)))

abbrev spelled_if : Bool → PlainStored → List ℕ
spelled_if b s = cond b (log_spelling s.log) (codes "TEALOG02" ++ told_spelling s)

spelled_so : (b : Bool) (s : PlainStored) → spelled_if b s ≡ mark_if b ++ body_if b s
spelled_so true s = refl
spelled_so false s = refl

pub stored_codec : Codec PlainStored stored_spelling IsStored stored_at
unfolding stored_spelling stored_at
stored_codec =
    said_codec stored_spelling IsStored (λ s _. spelled_so (is_log_alone s) s) (λ s f. f.1) (λ s is. (eight (is_log_alone s), is))
    (headed_codec mark_of body_of IsStored stored_of_mark (bytes_codec 8) (λ mark _. stored_mark_codec mark))

-- ---- the spellings that are written

pub spelled_alone : (s : PlainStored) → is_log_alone s ≡ true → stored_spelling s ≡ log_spelling s.log
unfolding stored_spelling
spelled_alone s e = ap (λ (b : Bool). spelled_if b s) e

pub spelled_full : (s : PlainStored) → is_log_alone s ≡ false → stored_spelling s ≡ full_spelling s
unfolding stored_spelling
spelled_full s e = ap (λ (b : Bool). spelled_if b s) e

-- ---- one spelling

same_some : (stored other : PlainStored) → Some stored ≡ Some other → stored ≡ other
same_some stored other is = cc

pub same_stored : (stored other : PlainStored) → IsStored stored → IsStored other → stored_spelling stored ≡ stored_spelling other → stored ≡ other
same_stored stored other is is' same =
    same_some stored other (sym (whole_again stored_codec stored is) ∙ ap (whole stored_at) same ∙ whole_again stored_codec other is')
