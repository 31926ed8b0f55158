-- The laws of frames, for journals.
use Rattle.std.proofs.Common.{◌≡◌, ℕ, zero, suc, ◌+◌, ◌-◌, ◌^◌, ◌<◌, ◌≤◌, Bool, true, false, cond, ltb, List, [], ◌∷◌, ◌++◌, length, get_or, take, drop, map, Option, Some, None, refl, sym, ap, subst, ◌∙◌, append_assoc, append-nil, length-take, arith, inl, inr}
use Rattle.std.specs.Prelude.{codes}
use Rattle.std.specs.Int.{w32, to_be_bytes}
use Rattle.std.specs.Str.{bytes_eq}
use Rattle.std.proofs.lemmas.Bool.{cases_lt, le-ltb}
use Rattle.std.proofs.lemmas.List.{length-append, take-append-drop, take_at, drop_at, get_or-take, get_or_past}
use Rattle.std.proofs.lemmas.Bool.Decides.{nat_tests}
use Rattle.std.proofs.lemmas.Slice.Eq.{bytes_eq-Decides}
use Rattle.tea_base.specs.declared.entry.What.{What}
use Rattle.tea_base.specs.declared.entry.What.TheVariants.{Join, Exit, Event}
use Rattle.byte_fields.specs.Fields.{blob, bytes_at, mark_at, whole, FitsBlob}
use Rattle.byte_fields.proofs.Codecs.{IsBytes, whole_again, whole_takes, some_is}
use Rattle.session_journal.specs.declared.change.Change.{Change}
use Rattle.session_journal.specs.declared.change.Change.TheVariants.{Came, Reached, Kept}
use Rattle.session_journal.specs.Changes.{change_spelling, IsTypedChange, change_at}
use Rattle.session_journal.specs.Frames.{Check, Place, frame_spelling, frames_spelling, last_check, FitsBody, read_on, IsTaken, IsTorn}
use Rattle.session_log.specs.Stored.{PlainStored}
use Rattle.session_journal.specs.State.{after_change, journal_after, may_come, GoesOn, body_step, founded}
use Rattle.session_journal.specs.Journal.{header, first_check, record_check, records_spelling, OtherSession, Goes, header_at, read_records, found_after, read_journal, AreBytes, ReadsWhole, ReadsFirst, IsReadFrom}
use Rattle.session_journal.proofs.Growing.{bind_some, refused_some, passed_some}
use Rattle.session_journal.proofs.FrameLaws.{own_first, as_long, ReadsFront, fronts, IsRead, is_read, IsBytes-after}
use Rattle.session_journal.proofs.ChangeCodec.{change_codec}

-- ---- a change is a body

what_short : (s : PlainStored) (time view : ℕ) (what : What) → may_come s (Came time view what) ≡ true → length (change_spelling (Came time view what)) < 2 ^ 32
what_short s time view Join may = omega arith
what_short s time view Exit may = omega arith
what_short s time view (Event number payload) may =
    let few : length payload ≤ 4096 = grind (arith, nat_tests) in
    omega (arith, length-append (to_be_bytes w32 number) (blob payload))

change_short : (s : PlainStored) (c : Change) → may_come s c ≡ true → FitsBlob (change_spelling c)
change_short s (Came time view what) may = what_short s time view what may
change_short s (Reached time) may = omega arith
change_short s (Kept time bytes) may =
    let few : length bytes ≤ 4194304 = grind (arith, nat_tests) in
    omega arith

change_fits : (s : PlainStored) (c : Change) → may_come s c ≡ true → FitsBody (change_spelling c)
change_fits s c may = (change_short s c may, grind (arith, nat_tests))

step_is : (s : PlainStored) (c : Change) → IsTypedChange c → may_come s c ≡ true → body_step s (change_spelling c) ≡ Some (after_change s c)
unfolding body_step
step_is s c typed may = rw (whole_again change_codec c typed, may) refl

pub taken_of : (s : PlainStored) (changes : List Change) → GoesOn s changes → IsTaken body_step s (map change_spelling changes) (journal_after s changes)
taken_of s [] goes = refl
taken_of s (c ∷ rest) goes =
    (change_fits s c goes.0.1, (after_change s c, step_is s c goes.0.0 goes.0.1, taken_of (after_change s c) rest goes.1))

state_is : (s : PlainStored) (changes : List Change) (to : PlainStored) → GoesOn s changes → IsTaken body_step s (map change_spelling changes) to → to ≡ journal_after s changes
state_is s [] to goes taken = sym taken
state_is s (c ∷ rest) to goes taken =
    let same : taken.1.0 ≡ after_change s c = some_is taken.1.0 (after_change s c) (sym taken.1.1 ∙ step_is s c goes.0.0 goes.0.1) in
    state_is (after_change s c) rest to goes.1 (subst (λ (m : PlainStored). IsTaken body_step m (map change_spelling rest) to) same taken.1.2)

-- ---- a body that is taken is a change

abbrev EachBytes : List (List ℕ) → Type 0
EachBytes [] = Unit {0}
EachBytes (body ∷ rest) = IsBytes body × EachBytes rest

IsBytes-front : (bytes front rest : List ℕ) → bytes ≡ front ++ rest → IsBytes bytes → IsBytes front
IsBytes-front bytes front rest e h i =
    let is : take (length front) bytes ≡ front = ap (take (length front)) e ∙ take_at front rest (length front) refl in
    subst (λ (xs : List ℕ). get_or xs i 0 < 256) is (elim (cases_lt i (length front)) [
      | inl lt ↦ rw (get_or-take (length front) bytes i 0 lt) (h i)
      | inr le ↦ rw (get_or_past (take (length front) bytes) i 0 (omega (arith, length-take (length front) bytes))) (omega arith)
    ])

each_bytes : (check : Check) (before : List ℕ) (bodies : List (List ℕ)) (rest bytes : List ℕ) → bytes ≡ frames_spelling check before bodies ++ rest → IsBytes bytes → EachBytes bodies
each_bytes check before [] rest bytes e h = tt
each_bytes check before (body ∷ bodies) rest bytes e h =
    let one : List ℕ = frame_spelling check before body in
    let more : List ℕ = frames_spelling check (check before body) bodies in
    let split : bytes ≡ one ++ (more ++ rest) = e ∙ append_assoc one more rest in
    let front = IsBytes-front bytes one (more ++ rest) split h in
    let field = IsBytes-front one (blob body) (check before body) refl front in (
      IsBytes-after (blob body) (to_be_bytes w32 (length body)) body refl field,
      each_bytes check (check before body) bodies rest (more ++ rest) refl (IsBytes-after bytes one (more ++ rest) split h),
    )

record AreChanges (s : PlainStored) (bodies : List (List ℕ)) (to : PlainStored) : Type 0 where
  pub changes : List Change
  pub same : map change_spelling changes ≡ bodies
  pub goes : GoesOn s changes
  pub after : journal_after s changes ≡ to

changes_of : (s : PlainStored) (bodies : List (List ℕ)) (to : PlainStored) → EachBytes bodies → IsTaken body_step s bodies to → AreChanges s bodies to
unfolding body_step
changes_of s [] to fits taken = record { changes = []; same = refl; goes = tt; after = taken }
changes_of s (body ∷ bodies) to fits taken =
    let a = bind_some (whole change_at body) (λ c. cond (may_come s c) (Some (after_change s c)) None) taken.1.0 taken.1.1 in
    let g = passed_some (may_come s a.0) (after_change s a.0) taken.1.0 a.2 in
    let t = whole_takes change_codec body a.0 fits.0 a.1 in
    let r = changes_of (after_change s a.0) bodies to fits.1 (subst (λ (m : PlainStored). IsTaken body_step m bodies to) (sym g.1) taken.1.2) in
    record {
      changes = a.0 ∷ r.changes;
      same = ap (λ (x : List ℕ). x ∷ map change_spelling r.changes) (sym t.0) ∙ ap (λ (xs : List (List ℕ)). body ∷ xs) r.same;
      goes = ((t.1, g.0), r.goes);
      after = r.after;
    }

-- ---- parts of lists

pub after_both : (s : PlainStored) (first second : List Change) → journal_after s (first ++ second) ≡ journal_after (journal_after s first) second
after_both s [] second = refl
after_both s (c ∷ rest) second = after_both (after_change s c) rest second

goes_front : (s : PlainStored) (first second : List Change) → GoesOn s (first ++ second) → GoesOn s first
goes_front s [] second goes = tt
goes_front s (c ∷ rest) second goes = (goes.0, goes_front (after_change s c) rest second goes.1)

pub spelled_both : (before : List ℕ) (first second : List Change)
    → records_spelling before (first ++ second) ≡ records_spelling before first ++ records_spelling (last_check record_check before (map change_spelling first)) second
spelled_both before [] second = refl
spelled_both before (c ∷ rest) second =
    let body : List ℕ = change_spelling c in
    let check : List ℕ = record_check before body in
    ap (λ (xs : List ℕ). frame_spelling record_check before body ++ xs) (spelled_both check rest second)
    ∙ sym (append_assoc (frame_spelling record_check before body) (records_spelling check rest) (records_spelling (last_check record_check check (map change_spelling rest)) second))

pub check_both : (before : List ℕ) (first second : List Change)
    → last_check record_check before (map change_spelling (first ++ second)) ≡ last_check record_check (last_check record_check before (map change_spelling first)) (map change_spelling second)
check_both before [] second = refl
check_both before (c ∷ rest) second = check_both (record_check before (change_spelling c)) rest second

record IsSplit (changes : List Change) (whole cut : List (List ℕ)) : Type 0 where
  pub first : List Change
  pub second : List Change
  pub all : changes ≡ first ++ second
  pub first_is : map change_spelling first ≡ whole
  pub second_is : map change_spelling second ≡ cut

split : (changes : List Change) (whole cut : List (List ℕ)) → map change_spelling changes ≡ whole ++ cut → IsSplit changes whole cut
split changes [] cut e = record { first = []; second = changes; all = refl; first_is = refl; second_is = e }
split [] (body ∷ whole) cut e = absurd cc
split (c ∷ rest) (body ∷ whole) cut e =
    let head : change_spelling c ≡ body = cc in
    let tail : map change_spelling rest ≡ whole ++ cut = cc in
    let r = split rest whole cut tail in
    record {
      first = c ∷ r.first;
      second = r.second;
      all = ap (λ (xs : List Change). c ∷ xs) r.all;
      first_is = ap (λ (x : List ℕ). x ∷ map change_spelling r.first) head ∙ ap (λ (xs : List (List ℕ)). body ∷ xs) r.first_is;
      second_is = r.second_is;
    }

same_take : (n : ℕ) (xs : List ℕ) → take n xs ≡ take (length (take n xs)) xs
same_take zero xs = refl
same_take (suc n) [] = refl
same_take (suc n) (x ∷ xs) = ap (λ (ys : List ℕ). x ∷ ys) (same_take n xs)

-- ---- the header

mark_again : (mark rest : List ℕ) → mark_at mark (mark ++ rest) ≡ Some rest
mark_again mark rest =
    let is : bytes_eq mark mark ≡ true = (bytes_eq-Decides mark mark).1 refl in
    let long : ltb (length (mark ++ rest)) (length mark) ≡ false = le-ltb _ _ (omega (arith, length-append mark rest)) in
    rw (long, take_at mark rest (length mark) refl, drop_at mark rest (length mark) refl, is) refl

bytes_again : (front rest : List ℕ) → bytes_at (length front) (front ++ rest) ≡ Some (front, rest)
bytes_again front rest =
    let long : ltb (length (front ++ rest)) (length front) ≡ false = le-ltb _ _ (omega (arith, length-append front rest)) in
    rw (long, take_at front rest (length front) refl, drop_at front rest (length front) refl) refl

header_again : (id rest : List ℕ) → header_at (length id) (header id ++ rest) ≡ Some (id, rest)
header_again id rest =
    let marked : mark_at (codes "TEALOG03") (header id ++ rest) ≡ Some (id ++ rest) =
    ap (mark_at (codes "TEALOG03")) (append_assoc (codes "TEALOG03") id rest) ∙ mark_again (codes "TEALOG03") (id ++ rest) in
    rw marked (bytes_again id rest)

-- what comes after the header is read so
pub after_header : (id rest : List ℕ) (to : Place PlainStored) → read_records (first_check id) rest ≡ to → read_journal id (header id ++ rest) ≡ Goes to
unfolding read_journal
after_header id rest to e =
    let same : bytes_eq id id ≡ true = (bytes_eq-Decides id id).1 refl in
    ap (found_after id) (header_again id rest) ∙ rw (same, e) refl

-- ---- the laws

torn_short : (before : List ℕ) (whole : List Change) (torn : List ℕ) (next : Change) (rest : List Change)
    → IsTorn record_check (last_check record_check before (map change_spelling whole)) torn (map change_spelling (next ∷ rest))
    → length (records_spelling before whole ++ torn) < length (records_spelling before (whole ++ next ∷ []))
torn_short before whole torn next rest short =
    let check : List ℕ = last_check record_check before (map change_spelling whole) in
    let one : List ℕ = frame_spelling record_check check (change_spelling next) in
    let both : length (records_spelling before (whole ++ next ∷ [])) ≡ length (records_spelling before whole) + length one =
    ap length (spelled_both before whole (next ∷ []) ∙ ap (λ (xs : List ℕ). records_spelling before whole ++ xs) (append-nil one)) ∙ length-append (records_spelling before whole) one in
    omega (arith, length-append (records_spelling before whole) torn)

none_torn : (check torn : List ℕ) (cut : List Change) → IsTorn record_check check torn (map change_spelling cut) → cut ≡ [] → torn ≡ []
none_torn check torn [] short e = short
none_torn check torn (c ∷ rest) short e = absurd cc

pub reads_whole : (id : List ℕ) (changes : List Change) (n : ℕ) → GoesOn founded changes → ReadsWhole id changes n
reads_whole id changes n goes =
    let opening : PlainStored = founded in
    let before : List ℕ = first_check id in
    let bodies : List (List ℕ) = map change_spelling changes in
    let front : List ℕ = take n (frames_spelling record_check before bodies) in
    let r : ReadsFront record_check body_step (length front) opening before bodies front =
    subst (ReadsFront record_check body_step (length front) opening before bodies) (sym (same_take n (frames_spelling record_check before bodies)))
    (fronts record_check body_step (length front) (length front) opening before bodies (journal_after opening changes) (taken_of opening changes goes) (omega arith)) in
    let p = split changes r.whole r.cut r.all in
    let goes_first : GoesOn opening p.first = goes_front opening p.first p.second (subst (GoesOn opening) p.all goes) in
    let state : r.state ≡ journal_after opening p.first =
    state_is opening p.first r.state goes_first (subst (λ (xs : List (List ℕ)). IsTaken body_step opening xs r.state) (sym p.first_is) r.taken) in
    let short : IsTorn record_check (last_check record_check before (map change_spelling p.first)) r.torn (map change_spelling p.second) =
    subst (λ (xs : List (List ℕ)). IsTorn record_check (last_check record_check before xs) r.torn (map change_spelling p.second)) (sym p.first_is)
    (subst (λ (xs : List (List ℕ)). IsTorn record_check (last_check record_check before r.whole) r.torn xs) (sym p.second_is) r.short) in
    record {
      whole = p.first;
      cut = p.second;
      torn = r.torn;
      all = p.all;
      spelled = r.spelled ∙ ap (λ (xs : List (List ℕ)). frames_spelling record_check before xs ++ r.torn) (sym p.first_is);
      short = λ next rest e. torn_short before p.first r.torn next rest
          (subst (λ (cs : List Change). IsTorn record_check (last_check record_check before (map change_spelling p.first)) r.torn (map change_spelling cs)) e short);
      none = none_torn (last_check record_check before (map change_spelling p.first)) r.torn p.second short;
      read =
          after_header id front _ r.read
          ∙ ap (λ (s : PlainStored). Goes (record { state = s; check = last_check record_check before r.whole; rest = r.torn })) state
          ∙ ap (λ (xs : List (List ℕ)). Goes (record { state = journal_after opening p.first; check = last_check record_check before xs; rest = r.torn })) (sym p.first_is);
    }

room_is : (all few : ℕ) → few ≤ all → all ≡ few + (all - few)
room_is all few le = omega arith

pub reads_first : (id : List ℕ) (changes : List Change) (tail : List ℕ) → GoesOn founded changes → AreBytes tail → ReadsFirst id changes tail
reads_first id changes tail goes fits =
    let opening : PlainStored = founded in
    let before : List ℕ = first_check id in
    let bodies : List (List ℕ) = map change_spelling changes in
    let own : List ℕ = frames_spelling record_check before bodies in
    let room : ℕ = length (own ++ tail) - length bodies in
    let count : length (own ++ tail) ≡ length bodies + room =
    room_is (length (own ++ tail)) (length bodies) (omega (arith, as_long record_check before bodies, length-append own tail)) in
    let check : List ℕ = last_check record_check before bodies in
    let at : Place PlainStored = record { state = journal_after opening changes; check = check; rest = tail } in
    let to : Place PlainStored = read_on record_check body_step room at in
    let read : read_on record_check body_step (length (own ++ tail)) (record { state = opening; check = before; rest = own ++ tail }) ≡ to =
    ap (λ (k : ℕ). read_on record_check body_step k (record { state = opening; check = before; rest = own ++ tail })) count
    ∙ own_first record_check body_step room opening before bodies (journal_after opening changes) tail (taken_of opening changes goes) in
    let r : IsRead record_check body_step at to = is_read record_check body_step room at fits in
    let m = changes_of (journal_after opening changes) r.bodies to.state (each_bytes record_check check r.bodies to.rest tail r.spelled fits) r.taken in
    record {
      more = m.changes;
      torn = to.rest;
      goes = m.goes;
      read =
          ap (read_journal id) (append_assoc (header id) own tail) ∙ after_header id (own ++ tail) to read
          ∙ ap (λ (s : PlainStored). Goes (record { state = s; check = to.check; rest = to.rest })) (sym (after_both opening changes m.changes ∙ m.after))
          ∙ ap (λ (c : List ℕ). Goes (record { state = journal_after opening (changes ++ m.changes); check = c; rest = to.rest }))
          (r.checked ∙ ap (last_check record_check check) (sym m.same) ∙ sym (check_both before changes m.changes));
      spelled =
          append_assoc (header id) own tail
          ∙ ap (λ (xs : List ℕ). header id ++ (own ++ xs)) (r.spelled ∙ ap (λ (xs : List (List ℕ)). frames_spelling record_check check xs ++ to.rest) (sym m.same))
          ∙ ap (λ (xs : List ℕ). header id ++ xs) (sym (append_assoc own (records_spelling check m.changes) to.rest))
          ∙ ap (λ (xs : List ℕ). header id ++ (xs ++ to.rest)) (sym (spelled_both before changes m.changes))
          ∙ sym (append_assoc (header id) (records_spelling before (changes ++ m.changes)) to.rest);
    }

bytes_taken : (count : ℕ) (bytes front rest : List ℕ) → bytes_at count bytes ≡ Some (front, rest) → bytes ≡ front ++ rest
bytes_taken count bytes front rest e =
    let g = refused_some (ltb (length bytes) count) (take count bytes, drop count bytes) (front, rest) e in
    let first : take count bytes ≡ front = ap (λ (q : List ℕ × List ℕ). q.0) g.1 in
    let second : drop count bytes ≡ rest = ap (λ (q : List ℕ × List ℕ). q.1) g.1 in
    sym (take-append-drop count bytes) ∙ ap (λ (xs : List ℕ). xs ++ drop count bytes) first ∙ ap (λ (xs : List ℕ). front ++ xs) second

mark_taken : (mark bytes rest : List ℕ) → mark_at mark bytes ≡ Some rest → bytes ≡ mark ++ rest
mark_taken mark bytes rest e =
    let a = bind_some (bytes_at (length mark) bytes) (λ x. cond (bytes_eq x.0 mark) (Some x.1) None) rest e in
    let h = passed_some (bytes_eq a.0.0 mark) a.0.1 rest a.2 in
    let is : a.0.0 ≡ mark = (bytes_eq-Decides a.0.0 mark).0 h.0 in
    bytes_taken (length mark) bytes a.0.0 a.0.1 a.1 ∙ ap (λ (xs : List ℕ). xs ++ a.0.1) is ∙ ap (λ (xs : List ℕ). mark ++ xs) h.1

-- where a session is read, its header is there
record GoesOf (id : List ℕ) (found : Option (List ℕ × List ℕ)) (read : Place PlainStored) : Type 0 where
  pub rest : List ℕ
  pub found_is : found ≡ Some (id, rest)
  pub read_is : read_records (first_check id) rest ≡ read

goes_is : (to read : Place PlainStored) → Goes to ≡ Goes read → to ≡ read
goes_is to read e = cc

goes_if : (b : Bool) (id named rest : List ℕ) (read : Place PlainStored) → bytes_eq named id ≡ b → cond b (Goes (read_records (first_check id) rest)) OtherSession ≡ Goes read → GoesOf id (Some (named, rest)) read
goes_if true id named rest read is e =
    let same : named ≡ id = (bytes_eq-Decides named id).0 is in
    record { rest = rest; found_is = ap (λ (xs : List ℕ). Some (xs, rest)) same; read_is = goes_is (read_records (first_check id) rest) read e }
goes_if false id named rest read is e = absurd cc

goes_of : (id : List ℕ) (found : Option (List ℕ × List ℕ)) (read : Place PlainStored) → found_after id found ≡ Goes read → GoesOf id found read
goes_of id None read e = absurd cc
goes_of id (Some named) read e = goes_if (bytes_eq named.0 id) id named.0 named.1 read refl e

header_taken : (id bytes rest : List ℕ) → header_at (length id) bytes ≡ Some (id, rest) → bytes ≡ header id ++ rest
header_taken id bytes rest e =
    let m = bind_some (mark_at (codes "TEALOG03") bytes) (bytes_at (length id)) (id, rest) e in
    mark_taken (codes "TEALOG03") bytes m.0 m.1 ∙ ap (λ (xs : List ℕ). codes "TEALOG03" ++ xs) (bytes_taken (length id) m.0 id rest m.2)
    ∙ sym (append_assoc (codes "TEALOG03") id rest)

pub is_spelled : (id bytes : List ℕ) → AreBytes bytes → (read : Place PlainStored) → read_journal id bytes ≡ Goes read → IsReadFrom id bytes read
unfolding read_journal
is_spelled id bytes fits read e =
    let before : List ℕ = first_check id in
    let g = goes_of id (header_at (length id) bytes) read e in
    let rest : List ℕ = g.rest in
    let at : Place PlainStored = record { state = founded; check = before; rest = rest } in
    let to : Place PlainStored = read_on record_check body_step (length rest) at in
    let is : bytes ≡ header id ++ rest = header_taken id bytes rest g.found_is in
    let fits_rest : IsBytes rest = IsBytes-after bytes (header id) rest is fits in
    let r : IsRead record_check body_step at to = is_read record_check body_step (length rest) at fits_rest in
    let cs = changes_of founded r.bodies to.state (each_bytes record_check before r.bodies to.rest rest r.spelled fits_rest) r.taken in
    let family : Place PlainStored → Type 0 = λ x. IsReadFrom id bytes x in
    subst family g.read_is record {
      changes = cs.changes;
      goes = cs.goes;
      state = sym cs.after;
      check = r.checked ∙ ap (last_check record_check before) (sym cs.same);
      spelled = is ∙ ap (λ (xs : List ℕ). header id ++ xs) (r.spelled ∙ ap (λ (xs : List (List ℕ)). frames_spelling record_check before xs ++ to.rest) (sym cs.same))
          ∙ sym (append_assoc (header id) (records_spelling before cs.changes) to.rest);
    }
