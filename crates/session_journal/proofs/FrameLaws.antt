-- What is spelled is read, whatever follows; a front reads as what is whole in it; and what is read is spelled.
use Rattle.std.proofs.Common.{◌≡◌, ℕ, zero, suc, ◌+◌, ◌-◌, ◌<◌, ◌≤◌, List, [], ◌∷◌, ◌++◌, length, get_or, take, Option, Some, None, refl, sym, ap, subst, ◌∙◌, append_assoc, append-nil, length-take, arith, inl, inr}
use Rattle.std.specs.Int.{w32}
use Rattle.std.proofs.lemmas.Bool.{cases_lt}
use Rattle.std.proofs.lemmas.List.{length-append, get_or-append-add}
use Rattle.byte_fields.specs.Fields.{◌>>=◌, blob, blob_at, bytes_at, number_at, tested_at, marked_at, nothing_at}
use Rattle.byte_fields.proofs.Codecs.{Codec, IsBytes, said_codec, headed_codec, tested_codec, marked_codec, nothing_codec, blob_codec, some_is}
use Rattle.session_journal.specs.Frames.{Check, Step, Place, frame_spelling, frames_spelling, last_check, has_bytes, FitsBody, frame_at, next_place, found_or, read_on, IsTaken, IsTorn}
use Rattle.session_journal.proofs.Growing.{Grows, bind_some, short_none, headed_grow, tested_grow, marked_grow, nothing_grow, number_grow, bytes_grow}

-- ---- one

check_codec : (check : Check) (before body : List ℕ) → Codec (List ℕ) (check before) (λ x. (x ≡ body) × Unit {0}) (marked_at (check before body) (nothing_at body))
check_codec check before body =
    said_codec (check before) (λ x. (x ≡ body) × Unit {0})
    (λ x e. ap (check before) e ∙ sym (append-nil (check before body))) (λ x e. (e, tt)) (λ x e. e.0)
    (marked_codec (check before body) (nothing_codec body))

pub frame_codec : (check : Check) (before : List ℕ) → Codec (List ℕ) (frame_spelling check before) FitsBody (frame_at check before)
unfolding frame_at
frame_codec check before =
    said_codec (frame_spelling check before) FitsBody (λ x _. refl) (λ x f. f.0) (λ x f. (f, tt))
    (headed_codec (λ x. x) (check before) (λ _. Unit {0}) (λ body. marked_at (check before body) (nothing_at body))
    (tested_codec has_bytes blob_codec) (λ body _. check_codec check before body))

pub frame_grow : (check : Check) (before : List ℕ) → Grows (frame_at check before)
unfolding frame_at
frame_grow check before =
    headed_grow (tested_at has_bytes blob_at) (λ body. marked_at (check before body) (nothing_at body))
    (tested_grow has_bytes blob_at (headed_grow (number_at w32) bytes_at (number_grow w32) bytes_grow))
    (λ body. marked_grow (check before body) (nothing_at body) (nothing_grow body))

pub frame_long : (check : Check) (before body : List ℕ) → 4 ≤ length (frame_spelling check before body)
frame_long check before body = omega (arith, length-append (blob body) (check before body))

-- ---- one step

-- where the first body is read and may come
pub step_goes : {S : Type 0} (check : Check) (step : Step S) (at : Place S) (body rest : List ℕ) (next : S) → frame_at check at.check at.rest ≡ Some (body, rest) → step at.state body ≡ Some next
    → next_place check step at ≡ Some (record { state = next; check = check at.check body; rest = rest })
step_goes check step at body rest next e f = rw (e, f) refl

-- where none is read
pub step_ends : {S : Type 0} (check : Check) (step : Step S) (at : Place S) → frame_at check at.check at.rest ≡ None → next_place check step at ≡ None
step_ends check step at e = rw e refl

-- one more
pub goes_on : {S : Type 0} (check : Check) (step : Step S) (room : ℕ) (at next : Place S) → next_place check step at ≡ Some next → read_on check step (suc room) at ≡ read_on check step room next
unfolding read_on
goes_on check step room at next e = rw e refl

-- no more
pub stays : {S : Type 0} (check : Check) (step : Step S) (room : ℕ) (at : Place S) → next_place check step at ≡ None → read_on check step room at ≡ at
unfolding read_on
stays check step zero at e = refl
stays check step (suc room) at e = rw e refl

nothing_more : (room : ℕ) → 0 + room ≡ room
nothing_more room = omega arith

one_room : (k room : ℕ) → suc k + room ≡ suc (k + room)
one_room k room = omega arith

-- ---- what is spelled is read first, whatever follows

pub own_first : {S : Type 0} (check : Check) (step : Step S) (room : ℕ) (from : S) (before : List ℕ) (bodies : List (List ℕ)) (to : S) (tail : List ℕ) → IsTaken step from bodies to
    → read_on check step (length bodies + room) (record { state = from; check = before; rest = frames_spelling check before bodies ++ tail })
    ≡ read_on check step room (record { state = to; check = last_check check before bodies; rest = tail })
own_first {S = S} check step room from before [] to tail taken =
    ap (λ (k : ℕ). read_on check step k (record { state = from; check = before; rest = tail })) (nothing_more room)
    ∙ ap (λ (s : S). read_on check step room (record { state = s; check = before; rest = tail })) taken
own_first check step room from before (body ∷ bodies) to tail taken =
    let rest : List ℕ = frames_spelling check (check before body) bodies ++ tail in
    let read : frame_at check before ((frame_spelling check before body ++ frames_spelling check (check before body) bodies) ++ tail) ≡ Some (body, rest) =
    ap (frame_at check before) (append_assoc (frame_spelling check before body) (frames_spelling check (check before body) bodies) tail)
    ∙ (frame_codec check before).again body rest taken.0 in
    ap (λ (k : ℕ). read_on check step k (record { state = from; check = before; rest = frames_spelling check before (body ∷ bodies) ++ tail })) (one_room (length bodies) room)
    ∙ goes_on check step (length bodies + room) (record { state = from; check = before; rest = frames_spelling check before (body ∷ bodies) ++ tail }) (record { state = taken.1.0; check = check before body; rest = rest })
    (step_goes check step (record { state = from; check = before; rest = frames_spelling check before (body ∷ bodies) ++ tail }) body rest taken.1.0 read taken.1.1)
    ∙ own_first check step room taken.1.0 (check before body) bodies to tail taken.1.2

pub as_long : (check : Check) (before : List ℕ) (bodies : List (List ℕ)) → length bodies ≤ length (frames_spelling check before bodies)
as_long check before [] = omega arith
as_long check before (body ∷ bodies) =
    omega (arith, as_long check (check before body) bodies, frame_long check before body, length-append (frame_spelling check before body) (frames_spelling check (check before body) bodies))

-- ---- a front reads as just what is whole in it

pub record ReadsFront {S : Type 0} (check : Check) (step : Step S) (room : ℕ) (from : S) (before : List ℕ) (bodies : List (List ℕ)) (front : List ℕ) : Type 0 where
  pub whole : List (List ℕ)
  pub cut : List (List ℕ)
  pub torn : List ℕ
  pub state : S
  pub all : bodies ≡ whole ++ cut
  pub spelled : front ≡ frames_spelling check before whole ++ torn
  pub short : IsTorn check (last_check check before whole) torn cut
  pub taken : IsTaken step from whole state
  pub read : read_on check step room (record { state = from; check = before; rest = front }) ≡ record { state = state; check = last_check check before whole; rest = torn }

take_add : (front rest : List ℕ) (k : ℕ) → take (length front + k) (front ++ rest) ≡ front ++ take k rest
take_add [] rest k = ap (λ (n : ℕ). take n rest) (nothing_more k)
take_add (x ∷ front) rest k =
    ap (λ (n : ℕ). take n ((x ∷ front) ++ rest)) (one_room (length front) k) ∙ ap (λ (xs : List ℕ). x ∷ xs) (take_add front rest k)

take_more : (n : ℕ) (front rest : List ℕ) → length front ≤ n → take n (front ++ rest) ≡ front ++ take (n - length front) rest
take_more n front rest le =
    let split : n ≡ length front + (n - length front) = omega arith in
    ap (λ (k : ℕ). take k (front ++ rest)) split ∙ take_add front rest (n - length front)

take_none : (n : ℕ) → take {A = ℕ} n [] ≡ []
take_none zero = refl
take_none (suc n) = refl

short_take : (n : ℕ) (xs : List ℕ) (k : ℕ) → n < k → length (take n xs) < k
short_take n xs k lt = omega (arith, length-take n xs)

empty_none : (check : Check) (before : List ℕ) → frame_at check before [] ≡ None
unfolding frame_at
empty_none check before = refl

one_more : {S : Type 0} (check : Check) (step : Step S) (room n : ℕ) (from : S) (before body : List ℕ) (bodies : List (List ℕ)) (to : S) → (taken : IsTaken step from (body ∷ bodies) to) → n ≤ room → length (frame_spelling check before body) ≤ n
    → ((k room : ℕ) → k ≤ room → ReadsFront check step room taken.1.0 (check before body) bodies (take k (frames_spelling check (check before body) bodies)))
    → ReadsFront check step room from before (body ∷ bodies) (take n (frames_spelling check before (body ∷ bodies)))
one_more check step zero n from before body bodies to taken le enough others = absurd (omega (arith, frame_long check before body))
one_more {S = S} check step (suc room) n from before body bodies to taken le enough others =
    let one : List ℕ = frame_spelling check before body in
    let more : List ℕ = frames_spelling check (check before body) bodies in
    let left : List ℕ = take (n - length one) more in
    let r = others (n - length one) room (omega (arith, frame_long check before body)) in
    let split : take n (one ++ more) ≡ one ++ left = take_more n one more enough in
    rw split record {
      whole = body ∷ r.whole;
      cut = r.cut;
      torn = r.torn;
      state = r.state;
      all = ap (λ (xs : List (List ℕ)). body ∷ xs) r.all;
      spelled = ap (λ (xs : List ℕ). one ++ xs) r.spelled ∙ sym (append_assoc one (frames_spelling check (check before body) r.whole) r.torn);
      short = r.short;
      taken = (taken.0, (taken.1.0, taken.1.1, r.taken));
      read =
          goes_on check step room (record { state = from; check = before; rest = one ++ left }) (record { state = taken.1.0; check = check before body; rest = left })
          (step_goes check step (record { state = from; check = before; rest = one ++ left }) body left taken.1.0 ((frame_codec check before).again body left taken.0) taken.1.1)
          ∙ r.read;
    }

pub fronts : {S : Type 0} (check : Check) (step : Step S) (room n : ℕ) (from : S) (before : List ℕ) (bodies : List (List ℕ)) (to : S) → IsTaken step from bodies to → n ≤ room
    → ReadsFront check step room from before bodies (take n (frames_spelling check before bodies))
fronts check step room n from before [] to taken le =
    let nothing : frame_at check before [] ≡ None = empty_none check before in
    rw (take_none n) record {
      whole = [];
      cut = [];
      torn = [];
      state = from;
      all = refl;
      spelled = refl;
      short = refl;
      taken = refl;
      read = stays check step room (record { state = from; check = before; rest = [] }) (step_ends check step (record { state = from; check = before; rest = [] }) nothing);
    }
fronts {S = S} check step room n from before (body ∷ bodies) to taken le =
    let one : List ℕ = frame_spelling check before body in
    let more : List ℕ = frames_spelling check (check before body) bodies in
    elim (cases_lt n (length one)) [
      | inl few ↦
          let front : List ℕ = take n (one ++ more) in
          let none : frame_at check before front ≡ None = short_none (frame_codec check before) (frame_grow check before) body more n taken.0 few in
          record {
            whole = [];
            cut = body ∷ bodies;
            torn = front;
            state = from;
            all = refl;
            spelled = refl;
            short = short_take n (one ++ more) (length one) few;
            taken = refl;
            read = stays check step room (record { state = from; check = before; rest = front }) (step_ends check step (record { state = from; check = before; rest = front }) none);
          }
      | inr enough ↦ one_more check step room n from before body bodies to taken le enough
          (λ k r h. fronts check step r k taken.1.0 (check before body) bodies to taken.1.2 h)
    ]

-- ---- what is read is spelled so

pub IsBytes-after : (bytes front rest : List ℕ) → bytes ≡ front ++ rest → IsBytes bytes → IsBytes rest
IsBytes-after bytes front rest e h i =
    let at : get_or bytes (length front + i) 0 ≡ get_or rest i 0 = ap (λ (xs : List ℕ). get_or xs (length front + i) 0) e ∙ get_or-append-add front rest i 0 in
    rw (← at) (h (length front + i))

pub record IsRead {S : Type 0} (check : Check) (step : Step S) (at to : Place S) : Type 0 where
  pub bodies : List (List ℕ)
  pub spelled : at.rest ≡ frames_spelling check at.check bodies ++ to.rest
  pub taken : IsTaken step at.state bodies to.state
  pub checked : to.check ≡ last_check check at.check bodies

read_step : {S : Type 0} (check : Check) (step : Step S) (at next : Place S) → IsBytes at.rest → next_place check step at ≡ Some next
    → (body : List ℕ) × (at.rest ≡ frame_spelling check at.check body ++ next.rest) × FitsBody body × (step at.state body ≡ Some next.state) × (next.check ≡ check at.check body)
read_step {S = S} check step at next fits e =
    let a = bind_some (frame_at check at.check at.rest) (λ x. step at.state x.0 >>= λ state. Some (record { state = state; check = check at.check x.0; rest = x.1 })) next e in
    let b = bind_some (step at.state a.0.0) (λ state. Some (record { state = state; check = check at.check a.0.0; rest = a.0.1 })) next a.2 in
    let t = (frame_codec check at.check).takes at.rest a.0.0 a.0.1 fits a.1 in
    let made : Place S = record { state = b.0; check = check at.check a.0.0; rest = a.0.1 } in
    let family : Place S → Type 0 = λ p. (body : List ℕ) × (at.rest ≡ frame_spelling check at.check body ++ p.rest) × FitsBody body × (step at.state body ≡ Some p.state) × (p.check ≡ check at.check body) in
    subst family (some_is made next b.2) (a.0.0, t.0, t.1, b.1, refl)

read_of : {S : Type 0} (check : Check) (step : Step S) (at : Place S) (found : Option (Place S)) → IsBytes at.rest → next_place check step at ≡ found → (make : Place S → Place S)
    → ((next : Place S) → IsBytes next.rest → IsRead check step next (make next)) → IsRead check step at (found_or at make found)
read_of check step at None fits e make others = record { bodies = []; spelled = refl; taken = refl; checked = refl }
read_of check step at (Some next) fits e make others =
    let one = read_step check step at next fits e in
    let body : List ℕ = one.0 in
    let r = others next (IsBytes-after at.rest (frame_spelling check at.check body) next.rest one.1 fits) in
    let r_check = one.4 in
    record {
      bodies = body ∷ r.bodies;
      spelled =
          one.1 ∙ ap (λ (xs : List ℕ). frame_spelling check at.check body ++ xs) (r.spelled ∙ ap (λ (c : List ℕ). frames_spelling check c r.bodies ++ (make next).rest) one.4)
          ∙ sym (append_assoc (frame_spelling check at.check body) (frames_spelling check (check at.check body) r.bodies) (make next).rest);
      taken = (one.2, (next.state, one.3, r.taken));
      checked = r.checked ∙ ap (λ (c : List ℕ). last_check check c r.bodies) one.4;
    }

pub is_read : {S : Type 0} (check : Check) (step : Step S) (room : ℕ) (at : Place S) → IsBytes at.rest → IsRead check step at (read_on check step room at)
unfolding read_on
is_read check step zero at fits = record { bodies = []; spelled = refl; taken = refl; checked = refl }
is_read check step (suc room) at fits =
    read_of check step at (next_place check step at) fits refl (read_on check step room) (λ next h. is_read check step room next h)
