-- A turn that is put back on its connection, and one that changes nothing.
use Rattle.std.proofs.Common.{ℕ, ◌≡◌, Bool, true, false, cond, List, [], ◌∷◌, ◌++◌, Option, Some, None, Result, zero, suc, set, slice_get, refl, sym, ap, subst}
use Rattle.wire_frames.specs.declared.frame.ClientFrame.{ClientFrame}
use Rattle.wire_frames.specs.declared.frame.ServerFrame.{ServerFrame}
use Rattle.reflector_core.specs.PlainSession.{PlainSession}
use Rattle.reflector_core.specs.declared.request.Reply.{Reply}
use Rattle.reflector_core.specs.declared.request.Reply.TheVariants as reply
use Rattle.reflector_core.specs.declared.request.Request.{Request}
use Rattle.replica_plain.specs.Worlds.{Worlds}
use Rattle.join_sync.specs.declared.act.Act.{Act}
use Rattle.join_sync.specs.declared.cursor.Cursor.{Cursor}
use Rattle.join_sync.specs.declared.early.Early.{Early}
use Rattle.join_sync.specs.Batches.{next_cursor}
use Rattle.system_plain.specs.ConnectionLine.{ConnectionLine, line_behind}
use Rattle.system_plain.specs.Steps.{behind_turn, with_both}
use Rattle.system_plain.specs.System.{Connection, System, over_if, put_down, with_cursor}
use Rattle.system_plain.specs.Turn.{act_turn, hear_turn, open_act}

-- ---- nothing is changed

pub set_same : {A : Type 0} (xs : List A) (k : ℕ) (x : A) → slice_get xs k ≡ Some x → set xs k x ≡ xs
set_same [] k x at = refl
set_same (y ∷ xs) zero x at = let same : y ≡ x = cc in ap (λ z. z ∷ xs) (sym same)
set_same (y ∷ xs) (suc k) x at = ap (λ zs. y ∷ zs) (set_same xs k x at)

pub both_same : {W O : Type 0} (s : System W O) (number : ℕ) (c : Connection) → slice_get s.connections number ≡ Some c → with_both s number (s.session, c) ≡ s
both_same {W = W} {O = O} s number c at = ap (λ (cs : List Connection). let x : System W O = record { session = s.session; clients = s.clients; connections = cs } in x) (set_same s.connections number c at)

-- what is so of the system is so of it then
pub rests : {W O : Type 0} (P : System W O → Type 0) (s : System W O) (number : ℕ) (c : Connection) → slice_get s.connections number ≡ Some c → P s → P (with_both s number (s.session, c))
rests P s number c at so = subst P (sym (both_same s number c at)) so

-- ---- one of two turns

pub both_if : {W O : Type 0} (P : System W O → Type 0) (s : System W O) (number : ℕ) (test : Bool) (a b : PlainSession × Connection) → (test ≡ true → P (with_both s number a)) → (test ≡ false → P (with_both s number b))
    → P (with_both s number (cond test a b))
both_if P s number true a b held fell = held refl
both_if P s number false a b held fell = fell refl

-- ---- a connection that keeps its cursor

pub as_told : {W O : Type 0} (P : System W O → Type 0) (s : System W O) (number : ℕ) (new : PlainSession) (c : Connection) (cursor : Option Cursor) (frames : List ServerFrame) (over : Bool) → c.cursor ≡ cursor
    → P (with_both s number (new, over_if over (put_down c frames))) → P (with_both s number (new, over_if over (put_down (with_cursor c cursor) frames)))
as_told P s number new c cursor frames over is so = subst (λ (x : Option Cursor). P (with_both s number (new, over_if over (put_down (with_cursor c x) frames)))) is so

-- ---- the turn of a frame, by what the frame comes to

abbrev pub take_frame : {W O : Type 0} → Worlds W O → System W O → ℕ → Connection → Option Cursor → ClientFrame → ℕ → System W O
take_frame m s number c cursor frame now = with_both s number (behind_turn c (hear_turn (record { 0 = m.session }) s.session cursor (Some frame) now))

abbrev pub take_first : {W O : Type 0} → System W O → ℕ → Connection → ClientFrame → Result Request Early → System W O
take_first s number c frame first = with_both s number (behind_turn c (act_turn s.session None (open_act frame first)))

abbrev pub take_act : {W O : Type 0} → System W O → ℕ → Connection → Cursor → Act → System W O
take_act s number c cursor act = with_both s number (behind_turn c (act_turn s.session (Some cursor) act))

-- and as a line has it
abbrev pub hears_first : ConnectionLine → ClientFrame → Result Request Early → ConnectionLine
hears_first line frame first = line_behind line (line.given ++ Some frame ∷ []) (act_turn line.session None (open_act frame first))

abbrev pub hears_act : ConnectionLine → Cursor → Option ClientFrame → Act → ConnectionLine
hears_act line cursor frame act = line_behind line (line.given ++ frame ∷ []) (act_turn line.session (Some cursor) act)

-- ---- a Pull

-- the cursor is of the same view and the same Join
pub record NextSame (cursor next : Cursor) : Type 0 where
  pub view : next.view ≡ cursor.view
  pub joined : next.joined ≡ cursor.joined

pub next_same : (cursor : Cursor) (answered : Reply) → NextSame cursor (next_cursor cursor answered)
next_same cursor (reply.Batch entries tick) = record { view = refl; joined = refl }
next_same cursor (reply.Joined seq time last from base) = record { view = refl; joined = refl }
next_same cursor (reply.Stamped seq time) = record { view = refl; joined = refl }
next_same cursor (reply.Again seq time) = record { view = refl; joined = refl }
next_same cursor (reply.Ticked time) = record { view = refl; joined = refl }
next_same cursor (reply.Left seq time) = record { view = refl; joined = refl }
next_same cursor reply.Kept = record { view = refl; joined = refl }
next_same cursor (reply.Refused why) = record { view = refl; joined = refl }
