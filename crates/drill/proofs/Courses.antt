-- How a worker stands behind its turns, whichever course they took.
use Rattle.std.proofs.Common.{◌≡◌, ℕ, Bool, true, false, refl}
use Rattle.session_lock.specs.Passes.{SharedState}
use Rattle.join_sync.specs.declared.cursor.Cursor.{Cursor}
use Rattle.drill.specs.declared.trust.TrustReplay.{TrustReplay}
use Rattle.drill.specs.declared.size.Size.{Size}
use Rattle.drill.specs.declared.worker.Worker.{Worker}
use Rattle.drill.specs.declared.finished.Course.{Course}
use Rattle.drill.specs.declared.finished.Course.TheVariants.{Whole, SendRefused, JoinRefused}
use Rattle.drill.specs.Turns.{HasMade, HasResent}
use Rattle.drill.specs.Workers.{IsWorker}
use Rattle.drill.proofs.Leavings.{synced_after}

pub made_worker
    : (gives : ℕ → Type 0) (size : Size) (shared : SharedState TrustReplay) (w : Worker) (cursor : Cursor) (number : ℕ) (course : Course) → HasMade gives size shared w cursor number course
    → IsWorker gives size shared w
made_worker gives size shared w cursor number Whole made = made.worker
made_worker gives size shared w cursor number SendRefused made = made.worker
made_worker gives size shared w cursor number JoinRefused made = made.worker

-- a refused course breaks the turns off
pub made_refused
    : (gives : ℕ → Type 0) (size : Size) (shared : SharedState TrustReplay) (w : Worker) (cursor : Cursor) (number : ℕ) (course : Course) → HasResent gives size shared w cursor number course
    → (course ≡ Whole → ⊥) → HasMade gives size shared w cursor number course
made_refused gives size shared w cursor number Whole resent refused = absurd (refused refl)
made_refused gives size shared w cursor number SendRefused resent refused = resent
made_refused gives size shared w cursor number JoinRefused resent refused = resent

-- a test that tells a refused Join from the other courses
pub synced_is
    : (course : Course) (synced : Bool) → (course ≡ Whole → synced ≡ true) → (course ≡ SendRefused → synced ≡ true) → (course ≡ JoinRefused → synced ≡ false) → synced ≡ synced_after course
synced_is Whole synced whole sent joined = whole refl
synced_is SendRefused synced whole sent joined = sent refl
synced_is JoinRefused synced whole sent joined = joined refl
