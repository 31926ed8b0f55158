-- What a keeper holds of a history.
use Rattle.std.specs.Prelude.{◌≡◌, ◌⊎◌, ℕ, ◌+◌, ◌-◌, ◌^◌, ◌<◌, ◌≤◌, Bool, true, false, List, [], ◌∷◌, ◌++◌, length, Option, Some, None}
use Rattle.tea_io.specs.Told.{Rose}
use Rattle.tea_base.specs.declared.entry.Entry.{Entry}
use Rattle.reflector_core.specs.PlainSession.{PlainSession, IsSoundSession}
use Rattle.reflector_core.specs.Keeping.{Covers, back_to, mark_of}
use Rattle.reflector_core.specs.declared.session.going_back.Mark.{Mark}
use Rattle.session_lock.specs.declared.held.KeptSession.{KeptSession}
use Rattle.session_lock.specs.declared.held.Waiting.{Waiting}
use Rattle.session_lock.specs.declared.held.Waiting.TheVariants.{Ended, Lost, GoesOn}
use Rattle.session_lock.specs.declared.knowledge.Item.{Item}
use Rattle.session_lock.specs.History.{play_from, has_unkept, StopsAtUnkept}

-- a session is held that covers the play of the history; the snapshot that it keeps was kept at some place of the history
pub record HoldsPlay (holds : PlainSession → Type 0) (opening : PlainSession) (history : List Item) : Type 0 where
  pub held : PlainSession
  pub is_held : holds held
  pub covers : Covers (play_from opening history) held
  pub beginning : List Item
  pub rest : List Item
  pub whole : beginning ++ rest ≡ history
  pub kept : held.kept ≡ (play_from opening beginning).kept

-- What the keeper holds covers the play of the history. It is shut only if its faults have risen above the count that it
-- began with. A call was Unkept only if it is shut, and nothing changed after that call.
pub record KeepsPlay {K : Type 0} (holds : K → PlainSession → Type 0) (shut : K → Type 0) (faults : K → ℕ) (first : ℕ)
    (opening : PlainSession) (history : List Item) (keeper : K) : Type 0 where
  pub plays : HoldsPlay (holds keeper) opening history
  pub later : first ≤ faults keeper
  pub shuts : shut keeper → Rose first (faults keeper)
  pub unkept : has_unkept history ≡ true → shut keeper
  pub stops : StopsAtUnkept opening history

-- ---- between two steps of the lock

-- by this mark the session goes back to an earlier one, whose log begins its own
pub record GoesBack (mark : Mark) (s earlier : PlainSession) : Type 0 where
  pub rest : List Entry
  pub log : s.log ≡ earlier.log ++ rest
  pub len : mark.len ≡ length earlier.log
  pub horizon : mark.horizon ≡ earlier.horizon
  pub kept : s.kept ≡ earlier.kept

-- The session was asked all items of the history, and those that are pending behind it. The first of these are safe: what the keeper holds
-- covers the session behind them, to which it goes back by its mark. What is written covers it as it is, unless a call has failed. Once
-- something was lost nothing is pending, and the keeper is shut.
pub record KeepsHoped {K : Type 0} (holds writes : K → PlainSession → Type 0) (shut : K → Type 0) (faults : K → ℕ)
    (first : ℕ) (opening : PlainSession) (history pending : List Item) (lost : Bool)
    (kept : KeptSession K) : Type 0 where
  pub plays : kept.session ≡ play_from opening (history ++ pending)
  pub done : kept.done ≡ length history
  pub asked : kept.asked ≡ length history + length pending
  pub is_lost : kept.lost ≡ lost
  pub sure : List Item
  pub unsure : List Item
  pub all : pending ≡ sure ++ unsure
  pub safe : kept.safe ≡ length history + length sure
  pub sound : IsSoundSession (play_from opening (history ++ sure))
  pub held : HoldsPlay (holds kept.keeper) opening (history ++ sure)
  pub written : lost ≡ false → (shut kept.keeper → ⊥) → HoldsPlay (writes kept.keeper) opening (history ++ pending)
  pub back : GoesBack kept.mark kept.session (play_from opening (history ++ sure))
  pub gone : lost ≡ true → (pending ≡ []) × shut kept.keeper
  pub later : first ≤ faults kept.keeper
  pub shuts : shut kept.keeper → Rose first (faults kept.keeper)
  pub unkept : has_unkept (history ++ pending) ≡ true → shut kept.keeper
  pub stops : StopsAtUnkept opening (history ++ pending)

-- the counts are in order, and one more fits
pub record HasCounts {K : Type 0} (kept : KeptSession K) : Type 0 where
  pub done : kept.done ≤ kept.asked
  pub safe : kept.safe ≤ kept.asked
  pub room : kept.asked < 2 ^ 64 - 1

-- so the session can go back
pub record CanGoBack {K : Type 0} (kept : KeptSession K) : Type 0 where
  pub within : kept.mark.len ≤ length kept.session.log
  pub sound : IsSoundSession (back_to kept.mark kept.session)

-- The same where the session was asked one item more, which its counts do not tell yet. Where the keeper has settled all, the session need not
-- go back.
pub record WasAsked {K : Type 0} (holds writes : K → PlainSession → Type 0) (settled : K → Bool) (shut : K → Type 0)
    (faults : K → ℕ) (first : ℕ) (opening : PlainSession) (history pending : List Item) (lost : Bool) (item : Item)
    (kept : KeptSession K) : Type 0 where
  pub plays : kept.session ≡ play_from opening (history ++ (pending ++ item ∷ []))
  pub now_sound : IsSoundSession kept.session
  pub done : kept.done ≡ length history
  pub asked : kept.asked ≡ length history + length pending
  pub is_lost : kept.lost ≡ lost
  pub sure : List Item
  pub unsure : List Item
  pub all : pending ≡ sure ++ unsure
  pub safe : kept.safe ≡ length history + length sure
  pub sound : IsSoundSession (play_from opening (history ++ sure))
  pub held : HoldsPlay (holds kept.keeper) opening (history ++ sure) ⊎ ((settled kept.keeper ≡ true) × (lost ≡ false))
  pub written : lost ≡ false → (shut kept.keeper → ⊥)
      → HoldsPlay (writes kept.keeper) opening (history ++ (pending ++ item ∷ []))
  pub back : GoesBack kept.mark kept.session (play_from opening (history ++ sure))
      ⊎ ((settled kept.keeper ≡ true) × (lost ≡ false))
  pub gone : lost ≡ true → (pending ≡ []) × (shut kept.keeper × (kept.session ≡ play_from opening history))
  pub later : first ≤ faults kept.keeper
  pub shuts : shut kept.keeper → Rose first (faults kept.keeper)
  pub unkept : has_unkept (history ++ (pending ++ item ∷ [])) ≡ true → shut kept.keeper
  pub stops : StopsAtUnkept opening (history ++ (pending ++ item ∷ []))

-- a session that nobody has asked yet, with its keeper
pub record IsFirstKept {K : Type 0} (kept : KeptSession K) (s : PlainSession) (keeper : K) : Type 0 where
  pub session : kept.session ≡ s
  pub keeper_is : kept.keeper ≡ keeper
  pub mark : kept.mark ≡ mark_of s
  pub counts : (kept.done ≡ 0) × (kept.safe ≡ 0) × (kept.asked ≡ 0)
  pub whole : kept.lost ≡ false

-- How the session was asked first. With no place the item stands in the history; nothing was pending. Else it is pending behind so many items.
abbrev pub HasTried : {K : Type 0} → (PlainSession → List Item → List Item → Bool → KeptSession K → Type 0)
    → PlainSession → List Item → List Item → Bool → Item → Option ℕ → KeptSession K → Type 0
HasTried Keeps opening history pending lost item None after =
    (pending ≡ []) × Keeps opening (history ++ item ∷ []) [] lost after
HasTried Keeps opening history pending lost item (Some place) after =
    (lost ≡ false) × (place ≡ length history + length pending) × Keeps opening history (pending ++ item ∷ []) lost after

-- How a call that waits behind so many items goes on: it is the next, and settled; or what was pending is lost; or it is not the next.
abbrev pub HasSettled : {K : Type 0} → (PlainSession → List Item → List Item → Bool → KeptSession K → Type 0)
    → PlainSession → List Item → List Item → Bool → ℕ → Waiting → KeptSession K → KeptSession K → Type 0
HasSettled Keeps opening history pending lost place Ended before after =
    (lost ≡ false) × (length history ≡ place)
    × ((item : Item) (rest : List Item) → pending ≡ item ∷ rest → Keeps opening (history ++ item ∷ []) rest lost after)
HasSettled Keeps opening history pending lost place Lost before after = Keeps opening history [] true after
HasSettled Keeps opening history pending lost place GoesOn before after = after ≡ before

-- some keeper of this kind is shut
abbrev pub SomeShut : {K : Type 0} → (K → Type 0) → Type 0
SomeShut {K} shut = (keeper : K) × shut keeper
