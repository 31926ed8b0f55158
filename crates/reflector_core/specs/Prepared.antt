-- Calls of a session that has room for them.
use Rattle.std.specs.Prelude.{ℕ, ◌≡◌, ◌≤◌, Bool, true, false, List, [], ◌∷◌, sum_by, Result, IsOk}
use Rattle.tea_base.specs.declared.want.WantOfMemory.{WantOfMemory}
use Rattle.reflector_core.specs.declared.request.Request.{Request}
use Rattle.reflector_core.specs.declared.request.Request.TheVariants.{Join, Send, Tick, Leave, Offer, Pull}
use Rattle.reflector_core.specs.declared.request.Reply.{Reply}
use Rattle.reflector_core.specs.SessionState.{SessionState, IsPreparedFor, UsesAtMost, entries_used, bytes_used}

-- a call that was made: what was asked, what came of it, and the session after it
pub record Call : Type 0 where
  pub request : Request
  pub result : Result Reply WantOfMemory
  pub after : SessionState

-- what `Session::call` says of a call by its clause `room`: it is answered where there is room for it, and uses up no more than its own
pub record MeetsItsClauses (before : SessionState) (call : Call) : Type 0 where
  pub prepared : IsPreparedFor before call.request → IsOk call.result
  pub used : UsesAtMost before call.after (entries_used call.request) (bytes_used call.request)

-- calls were made one after the other, of a session that stood so before the first
abbrev pub WereMade : SessionState → List Call → Type 0
WereMade before [] = Unit {0}
WereMade before (call ∷ rest) = MeetsItsClauses before call × WereMade call.after rest

-- how many calls may have added an entry: the Sends, the Leaves and the Joins
abbrev pub entries_asked : List Call → ℕ
entries_asked calls = sum_by (λ call. entries_used call.request) calls

-- how many payload bytes the Sends have together
abbrev pub bytes_asked : List Call → ℕ
bytes_asked calls = sum_by (λ call. bytes_used call.request) calls

abbrev pub is_send_or_leave : Request → Bool
is_send_or_leave (Join view now want) = false
is_send_or_leave (Send view joined number payload now) = true
is_send_or_leave (Tick now) = false
is_send_or_leave (Leave view joined now) = true
is_send_or_leave (Offer view joined time snapshot) = false
is_send_or_leave (Pull after limit) = false

-- no Send and no Leave of these answered want of memory
abbrev pub AreAnswered : List Call → Type 0
AreAnswered [] = Unit {0}
AreAnswered (call ∷ rest) = (is_send_or_leave call.request ≡ true → IsOk call.result) × AreAnswered rest

-- Whatever is asked of it from now on, as long as so many calls may add an entry, and the Sends have so many payload
-- bytes together: each Send and each Leave is answered.
abbrev pub AnswersPrepared : SessionState → ℕ → ℕ → Type 0
AnswersPrepared s calls bytes =
    (made : List Call) → WereMade s made → entries_asked made ≤ calls → bytes_asked made ≤ bytes → AreAnswered made
