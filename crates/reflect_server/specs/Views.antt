-- Which views a caller holds by what it asked, and which views may be here in the end.
use Rattle.std.specs.Prelude.{◌≡◌, ℕ, ◌==◌, Bool, true, false, not, ◌&&◌, ◌||◌, List, [], ◌∷◌, eqb}
use Rattle.tea_base.specs.declared.entry.Entry.{Entry}
use Rattle.tea_base.specs.Readings.{current, is_here}
use Rattle.reflector_core.specs.PlainSession.{PlainSession}
use Rattle.reflector_core.specs.declared.request.Request.TheVariants.{Join, Send, Leave, Offer}
use Rattle.reflector_core.specs.declared.request.Reply.TheVariants.{Joined}
use Rattle.session_lock.specs.declared.knowledge.Item.{Item}
use Rattle.session_lock.specs.declared.knowledge.Item.TheVariants.{Did, Void, Unkept}
use Rattle.session_lock.specs.History.{has}
use Rattle.system_plain.specs.Turn.{ends_connection}
use Rattle.connection.specs.Exchanges.{Exchange, Answered, exchanges_in}

-- the exchange is a Join of the view that got this seq
abbrev pub opens_view : ℕ → ℕ → Exchange → Bool
opens_view view joined (Answered (Join v now want) (Joined seq time last from base)) = (v == view) && (seq == joined)
opens_view view joined other = false

-- the exchange gives up the view that was joined so, or tells that it is gone
abbrev pub closes_view : ℕ → ℕ → Exchange → Bool
closes_view view joined (Answered (Leave v j now) given) = (v == view) && (j == joined)
closes_view view joined (Answered (Send v j number payload now) given) =
    ((v == view) && (j == joined)) && ends_connection given
closes_view view joined (Answered (Offer v j time bytes) given) = ((v == view) && (j == joined)) && ends_connection given
closes_view view joined other = false

-- the view is held that was joined so
abbrev pub holds_on : ℕ → ℕ → Bool → List Exchange → Bool
holds_on view joined held [] = held
holds_on view joined held (exchange ∷ rest) =
    holds_on view joined (opens_view view joined exchange || (held && not (closes_view view joined exchange))) rest

abbrev pub holds : ℕ → ℕ → List Exchange → Bool
holds view joined asked = holds_on view joined false asked

-- the caller made a call that has no answer: it found no memory, or was not kept
abbrev pub has_miss : ℕ → List Item → Bool
has_miss caller [] = false
has_miss caller (Did who request ∷ rest) = has_miss caller rest
has_miss caller (Void who ∷ rest) = eqb who caller || has_miss caller rest
has_miss caller (Unkept who ∷ rest) = eqb who caller || has_miss caller rest

-- the caller holds the view by this Join after its exchanges; the views of the opening session are the opener's at first
abbrev pub opens_with : PlainSession → ℕ → ℕ → ℕ → ℕ → Bool
opens_with opening opener caller view joined =
    (caller == opener) && (is_here opening.log view && (joined == current opening.log view))

abbrev pub holds_in : PlainSession → ℕ → List Item → ℕ → ℕ → ℕ → Bool
holds_in opening opener history caller view joined =
    holds_on view joined (opens_with opening opener caller view joined) (exchanges_in opening history caller)

-- a view that is here is held by one of the callers, by its last Join, and a call of this caller has no answer
abbrev pub StaysByMiss : PlainSession → ℕ → List ℕ → List Item → List Entry → Type 0
StaysByMiss opening opener callers history log =
    (view : ℕ) → is_here log view ≡ true
    → (caller : ℕ) × (has caller (opener ∷ callers) ≡ true)
    × (holds_in opening opener history caller view (current log view) ≡ true) × (has_miss caller history ≡ true)
