-- What a view does from one turn on, and at which events it loses its connection or its world.
use Rattle.std.proofs.Common.{◌≡◌, if◌then◌else◌, ℕ, ◌+◌, ◌-◌, ◌%◌, Bool, List, [], ◌∷◌, ◌++◌, ap, ◌∙◌, arith, eq-eqb, ne_eqb, add-one}
use Rattle.tea_base.specs.declared.entry.What.{What}
use Rattle.tea_base.specs.declared.entry.What.TheVariants.{Join, Event}
use Rattle.seeded_random.specs.Draw.{word_of, state_after, number_below}
use Rattle.drill.specs.Drilled.{add_payload, drawn_numbers, drop_interval, joins_behind, own_turns}
use Rattle.drill.specs.Doing.{loss_interval}

-- what is left before turn `number + 1` of a drill with count + 1 more events begins with its event
pub turn_begins : (number count state : ℕ) → own_turns (number + 1) (drawn_numbers state (count + 1)) ≡ Event (number + 1) (add_payload (number_below 100 (word_of state))) ∷ joins_behind (number + 1) ++ own_turns (number + 2) (drawn_numbers (state_after state) count)
turn_begins number count state =
    let first : List What = Event (number + 1) (add_payload (number_below 100 (word_of state))) ∷ joins_behind (number + 1) in
    let next : number + 1 + 1 ≡ number + 2 = omega arith in
    ap (λ (n : ℕ). own_turns (number + 1) (drawn_numbers state n)) (add-one count)
    ∙ ap (λ (n : ℕ). first ++ own_turns n (drawn_numbers (state_after state) count)) next

pub joins_none : (number : ℕ) → (number % drop_interval ≡ 0 → ⊥) → joins_behind number ≡ []
joins_none number other = ap (λ (b : Bool). if b then Join ∷ [] else []) (ne_eqb (number % drop_interval) 0 other)

pub joins_once : (number : ℕ) → number % drop_interval ≡ 0 → joins_behind number ≡ Join ∷ []
joins_once number multiple = ap (λ (b : Bool). if b then Join ∷ [] else []) (eq-eqb (number % drop_interval) 0 multiple)

pub drop_of_loss : (number : ℕ) → number % loss_interval ≡ 0 → number % drop_interval ≡ 0
drop_of_loss number multiple = omega arith
