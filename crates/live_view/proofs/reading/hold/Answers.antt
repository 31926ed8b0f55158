use Rattle.std.proofs.Common.{ℕ, List, map, sym, ap, ◌∙◌, Bor}
use Rattle.live_view.specs.Lines.{hold_of_words}
use Rattle.live_view.proofs.Readings.{hold_of-not_text, hold_of-text}
use Rattle.live_view.proofs.reading.hold.Goals as goal

pub returns-in_ok-words-in-Ok : goal.returns-in_ok-words-in-Ok
returns-in_ok-words-in-Ok c =
    c.hold_in.ensures ∙ ap (λ (ws : List (Bor (List ℕ))). hold_of_words (map (λ word. word.now) ws)) c.deref.ensures.value ∙ ap hold_of_words c.in_ok-words-in-Ok.ensures
    ∙ hold_of-text c.args.bytes.now c.in-Ok.text.now c.in-Ok.ensures.cases.1 c.in-Ok.ensures.cases.0

pub returns-in-Err : goal.returns-in-Err
returns-in-Err c = sym (hold_of-not_text c.args.bytes.now c.in-Err.ensures.cases.0)
