-- A script of a hub as calls.
use Rattle.std.proofs.Common.{◌≡◌, ℕ, List, [], ◌∷◌, ◌++◌, fold, Option, Some, None, refl, sym, ap, ◌∙◌, append_assoc, append-nil}
use Rattle.session_hub.specs.Isolation.{AreCallsFrom, HubCall, IsApart, hub_after}
use Rattle.session_hub.specs.PlainHub.{PlainHub, hub_answer}
use Rattle.command_hub.specs.declared.script.HubLine.{HubLine}
use Rattle.command_hub.specs.HubRun.{HubRun, IsOfCalls, calls_from, hub_calls, hub_id, hub_run, named_line, run_line, told_in}

-- they are calls of that hub
are_calls : (hub : PlainHub) (lines : List HubLine) → AreCallsFrom hub (calls_from hub lines)
are_calls hub [] = tt
are_calls hub (line ∷ lines) = (refl, are_calls (hub_answer hub (hub_id line.name) line.request).hub lines)

-- they leave what the lines leave
same_hub : (hub : PlainHub) (text : List ℕ) (lines : List HubLine) → (fold run_line (record { hub = hub; text = text }) lines).hub ≡ hub_after hub (calls_from hub lines)
same_hub hub text [] = refl
same_hub hub text (line ∷ lines) = let o = hub_answer hub (hub_id line.name) line.request in same_hub o.hub (text ++ named_line line.name o.reply) lines

-- and their replies are what the lines print
same_text : (hub : PlainHub) (text : List ℕ) (lines : List HubLine) → (fold run_line (record { hub = hub; text = text }) lines).text ≡ text ++ told_in lines (calls_from hub lines)
same_text hub text [] = sym (append-nil text)
same_text hub text (line ∷ lines) =
    let o = hub_answer hub (hub_id line.name) line.request in
    same_text o.hub (text ++ named_line line.name o.reply) lines ∙ append_assoc text (named_line line.name o.reply) (told_in lines (calls_from o.hub lines))

pub is_of_calls : ((id : List ℕ) (calls : List HubCall) → AreCallsFrom [] calls → IsApart id calls) → (lines : List HubLine) → IsOfCalls lines
is_of_calls law lines = record {
  sessions = same_hub [] [] lines;
  text = same_text [] [] lines;
  apart = λ id. law id (hub_calls lines) (are_calls [] lines);
}
