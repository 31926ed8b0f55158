-- What the requests of a hub's script leave: the sessions, the text of their replies, and the files.
use Rattle.std.specs.Prelude.{ℕ, ◌≡◌, List, [], ◌∷◌, ◌++◌, map, fold, encode_utf8_all, Option, Some, None, codes}
use Rattle.sha2.specs.Sha256.{sha256}
use Rattle.byte_fields.specs.Fields.{text_field}
use Rattle.model_value.specs.Plain.{nil}
use Rattle.snapshot_codec.specs.Spelling.{persisted_bytes}
use Rattle.text_lines.specs.Lines.{spell_numbers}
use Rattle.session_log.specs.Stored.{stored_spelling}
use Rattle.reflector_core.specs.Stored.{stored_of}
use Rattle.session_hub.specs.PlainHub.{HeldSession, HubOutcome, PlainHub, hub_answer}
use Rattle.session_hub.specs.Isolation.{HubCall, IsApart, hub_after}
use Rattle.session_hub.specs.declared.reply.HubReply.{HubReply}
use Rattle.session_hub.specs.declared.reply.HubReply.TheVariants.{Reply, HubFull}
use Rattle.run_steps.specs.Steps.{Step}
use Rattle.command_outcome.specs.declared.outcome.Put.{Put}
use Rattle.command_outcome.specs.Outcome.{numbered_puts, steps_of}
use Rattle.command_stamp.specs.ReplyText.{reply_line}
use Rattle.command_hub.specs.declared.script.HubLine.{HubLine}

-- the id of the session of a name: it has no program, and the persisted value nil
abbrev pub hub_id : List ℕ → List ℕ
hub_id name = sha256 (text_field name ++ [] ++ persisted_bytes nil)

-- the line of a reply, or that the hub has as many sessions as it may have
abbrev pub hub_reply_line : HubReply → List ℕ
hub_reply_line (Reply reply) = reply_line reply
hub_reply_line (HubFull sessions) = spell_numbers (codes "hub-full") (sessions ∷ []) ++ codes "\n"

-- the same after the name of the session
abbrev pub named_line : List ℕ → HubReply → List ℕ
named_line name reply = encode_utf8_all name ++ codes " " ++ hub_reply_line reply

-- the sessions, and the text so far
pub record HubRun : Type 0 where
  pub hub : PlainHub
  pub text : List ℕ

-- the session of the name answers, and its reply is told
abbrev pub told_after : HubRun → List ℕ → HubOutcome → HubRun
told_after run name outcome = record { hub = outcome.hub; text = run.text ++ named_line name outcome.reply }

abbrev pub run_line : HubRun → HubLine → HubRun
run_line run line = told_after run line.name (hub_answer run.hub (hub_id line.name) line.request)

-- the lines, one after the other, of a hub without sessions
abbrev pub hub_run : List HubLine → HubRun
hub_run = fold run_line (record { hub = []; text = [] })

-- a session as it is stored
abbrev pub stored_bytes : HeldSession → List ℕ
stored_bytes held = stored_spelling (stored_of held.session)

-- each session, in the order in which they were made, under a name that ends in its number from 1 on, where a name for them is given
abbrev pub hub_puts : Option (List ℕ) → PlainHub → List Put
hub_puts None hub = []
hub_puts (Some prefix) hub = numbered_puts prefix 1 (map stored_bytes hub)

-- the sessions are put, and then the text is printed
abbrev pub hub_steps : Option (List ℕ) → List HubLine → List Step
hub_steps logs lines = let run = hub_run lines in steps_of (hub_puts logs run.hub) run.text

-- ---- the calls of a script

-- the session of a line is asked, and replies so
abbrev pub call_of : PlainHub → HubLine → HubCall
call_of hub line = record {
  id = hub_id line.name;
  request = line.request;
  reply = Some (hub_answer hub (hub_id line.name) line.request).reply;
}

-- one call for each line, of a hub that has these sessions
abbrev pub calls_from : PlainHub → List HubLine → List HubCall
calls_from hub [] = []
calls_from hub (line ∷ lines) = call_of hub line ∷ calls_from (hub_answer hub (hub_id line.name) line.request).hub lines

abbrev pub hub_calls : List HubLine → List HubCall
hub_calls = calls_from []

-- the text of a call's reply, after the name of its session
abbrev pub told_by : List ℕ → Option HubReply → List ℕ
told_by name None = []
told_by name (Some reply) = named_line name reply

abbrev pub told_in : List HubLine → List HubCall → List ℕ
told_in [] calls = []
told_in lines [] = []
told_in (line ∷ lines) (call ∷ calls) = told_by line.name call.reply ++ told_in lines calls

-- What a script leaves is what these calls leave, and what it prints are their replies. Each session is as if it were alone.
pub record IsOfCalls (lines : List HubLine) : Type 0 where
  pub sessions : (hub_run lines).hub ≡ hub_after [] (hub_calls lines)
  pub text : (hub_run lines).text ≡ told_in lines (hub_calls lines)
  pub apart : (id : List ℕ) → IsApart id (hub_calls lines)
