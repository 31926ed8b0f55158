-- What the parts of `stamp` make together.
use Rattle.std.proofs.Common.{◌≡◌, ℕ, List, Option, refl}
use Rattle.session_log.specs.Stored.{stored_spelling}
use Rattle.reflector_core.specs.declared.request.Request.{Request}
use Rattle.reflector_core.specs.declared.request.Reply.{Reply}
use Rattle.reflector_core.specs.PlainSession.{PlainSession}
use Rattle.reflector_core.specs.Play.{after_all, replies_from}
use Rattle.reflector_core.specs.Stored.{stored_of}
use Rattle.command_outcome.specs.declared.outcome.Put.{Put}
use Rattle.command_stamp.specs.ReplyText.{text_of}
use Rattle.command_outcome.specs.Outcome.{optional_put, steps_of}
use Rattle.commands.specs.Verdict.{fine, stamp_verdict}

-- the requests of a script were answered
pub answered
    : (opening after : PlainSession) (log : Option (List ℕ)) (requests : List Request) (replies : List Reply) (files : List Put) (text : List ℕ)
    → after ≡ after_all opening requests → replies ≡ replies_from opening requests
    → files ≡ optional_put log (stored_spelling (stored_of after)) → text ≡ text_of replies → fine (steps_of files text) ≡ stamp_verdict opening log requests
answered opening after log requests replies files text played replied put told = rw (put, told, replied, played) refl
