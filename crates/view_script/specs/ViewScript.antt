-- The grammar of a view script, over plain lists: lines and words. Texts are seen as their UTF-8.
use Rattle.std.specs.Prelude.{ℕ, nat_le, ◌==◌, if◌then◌else◌, List, [], ◌∷◌, ◌++◌, Option, Some, None, codes}
use Rattle.std.specs.Option.{option_map}
use Rattle.std.specs.Str.{bytes_eq, chars, is_utf8}
use Rattle.std.specs.Str.Lines.{lines}
use Rattle.byte_fields.specs.Fields.{whole}
use Rattle.text_lines.specs.Lines.{LineWord, is_skipped, number_of_word, time_of_word}
use Rattle.model_tokens.specs.Reader.{literal_text_at}
use Rattle.model_value.specs.Plain.{PlainValue}
use Rattle.value_text.specs.Reading.{value_of_text}
use Rattle.view_bridge.specs.declared.topic.Handling.{Handling}
use Rattle.view_bridge.specs.declared.topic.Handling.TheVariants.{Queued, OncePerFrame}
use Rattle.view_script.specs.PlainLine.{PlainLine, Publish, Watch, Wait, WaitFor, Settle, Snap, Cut, Quit, Mark, Vote, Show, payload_fits, publish_count, most_publishes}
use Rattle.view_script.specs.Words.{script_words_of}

-- the text of a word that is one text literal: a quote, and what ends with the next one
abbrev pub literal_of : LineWord → Option (List ℕ)
literal_of [] = None
literal_of (byte ∷ bytes) = if byte == 34 then whole literal_text_at bytes else None

-- `queued | once`
abbrev pub handling_of_word : LineWord → Option Handling
handling_of_word word =
    if bytes_eq word (codes "queued") then Some Queued
    else (if bytes_eq word (codes "once") then Some OncePerFrame
    else None)

abbrev pub publish_with : Option (List ℕ) → Option (List ℕ) → Option PlainValue → Option PlainLine
publish_with (Some scope) (Some event) (Some value) =
    if payload_fits scope event value then Some (Publish scope event value) else None
publish_with scope event value = None

-- `SCOPE EVENT VALUE`
abbrev pub publish_of : List LineWord → Option PlainLine
publish_of (scope ∷ event ∷ value ∷ []) = publish_with (literal_of scope) (literal_of event) (value_of_text value)
publish_of words = None

abbrev pub watch_with : Option (List ℕ) → Option (List ℕ) → Option Handling → Option PlainLine
watch_with (Some scope) (Some event) (Some handling) = Some (Watch scope event handling)
watch_with scope event handling = None

-- `SCOPE EVENT queued | once`
abbrev pub watch_of : List LineWord → Option PlainLine
watch_of (scope ∷ event ∷ handling ∷ []) = watch_with (literal_of scope) (literal_of event) (handling_of_word handling)
watch_of words = None

-- what stands behind the plus that a word begins with
abbrev pub behind_plus : LineWord → Option LineWord
behind_plus [] = None
behind_plus (byte ∷ bytes) = if byte == 43 then Some bytes else None

abbrev pub wait_with : LineWord → Option LineWord → Option PlainLine
wait_with time None = option_map Wait (time_of_word time)
wait_with word (Some span) = option_map WaitFor (time_of_word span)

-- `T | +T`
abbrev pub wait_of : List LineWord → Option PlainLine
wait_of (word ∷ []) = wait_with word (behind_plus word)
wait_of words = None

-- the characters of a word, if it is UTF-8, as each word of a script is
abbrev pub text_of_word : LineWord → Option (List ℕ)
text_of_word word = if is_utf8 word then Some (chars word) else None

-- `WORD`
abbrev pub mark_of : List LineWord → Option PlainLine
mark_of (word ∷ []) = option_map Mark (text_of_word word)
mark_of words = None

-- the greatest number of an entry
abbrev pub last_entry : ℕ
last_entry = 4294967295

-- `N`
abbrev pub vote_of : List LineWord → Option PlainLine
vote_of (word ∷ []) = option_map Vote (number_of_word 1 last_entry word)
vote_of words = None

-- a line without fields
abbrev pub line_alone : PlainLine → List LineWord → Option PlainLine
line_alone line [] = Some line
line_alone line words = None

-- the line of these words: one row for each kind of line
abbrev pub line_of : List LineWord → Option PlainLine
line_of [] = None
line_of (name ∷ fields) =
    if bytes_eq name (codes "publish") then publish_of fields
    else (if bytes_eq name (codes "watch") then watch_of fields
    else (if bytes_eq name (codes "wait") then wait_of fields
    else (if bytes_eq name (codes "settle") then line_alone Settle fields
    else (if bytes_eq name (codes "snap") then line_alone Snap fields
    else (if bytes_eq name (codes "cut") then line_alone Cut fields
    else (if bytes_eq name (codes "quit") then line_alone Quit fields
    else (if bytes_eq name (codes "mark") then mark_of fields
    else (if bytes_eq name (codes "vote") then vote_of fields
    else (if bytes_eq name (codes "show") then line_alone Show fields
    else None)))))))))

-- these lines, and then those
abbrev pub then_lines : List PlainLine → Option (List PlainLine) → Option (List PlainLine)
then_lines front None = None
then_lines front (Some rest) = Some (front ++ rest)

abbrev pub then_line : Option PlainLine → Option (List PlainLine) → Option (List PlainLine)
then_line None rest = None
then_line (Some line) rest = then_lines (line ∷ []) rest

-- the lines of these lines of text, where each that is not skipped is one
abbrev pub lines_of : List (List ℕ) → Option (List PlainLine)
lines_of [] = Some []
lines_of (text ∷ more) = if is_skipped text then lines_of more
    else then_line (line_of (script_words_of text)) (lines_of more)

-- if not too many of them publish
abbrev pub if_few : Option (List PlainLine) → Option (List PlainLine)
if_few None = None
if_few (Some script) = if nat_le (publish_count script) most_publishes then Some script else None

-- the lines of a script: UTF-8, in lines
abbrev pub view_script_of : List ℕ → Option (List PlainLine)
view_script_of bytes = if is_utf8 bytes then if_few (lines_of (lines bytes)) else None
