-- The lines that tell what is in a world: its objects, its subscriptions, its messages to come and its faults.
use Rattle.std.specs.Prelude.{ℕ, Bool, true, false, ◌&&◌, ◌==◌, not, nat_lt, if◌then◌else◌, List, [], ◌∷◌, ◌++◌, length, flat_map, slice_get, Option, Some, None, is_some, codes, encode_utf8_all}
use Rattle.std.specs.Fmt.{decimal}
use Rattle.std.specs.List.{list_all}
use Rattle.text_lines.specs.Lines.{LineWord, spell_numbers}
use Rattle.model_tokens.specs.Bytes.{begins_name, goes_on_name}
use Rattle.model_tokens.specs.Reader.{every_word, word_among}
use Rattle.model_tokens.specs.Spelling.{longest_name, spelled_text}
use Rattle.model_tree.specs.Tree.{Name, ClassTree, ProgramTree}
use Rattle.model_value.specs.Plain.{PlainValue, list}
use Rattle.model_value.specs.View.{plains_of}
use Rattle.value_text.specs.ValueText.{value_text}
use Rattle.world_plain.specs.Messages.{PlainMessage}
use Rattle.world_plain.specs.World.{ObjectRecord, WorldRecord}
use Rattle.world_plain.specs.declared.message.Subscription.{Subscription}

-- ---- words

-- a word, and a space before it
abbrev pub spaced : LineWord → LineWord
spaced word = 32 ∷ word

-- the bytes are one of the words that the language reserves
abbrev pub is_reserved : List ℕ → Bool
is_reserved bytes = is_some (word_among every_word bytes)

-- the bytes are a name of the language: a lower-case letter or `_`, and letters, digits and `_`, no more than a name may
-- have, and not a reserved word
abbrev pub is_name : List ℕ → Bool
is_name [] = false
is_name (first ∷ rest) = begins_name first
    && (list_all goes_on_name rest && (nat_lt (length rest) longest_name && not (is_reserved (first ∷ rest))))

-- the name of a method as it is; what is no name as its literal
abbrev pub method_text : Name → LineWord
method_text method = if is_name (encode_utf8_all method) then encode_utf8_all method else spelled_text method

-- ---- lines

-- each field by its name and its value
abbrev pub fields_part : List Name → List PlainValue → List ℕ
fields_part (name ∷ names) (value ∷ values) =
    spaced (encode_utf8_all name) ++ spaced (value_text value) ++ fields_part names values
fields_part names values = []

-- a class by its name, with these values of its fields; in a valid world each object has a class
abbrev pub class_part : Option ClassTree → List PlainValue → List ℕ
class_part None values = []
class_part (Some class) values = spaced (encode_utf8_all class.name) ++ fields_part class.fields values

-- `object ID CLASS`, and ` FIELD VALUE` for each field
abbrev pub object_line : ProgramTree → ObjectRecord → List ℕ
object_line program object = spell_numbers (codes "object") (object.id ∷ [])
    ++ class_part (slice_get program object.class) object.fields ++ codes "\n"

-- `topic SCOPE EVENT OBJECT METHOD`
abbrev pub topic_line : Subscription → List ℕ
topic_line topic =
    codes "topic" ++ spaced (spelled_text topic.scope) ++ spaced (spelled_text topic.event)
    ++ spaced (decimal topic.object) ++ spaced (method_text topic.method)
    ++ codes "\n"

-- the arguments of a message, as the value text of their list
abbrev pub arguments_text : List PlainValue → LineWord
arguments_text args = value_text (list (plains_of args))

-- `pending TIME NUMBER OBJECT METHOD ARGS`
abbrev pub pending_line : PlainMessage → List ℕ
pending_line message =
    spell_numbers (codes "pending") (message.time ∷ message.number ∷ message.object ∷ [])
    ++ spaced (method_text message.method) ++ spaced (arguments_text message.args)
    ++ codes "\n"

-- ---- faults

-- the kinds of faults by name, in the order in which a world counts them
abbrev pub fault_words : List LineWord
fault_words =
    codes "overflow" ∷ codes "zero-divisor" ∷ codes "bad-kind" ∷ codes "bad-index" ∷ codes "no-object"
    ∷ codes "no-method" ∷ codes "arity" ∷ codes "fuel" ∷ codes "depth"
    ∷ codes "size" ∷ codes "instant" ∷ codes "time" ∷ codes "full" ∷ codes "bad-event" ∷ []

-- `fault KIND COUNT`, if it is counted at all
abbrev pub fault_part : LineWord → ℕ → List ℕ
fault_part kind count = if count == 0 then [] else codes "fault" ++ spaced kind ++ spaced (decimal count) ++ codes "\n"

-- each count by the kind of its place
abbrev pub fault_parts : List LineWord → List ℕ → List ℕ
fault_parts (kind ∷ kinds) (count ∷ counts) = fault_part kind count ++ fault_parts kinds counts
fault_parts kinds counts = []

-- ---- a world

-- objects by rising id, subscriptions in the order in which they were made, messages in the order in which they are due, and faults
abbrev pub world_lines : ProgramTree → WorldRecord → List ℕ
world_lines program w = flat_map (object_line program) w.objects ++ flat_map topic_line w.subscriptions
    ++ flat_map pending_line w.pending ++ fault_parts fault_words w.faults
