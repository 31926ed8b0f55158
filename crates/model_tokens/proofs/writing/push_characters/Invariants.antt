use Rattle.std.proofs.Common.{◌≡◌, ◌++◌, flat_map, string_bytes}
use Rattle.model_tokens.specs.Spelling.{spelled_character}
use Rattle.model_tokens.proofs.writing.push_characters.Given as goal

-- the spellings of the characters so far
abbrev pub invariant-loop-character : goal.invariant-loop-character
invariant-loop-character l = string_bytes l.out ≡ string_bytes l.fn.out ++ flat_map spelled_character l.yielded
