use Rattle.std.proofs.Common.{◌≡◌, ◌++◌, drop, map, filter, not}
use Rattle.text_lines.specs.Lines.{nonempty_parts, is_empty}
use Rattle.text_lines.proofs.reading.split_words.Given as goal

-- the words so far, and those of the pieces that are left
abbrev pub invariant-loop-piece : goal.invariant-loop-piece
invariant-loop-piece l = map (λ word. word.now) l.words.items ++ filter (λ word. not (is_empty word)) (map (λ word. word.now) (drop l.piece-index l.piece-items)) ≡ nonempty_parts l.line
