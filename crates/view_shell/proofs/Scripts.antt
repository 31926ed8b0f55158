-- A script from one of its lines on.
use Rattle.std.proofs.Common.{◌≡◌, ℕ, ◌+◌, ◌<◌, ◌≤◌, List, ◌∷◌, length, drop, get_or, sym, ap, subst, ◌∙◌, arith}
use Rattle.std.specs.List.{AllByRecursion}
use Rattle.std.proofs.lemmas.List.{at_drop_more, drop-map, length-map}
use Rattle.view_script.specs.PlainLine.{LineFits, PlainLine, most_publishes, plain_line, plain_lines, publish_count, line_publishes}
use Rattle.view_script.specs.declared.line.ViewLine.{ViewLine}
use Rattle.view_shell.specs.declared.watcher.Watcher.{Watcher}
use Rattle.view_shell.specs.Viewers.{HasRoomFor}

module _ (lines : List ViewLine) (i : ℕ) (line : ViewLine) (within : i < length lines) (is : line ≡ get_or lines i line) where
  abbrev pub rest : List ViewLine
  rest = drop (i + 1) lines

  pub here : plain_lines (drop i lines) ≡ plain_line line ∷ plain_lines rest
  here = at_drop_more plain_lines lines i line within ∙ ap (λ (one : ViewLine). plain_lines (one ∷ rest)) (sym is)

  pub fits_here : AllByRecursion LineFits (plain_lines (drop i lines)) → LineFits (plain_line line) × AllByRecursion LineFits (plain_lines rest)
  fits_here fit = subst (AllByRecursion LineFits) here fit

  pub room_here : (w : Watcher) → HasRoomFor w (plain_lines (drop i lines)) → w.published + (line_publishes (plain_line line) + publish_count (plain_lines rest)) ≤ most_publishes
  room_here w room = subst (λ (ls : List PlainLine). w.published + publish_count ls ≤ most_publishes) here room

  pub room_now : (w : Watcher) → HasRoomFor w (plain_lines (drop i lines)) → w.published + line_publishes (plain_line line) ≤ most_publishes
  room_now w room = let held = room_here w room in omega (arith, held)

  pub room_on : (w w' : Watcher) → w'.published ≤ w.published + line_publishes (plain_line line) → HasRoomFor w (plain_lines (drop i lines)) → HasRoomFor w' (plain_lines rest)
  room_on w w' is room = let held = room_here w room in omega (arith, held, is)

-- the plain lines behind some are those of the lines behind them
pub drop_plain : (lines : List ViewLine) (i : ℕ) → i ≤ length lines → drop i (plain_lines lines) ≡ plain_lines (drop i lines)
drop_plain lines i within = drop-map plain_line i lines

pub few_plain : (lines : List ViewLine) (i : ℕ) → i ≤ length lines → i ≤ length (plain_lines lines)
few_plain lines i within = let same : length (plain_lines lines) ≡ length lines = length-map lines plain_line in omega (arith, same, within)
