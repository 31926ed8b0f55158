-- What a host tells a page by a number.
use Rattle.std.specs.Prelude.{ℕ, ◌==◌, List, Option, Some, None, if◌then◌else◌}
use Rattle.tea_io.specs.declared.link.Heard.TheVariants as heard
use Rattle.live_view.specs.declared.input.LiveInput.{LiveInput}
use Rattle.live_view.specs.declared.input.LiveInput.TheVariants as input

-- the bytes are those of a frame or a line, and else are not looked at
abbrev pub input_of : ℕ → List ℕ → Option LiveInput
input_of kind bytes =
    if kind == 0 then Some input.Linked
    else if kind == 1 then Some input.LinkFailed
    else if kind == 2 then Some (input.Says (heard.Frame bytes))
    else if kind == 3 then Some (input.Says heard.Quiet)
    else if kind == 4 then Some (input.Says heard.End)
    else if kind == 5 then Some (input.Line bytes)
    else if kind == 6 then Some input.Closed
    else None
