-- How the requests of a script are read.
use Rattle.std.specs.Prelude.{List, ◌++◌, Option}
use Rattle.std.specs.Option.{option_map}
use Rattle.reflector_core.specs.declared.request.Request.{Request}

-- these requests, and then those
abbrev pub then_requests : List Request → Option (List Request) → Option (List Request)
then_requests front rest = option_map (λ requests. front ++ requests) rest
