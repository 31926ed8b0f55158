use Rattle.std.proofs.Common.{◌≡◌, ◌++◌, drop, string_bytes}
use Rattle.std.specs.Prelude.{flat_map}
use Rattle.model_solved.specs.Founding.{founding_of}
use Rattle.command_inspect.specs.InspectText.{query_text}
use Rattle.command_inspect.specs.Queries.{AreTimed}
use Rattle.command_inspect.proofs.inspecting.inspect_counted.Given as goal

-- the texts so far, and those of the queries that are left
abbrev pub invariant-loop-query : goal.invariant-loop-query
invariant-loop-query g l = record {
  told :
      string_bytes l.text ++ flat_map (query_text (founding_of l.line.program) l.line.id l.line.entries) (drop l.query-index l.queries)
      ≡ flat_map (query_text (founding_of l.line.program) l.line.id l.line.entries) l.queries;
  timed : AreTimed (drop l.query-index l.queries);
}
