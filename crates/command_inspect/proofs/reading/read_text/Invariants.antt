use Rattle.std.proofs.Common.{◌≡◌, drop, map}
use Rattle.std.specs.Str.Lines.{lines}
use Rattle.command_inspect.specs.Queries.{AreTimed, queries_in, then_queries}
use Rattle.command_inspect.proofs.reading.read_text.Given as goal

-- the queries so far, and those of the lines that are left
abbrev pub invariant-loop-line : goal.invariant-loop-line
invariant-loop-line l = record {
  told : then_queries l.queries.items (queries_in (map (λ line. line.now) (drop l.line-index l.line-items))) ≡ queries_in (lines l.text);
  timed : AreTimed l.queries.items;
}
