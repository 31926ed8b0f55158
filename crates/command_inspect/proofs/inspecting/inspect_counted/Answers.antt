use Rattle.std.proofs.Common.{ℕ, List, ◌++◌, string_bytes, ap, ◌∙◌}
use Rattle.model_solved.specs.Founding.{founding_of}
use Rattle.command_inspect.specs.InspectText.{query_text}
use Rattle.command_inspect.proofs.QueryLaws.{text_more, timed_more}
use Rattle.command_inspect.proofs.inspecting.inspect_counted.Goals as goal

pub loop-query-preserved : goal.loop-query-preserved
loop-query-preserved g c = record {
  told =
      text_more (query_text (founding_of c.args.line.now.program) c.args.line.now.id c.args.line.now.entries) c.args.queries.now c.loop-query.query-index _ (string_bytes c.loop-query.text) (string_bytes c.in_ok-query_text.field-0) (string_bytes c.push_str.new.self) c.loop-query-test.true
      c.in_ok-query_text.ensures (c.in_ok-push_str.ensures.bytes ∙ ap (λ (l : List ℕ). string_bytes c.loop-query.text ++ l) c.as_str.ensures.value) c.loop-query.invariant.told;
  timed = timed_more c.args.queries.now c.loop-query.query-index c.loop-query-test.true c.loop-query.invariant.timed;
}
