use Rattle.std.proofs.Common.{List, ℕ, ◌++◌, string_bytes, refl, ap, ◌∙◌}
use Rattle.live_view.proofs.Leading.{bad_told}
use Rattle.live_view.proofs.script.tell_bad_line.Goals as goal

pub returns : goal.returns
returns c phase = record {
  tells =
      bad_told c.args.out.now (record c.args.out.now { text = c.push_str.new.self }) c.args.number phase refl
      (c.in_ok-push_str.ensures.bytes ∙ ap (λ (l : List ℕ). string_bytes c.args.out.now.text ++ l) (c.as_str.ensures.value ∙ c.in_ok-text.ensures));
}
