use Rattle.std.proofs.Common.{◌≡◌, ◌≤◌, List, length, Result, Err, sym, subst, arith, rules}
use Rattle.model_tree.specs.declared.tree.Class.{Class}
use Rattle.model_lang.specs.declared.fault.LangFault.{LangFault}
use Rattle.model_tree.specs.Bounds.{most_program_bytes}
use Rattle.model_lang.specs.Answer.{Parses, ParsesTokens}
use Rattle.model_lang.proofs.Whole.{no_tokens, parse_failed}
use Rattle.model_lang.proofs.parsing.parse.Goals as goal

pub returns-in-Err-NoToken-clause-reading : goal.returns-in-Err-NoToken-clause-reading
returns-in-Err-NoToken-clause-reading c =
    let never = rw c.in-Err-NoToken.field-0-is at c.in-Err-NoToken.ensures in
    no_tokens c.args.text.now (omega arith) never

pub returns-in_err-whole-clause-reading : goal.returns-in_err-whole-clause-reading
returns-in_err-whole-clause-reading c =
    let fault = c.in_err-whole.field-0.0 in
    let few : length c.args.text.now ≤ most_program_bytes = omega arith in
    let refused : ParsesTokens (Err fault) c.in-Ok.tokens = subst (λ ts. ParsesTokens (Err fault) ts) c.as_slice.ensures c.in_err-whole.ensures.reading in
    let failed = parse_failed c.one_division.ensures c.args.text.now c.in-Ok.tokens few c.in-Ok.ensures fault refused in
    let is : c.from_residual.result ≡ Err fault = search rules in
    subst (λ (r : Result (List Class) LangFault). Parses r c.args.text.now) (sym is) failed
