use Rattle.std.proofs.Common.{ℕ, ◌≡◌, ◌+◌, ◌<◌, List, ◌++◌, length, get_or, drop, string_bytes, sym, ap, ◌∙◌, append_assoc}
use Rattle.std.proofs.lemmas.List.{drop_more}
use Rattle.host_server.specs.declared.hosting.HostEnd.{HostEnd}
use Rattle.command_host.specs.HostedSteps.{connection_line, connection_lines}
use Rattle.command_host.proofs.text.connection_lines.Goals as goal

-- one line more
lines_on : (ends : List HostEnd) (k : ℕ) (d : HostEnd) (before line after : List ℕ) → k < length ends → line ≡ connection_line k (get_or ends k d) → after ≡ before ++ line
    → before ++ connection_lines k (drop k ends) ≡ connection_lines 0 ends → after ++ connection_lines (k + 1) (drop (k + 1) ends) ≡ connection_lines 0 ends
lines_on ends k d before line after within is grew invariant =
    ap (λ text. text ++ connection_lines (k + 1) (drop (k + 1) ends)) (grew ∙ ap (λ l. before ++ l) is)
    ∙ append_assoc before (connection_line k (get_or ends k d)) (connection_lines (k + 1) (drop (k + 1) ends))
    ∙ sym (ap (λ left. before ++ connection_lines k left) (drop_more ends k d within)) ∙ invariant

pub loop-number-preserved : goal.loop-number-preserved
loop-number-preserved c =
    lines_on c.args.ends.now c.loop-number.number _ _ _ _ c.loop-number-test.true c.in_ok-connection_line.ensures (c.in_ok-push_str.ensures.bytes ∙ ap (λ l. string_bytes c.loop-number.text ++ l) c.as_str.ensures.value) c.loop-number.invariant
