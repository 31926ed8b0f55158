use Rattle.std.proofs.Common.{ℕ, ◌+◌, ◌≡◌, ◌&&◌, cond, eqb, None, ap, sym, ◌∙◌, arith}
use Rattle.resend_table.specs.declared.stand.Kind.{Kind}
use Rattle.resend_table.specs.Stands.{is_event_kind, seq_in}
use Rattle.resend_table.proofs.table.remove_seq.Goals as goal

pub returns-in-Event-clause-seqs : goal.returns-in-Event-clause-seqs
returns-in-Event-clause-seqs c = λ few v number.
    let next : c.saturating_add.result ≡ c.args.last + 1 = omega (arith, c.saturating_add.ensures, few) in
    c.swap_remove.ensures.updates.0 (v, number)
    ∙ ap (λ (n : ℕ). cond (eqb c.args.view v && eqb n number) None (seq_in c.args.seqs.now v number)) next
    ∙ ap (λ (k : Kind). cond (is_event_kind k && (eqb c.args.view v && eqb (c.args.last + 1) number)) None (seq_in c.args.seqs.now v number)) (sym c.in-Event.is)
