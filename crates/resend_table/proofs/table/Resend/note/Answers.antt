use Rattle.std.proofs.Common.{ap, ◌∙◌, cond, eqb, Option, unwrap_or, nat_eq}
use Rattle.indexmap.specs.IndexMap.{get}
use Rattle.resend_table.specs.declared.stand.Stand.{Stand}
use Rattle.resend_table.specs.Stands.{absent_stand}
use Rattle.resend_table.specs.Noted.{stand_at}
use Rattle.resend_table.proofs.Readings.{noted, stand_put, few_here, few_sent}
use Rattle.resend_table.proofs.table.Resend.note.Goals as goal

pub returns-clause-noted : goal.returns-clause-noted
returns-clause-noted c = λ log entry told short is.
    let old = c.args.self.now in
    let stood = c.stand-stand.ensures in
    let put = c.put.ensures.updates.0 in
    let few = few_sent old c.args.view c.stand-stand.result stood log told short in
    let next = c.after.ensures few in
    noted old _ log entry c.args.seq c.args.view c.args.kind c.stand-stand.result told is stood
    (λ v. ap (λ (o : Option Stand). unwrap_or o absent_stand) (put v) ∙ stand_put (eqb c.args.view v) c.after.result (get nat_eq old.stands v) ∙ ap (λ (s : Stand). cond (eqb c.args.view v) s (stand_at old v)) next)
    (c.put_seq.ensures.seqs few) (c.here_count_after-self.ensures (few_here old log told short))
