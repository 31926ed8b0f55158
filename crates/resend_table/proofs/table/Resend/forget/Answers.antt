use Rattle.std.proofs.Common.{ap, ◌∙◌, eqb, Option, unwrap_or, nat_eq}
use Rattle.indexmap.specs.IndexMap.{get}
use Rattle.resend_table.specs.declared.stand.Stand.{Stand}
use Rattle.resend_table.specs.Stands.{absent_stand}
use Rattle.resend_table.proofs.Readings.{forgotten, stand_put, is_there, few_after, few_before}
use Rattle.resend_table.proofs.table.Resend.forget.Goals as goal

pub returns : goal.returns
returns c = record {
  noted = λ log entry told short is stood.
      let old = c.args.self.now in
      let there = is_there old log entry c.args.seq c.args.view c.args.kind c.requires told is in
      let put = (c.replace.ensures.updates there).0 in
      forgotten old _ log entry c.args.seq c.args.view c.args.kind c.args.stand told is stood
      (λ v. ap (λ (o : Option Stand). unwrap_or o absent_stand) (put v) ∙ stand_put (eqb c.args.view v) c.args.stand (get nat_eq old.stands v))
      (c.remove_seq.ensures.seqs (few_before log c.args.view c.args.stand stood short)) (c.here_count_before-self.ensures (few_after old log entry told short));
}
