use Rattle.system_plain.proofs.Clients.{replaced_client, replaced_other}
use Rattle.system_plain.proofs.laws.clients_are_found.Goals as goal

pub returns : goal.returns
returns g c = record { replaced = replaced_client; others = replaced_other }
