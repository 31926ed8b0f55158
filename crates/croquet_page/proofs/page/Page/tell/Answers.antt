use Rattle.std.proofs.Common.{ℕ, List, inr, subst}
use Rattle.croquet_page.specs.Inputs.{input_of}
use Rattle.croquet_page.specs.Pages.{TellsPage}
use Rattle.croquet_page.proofs.page.Page.tell.Goals as goal

pub returns-in-Ok : goal.returns-in-Ok
returns-in-Ok c = subst (λ (bytes : List ℕ). TellsPage c.take.result (input_of c.args.kind bytes) c.args.self.now.view c.take.new.self) c.in-Ok.ensures c.take.ensures

pub returns-in-Err : goal.returns-in-Err
returns-in-Err c = record { lost = inr c.forget.ensures; silent = c.nothing.ensures }
