use Rattle.std.proofs.Common.{Option, refl, sym, subst, ◌∙◌}
use Rattle.live_view.specs.declared.input.LiveInput.{LiveInput}
use Rattle.croquet_page.specs.declared.told.Answer.TheVariants as answers
use Rattle.croquet_page.specs.Pages.{TellsPage}
use Rattle.croquet_page.proofs.page.Page.take.Goals as goal

pub returns-in-Some : goal.returns-in-Some
returns-in-Some c =
    subst (λ (told : Option LiveInput). TellsPage c.answer.result told c.args.self.now.view c.answer.new.self) (sym c.in-Some.is ∙ c.input_of.ensures) c.answer.ensures

pub returns-in-None : goal.returns-in-None
returns-in-None c =
    let s = c.args.self.now in
    subst (λ (told : Option LiveInput). TellsPage answers.NoKind told s.view s) (sym c.in-None.is ∙ c.input_of.ensures) (record { view = refl; silent = c.requires.silent })
