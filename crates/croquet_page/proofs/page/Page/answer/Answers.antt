use Rattle.std.proofs.Common.{inl}
use Rattle.croquet_page.proofs.page.Page.answer.Goals as goal

pub returns-in-Ok : goal.returns-in-Ok
returns-in-Ok c = record { does = c.in-Ok.ensures.ok; had = c.in-Ok.ensures.wants }

pub returns-in-Err : goal.returns-in-Err
returns-in-Err c = record { lost = inl c.in-Err.ensures.err; silent = c.requires.silent }
