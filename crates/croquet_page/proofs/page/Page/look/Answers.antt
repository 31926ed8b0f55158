use Rattle.croquet_page.proofs.page.Page.look.Goals as goal

pub returns-in-Ok : goal.returns-in-Ok
returns-in-Ok c = record {
  frames = c.nothing.ensures.frames;
  here = c.nothing.ensures.here;
  text = c.in-Ok.ensures.text;
  rests = c.in-Ok.ensures.rests;
  kept = c.in-Ok.ensures.kept;
  had = c.in-Ok.ensures.whole;
}

pub returns-in-Err : goal.returns-in-Err
returns-in-Err c = record { lost = c.in-Err.ensures.err; silent = c.nothing.ensures }
