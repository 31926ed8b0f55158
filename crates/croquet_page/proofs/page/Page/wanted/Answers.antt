use Rattle.std.proofs.Common.{[]}
use Rattle.croquet_page.proofs.page.Page.wanted.Goals as goal

pub returns : goal.returns
returns c = c.wanted.ensures []
