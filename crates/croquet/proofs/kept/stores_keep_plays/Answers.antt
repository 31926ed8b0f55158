use Rattle.session_lock.specs.History.{play_from}
use Rattle.journal_store.proofs.SafeLaws.{safely_kept}
use Rattle.croquet.proofs.kept.stores_keep_plays.Goals as goal

pub returns : goal.returns
returns g c = λ session first keeper history keeps.
    safely_kept c.safe_bytes_are_read.ensures g.J.Store.bytes g.J.Store.safe keeper (play_from session history) keeps.plays.held keeps.plays.is_held keeps.plays.covers
