use Rattle.connection.proofs.Counting.{talk_counted}
use Rattle.connection.proofs.Endings.{talk_ends, unkept_shut}
use Rattle.connection.proofs.WholeTalks.{talks_whole, unkept_whole}
use Rattle.connection.proofs.serving.serve_connection.Goals as goal

pub returns-clause-later : goal.returns-clause-later
returns-clause-later g c = let sees = c.serve.ensures.talk.sees in (sees.rest, sees.grew)

pub returns-clause-talk : goal.returns-clause-talk
returns-clause-talk g c = talks_whole _ _ _ c.args.pass.now c.serve.new.pass _ _ c.serve.result c.requires.fresh c.serve.ensures.kept c.serve.ensures.talk

pub returns-clause-exactly : goal.returns-clause-exactly
returns-clause-exactly g c =
    let told = talks_whole _ _ _ c.args.pass.now c.serve.new.pass _ _ c.serve.result c.requires.fresh c.serve.ensures.kept c.serve.ensures.talk in
    talk_ends _ _ c.serve.new.pass.opening c.serve.new.pass.seen _ told.heard told.sent c.serve.result told.talk

pub returns-clause-cause : goal.returns-clause-cause
returns-clause-cause g c = talk_counted _ _ c.serve.result _ _ c.serve.ensures.talk

pub returns-clause-unkept : goal.returns-clause-unkept
returns-clause-unkept g c =
    let told = talks_whole _ _ _ c.args.pass.now c.serve.new.pass _ _ c.serve.result c.requires.fresh c.serve.ensures.kept c.serve.ensures.talk in
    unkept_shut _ c.serve.result _ (talk_ends _ _ c.serve.new.pass.opening c.serve.new.pass.seen _ told.heard told.sent c.serve.result told.talk)
    (unkept_whole _ _ _ c.args.pass.now c.serve.new.pass _ _ c.serve.result c.requires.fresh c.serve.ensures.talk)
