use Rattle.reflect_posts.proofs.reflecting.close_round.Goals as goal

pub close_room-session-requires : goal.close_room-session-requires
close_room-session-requires g c = c.requires.lead c.close-ids.result.items c.close-ids.ensures

pub returns-clause-ids : goal.returns-clause-ids
returns-clause-ids g c = (c.close-ids.result.items, c.close-ids.ensures)

pub returns-clause-session : goal.returns-clause-session
returns-clause-session g c = c.close_room-session.ensures.session

pub returns-clause-keeper : goal.returns-clause-keeper
returns-clause-keeper g c = c.close_room-session.ensures.keeper
