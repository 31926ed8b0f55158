use Rattle.std.proofs.Common.{◌≡◌, length, vec_len, Some, sym, ◌∙◌, arith, rules}
use Rattle.std.proofs.lemmas.List.Elements.{All-pop}
use Rattle.host_posts.specs.Rounds.{IsReady}
use Rattle.host_posts.proofs.RoundLaws.{ran_none, ran_push}
use Rattle.host_posts.proofs.running.+fn-run_posts-join+arg3+run_posts.Goals as goal

pub returns-in_default-clause-ended : goal.returns-in_default-clause-ended
returns-in_default-clause-ended g t c =
    let empty : vec_len c.args.posts ≡ 0 = search rules in
    let long : vec_len c.args.posts ≡ length c.args.posts.items = search rules in
    ran_none _ _ _ _ _ _ _ c.args.posts.items c.args.ended.items (sym long ∙ empty) c.requires.begins

pub join-post-requires-after_bounds : goal.join-post-requires-after_bounds
join-post-requires-after_bounds g t c κs within = (
  ((search rules, c.requires.rooms, (All-pop (IsReady c.args.service.now.rooms.now c.args.service.now.claims.now.claims) c.args.posts.items c.pop.new.self.items (Some c.in-Some.post) c.in-Some.ensures.items c.requires.ready).1), (search rules, search rules, search rules, search rules, search rules, search rules, search rules)),
  (
    search rules,
    (
      search rules,
      (
        search rules,
        (
          search rules,
          (
            search rules,
            (
              search rules,
              (
                search rules,
                (
                  search rules,
                  (
                    (
                      search rules,
                      c.requires.rooms,
                      (All-pop (IsReady c.args.service.now.rooms.now c.args.service.now.claims.now.claims) c.args.posts.items c.pop.new.self.items (Some c.in-Some.post) c.in-Some.ensures.items c.requires.ready).0,
                      let few = c.requires.few in let one = c.in-Some.ensures.len in omega (arith, few, one),
                      let room = c.requires.room in let one = c.in-Some.ensures.len in omega (arith, room, one),
                      c.requires.begins,
                    ),
                    search rules,
                  ),
                ),
              ),
            ),
          ),
        ),
      ),
    ),
  ),
)

pub push_reserved-requires : goal.push_reserved-requires
push_reserved-requires g t c =
    let ended = c.join-post.ensures.second.1.as_long in
    let same = c.join-post.ensures.second.0 in
    let before : vec_len c.pop.new.self ≡ length c.pop.new.self.items = search rules in
    let after : vec_len c.join-post.result.1 ≡ length c.join-post.result.1.items = search rules in
    let room = c.requires.room in
    let one = c.in-Some.ensures.len in
    omega (arith, ended, same, before, after, room, one)

pub returns-clause-ended : goal.returns-clause-ended
returns-clause-ended g t c =
    ran_push _ _ _ _ _ _ _ c.args.posts.items c.pop.new.self.items c.join-post.result.1.items c.push_reserved.new.self.items c.in-Some.post _ c.in-Some.ensures.items c.push_reserved.ensures.items
    c.join-post.ensures.second.1 c.join-post.ensures.first
