use Rattle.std.proofs.Common.{map}
use Rattle.view_script.proofs.WordLaws.{words_more}
use Rattle.view_script.proofs.words.split_words.Goals as goal

pub loop-rest-preserved : goal.loop-rest-preserved
loop-rest-preserved c =
    words_more (map (λ word. word.now) c.loop-rest.words.items) (map (λ word. word.now) c.push_part.new.words.items) c.args.line.now c.loop-rest.rest.now
    c.split_at.result.0.now c.split_at.result.1.now c.behind_first-rest.result.now c.part_length.result
    c.part_length.ensures.length c.split_at.ensures.front c.split_at.ensures.back c.in_ok-push_part.ensures c.behind_first-rest.ensures c.loop-rest.invariant
