use Rattle.std.proofs.Common.{◌+◌, ◌*◌, vec_len}
use Rattle.host_posts.proofs.running.+fn-run_posts-join+arg3+run_posts.Given as goal

abbrev pub decreases-join+arg3 : goal.decreases-join+arg3
decreases-join+arg3 g l = 2 * vec_len l.posts + 2

abbrev pub decreases-run_posts : goal.decreases-run_posts
decreases-run_posts g l = 2 * vec_len l.posts + 1
