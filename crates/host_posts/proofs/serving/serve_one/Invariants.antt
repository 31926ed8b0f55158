use Rattle.host_server.specs.Peeking.{but_last}
use Rattle.host_posts.proofs.serving.serve_one.Given as goal

abbrev pub ghosts-serve_by : goal.ghosts-serve_by
ghosts-serve_by g a = record { before = but_last (g.L.Link.heard a.link); first = a.first }
