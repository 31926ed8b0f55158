use Rattle.host_server.specs.Peeking.{but_last}
use Rattle.host_server.proofs.serving.serve_link.Given as goal

abbrev pub ghosts-serve_first : goal.ghosts-serve_first
ghosts-serve_first g a = record { before = but_last (g.L.Link.heard a.link); first = a.first }
