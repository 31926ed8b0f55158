use Rattle.message_queue.proofs.heap.make_heap.Given as goal

abbrev pub ghosts-sink_all : goal.ghosts-sink_all
ghosts-sink_all a = record { name = a.blank.name; parts = a.blank.parts }
