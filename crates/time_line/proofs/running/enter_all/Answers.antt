use Rattle.std.proofs.Common.{◌+◌, ◌-◌, take, drop, refl, arith}
use Rattle.model_solved.specs.Founding.{checked_tree}
use Rattle.time_line.specs.Keyframes.{after_entries}
use Rattle.time_line.proofs.LineLaws.{arrived, below-drop, below-legal, enters, next_below, next_later}
use Rattle.time_line.proofs.running.enter_all.Goals as goal

pub loop-place-init : goal.loop-place-init
loop-place-init g c = record {
  goes = record {
    program = refl;
    whole = c.requires.whole;
    quiet = c.requires.quiet;
    rises = c.requires.rises;
    below = below-drop c.args.from c.args.log.now.entries (below-legal c.args.log.now.entries c.requires.legal);
    led = refl;
  };
  counted = omega arith;
}

pub enter-requires-clause-later : goal.enter-requires-clause-later
enter-requires-clause-later g c = next_later _ _ _ _ _ _ _ c.in_ok-entry.ensures c.loop-place.invariant.goes

pub enter-requires-clause-bound : goal.enter-requires-clause-bound
enter-requires-clause-bound g c = next_below _ _ _ _ _ _ _ c.in_ok-entry.ensures c.loop-place.invariant.goes

pub loop-place-preserved : goal.loop-place-preserved
loop-place-preserved g c = record {
  goes = enters c.args.world.now.program c.args.log.now.entries c.args.to c.loop-place.place _ c.loop-place.world c.in_ok-entry.entry c.in_ok-entry.ensures c.loop-place.invariant.goes c.enter.new.world c.loop-place-test.true c.in_ok-enter.ensures.entered c.in_ok-enter.ensures.arrives;
  counted = omega (arith, c.enter.ensures.counts, c.loop-place.invariant.counted, c.loop-place.auto.place);
}
