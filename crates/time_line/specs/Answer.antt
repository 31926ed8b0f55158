-- What making a time line answers.
use Rattle.std.specs.Prelude.{◌≡◌, ◌≤◌, ◌<◌, Result, Ok, Err}
use Rattle.time_line.specs.declared.fault.LineFault.{LineFault}
use Rattle.time_line.specs.declared.fault.LineFault.TheVariants.{TooMany, WantOfMemory}
use Rattle.time_line.specs.Keyframes.{LineView, frames_of, most_frames}

-- the time line that is meant, if it keeps not too many worlds; how many are too many is known before memory is taken
abbrev pub Makes : Result LineView LineFault → LineView → Type 0
Makes (Ok line) meant = (line ≡ meant) × (frames_of meant ≤ most_frames)
Makes (Err (TooMany frames)) meant = (frames ≡ frames_of meant) × (most_frames < frames)
Makes (Err WantOfMemory) meant = frames_of meant ≤ most_frames
