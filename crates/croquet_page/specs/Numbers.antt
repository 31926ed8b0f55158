-- What a call tells, in numbers.
use Rattle.std.specs.Prelude.{ℕ, Bool, true, false}
use Rattle.view_shell.specs.declared.ending.ViewEnd.{ViewEnd}
use Rattle.view_shell.specs.declared.ending.ViewEnd.TheVariants as ending
use Rattle.live_view.specs.declared.outcome.LiveWant.{LiveWant}
use Rattle.live_view.specs.declared.outcome.LiveWant.TheVariants as wants
use Rattle.croquet_page.specs.declared.told.Answer.{Answer}
use Rattle.croquet_page.specs.declared.told.Answer.TheVariants as answers
use Rattle.croquet_page.specs.declared.told.Told.{Told}

abbrev pub bit : Bool → ℕ
bit true = 1
bit false = 0

abbrev pub answer_number : Answer → ℕ
answer_number answers.Done = 0
answer_number answers.NoKind = 12
answer_number answers.WantOfMemory = 8

abbrev pub want_number : LiveWant → ℕ
want_number wants.Input = 0
want_number wants.Link = 1
want_number (wants.Over end) = 2

-- the status with which `croquet join` exits where its view ends so
abbrev pub status_of : ViewEnd → ℕ
status_of ending.Done = 0
status_of ending.WriteFault = 5
status_of ending.NetFault = 6
status_of (ending.Refused code kept) = 7
status_of ending.WantOfMemory = 8
status_of ending.Ended = 9
status_of ending.Peer = 10

abbrev pub end_of : LiveWant → ℕ
end_of wants.Input = 0
end_of wants.Link = 0
end_of (wants.Over end) = status_of end

abbrev pub code_of : ViewEnd → ℕ
code_of (ending.Refused code kept) = code
code_of end = 0

abbrev pub value_of : ViewEnd → ℕ
value_of (ending.Refused code kept) = kept
value_of end = 0

-- the code of the refusal by which a page has ended, and the value that came with it
abbrev pub refusal_code : LiveWant → ℕ
refusal_code (wants.Over end) = code_of end
refusal_code other = 0

abbrev pub refusal_value : LiveWant → ℕ
refusal_value (wants.Over end) = value_of end
refusal_value other = 0

-- what a call of an empty seat tells
abbrev pub closed_told : Told
closed_told =
    record {
      time = 0;
      text = 0;
      frames = 0;
      unacknowledged = 0;
      kept = 0;
      seen = 0;
      status = 9;
      want = 2;
      end = 0;
      code = 0;
      here = 0;
    }
