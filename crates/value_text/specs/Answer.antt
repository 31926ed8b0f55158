-- What the code answers, beside what the reader reads.
use Rattle.std.specs.Prelude.{◌≡◌, Option, Some, None, Result, Ok, Err}
use Rattle.model_value.specs.Plain.{PlainValue}
use Rattle.model_value.specs.View.{plain}
use Rattle.model_value.specs.declared.fault.ValueFault.{ValueFault}
use Rattle.model_value.specs.declared.fault.ValueFault.TheVariants.{BadValue, WantOfMemory}
use Rattle.model_value.specs.declared.value.Value.{Value}

-- the value that was read; want of memory says nothing
abbrev pub ReadsValue : Result Value ValueFault → Option PlainValue → Type 0
ReadsValue (Ok value) read = read ≡ Some (plain value)
ReadsValue (Err BadValue) read = read ≡ None
ReadsValue (Err WantOfMemory) read = Unit {0}
