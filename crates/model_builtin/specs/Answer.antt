-- What a function answers, beside what a builtin gives.
use Rattle.std.specs.Prelude.{◌≡◌, Result, Ok, Err}
use Rattle.model_value.specs.View.{plain}
use Rattle.model_value.specs.declared.value.Value.{Value}
use Rattle.model_builtin.specs.declared.fault.BuiltinStop.{BuiltinStop}
use Rattle.model_builtin.specs.declared.fault.BuiltinStop.TheVariants as stop
use Rattle.model_builtin.specs.Builtins.{BuiltinReply, value, bad_kind, bad_index, too_large}

-- the answer is what was given, unless memory ran out
abbrev pub Applies : Result Value BuiltinStop → BuiltinReply → Type 0
Applies (Ok v) reply = reply ≡ value (plain v)
Applies (Err stop.BadKind) reply = reply ≡ bad_kind
Applies (Err stop.BadIndex) reply = reply ≡ bad_index
Applies (Err stop.Size) reply = reply ≡ too_large
Applies (Err stop.WantOfMemory) reply = Unit {0}
