-- Kinds of bytes.
use Rattle.std.specs.Prelude.{ℕ, Bool, ◌==◌, ◌&&◌, ◌||◌, nat_le, nat_lt, not}

-- a space, a tab, a CR or an LF
abbrev pub is_blank : ℕ → Bool
is_blank byte = byte == 32 || byte == 9 || byte == 13 || byte == 10

abbrev pub is_digit : ℕ → Bool
is_digit byte = nat_le 48 byte && nat_le byte 57

-- a lower-case letter or `_`
abbrev pub begins_name : ℕ → Bool
begins_name byte = (nat_le 97 byte && nat_le byte 122) || byte == 95

-- an upper-case letter
abbrev pub begins_class_name : ℕ → Bool
begins_class_name byte = nat_le 65 byte && nat_le byte 90

-- a letter, a digit or `_`
abbrev pub goes_on_name : ℕ → Bool
goes_on_name byte = begins_name byte || begins_class_name byte || is_digit byte

-- what is not an LF
abbrev pub goes_on_line : ℕ → Bool
goes_on_line byte = not (byte == 10)

-- below a space, or 127
abbrev pub is_control : ℕ → Bool
is_control code = nat_lt code 32 || code == 127
