-- The address of a net: a host and a port. Texts are seen as their UTF-8.
use Rattle.std.specs.Prelude.{ℕ, Bool, false, ◌==◌, ◌&&◌, ◌||◌, List, [], ◌∷◌, codes}
use Rattle.std.specs.Option.{is_some}
use Rattle.std.specs.List.{slice_split}
use Rattle.std.specs.Str.{bytes_eq}
use Rattle.text_lines.specs.Lines.{LineWord, number_of_word}

-- a number from 0 to 255
abbrev pub is_octet : LineWord → Bool
is_octet word = is_some (number_of_word 0 255 word)

-- four of them
abbrev pub are_octets : List LineWord → Bool
are_octets (a ∷ b ∷ c ∷ d ∷ []) = is_octet a && (is_octet b && (is_octet c && is_octet d))
are_octets words = false

-- `localhost`, or four numbers divided by `.`
abbrev pub is_host : LineWord → Bool
is_host word = bytes_eq word (codes "localhost") || are_octets (slice_split (λ byte. byte == 46) word)

abbrev pub is_port : LineWord → Bool
is_port word = is_some (number_of_word 1 65535 word)

abbrev pub are_ends : List LineWord → Bool
are_ends (host ∷ port ∷ []) = is_host host && is_port port
are_ends words = false

-- a host and a port, divided by `:`
abbrev pub is_address : List ℕ → Bool
is_address text = are_ends (slice_split (λ byte. byte == 58) text)
