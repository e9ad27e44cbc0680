-- What is shown of an item.
use Rattle.std.specs.Prelude.{ℕ, List, take}
use Rattle.cbor_data.specs.Notation.{notation}
use Rattle.cbor_data.specs.Value.{Value}
use Rattle.text_shown.specs.Places.{shown_part}

-- so many bytes have more characters than are shown
abbrev pub most_bytes : ℕ
most_bytes = 256

-- the first characters of its notation
abbrev pub value_words : Value → List ℕ
value_words x = shown_part (take most_bytes (notation x))
