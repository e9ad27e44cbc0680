-- The text of a type in one line.
use Rattle.std.specs.Prelude.{ℕ, Bool, ◌&&◌, nat_le, nat_lt, List, [], ◌∷◌, ◌++◌, codes, if◌then◌else◌}
use Rattle.cddl_token.specs.declared.Token.{Token}

abbrev pub is_within : ℕ → ℕ → ℕ → Bool
is_within offset from to = nat_le from offset && nat_lt offset to

-- a space for what is between two tokens, if anything is
abbrev pub gap : ℕ → ℕ → List ℕ
gap end start = if nat_lt end start then codes " " else []

-- the tokens that begin in a part of the text, where the one before them ends at `before`
abbrev pub type_words : ℕ → ℕ → ℕ → List Token → List ℕ
type_words before from to [] = []
type_words before from to (t ∷ ts) =
    if is_within t.start from to then gap before t.start ++ (t.text.now ++ type_words t.end from to ts)
    else type_words before from to ts
