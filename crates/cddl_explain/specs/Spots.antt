-- The tokens before a place, and those from there on.
use Rattle.std.specs.Prelude.{ℕ, suc, ◌-◌, nat_lt, List, [], ◌∷◌, Option, drop, length, slice_get, take, if◌then◌else◌}
use Rattle.cddl_token.specs.declared.Token.{Token}

-- how many tokens begin before the offset, up to the first that does not
abbrev pub passed : ℕ → List Token → ℕ
passed at [] = 0
passed at (t ∷ ts) = if nat_lt t.start at then suc (passed at ts) else 0

-- the tokens that begin before the offset, and those after them
abbrev pub before : ℕ → List Token → List Token
before at ts = take (passed at ts) ts

abbrev pub after : ℕ → List Token → List Token
after at ts = drop (passed at ts) ts

abbrev pub last_of : List Token → Option Token
last_of ts = slice_get ts (length ts - 1)
