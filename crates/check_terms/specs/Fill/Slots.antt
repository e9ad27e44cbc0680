-- The places of parameters.
use Rattle.std.specs.Prelude.{◌≡◌, ℕ, List, nat_eq}
use Rattle.std.specs.HashMap.{get}
use Rattle.check_terms.specs.declared.fill.slots.Slots.{Slots}
use Rattle.check_terms.specs.Fill.Making.{place_in}

-- for each number its place in this list of parameters
abbrev pub ArePlacesOf : Slots → List ℕ → Type 0
ArePlacesOf s ks = (n : ℕ) → get nat_eq s.places n ≡ place_in ks n
