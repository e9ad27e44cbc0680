-- Names that each specification may use.
use Rattle.std.specs.Prelude.{ℕ, List, ◌++◌, codes, flat_map, map}
use Rattle.cddl_language.specs.Controls.{controls}
use Rattle.cddl_language.specs.Prelude.{prelude}

-- the names of the prelude, in its order
abbrev pub prelude_names : List (List ℕ)
prelude_names = map (λ d. d.name) prelude

-- the controls that are known, with their `.`
abbrev pub control_names : List (List ℕ)
control_names = map (λ n. codes "." ++ n) (flat_map (λ c. c.0) controls)
