-- By which implications a part has one that is too large.
use Rattle.std.specs.Prelude.{ℕ, ◌+◌, Bool, false, if◌then◌else◌, ◌||◌, List, [], ◌∷◌, ◌++◌, Option, Some, None, slice_index_or}
use Rattle.graphs.specs.declared.implications.Implication.{Implication}
use Rattle.alternatives.specs.declared.Part.{Part}
use Rattle.alternatives.specs.declared.Part.TheVariants.{Same, Both, Either, Occurs}

abbrev pub rule : ℕ → Option ℕ → Implication
rule n o = record { then = n; first = o; second = None }

abbrev pub is_set : List Bool → ℕ → Bool
is_set flags n = slice_index_or flags n false

-- what the part n needs, a group with an occurrence, where these are too large
abbrev pub need : List Bool → ℕ → ℕ → Option ℕ
need large n a = if is_set large n || is_set large a then None else Some a

abbrev pub rules_by : List Bool → ℕ → Part → List Implication
rules_by large n (Same a) = rule n (Some a) ∷ []
rules_by large n (Both a b) = rule n (Some a) ∷ rule n (Some b) ∷ []
rules_by large n (Either a b) = rule n (Some a) ∷ rule n (Some b) ∷ []
rules_by large n (Occurs b a) = rule n (need large n a) ∷ []
rules_by large n _ = []

-- those of the parts from n on
abbrev pub all_rules : List Bool → ℕ → List Part → List Implication
all_rules large n [] = []
all_rules large n (p ∷ ps) = rules_by large n p ++ all_rules large (n + 1) ps
