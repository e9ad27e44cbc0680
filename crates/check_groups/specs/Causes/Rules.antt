-- Causes as implications.
use Rattle.std.specs.Prelude.{ℕ, ◌+◌, List, [], ◌∷◌, ◌++◌, Option, Some, None}
use Rattle.graphs.specs.declared.implications.Implication.{Implication}
use Rattle.check_groups.specs.declared.causes.cause.RowCause.{RowCause}
use Rattle.check_groups.specs.declared.causes.cause.RowCause.TheVariants as CauseV

abbrev pub rule : ℕ → Option ℕ → Option ℕ → Implication
rule n a b = record { then = n; first = a; second = b }

-- those of the row n with this cause
abbrev pub rules_by : ℕ → RowCause → List Implication
rules_by n CauseV.Never = []
rules_by n CauseV.Always = rule n None None ∷ []
rules_by n (CauseV.One a) = rule n (Some a) None ∷ []
rules_by n (CauseV.Either a b) = rule n (Some a) None ∷ rule n (Some b) None ∷ []
rules_by n (CauseV.Both a b) = rule n (Some a) (Some b) ∷ []

-- those of the rows from n on with these causes
abbrev pub all_rules : ℕ → List RowCause → List Implication
all_rules n [] = []
all_rules n (c ∷ cs) = rules_by n c ++ all_rules (n + 1) cs
