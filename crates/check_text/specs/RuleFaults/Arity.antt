-- Definitions with another number of parameters than their name has.
use Rattle.std.specs.Prelude.{◌≡◌, ◌≢◌, ℕ, nat_eq, if◌then◌else◌, List, length, Contains, Option, Some, None, slice_get}
use Rattle.tree_nodes.specs.Syntax.Syntax as S
use Rattle.cddl_language.specs.Terms as L
use Rattle.cddl_language.specs.Faults.{Specification, definitions, parameter_count, rules}
use Rattle.cddl_language.specs.Reading.{name_at, name_in, parameters_in}
use Rattle.check_terms.specs.declared.definition.Definition.{Definition}
use Rattle.check_names.specs.declared.environment.environment.Name.{Name}
use Rattle.check_names.specs.Environment.Names.{Standing, standing}

-- The part of C4 that is reported at rules (`by_rule` of `HasWrongArity`).
pub record HasWrongArityAtRule (s : Specification) (at : ℕ) : Type 0 where
  pub rule : S.Rule
  pub count : ℕ
  pub present : Contains (rules s) rule
  pub counted : parameter_count (definitions s) (name_in rule) ≡ Some count
  pub differs : length (parameters_in rule) ≢ count
  pub offset : at ≡ name_at rule

-- the same at one rule, where the text has these definitions
pub record HasOtherCount (ds : List L.Definition) (r : S.Rule) (at : ℕ) : Type 0 where
  pub count : ℕ
  pub counted : parameter_count ds (name_in r) ≡ Some count
  pub differs : length (parameters_in r) ≢ count
  pub offset : at ≡ name_at r

-- What the code finds.

abbrev pub parameters_there : Option Definition → Option ℕ
parameters_there None = None
parameters_there (Some d) = Some (length d.parameters.items)

abbrev pub first_count : List Definition → Option ℕ → Option ℕ
first_count ds None = None
first_count ds (Some p) = parameters_there (slice_get ds p)

abbrev pub count_by : List Definition → (known first : Option ℕ) → Option ℕ
count_by ds (Some k) p = Some 0
count_by ds None p = first_count ds p

abbrev pub count_of : List Definition → Standing → Option ℕ
count_of ds s = count_by ds s.known s.first

abbrev pub count_there : List Definition → Option Name → Option ℕ
count_there ds None = None
count_there ds (Some n) = count_of ds (standing n)

abbrev pub told_unless : ℕ → Option ℕ → ℕ → Option ℕ
told_unless own None at = None
told_unless own (Some count) at = if nat_eq own count then None else Some at

abbrev pub arity_at : List Definition → List Name → Definition → ℕ → Option ℕ
arity_at ds names d at = told_unless (length d.parameters.items) (count_there ds (slice_get names d.name)) at
