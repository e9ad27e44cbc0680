-- What `&` chooses from.
use Rattle.std.specs.Prelude.{◌≡◌, ℕ, Bool, true, false, List, Option, Some, None, slice_get}
use Rattle.cddl_token.specs.declared.Token.{Token}
use Rattle.tree_nodes.specs.Syntax.Syntax as S
use Rattle.cddl_language.specs.Choices.{chosen, chosen_by_name}
use Rattle.cddl_language.specs.Faults.{Specification, definitions, rules}
use Rattle.cddl_language.specs.Reading.{group_of, parameters_in, ref_of}
use Rattle.cddl_language.specs.Sites.{IsReached, a_choice_of, a_choice_of_name}
use Rattle.cddl_language.specs.Substitution.{fill_group, fill_ref}
use Rattle.cddl_language.specs.Terms.{Term, Text}
use Rattle.check_instances.specs.declared.closed.closed.Closed.{Closed}
use Rattle.check_instances.specs.declared.closed.closed.Meaning.{Meaning}
use Rattle.check_reached.specs.declared.asked.Asked.{Asked}
use Rattle.check_reading.specs.declared.parts.part.Question.{Question}
use Rattle.check_reading.specs.declared.parts.part.Question.TheVariants as QuestionV

-- C11, of `&`: what it cannot choose from.
pub data ChoosesFromNone (s : Specification) (root : Text) (at : ℕ) : Type 0 where
  from_none : {r : S.Rule} {xs : List Term} {t : Token} {g : S.Group} → IsReached (rules s) root r xs (a_choice_of t g) → chosen (definitions s) (fill_group (parameters_in r) xs (group_of g)) ≡ None → at ≡ t.start → ChoosesFromNone s root at
  from_no_name : {r : S.Rule} {xs : List Term} {t : Token} {f : S.Ref} → IsReached (rules s) root r xs (a_choice_of_name t f) → chosen_by_name (definitions s) (fill_ref (parameters_in r) xs (ref_of f)) ≡ None → at ≡ t.start → ChoosesFromNone s root at

abbrev pub flag_in : Option Bool → Bool
flag_in None = false
flag_in (Some b) = b

-- the meaning of the instance whose reference has this row

abbrev pub place_in : Option (Option ℕ) → Option ℕ
place_in None = None
place_in (Some o) = o

abbrev pub place_there : Closed → ℕ → Option ℕ
place_there c row = place_in (slice_get c.places.items row)

abbrev pub meaning_in : List Meaning → Option ℕ → Option Meaning
meaning_in ms None = None
meaning_in ms (Some k) = slice_get ms k

abbrev pub meaning_there : Closed → ℕ → Option Meaning
meaning_there c row = meaning_in c.meanings.items (place_there c row)

-- whether `&` can choose from it

abbrev pub from_group : List Bool → Option ℕ → Bool
from_group flags None = true
from_group flags (Some n) = flag_in (slice_get flags n)

abbrev pub from_meaning : List Bool → Option Meaning → Bool
from_meaning flags None = false
from_meaning flags (Some m) = from_group flags m.group

abbrev pub is_choosable_by_name : Closed → List Bool → ℕ → Bool
is_choosable_by_name c flags row = from_meaning flags (meaning_there c row)

abbrev pub chooses : Closed → List Bool → Question → ℕ → Bool
chooses c flags QuestionV.ChoosesFrom row = flag_in (slice_get flags row)
chooses c flags QuestionV.ChoosesByName row = is_choosable_by_name c flags row
chooses c flags _ row = true

abbrev pub unless : Bool → ℕ → Option ℕ
unless true at = None
unless false at = Some at

abbrev pub unchosen_at : Closed → List Bool → Asked → Option ℕ
unchosen_at c flags a = unless (chooses c flags a.question a.row) a.at
