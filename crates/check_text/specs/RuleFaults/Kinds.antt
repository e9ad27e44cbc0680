-- Definitions of another kind than their name has.
use Rattle.std.specs.Prelude.{◌≡◌, ◌≢◌, ℕ, List}
use Rattle.tree_nodes.specs.Syntax.Syntax as S
use Rattle.cddl_language.specs.Terms.{Definition}
use Rattle.cddl_language.specs.Kinds.{is_group, is_group_definition}
use Rattle.cddl_language.specs.Reading.{definition_of, name_at, name_in}

-- the fault of one rule, where the text has the definitions xs
pub record IsClashAt (xs : List Definition) (r : S.Rule) (at : ℕ) : Type 0 where
  pub clash : is_group_definition xs (definition_of r) ≢ is_group xs (name_in r)
  pub offset : at ≡ name_at r
