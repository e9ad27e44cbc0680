-- What is known of the rules of a text, by the numbers of a table of terms.
use Rattle.std.specs.Prelude.{◌≡◌, ℕ, List, Some, slice_get}
use Rattle.tree_nodes.specs.Syntax.Syntax as S
use Rattle.cddl_language.specs.Reading.{name_in}
use Rattle.check_terms.specs.Table.{Table}
use Rattle.source_pieces.specs.Pieces.{alternatives_of}
use Rattle.source_pieces.specs.Spans.{IsNameSpan, IsSpan, body_tokens, is_generic}
use Rattle.source_pieces.specs.declared.rules.RuleAt.{RuleAt}

-- The number of the rule's name, how many alternatives it makes as a group, whether it has parameters, and where it has its name and its body.
pub record IsRuleAt (t : Table) (r : S.Rule) (a : RuleAt) : Type 0 where
  pub number : slice_get t.texts a.number ≡ Some (name_in r)
  pub alternatives : a.alternatives ≡ alternatives_of r
  pub generic : a.is_generic ≡ is_generic r
  pub name : IsNameSpan r a.name
  pub body : IsSpan (body_tokens r) a.body

-- one for one
pub record AreRules (t : Table) (rs : List S.Rule) (xs : List RuleAt) : Type 0 where
  pub told : (i : ℕ) (a : RuleAt) → slice_get xs i ≡ Some a → (r : S.Rule) × (slice_get rs i ≡ Some r) × IsRuleAt t r a
  pub all : (i : ℕ) (r : S.Rule) → slice_get rs i ≡ Some r → (a : RuleAt) × (slice_get xs i ≡ Some a)
