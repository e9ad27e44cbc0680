-- Which words stand at the sites that a root reaches.
use Rattle.std.specs.Prelude.{◌≡◌, ℕ, List, Contains, Some, slice_get}
use Rattle.tree_nodes.specs.Syntax.Syntax as S
use Rattle.cddl_language.specs.Sites.{IsReached, Site}
use Rattle.cddl_language.specs.Terms.{Term, Text}
use Rattle.check_reading.specs.Words.{HasWord, IsWordOf, Said, said_at}
use Rattle.check_reading.specs.declared.words.word.Word.{Word}
use Rattle.check_terms.specs.Table.{Table}

-- The word stands at a site that is reached, in an instance of its rule with these arguments.
pub record IsReachedWord (rs : List S.Rule) (root : Text) (t : Table) (w : Word) : Type 0 where
  pub rule : S.Rule
  pub arguments : List Term
  pub site : Site
  pub place : slice_get rs w.rule ≡ Some rule
  pub reached : IsReached rs root rule arguments site
  pub stands : IsWordOf t w (w.rule, site)

-- Each stands at a site that is reached, and the word of each such site is there.
pub record AreReachedWords (rs : List S.Rule) (root : Text) (t : Table) (ws : List Word) : Type 0 where
  pub sound : (w : Word) → Contains ws w → IsReachedWord rs root t w
  pub complete : (k : ℕ) (r : S.Rule) (xs : List Term) (p : Site) (x : Said) → slice_get rs k ≡ Some r → IsReached rs root r xs p → said_at p ≡ Some x → HasWord t ws k x
