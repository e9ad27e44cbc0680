-- The faults of a text.
use Rattle.std.specs.Prelude.{◌≡◌, ℕ, List, [], Option}
use Rattle.cddl_token.specs.declared.Code.{Code}
use Rattle.cddl_token.specs.declared.Token.{Token}
use Rattle.cddl_token.specs.Answers.{IsRefused as IsRefusedText}
use Rattle.tree_nodes.specs.Syntax.Syntax.{Cddl}
use Rattle.tree_nodes.specs.Syntax.Answers.{IsTreeOf, IsRefused as IsRefusedTokens}
use Rattle.cddl_language.specs.Terms.{Text}
use Rattle.cddl_check.specs.Text.{AreTokensOf}
use Rattle.check_faults.specs.Listed.{AreOfSpecification}
use Rattle.check_faults.specs.declared.listing.Listed.{Listed}

-- The faults of the specification that the text is, code by code; and none of a text that has no tokens, or whose tokens have no
-- tree.
pub data AreTextFaults (text : List ℕ) (root : Option Text) (most : ℕ) (ls : List Listed) : Type 0 where
  of_tree : {ts : List Token} {x : Cddl} → AreTokensOf ts text → IsTreeOf x ts → AreOfSpecification x root most ls → AreTextFaults text root most ls
  no_tokens : (code : Code) (at : ℕ) → IsRefusedText text code at → ls ≡ [] → AreTextFaults text root most ls
  no_tree : {ts : List Token} → AreTokensOf ts text → (code : Code) (at : ℕ) → IsRefusedTokens ts code at → ls ≡ [] → AreTextFaults text root most ls
