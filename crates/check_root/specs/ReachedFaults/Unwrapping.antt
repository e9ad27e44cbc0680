-- What `~` unwraps.
use Rattle.std.specs.Prelude.{◌≡◌, ℕ, Bool, true, List, Some, None}
use Rattle.cddl_token.specs.declared.Token.{Token}
use Rattle.tree_nodes.specs.Syntax.Syntax as S
use Rattle.cddl_language.specs.Faults.{Specification, opened_there, rules}
use Rattle.cddl_language.specs.Kinds.{opens_group}
use Rattle.cddl_language.specs.Sites.{IsReached, an_unwrapping}
use Rattle.cddl_language.specs.Terms.{Group, Term, Text}

-- C11, of `~`: what opens nothing, or a group where a type is demanded.
pub data OpensWrongly (s : Specification) (root : Text) (at : ℕ) : Type 0 where
  opens_nothing : {r : S.Rule} {xs : List Term} {b : Bool} {t : Token} {f : S.Ref} → IsReached (rules s) root r xs (an_unwrapping b t f) → opened_there s r xs f ≡ None → at ≡ t.start → OpensWrongly s root at
  opens_group_as_type : {r : S.Rule} {xs : List Term} {t : Token} {f : S.Ref} {g : Group} → IsReached (rules s) root r xs (an_unwrapping true t f) → opened_there s r xs f ≡ Some (opens_group g) → at ≡ t.start → OpensWrongly s root at
