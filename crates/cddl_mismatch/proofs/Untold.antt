-- Nothing is told of a text that is refused, and an error that is handed on.
use Rattle.std.proofs.Common.{◌≡◌, ◌∙◌, ℕ, List, Option, Result, Err, IfErr, ap, sym, subst}
use Rattle.std.specs.Result.{IsErrAnd}
use Rattle.std.proofs.lemmas.Result.{err_from_is_err_and}
use Rattle.cbor_data.specs.Value.{Value}
use Rattle.cddl_token.specs.Answers.{Refuses as RefusesText}
use Rattle.cddl_token.specs.declared.Token.{Token}
use Rattle.cddl_token.specs.declared.Refusal.{Refusal}
use Rattle.cddl_token.specs.declared.Refusal.TheVariants as RefusalV
use Rattle.tree_nodes.specs.Syntax.Syntax.{Cddl}
use Rattle.cddl_tree.specs.States.{Refuses}
use Rattle.cddl_language.specs.Terms.{Text}
use Rattle.cddl_check.specs.Outcome.{IsFaulty}
use Rattle.cddl_check.specs.Text.{AreTokensOf, IsTreeOfText, IsUnreadText, has_fault, no_tokens, no_tree}
use Rattle.cddl_mismatch.specs.Explained.{IsExplainedMismatch, IsUntold, refused}

pub handed : {T E : Type 0} (P : E → Type 0) (r : Result T E) (e : E) → IsErrAnd r (λ y. y ≡ e) → P e → IfErr r P
handed P r e h p = let y = err_from_is_err_and r h in subst (λ q. IfErr q P) (sym (y.1 ∙ ap Err y.2)) p

pub told_of_tree : (x : Cddl) (n : Option Text) (text : List ℕ) (e : Refusal) → IsTreeOfText x text → IsFaulty x n e → IsUnreadText text n e
told_of_tree x n text RefusalV.Memory of h = tt
told_of_tree x n text (RefusalV.At code at) of h = has_fault of h

pub told_of_tokens : (ts : List Token) (n : Option Text) (text : List ℕ) (r : Refusal) → AreTokensOf ts text → Refuses ts r → IsUnreadText text n r
told_of_tokens ts n text RefusalV.Memory are h = tt
told_of_tokens ts n text (RefusalV.At code at) are h = no_tree are h

pub told_of_text : (text : List ℕ) (n : Option Text) (r : Refusal) → RefusesText text r → IsUnreadText text n r
told_of_text text n RefusalV.Memory h = tt
told_of_text text n (RefusalV.At code at) h = no_tokens h

pub untold : (text : List ℕ) (root : Option Text) (file : List ℕ) (x : Value) (steps : ℕ) (told : List ℕ) (e : Refusal) → IsUnreadText text root e → IsUntold e told → IsExplainedMismatch text root file x steps told
untold text root file x steps told (RefusalV.At code at) h e = refused (record { code = code; at = at }) h e
untold text root file x steps told RefusalV.Memory h e = absurd e
