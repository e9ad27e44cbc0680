-- What is said of an item.
use Rattle.std.specs.Prelude.{ℕ, List, [], None}
use Rattle.cbor_data.specs.Value.{Value}
use Rattle.cbor_item.specs.Unsound.{IsFirstUnsoundness}
use Rattle.cddl_check.specs.Text.{IsUnreadText}
use Rattle.cddl_match.specs.declared.answers.Verdict.{Verdict}
use Rattle.cddl_match.specs.declared.answers.Verdict.TheVariants.{Yes, No, Spent}
use Rattle.cddl.specs.Rules.{Accepts, HasRoot, Misses, Overruns, Rule}
use Rattle.cddl_examples.specs.declared.judging.Unjudged.{Unjudged}
use Rattle.cddl_examples.specs.declared.judging.Unjudged.TheVariants.{Item, Memory, Text}

-- The rule accepts the item; or it does not match, which shows at this place; or so many steps do not tell.
abbrev pub IsVerdict : Rule → ℕ → Value → Verdict → Type 0
IsVerdict rule steps x Yes = Accepts rule steps x []
IsVerdict rule steps x (No place) = Misses rule steps x [] place
IsVerdict rule steps x Spent = Overruns rule steps x []

-- by the root rule of the text
abbrev pub IsJudged : List ℕ → ℕ → Value → Verdict → Type 0
IsJudged text steps x verdict = (rule : Rule) × HasRoot text None rule × IsVerdict rule steps x verdict

abbrev pub IsUnjudged : List ℕ → Value → Unjudged → Type 0
IsUnjudged text x (Text why) = IsUnreadText text None why
IsUnjudged text x (Item why) = IsFirstUnsoundness x why
IsUnjudged text x Memory = Unit {0}
