-- What is reported at rules, by the code.
use Rattle.std.specs.Prelude.{ℕ, List}
use Rattle.tree_nodes.specs.Syntax.Syntax as S
use Rattle.cddl_language.specs.Faults.{IsDuplicate, IsKindClash, Specification}
use Rattle.cddl_language.specs.Reading.{definitions_in}
use Rattle.check_text.specs.RuleFaults.Arity.{HasOtherCount, HasWrongArityAtRule}
use Rattle.check_text.specs.RuleFaults.Duplicates.{IsDuplicateAt}
use Rattle.check_text.specs.RuleFaults.Kinds.{IsClashAt}
use Rattle.check_text.specs.declared.everywhere.rules.RuleCode.{RuleCode}
use Rattle.check_text.specs.declared.everywhere.rules.RuleCode.TheVariants.{Duplicate, KindClash, Arity}

-- at one of these rules
abbrev pub IsToldAtRule : RuleCode → List S.Rule → S.Rule → ℕ → Type 0
IsToldAtRule Duplicate rs r at = IsDuplicateAt rs r at
IsToldAtRule KindClash rs r at = IsClashAt (definitions_in rs) r at
IsToldAtRule Arity rs r at = HasOtherCount (definitions_in rs) r at

-- anywhere in the text
abbrev pub IsToldAtRules : RuleCode → Specification → ℕ → Type 0
IsToldAtRules Duplicate s at = IsDuplicate s at
IsToldAtRules KindClash s at = IsKindClash s at
IsToldAtRules Arity s at = HasWrongArityAtRule s at
