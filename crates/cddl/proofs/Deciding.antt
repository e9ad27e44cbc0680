-- By the root rule of an accepted text each item has one result, and a stream one end.
use Rattle.std.proofs.Common.{◌≡◌, ℕ, ◌<◌, ◌^◌, List, Some, sym, subst}
use Rattle.cbor_data.specs.Value.{Value}
use Rattle.cddl_check.specs.Outcome.{specification}
use Rattle.cddl_language.specs.Faults.{IsAccepted, Specification, definitions, root_of}
use Rattle.cddl_language.specs.Language.{language, reference, type_node}
use Rattle.cddl_language.specs.Literals.{Values}
use Rattle.cddl_language.specs.Terms.{Definition, Text, call, no_terms}
use Rattle.cddl_meaning.specs.Ranks.Decided.{IsDecided}
use Rattle.cddl_meaning.specs.Size.{size}
use Rattle.std.specs.Prelude.{Option}
use Rattle.cddl.specs.Rules.{HasRoot, Rule}

-- the law that an accepted specification is decided
abbrev pub AreDecided : Type 0
AreDecided = (s : Specification) (worth : Values) (root : Text) → IsAccepted s worth → root_of s ≡ Some root → (x : Value) → size x < 2 ^ 64 → IsDecided (language worth (definitions s)) (type_node worth (definitions s) (reference (call root no_terms))) 0 x

pub rule_decided : AreDecided → (text : List ℕ) (named : Option Text) (rule : Rule) → HasRoot text named rule → (x : Value) → size x < 2 ^ 64 → IsDecided (language rule.values rule.definitions) (type_node rule.values rule.definitions (reference (call rule.name no_terms))) 0 x
rule_decided law text named rule h x few = subst (λ (ds : List Definition). IsDecided (language rule.values ds) (type_node rule.values ds (reference (call rule.name no_terms))) 0 x) (sym h.definitions_are) (law (specification h.tree named) rule.values rule.name h.accepted h.name_is x few)
