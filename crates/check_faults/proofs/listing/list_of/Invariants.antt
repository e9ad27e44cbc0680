use Rattle.std.proofs.Common.{◌≡◌, map, option_map, take}
use Rattle.cddl_language.specs.Faults.{IsFaultAt, Specification}
use Rattle.cddl_language.specs.Literals.{Values}
use Rattle.check_reading.specs.Survey.Survey.{IsSurvey}
use Rattle.check_text.specs.Everywhere.Codes.{code_of}
use Rattle.check_text.specs.declared.everywhere.codes.TheConstants.{TEXT_CODES}
use Rattle.tree_nodes.specs.View.{view}
use Rattle.tree_nodes.specs.declared.tree.Tree.{Tree}
use Rattle.check_faults.specs.Listed.{AreListed}
use Rattle.check_faults.proofs.listing.list_of.Given as goal

abbrev pub invariant-code : goal.invariant-code
invariant-code l = (s : Specification) (worth : Values) (tree : Tree) → s.tree ≡ view tree → s.given ≡ option_map (λ t. t.now) l.given → IsSurvey l.terms tree l.survey → AreListed (IsFaultAt s worth) l.most (map code_of (take l.k TEXT_CODES)) l.all.items
