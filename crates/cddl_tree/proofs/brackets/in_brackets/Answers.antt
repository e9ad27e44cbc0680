use Rattle.std.proofs.Common.{◌∙◌, refl}
use Rattle.tree_nodes.proofs.Lemmas.{view-MapOf, view-ArrayOf, view-ChoiceOf}
use Rattle.cddl_tree.proofs.Elsewhere.{map_bracketed, array_bracketed, choice_bracketed}
use Rattle.cddl_tree.proofs.brackets.in_brackets.Goals as goal

pub returns-in-Brace : goal.returns-in-Brace
returns-in-Brace c read = view-MapOf read _ _ _ ∙ map_bracketed read c.args.opening _ (read c.args.closing) _ _ c.in-Brace.is refl

pub returns-in-Bracket : goal.returns-in-Bracket
returns-in-Bracket c read = view-ArrayOf read _ _ _ ∙ array_bracketed read c.args.opening _ (read c.args.closing) _ _ c.in-Bracket.is refl

pub returns-in-Choice : goal.returns-in-Choice
returns-in-Choice c read = view-ChoiceOf read _ _ _ _ ∙ choice_bracketed read c.args.opening _ _ (read c.args.closing) _ _ c.in-Choice.is refl
