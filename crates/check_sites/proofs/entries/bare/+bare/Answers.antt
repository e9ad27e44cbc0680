use Rattle.std.proofs.Common.{sym, ap, ◌∙◌}
use Rattle.tree_nodes.specs.declared.tree.GrpEnt.TheViews.{out-Types}
use Rattle.tree_nodes.specs.View.{view_type2, view_types}
use Rattle.tree_nodes.proofs.Lemmas.{view-ArrayOf, view-ChoiceOf, view-ChoiceOfName, view-Hash, view-Literal, view-MapOf, view-One, view-Operation, view-Parens, view-SimpleBy, view-Tagged, view-TaggedBy, view-Typename, view-Unwrapped}
use Rattle.check_sites.specs.Entries.Entries.{bare_operand, bare_types}
use Rattle.check_sites.proofs.OfEntries.Opening.{empty, full, one_bare, seen1, seen2, several_bare}
use Rattle.check_sites.proofs.entries.bare.+bare.Goals as goal

pub bare_group-returns-then-is_empty : goal.bare_group-returns-then-is_empty
bare_group-returns-then-is_empty t c = λ read. c.bare_type1.ensures read ∙ sym (one_bare read c.args.types.now (empty (out-Types c.args.types.now).others _ c.is_empty.ensures c.if-is_empty.true))

pub bare_group-returns-else-is_empty : goal.bare_group-returns-else-is_empty
bare_group-returns-else-is_empty t c = λ read. sym (several_bare read c.args.types.now (full (out-Types c.args.types.now).others _ c.is_empty.ensures c.if-is_empty.false))

pub bare_type1-returns-in-One : goal.bare_type1-returns-in-One
bare_type1-returns-in-One t c = λ read. c.bare_operand.ensures read ∙ ap (λ z. bare_operand (view_type2 read z)) c.deref.ensures ∙ sym (seen1 read _ _ _ c.in-One.is (view-One read _))

pub bare_type1-returns-in-Operation : goal.bare_type1-returns-in-Operation
bare_type1-returns-in-Operation t c = λ read. sym (seen1 read _ _ _ c.in-Operation.is (view-Operation read _ _ _))

pub bare_operand-returns-in-Parens : goal.bare_operand-returns-in-Parens
bare_operand-returns-in-Parens t c = λ read. c.bare_group.ensures read ∙ ap (λ z. bare_types (view_types read z)) c.deref.ensures ∙ sym (seen2 read _ _ _ c.in-Parens.is (view-Parens read _ _ _))

pub bare_operand-returns-in-MapOf : goal.bare_operand-returns-in-MapOf
bare_operand-returns-in-MapOf t c = λ read. sym (seen2 read _ _ _ c.in-MapOf.is (view-MapOf read _ _ _))

pub bare_operand-returns-in-ArrayOf : goal.bare_operand-returns-in-ArrayOf
bare_operand-returns-in-ArrayOf t c = λ read. sym (seen2 read _ _ _ c.in-ArrayOf.is (view-ArrayOf read _ _ _))

pub bare_operand-returns-in-Literal : goal.bare_operand-returns-in-Literal
bare_operand-returns-in-Literal t c = λ read. sym (seen2 read _ _ _ c.in-Literal.is (view-Literal read _))

pub bare_operand-returns-in-Typename : goal.bare_operand-returns-in-Typename
bare_operand-returns-in-Typename t c = λ read. sym (seen2 read _ _ _ c.in-Typename.is (view-Typename read _))

pub bare_operand-returns-in-Unwrapped : goal.bare_operand-returns-in-Unwrapped
bare_operand-returns-in-Unwrapped t c = λ read. sym (seen2 read _ _ _ c.in-Unwrapped.is (view-Unwrapped read _ _))

pub bare_operand-returns-in-ChoiceOf : goal.bare_operand-returns-in-ChoiceOf
bare_operand-returns-in-ChoiceOf t c = λ read. sym (seen2 read _ _ _ c.in-ChoiceOf.is (view-ChoiceOf read _ _ _ _))

pub bare_operand-returns-in-ChoiceOfName : goal.bare_operand-returns-in-ChoiceOfName
bare_operand-returns-in-ChoiceOfName t c = λ read. sym (seen2 read _ _ _ c.in-ChoiceOfName.is (view-ChoiceOfName read _ _))

pub bare_operand-returns-in-Tagged : goal.bare_operand-returns-in-Tagged
bare_operand-returns-in-Tagged t c = λ read. sym (seen2 read _ _ _ c.in-Tagged.is (view-Tagged read _ _ _))

pub bare_operand-returns-in-TaggedBy : goal.bare_operand-returns-in-TaggedBy
bare_operand-returns-in-TaggedBy t c = λ read. sym (seen2 read _ _ _ c.in-TaggedBy.is (view-TaggedBy read _ _ _ _ _ _))

pub bare_operand-returns-in-SimpleBy : goal.bare_operand-returns-in-SimpleBy
bare_operand-returns-in-SimpleBy t c = λ read. sym (seen2 read _ _ _ c.in-SimpleBy.is (view-SimpleBy read _ _ _))

pub bare_operand-returns-in-Hash : goal.bare_operand-returns-in-Hash
bare_operand-returns-in-Hash t c = λ read. sym (seen2 read _ _ _ c.in-Hash.is (view-Hash read _))
