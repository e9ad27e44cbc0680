use Rattle.tree_nodes.specs.declared.tree.Entry.{Entry}
use Rattle.tree_nodes.specs.declared.tree.Further.{Further}
use Rattle.tree_nodes.specs.declared.tree.GrpChoice.{GrpChoice}
use Rattle.source_pieces.specs.Walk.{entry_pieces, further_pieces, choice_pieces, view_around}
use Rattle.source_pieces.proofs.Adding.{on_ok, adds_as, adds_both, continues_next, continues_last}
use Rattle.source_pieces.proofs.Nodes.{types_pieces, argument_pieces, group_pieces, one_pieces, operation_pieces, literal_pieces, typename_pieces, parens_pieces, map_pieces, array_pieces, unwrapped_pieces, choice_of_pieces, choice_of_name_pieces, tagged_pieces, tagged_by_pieces, simple_by_pieces, hash_pieces, applied_pieces, name_pieces, typed_pieces, keyed_pieces, grouped_pieces, type_key_pieces, bareword_pieces, value_key_pieces}
use Rattle.source_pieces.proofs.Adding.{adds_none}
use Rattle.source_pieces.proofs.walk.+walk.Goals as goal

pub add_types-returns : goal.add_types-returns
add_types-returns t c =
    on_ok c.add_further.result _ _ (λ h. adds_as _ (λ read. types_pieces read c.args.types.now) (adds_both (adds_both c.in_ok-push_choice.ensures c.in_ok-add_type1.ensures) h)) c.add_further.ensures

pub add_further-loop-further-preserved : goal.add_further-loop-further-preserved
add_further-loop-further-preserved t c =
    continues_next Further further_pieces _ _ _ _ _ _ c.further-item.result c.loop-further-test.true c.further-item.is c.in_ok-add_type1.ensures c.loop-further.invariant

pub add_further-returns : goal.add_further-returns
add_further-returns t c =
    continues_last Further further_pieces _ _ _ _ _ _ c.loop-further-test.false c.deref-further-items.ensures.value c.loop-further.invariant

pub add_type1-returns-in-One : goal.add_type1-returns-in-One
add_type1-returns-in-One t c =
    on_ok c.add_type2.result _ _ (adds_as _ (λ read. one_pieces read _ c.in-One.type2 _ c.in-One.is c.deref.ensures)) c.add_type2.ensures

pub add_type1-returns-in_ok-add_type2-in-Operation : goal.add_type1-returns-in_ok-add_type2-in-Operation
add_type1-returns-in_ok-add_type2-in-Operation t c =
    on_ok c.add_type2-in-Operation-2.result _ _ (λ h. adds_as _ (λ read. operation_pieces read _ c.in-Operation.left _ c.in-Operation.right _ _ c.in-Operation.is c.deref-in-Operation.ensures c.deref-in-Operation-2.ensures) (adds_both (adds_both c.in_ok-push_operation-in-Operation.ensures c.in_ok-add_type2-in-Operation.ensures) h)) c.add_type2-in-Operation-2.ensures

pub add_type2-returns-in-Literal : goal.add_type2-returns-in-Literal
add_type2-returns-in-Literal t c = adds_as _ (λ read. literal_pieces read _ c.in-Literal.field-0 c.in-Literal.is) c.in_ok-push_operand.ensures

pub add_type2-returns-in-Typename : goal.add_type2-returns-in-Typename
add_type2-returns-in-Typename t c =
    on_ok c.add_ref.result _ _ (λ h. adds_as _ (λ read. typename_pieces read _ c.in-Typename.name c.in-Typename.is) (adds_both c.in_ok-push_operand.ensures h)) c.add_ref.ensures

pub add_type2-returns-in-Parens : goal.add_type2-returns-in-Parens
add_type2-returns-in-Parens t c =
    on_ok c.add_types.result _ _ (λ h. adds_as _ (λ read. parens_pieces read _ c.in-Parens.opening c.in-Parens.types c.in-Parens.closing _ c.in-Parens.is c.deref.ensures) (adds_both c.in_ok-push_operand.ensures h)) c.add_types.ensures

pub add_type2-returns-in-MapOf : goal.add_type2-returns-in-MapOf
add_type2-returns-in-MapOf t c =
    on_ok c.add_group.result _ _ (λ h. adds_as _ (λ read. map_pieces read _ c.in-MapOf.opening c.in-MapOf.group c.in-MapOf.closing c.in-MapOf.is) (adds_both c.in_ok-push_operand.ensures h)) c.add_group.ensures

pub add_type2-returns-in-ArrayOf : goal.add_type2-returns-in-ArrayOf
add_type2-returns-in-ArrayOf t c =
    on_ok c.add_bracketed.result _ _ (λ h. adds_as _ (λ read. array_pieces read _ c.in-ArrayOf.opening c.in-ArrayOf.group c.in-ArrayOf.closing c.in-ArrayOf.is) (adds_both c.in_ok-push_operand.ensures h)) c.add_bracketed.ensures

pub add_type2-returns-in-Unwrapped : goal.add_type2-returns-in-Unwrapped
add_type2-returns-in-Unwrapped t c =
    on_ok c.add_ref-in-Unwrapped.result _ _ (λ h. adds_as _ (λ read. unwrapped_pieces read _ c.in-Unwrapped.tilde c.in-Unwrapped.name c.in-Unwrapped.is) (adds_both c.in_ok-push_operand.ensures h)) c.add_ref-in-Unwrapped.ensures

pub add_type2-returns-in-ChoiceOf : goal.add_type2-returns-in-ChoiceOf
add_type2-returns-in-ChoiceOf t c =
    on_ok c.add_group-in-ChoiceOf.result _ _ (λ h. adds_as _ (λ read. choice_of_pieces read _ c.in-ChoiceOf.ampersand c.in-ChoiceOf.opening c.in-ChoiceOf.group c.in-ChoiceOf.closing c.in-ChoiceOf.is) (adds_both c.in_ok-push_operand.ensures h)) c.add_group-in-ChoiceOf.ensures

pub add_type2-returns-in-ChoiceOfName : goal.add_type2-returns-in-ChoiceOfName
add_type2-returns-in-ChoiceOfName t c =
    on_ok c.add_ref-in-ChoiceOfName.result _ _ (λ h. adds_as _ (λ read. choice_of_name_pieces read _ c.in-ChoiceOfName.ampersand c.in-ChoiceOfName.name c.in-ChoiceOfName.is) (adds_both c.in_ok-push_operand.ensures h)) c.add_ref-in-ChoiceOfName.ensures

pub add_type2-returns-in-Tagged : goal.add_type2-returns-in-Tagged
add_type2-returns-in-Tagged t c =
    on_ok c.add_types-in-Tagged.result _ _ (λ h. adds_as _ (λ read. tagged_pieces read _ c.in-Tagged.opening c.in-Tagged.types c.in-Tagged.closing _ c.in-Tagged.is c.deref-in-Tagged.ensures) (adds_both c.in_ok-push_operand.ensures h)) c.add_types-in-Tagged.ensures

pub add_type2-returns-in_ok-add_types-in-TaggedBy : goal.add_type2-returns-in_ok-add_types-in-TaggedBy
add_type2-returns-in_ok-add_types-in-TaggedBy t c =
    on_ok c.add_types-in-TaggedBy-2.result _ _ (λ h. adds_as _ (λ read. tagged_by_pieces read _ c.in-TaggedBy.opening c.in-TaggedBy.head c.in-TaggedBy.angle c.in-TaggedBy.paren c.in-TaggedBy.types c.in-TaggedBy.closing _ _ c.in-TaggedBy.is c.deref-in-TaggedBy.ensures c.deref-in-TaggedBy-2.ensures) (adds_both (adds_both c.in_ok-push_operand.ensures c.in_ok-add_types-in-TaggedBy.ensures) h)) c.add_types-in-TaggedBy-2.ensures

pub add_type2-returns-in-SimpleBy : goal.add_type2-returns-in-SimpleBy
add_type2-returns-in-SimpleBy t c =
    on_ok c.add_types-in-SimpleBy.result _ _ (λ h. adds_as _ (λ read. simple_by_pieces read _ c.in-SimpleBy.opening c.in-SimpleBy.head c.in-SimpleBy.closing _ c.in-SimpleBy.is c.deref-in-SimpleBy.ensures) (adds_both c.in_ok-push_operand.ensures h)) c.add_types-in-SimpleBy.ensures

pub add_type2-returns-in-Hash : goal.add_type2-returns-in-Hash
add_type2-returns-in-Hash t c = adds_as _ (λ read. hash_pieces read _ c.in-Hash.field-0 c.in-Hash.is) c.in_ok-push_operand.ensures

pub add_ref-returns-in-Name : goal.add_ref-returns-in-Name
add_ref-returns-in-Name t c = adds_none _ _ _ (λ read. name_pieces read _ c.in-Name.field-0 c.in-Name.is)

pub add_ref-returns-in-Applied : goal.add_ref-returns-in-Applied
add_ref-returns-in-Applied t c =
    on_ok c.add_arguments.result _ _ (adds_as _ (λ read. applied_pieces read _ c.in-Applied.opening c.in-Applied.arguments c.in-Applied.closing _ c.in-Applied.is c.deref.ensures)) c.add_arguments.ensures

pub add_arguments-returns : goal.add_arguments-returns
add_arguments-returns t c =
    on_ok c.add_further.result _ _ (λ h. adds_as _ (λ read. argument_pieces read c.args.arguments.now) (adds_both c.in_ok-add_type1.ensures h)) c.add_further.ensures

pub add_bracketed-returns : goal.add_bracketed-returns
add_bracketed-returns t c =
    on_ok c.add_group.result _ _ (adds_both c.in_ok-add_entries_of.ensures) c.add_group.ensures

pub add_group-loop-choice-preserved : goal.add_group-loop-choice-preserved
add_group-loop-choice-preserved t c =
    continues_next GrpChoice (choice_pieces c.args.around) _ _ _ _ _ _ c.choice-item.result c.loop-choice-test.true c.choice-item.is c.in_ok-add_entries-2.ensures c.loop-choice.invariant

pub add_group-returns : goal.add_group-returns
add_group-returns t c =
    adds_as _ (λ read. group_pieces read c.args.around c.args.group.now) (adds_both c.in_ok-add_entries.ensures (continues_last GrpChoice (choice_pieces c.args.around) _ _ _ _ _ _ c.loop-choice-test.false c.deref-choice-items.ensures.value c.loop-choice.invariant))

pub add_entries-loop-entry-preserved : goal.add_entries-loop-entry-preserved
add_entries-loop-entry-preserved t c =
    continues_next Entry (entry_pieces c.args.around) _ _ _ _ _ _ c.entry-item.result c.loop-entry-test.true c.entry-item.is c.in_ok-add_grpent.ensures c.loop-entry.invariant

pub add_entries-returns : goal.add_entries-returns
add_entries-returns t c =
    continues_last Entry (entry_pieces c.args.around) _ _ _ _ _ _ c.loop-entry-test.false c.deref-entry-items.ensures.value c.loop-entry.invariant

pub add_grpent-returns-in_ok-push_member-in-Typed : goal.add_grpent-returns-in_ok-push_member-in-Typed
add_grpent-returns-in_ok-push_member-in-Typed t c =
    on_ok c.add_types.result _ _ (λ h. adds_as _ (λ read. typed_pieces read (view_around read c.args.around) _ c.in-Typed.occur c.in-Typed.types c.in-Typed.is) (adds_both c.in_ok-push_member-in-Typed.ensures h)) c.add_types.ensures

pub add_grpent-returns-in_ok-push_value-in-Keyed : goal.add_grpent-returns-in_ok-push_value-in-Keyed
add_grpent-returns-in_ok-push_value-in-Keyed t c =
    on_ok c.add_types-in-Keyed.result _ _ (λ h. adds_as _ (λ read. keyed_pieces read (view_around read c.args.around) _ c.in-Keyed.occur c.in-Keyed.key c.in-Keyed.types _ _ _ c.in-Keyed.is c.deref.ensures c.deref-in-Keyed.ensures c.deref-in-Keyed-2.ensures) (adds_both c.in_ok-add_key-in-Keyed.ensures (adds_both c.in_ok-push_key-in-Keyed.ensures (adds_both c.in_ok-push_value-in-Keyed.ensures h)))) c.add_types-in-Keyed.ensures

pub add_grpent-returns-in-Grouped : goal.add_grpent-returns-in-Grouped
add_grpent-returns-in-Grouped t c =
    on_ok c.add_bracketed.result _ _ (λ h. adds_as _ (λ read. grouped_pieces read (view_around read c.args.around) _ c.in-Grouped.occur c.in-Grouped.opening c.in-Grouped.group c.in-Grouped.closing c.in-Grouped.is) h) c.add_bracketed.ensures

pub add_key-returns-in-TypeKey : goal.add_key-returns-in-TypeKey
add_key-returns-in-TypeKey t c =
    on_ok c.add_type1.result _ _ (adds_as _ (λ read. type_key_pieces read _ c.in-TypeKey.type1 c.in-TypeKey.cut c.in-TypeKey.arrow c.in-TypeKey.is)) c.add_type1.ensures

pub add_key-returns-in-Bareword : goal.add_key-returns-in-Bareword
add_key-returns-in-Bareword t c =
    on_ok c.push_word.result _ _ (adds_as _ (λ read. bareword_pieces read _ c.in-Bareword.name c.in-Bareword.colon c.in-Bareword.is)) c.push_word.ensures

pub add_key-returns-in-ValueKey : goal.add_key-returns-in-ValueKey
add_key-returns-in-ValueKey t c =
    on_ok c.push_literal.result _ _ (adds_as _ (λ read. value_key_pieces read _ c.in-ValueKey.value c.in-ValueKey.colon c.in-ValueKey.is)) c.push_literal.ensures
