use Rattle.std.proofs.Common.{◌++◌, sym, ap, ◌∙◌}
use Rattle.std.specs.List.{flat_map}
use Rattle.cddl_language.specs.Sites.{in_type1}
use Rattle.tree_nodes.specs.View.{view_type1}
use Rattle.tree_nodes.specs.declared.tree.GrpEnt.TheViews.{out-Types}
use Rattle.tree_nodes.specs.declared.tree.Entry.{Entry}
use Rattle.tree_nodes.specs.declared.tree.Further.{Further}
use Rattle.tree_nodes.specs.declared.tree.GrpChoice.{GrpChoice}
use Rattle.check_sites.specs.Sites.Walk.{entry_sites, further_sites, choice_sites}
use Rattle.check_sites.proofs.OfSites.Adding.{on_ok, adds_as, adds_both, adds_none, continues_next, continues_last}
use Rattle.check_sites.proofs.OfSites.Nodes.{types_sites, argument_sites, group_sites, one_sites, operation_sites, literal_sites, typename_sites, parens_sites, map_sites, array_sites, unwrapped_sites, choice_of_sites, choice_of_name_sites, tagged_sites, tagged_by_sites, simple_by_sites, hash_sites, name_sites, applied_sites, typed_sites, keyed_sites, grouped_sites, type_key_sites, bareword_sites, value_key_sites}
use Rattle.check_sites.proofs.sites.walk.+walk.Goals as goal

pub add_types-returns : goal.add_types-returns
add_types-returns t c =
    on_ok c.add_further.result _ _ (λ h. adds_as _ (λ i read. types_sites i read _ c.args.types.now ∙ ap (λ d. in_type1 i d (view_type1 read (out-Types c.args.types.now).first) ++ flat_map (further_sites i read) (out-Types c.args.types.now).others.items) (sym c.is_demanded.ensures)) (adds_both c.in_ok-add_type1.ensures h)) c.add_further.ensures

pub add_further-loop-further-preserved : goal.add_further-loop-further-preserved
add_further-loop-further-preserved t c =
    continues_next Further further_sites _ _ _ _ _ _ c.further-item.result c.loop-further-test.true c.further-item.is c.in_ok-add_type1.ensures c.loop-further.invariant

pub add_further-returns : goal.add_further-returns
add_further-returns t c =
    continues_last Further further_sites _ _ _ _ _ _ c.loop-further-test.false c.deref-further-items.ensures.value c.loop-further.invariant

pub add_type1-returns-in-One : goal.add_type1-returns-in-One
add_type1-returns-in-One t c =
    on_ok c.add_type2.result _ _ (adds_as _ (λ i read. one_sites i read _ _ c.in-One.type2 _ c.in-One.is c.deref.ensures)) c.add_type2.ensures

pub add_type1-returns-in_ok-add_type2-in-Operation : goal.add_type1-returns-in_ok-add_type2-in-Operation
add_type1-returns-in_ok-add_type2-in-Operation t c =
    on_ok c.add_type2-in-Operation-2.result _ _ (λ h. adds_as _ (λ i read. operation_sites i read _ _ c.in-Operation.left c.in-Operation.operator c.in-Operation.right _ _ _ _ c.in-Operation.is c.deref-in-Operation.ensures c.deref-in-Operation-3.ensures c.deref-in-Operation-2.ensures c.deref-in-Operation-4.ensures) (adds_both (adds_both c.in_ok-push_operation-in-Operation.ensures c.in_ok-add_type2-in-Operation.ensures) h)) c.add_type2-in-Operation-2.ensures

pub add_type2-returns-in-Literal : goal.add_type2-returns-in-Literal
add_type2-returns-in-Literal t c =
    adds_none _ _ _ (λ i read. literal_sites i read _ _ c.in-Literal.field-0 c.in-Literal.is)

pub add_type2-returns-in_ok-push_name-in-Typename : goal.add_type2-returns-in_ok-push_name-in-Typename
add_type2-returns-in_ok-push_name-in-Typename t c =
    on_ok c.add_ref.result _ _ (λ h. adds_as _ (λ i read. typename_sites i read _ _ c.in-Typename.name c.in-Typename.is) (adds_both c.in_ok-push_name-in-Typename.ensures h)) c.add_ref.ensures

pub add_type2-returns-in-Parens : goal.add_type2-returns-in-Parens
add_type2-returns-in-Parens t c =
    on_ok c.add_types.result _ _ (adds_as _ (λ i read. parens_sites i read _ _ c.in-Parens.opening c.in-Parens.types c.in-Parens.closing _ c.in-Parens.is c.deref.ensures)) c.add_types.ensures

pub add_type2-returns-in_ok-push_map-in-MapOf : goal.add_type2-returns-in_ok-push_map-in-MapOf
add_type2-returns-in_ok-push_map-in-MapOf t c =
    on_ok c.add_group.result _ _ (λ h. adds_as _ (λ i read. map_sites i read _ _ c.in-MapOf.opening c.in-MapOf.group c.in-MapOf.closing c.in-MapOf.is) (adds_both c.in_ok-push_map-in-MapOf.ensures h)) c.add_group.ensures

pub add_type2-returns-in-ArrayOf : goal.add_type2-returns-in-ArrayOf
add_type2-returns-in-ArrayOf t c =
    on_ok c.add_group-in-ArrayOf.result _ _ (adds_as _ (λ i read. array_sites i read _ _ c.in-ArrayOf.opening c.in-ArrayOf.group c.in-ArrayOf.closing c.in-ArrayOf.is)) c.add_group-in-ArrayOf.ensures

pub add_type2-returns-in_ok-push_unwrapping-in-Unwrapped : goal.add_type2-returns-in_ok-push_unwrapping-in-Unwrapped
add_type2-returns-in_ok-push_unwrapping-in-Unwrapped t c =
    on_ok c.add_ref-in-Unwrapped.result _ _ (λ h. adds_as _ (λ i read. unwrapped_sites i read _ _ c.in-Unwrapped.tilde c.in-Unwrapped.name c.in-Unwrapped.is) (adds_both c.in_ok-push_unwrapping-in-Unwrapped.ensures h)) c.add_ref-in-Unwrapped.ensures

pub add_type2-returns-in_ok-push_choice-in-ChoiceOf : goal.add_type2-returns-in_ok-push_choice-in-ChoiceOf
add_type2-returns-in_ok-push_choice-in-ChoiceOf t c =
    on_ok c.add_group-in-ChoiceOf.result _ _ (λ h. adds_as _ (λ i read. choice_of_sites i read _ _ c.in-ChoiceOf.ampersand c.in-ChoiceOf.opening c.in-ChoiceOf.group c.in-ChoiceOf.closing c.in-ChoiceOf.is) (adds_both c.in_ok-push_choice-in-ChoiceOf.ensures h)) c.add_group-in-ChoiceOf.ensures

pub add_type2-returns-in_ok-push_choice_of_name-in-ChoiceOfName : goal.add_type2-returns-in_ok-push_choice_of_name-in-ChoiceOfName
add_type2-returns-in_ok-push_choice_of_name-in-ChoiceOfName t c =
    on_ok c.add_ref-in-ChoiceOfName.result _ _ (λ h. adds_as _ (λ i read. choice_of_name_sites i read _ _ c.in-ChoiceOfName.ampersand c.in-ChoiceOfName.name c.in-ChoiceOfName.is) (adds_both c.in_ok-push_choice_of_name-in-ChoiceOfName.ensures h)) c.add_ref-in-ChoiceOfName.ensures

pub add_type2-returns-in-Tagged : goal.add_type2-returns-in-Tagged
add_type2-returns-in-Tagged t c =
    on_ok c.add_types-in-Tagged.result _ _ (adds_as _ (λ i read. tagged_sites i read _ _ c.in-Tagged.opening c.in-Tagged.types c.in-Tagged.closing _ c.in-Tagged.is c.deref-in-Tagged.ensures)) c.add_types-in-Tagged.ensures

pub add_type2-returns-in_ok-add_types-in-TaggedBy : goal.add_type2-returns-in_ok-add_types-in-TaggedBy
add_type2-returns-in_ok-add_types-in-TaggedBy t c =
    on_ok c.add_types-in-TaggedBy-2.result _ _ (λ h. adds_as _ (λ i read. tagged_by_sites i read _ _ c.in-TaggedBy.opening c.in-TaggedBy.head c.in-TaggedBy.angle c.in-TaggedBy.paren c.in-TaggedBy.types c.in-TaggedBy.closing _ _ c.in-TaggedBy.is c.deref-in-TaggedBy.ensures c.deref-in-TaggedBy-2.ensures) (adds_both c.in_ok-add_types-in-TaggedBy.ensures h)) c.add_types-in-TaggedBy-2.ensures

pub add_type2-returns-in-SimpleBy : goal.add_type2-returns-in-SimpleBy
add_type2-returns-in-SimpleBy t c =
    on_ok c.add_types-in-SimpleBy.result _ _ (adds_as _ (λ i read. simple_by_sites i read _ _ c.in-SimpleBy.opening c.in-SimpleBy.head c.in-SimpleBy.closing _ c.in-SimpleBy.is c.deref-in-SimpleBy.ensures)) c.add_types-in-SimpleBy.ensures

pub add_type2-returns-in-Hash : goal.add_type2-returns-in-Hash
add_type2-returns-in-Hash t c =
    on_ok c.push_hash.result _ _ (adds_as _ (λ i read. hash_sites i read _ _ c.in-Hash.token c.in-Hash.is)) c.push_hash.ensures

pub add_ref-returns-in-Name : goal.add_ref-returns-in-Name
add_ref-returns-in-Name t c =
    adds_none _ _ _ (λ i read. name_sites i read _ c.in-Name.field-0 c.in-Name.is)

pub add_ref-returns-in-Applied : goal.add_ref-returns-in-Applied
add_ref-returns-in-Applied t c =
    on_ok c.add_applied.result _ _ (adds_as _ (λ i read. applied_sites i read _ c.in-Applied.opening c.in-Applied.arguments c.in-Applied.closing _ c.in-Applied.is c.deref.ensures)) c.add_applied.ensures

pub add_arguments-returns : goal.add_arguments-returns
add_arguments-returns t c =
    on_ok c.add_further.result _ _ (λ h. adds_as _ (λ i read. argument_sites i read c.args.arguments.now) (adds_both c.in_ok-add_type1.ensures h)) c.add_further.ensures

pub add_group-loop-choice-preserved : goal.add_group-loop-choice-preserved
add_group-loop-choice-preserved t c =
    continues_next GrpChoice choice_sites _ _ _ _ _ _ c.choice-item.result c.loop-choice-test.true c.choice-item.is c.in_ok-add_entries-2.ensures c.loop-choice.invariant

pub add_group-returns : goal.add_group-returns
add_group-returns t c =
    adds_as _ (λ i read. group_sites i read c.args.group.now) (adds_both c.in_ok-add_entries.ensures (continues_last GrpChoice choice_sites _ _ _ _ _ _ c.loop-choice-test.false c.deref-choice-items.ensures.value c.loop-choice.invariant))

pub add_entries-loop-entry-preserved : goal.add_entries-loop-entry-preserved
add_entries-loop-entry-preserved t c =
    continues_next Entry entry_sites _ _ _ _ _ _ c.entry-item.result c.loop-entry-test.true c.entry-item.is c.in_ok-add_grpent.ensures c.loop-entry.invariant

pub add_entries-returns : goal.add_entries-returns
add_entries-returns t c =
    continues_last Entry entry_sites _ _ _ _ _ _ c.loop-entry-test.false c.deref-entry-items.ensures.value c.loop-entry.invariant

pub add_grpent-returns-in-Typed : goal.add_grpent-returns-in-Typed
add_grpent-returns-in-Typed t c =
    on_ok c.add_types.result _ _ (λ h. adds_as _ (λ i read. typed_sites i read _ c.in-Typed.occur c.in-Typed.types c.in-Typed.is) (adds_both c.in_ok-push_entry.ensures h)) c.add_types.ensures

pub add_grpent-returns-in_ok-add_key-in-Keyed : goal.add_grpent-returns-in_ok-add_key-in-Keyed
add_grpent-returns-in_ok-add_key-in-Keyed t c =
    on_ok c.add_types-in-Keyed.result _ _ (λ h. adds_as _ (λ i read. keyed_sites i read _ c.in-Keyed.occur c.in-Keyed.key c.in-Keyed.types _ c.in-Keyed.is c.deref.ensures) (adds_both (adds_both c.in_ok-push_entry.ensures c.in_ok-add_key-in-Keyed.ensures) h)) c.add_types-in-Keyed.ensures

pub add_grpent-returns-in-Grouped : goal.add_grpent-returns-in-Grouped
add_grpent-returns-in-Grouped t c =
    on_ok c.add_group.result _ _ (λ h. adds_as _ (λ i read. grouped_sites i read _ c.in-Grouped.occur c.in-Grouped.opening c.in-Grouped.group c.in-Grouped.closing c.in-Grouped.is) (adds_both c.in_ok-push_entry.ensures h)) c.add_group.ensures

pub add_key-returns-in-TypeKey : goal.add_key-returns-in-TypeKey
add_key-returns-in-TypeKey t c =
    on_ok c.add_type1.result _ _ (adds_as _ (λ i read. type_key_sites i read _ c.in-TypeKey.type1 c.in-TypeKey.cut c.in-TypeKey.arrow c.in-TypeKey.is)) c.add_type1.ensures

pub add_key-returns-in-Bareword : goal.add_key-returns-in-Bareword
add_key-returns-in-Bareword t c =
    adds_none _ _ _ (λ i read. bareword_sites i read _ _ _ c.in-Bareword.is)

pub add_key-returns-in-ValueKey : goal.add_key-returns-in-ValueKey
add_key-returns-in-ValueKey t c =
    adds_none _ _ _ (λ i read. value_key_sites i read _ _ _ c.in-ValueKey.is)
