use Rattle.std.proofs.Common.{None, Some, IfOk, refl, sym, ap, ◌∙◌, subst, map, length, drop, reverse, arith, rules}
use Rattle.std.proofs.lemmas.Iterator.Adapters.{YieldsList-from_rev_slice}
use Rattle.std.proofs.lemmas.Iterator.Consumers.{YieldsList-turn, YieldsList-end}
use Rattle.std.proofs.lemmas.List.{length_push}
use Rattle.lists.proofs.Lemmas.{ok_then}
use Rattle.cddl_language.specs.Reading.{term_of, term_of1, entries_of, group_of}
use Rattle.cddl_language.specs.Numbers.{before}
use Rattle.cddl_language.specs.Terms.{sole, no_entries, no_terms}
use Rattle.tree_nodes.specs.Syntax.Syntax as S
use Rattle.check_terms.specs.Table.{Holds, node, no_part, nothing}
use Rattle.check_terms.specs.Trees.{IsTerms, IsEntries, key_form, term_tree, terms_tree, group_tree, entries_tree}
use Rattle.tree_nodes.specs.declared.tree.GrpEnt.TheViews.{out-Types, out-GenericArg, out-Group}
use Rattle.tree_nodes.specs.View.{token_of, view_types, view_type1, view_further, view_group, view_choice, view_entry, with_entries}
use Rattle.tree_nodes.proofs.Lemmas.{views}
use Rattle.check_reading.proofs.OfReader.Growing.{grown, is_row, kept, made, row_kept, with_form, with_text}
use Rattle.check_reading.proofs.OfReader.Lists.{Leads, back, folded, folded_back, leads_from, leads_on, leads_to}
use Rattle.check_reading.proofs.OfReader.Members.{or_more, types_whole, further_tree, or_built, or_same, before_terms, arguments_whole, argument_built, argument_same, entry_more, entries_folded, still_there, entry_part, entry_built, entry_same, choice_more, group_whole, choice_part, choice_built, choice_same}
use Rattle.check_reading.proofs.reader.nodes.+nodes.Goals as goal

-- types

pub read_types-loop-further-init : goal.read_types-loop-further-init
read_types-loop-further-init t c =
    let read = token_of c.args.tree.now in
    let x = c.args.types.now in
    let first = term_of1 (view_type1 read (out-Types x).first) in
    record {
      grows = c.in_ok-number.ensures.grows;
      leads =
          leads_from term_tree or_more (view_further read) c.deref-further-items.result.now c.read_type1.new.terms c.in_ok-number.number first (term_of (view_types read x)) c.in_ok-number.ensures.term
          (ap (λ xs. folded or_more first (map (view_further read) xs)) c.deref-further-items.ensures.value ∙ types_whole read x);
    }

pub read_types-returns-in_err-next-clause-grows : goal.read_types-returns-in_err-next-clause-grows
read_types-returns-in_err-next-clause-grows t c = grown _ _ _ c.loop-further.invariant.grows c.in_err-next.ensures.grows

pub read_types-add_node-requires-clause-first : goal.read_types-add_node-requires-clause-first
read_types-add_node-requires-clause-first t c = is_row (kept c.in_ok-next.ensures.grows c.loop-further.invariant.leads.stands)

pub read_types-add_node-requires-clause-second : goal.read_types-add_node-requires-clause-second
read_types-add_node-requires-clause-second t c = is_row c.in_ok-next.ensures.term

pub read_types-returns-in_err-number-2-clause-grows : goal.read_types-returns-in_err-number-2-clause-grows
read_types-returns-in_err-number-2-clause-grows t c = grown _ _ _ c.loop-further.invariant.grows (grown _ _ _ c.in_ok-next.ensures.grows c.in_err-number-2.ensures.grows)

pub read_types-loop-further-preserved : goal.read_types-loop-further-preserved
read_types-loop-further-preserved t c =
    let read = token_of c.args.tree.now in
    record {
      grows = grown _ _ _ c.loop-further.invariant.grows (grown _ _ _ c.in_ok-next.ensures.grows c.in_ok-number-2.ensures.grows);
      leads = leads_on term_tree or_more (view_further read) (further_tree read) or_built (or_same read) c.deref-further-items.result.now c.loop-further.further-index c.further-item.result c.loop-further-test.true c.further-item.is _ _ _ c.loop-further.number c.in_ok-next.next c.in_ok-number-2.number _ c.loop-further.invariant.leads c.in_ok-next.ensures.grows c.in_ok-next.ensures.term c.in_ok-number-2.ensures.stands;
    }

pub read_types-returns-clause-term : goal.read_types-returns-clause-term
read_types-returns-clause-term t c =
    let read = token_of c.args.tree.now in
    leads_to term_tree or_more (view_further read) c.deref-further-items.result.now c.loop-further.further-index c.loop-further.terms c.loop-further.number _ c.loop-further.invariant.leads c.loop-further-test.false

-- members of a choice

pub read_type1-returns-in-One-clause-term : goal.read_type1-returns-in-One-clause-term
read_type1-returns-in-One-clause-term t c = simp (c.in-One.is, views) (simp (sym c.deref.ensures) c.read_operand.ensures.term)

pub read_type1-returns-in_err-right-in-Operation-clause-grows : goal.read_type1-returns-in_err-right-in-Operation-clause-grows
read_type1-returns-in_err-right-in-Operation-clause-grows t c = grown _ _ _ c.in_ok-left-in-Operation.ensures.grows c.in_err-right-in-Operation.ensures.grows

pub read_type1-add_operation-requires-clause-left : goal.read_type1-add_operation-requires-clause-left
read_type1-add_operation-requires-clause-left t c = is_row (kept c.in_ok-right-in-Operation.ensures.grows c.in_ok-left-in-Operation.ensures.term)

pub read_type1-add_operation-requires-clause-right : goal.read_type1-add_operation-requires-clause-right
read_type1-add_operation-requires-clause-right t c = is_row c.in_ok-right-in-Operation.ensures.term

pub read_type1-returns-in_ok-right-in-Operation-clause-grows : goal.read_type1-returns-in_ok-right-in-Operation-clause-grows
read_type1-returns-in_ok-right-in-Operation-clause-grows t c = grown _ _ _ c.in_ok-left-in-Operation.ensures.grows (grown _ _ _ c.in_ok-right-in-Operation.ensures.grows c.add_operation.ensures.grows)

pub read_type1-returns-in_ok-right-in-Operation-clause-term : goal.read_type1-returns-in_ok-right-in-Operation-clause-term
read_type1-returns-in_ok-right-in-Operation-clause-term t c =
    simp (c.in-Operation.is, views)
    (simp (sym c.deref-in-Operation.ensures, sym c.deref-in-Operation-2.ensures)
    (ok_then c.add_operation.result _ _ (λ n h. h _ _ (kept c.in_ok-right-in-Operation.ensures.grows c.in_ok-left-in-Operation.ensures.term) c.in_ok-right-in-Operation.ensures.term) c.add_operation.ensures.term))

-- operands

pub read_operand-returns-in-Literal-clause-term : goal.read_operand-returns-in-Literal-clause-term
read_operand-returns-in-Literal-clause-term t c = simp (c.in-Literal.is, views) c.read_literal.ensures.literal

pub read_operand-returns-in-Typename-clause-term : goal.read_operand-returns-in-Typename-clause-term
read_operand-returns-in-Typename-clause-term t c = simp (c.in-Typename.is, views) c.read_name.ensures.stands

pub read_operand-returns-in-Parens-clause-term : goal.read_operand-returns-in-Parens-clause-term
read_operand-returns-in-Parens-clause-term t c = simp (c.in-Parens.is, views) (simp (sym c.deref.ensures) c.read_inside.ensures.stands)

pub read_operand-returns-in-MapOf-clause-term : goal.read_operand-returns-in-MapOf-clause-term
read_operand-returns-in-MapOf-clause-term t c = simp (c.in-MapOf.is, views) c.read_bracketed.ensures.stands

pub read_operand-returns-in-ArrayOf-clause-term : goal.read_operand-returns-in-ArrayOf-clause-term
read_operand-returns-in-ArrayOf-clause-term t c = simp (c.in-ArrayOf.is, views) c.read_bracketed-in-ArrayOf.ensures.stands

pub read_operand-returns-in-Unwrapped-clause-term : goal.read_operand-returns-in-Unwrapped-clause-term
read_operand-returns-in-Unwrapped-clause-term t c = simp (c.in-Unwrapped.is, views) c.read_name-in-Unwrapped.ensures.stands

pub read_operand-returns-in-ChoiceOf-clause-term : goal.read_operand-returns-in-ChoiceOf-clause-term
read_operand-returns-in-ChoiceOf-clause-term t c = simp (c.in-ChoiceOf.is, views) c.read_bracketed-in-ChoiceOf.ensures.stands

pub read_operand-returns-in-ChoiceOfName-clause-term : goal.read_operand-returns-in-ChoiceOfName-clause-term
read_operand-returns-in-ChoiceOfName-clause-term t c = simp (c.in-ChoiceOfName.is, views) c.read_name-in-ChoiceOfName.ensures.stands

pub read_operand-returns-in-Tagged-clause-term : goal.read_operand-returns-in-Tagged-clause-term
read_operand-returns-in-Tagged-clause-term t c = simp (c.in-Tagged.is, views) (simp (sym c.deref-in-Tagged.ensures) (with_text c.read_inside-in-Tagged.result _ _ _ _ (ap Some c.text_at-text.ensures) c.read_inside-in-Tagged.ensures.stands))

pub read_operand-returns-in-SimpleBy-clause-term : goal.read_operand-returns-in-SimpleBy-clause-term
read_operand-returns-in-SimpleBy-clause-term t c = simp (c.in-SimpleBy.is, views) (simp (sym c.deref-in-SimpleBy.ensures) c.read_inside-in-SimpleBy.ensures.stands)

pub read_operand-returns-in-Hash-clause-term : goal.read_operand-returns-in-Hash-clause-term
read_operand-returns-in-Hash-clause-term t c = simp (c.in-Hash.is, views) c.add_leaf.ensures.stands

pub read_operand-returns-in_ok-head-in-TaggedBy-clause-grows : goal.read_operand-returns-in_ok-head-in-TaggedBy-clause-grows
read_operand-returns-in_ok-head-in-TaggedBy-clause-grows t c = grown _ _ _ c.in_ok-head-in-TaggedBy.ensures.grows c.read_tagged_by.ensures.grows

pub read_operand-returns-in_ok-head-in-TaggedBy-clause-term : goal.read_operand-returns-in_ok-head-in-TaggedBy-clause-term
read_operand-returns-in_ok-head-in-TaggedBy-clause-term t c =
    simp (c.in-TaggedBy.is, views)
    (simp (sym c.deref-in-TaggedBy.ensures, sym c.deref-in-TaggedBy-2.ensures)
    (ok_then c.read_tagged_by.result _ _ (λ n h. h _ c.in_ok-head-in-TaggedBy.ensures.term) c.read_tagged_by.ensures.stands))

-- rows over one part

pub read_name-returns-clause-grows : goal.read_name-returns-clause-grows
read_name-returns-clause-grows t c = grown _ _ _ c.in_ok-reference.ensures.grows c.add_node.ensures.grows

pub read_name-returns-clause-stands : goal.read_name-returns-clause-stands
read_name-returns-clause-stands t c = made c.add_node.result _ _ refl c.in_ok-reference.ensures.reference no_part c.add_node.ensures.stands

pub read_inside-returns-clause-grows : goal.read_inside-returns-clause-grows
read_inside-returns-clause-grows t c = grown _ _ _ c.in_ok-inside.ensures.grows c.add_node.ensures.grows

pub read_inside-returns-clause-stands : goal.read_inside-returns-clause-stands
read_inside-returns-clause-stands t c = made c.add_node.result _ _ refl c.in_ok-inside.ensures.term no_part c.add_node.ensures.stands

pub read_bracketed-returns-clause-grows : goal.read_bracketed-returns-clause-grows
read_bracketed-returns-clause-grows t c = grown _ _ _ c.in_ok-inside.ensures.grows c.add_node.ensures.grows

pub read_bracketed-returns-clause-stands : goal.read_bracketed-returns-clause-stands
read_bracketed-returns-clause-stands t c = made c.add_node.result _ _ refl c.in_ok-inside.ensures.group no_part c.add_node.ensures.stands

pub read_tagged_by-add_node-requires-clause-first : goal.read_tagged_by-add_node-requires-clause-first
read_tagged_by-add_node-requires-clause-first t c = row_kept _ _ c.in_ok-inside.ensures.grows _ c.requires

pub read_tagged_by-add_node-requires-clause-second : goal.read_tagged_by-add_node-requires-clause-second
read_tagged_by-add_node-requires-clause-second t c = is_row c.in_ok-inside.ensures.term

pub read_tagged_by-returns-clause-grows : goal.read_tagged_by-returns-clause-grows
read_tagged_by-returns-clause-grows t c = grown _ _ _ c.in_ok-inside.ensures.grows c.add_node.ensures.grows

pub read_tagged_by-returns-clause-stands : goal.read_tagged_by-returns-clause-stands
read_tagged_by-returns-clause-stands t c = ok_then c.add_node.result _ _ (λ n s. λ h e. s h _ (kept c.in_ok-inside.ensures.grows e) c.in_ok-inside.ensures.term) c.add_node.ensures.stands

-- references

pub read_reference-returns-in_ok-arguments-in-Name-clause-grows : goal.read_reference-returns-in_ok-arguments-in-Name-clause-grows
read_reference-returns-in_ok-arguments-in-Name-clause-grows t c = grown _ _ _ c.in_ok-arguments-in-Name.ensures.grows c.add_node-in-Name.ensures.grows

pub read_reference-returns-in_ok-arguments-in-Name-clause-reference : goal.read_reference-returns-in_ok-arguments-in-Name-clause-reference
read_reference-returns-in_ok-arguments-in-Name-clause-reference t c =
    simp (c.in-Name.is, views) (made c.add_node-in-Name.result _ _ (ap Some c.text_at-text.ensures) (c.in_ok-arguments-in-Name.ensures.stands nothing nothing no_part no_part) no_part c.add_node-in-Name.ensures.stands)

pub read_reference-returns-in_ok-arguments-in-Applied-clause-grows : goal.read_reference-returns-in_ok-arguments-in-Applied-clause-grows
read_reference-returns-in_ok-arguments-in-Applied-clause-grows t c = grown _ _ _ c.in_ok-arguments-in-Applied.ensures.grows c.add_node-in-Applied.ensures.grows

pub read_reference-returns-in_ok-arguments-in-Applied-clause-reference : goal.read_reference-returns-in_ok-arguments-in-Applied-clause-reference
read_reference-returns-in_ok-arguments-in-Applied-clause-reference t c =
    simp (c.in-Applied.is, views)
    (simp (sym c.deref.ensures)
    (made c.add_node-in-Applied.result _ _ (ap Some (c.opened_name-text.ensures ∙ ap (before 60) c.text_at.ensures)) c.in_ok-arguments-in-Applied.ensures.arguments no_part c.add_node-in-Applied.ensures.stands))

-- arguments

pub read_arguments-loop-further-init : goal.read_arguments-loop-further-init
read_arguments-loop-further-init t c =
    let read = token_of c.args.tree.now in
    let others = (out-GenericArg c.args.arguments.now).others.items in
    record {
      grows = c.in_ok-number.ensures.grows;
      leads = leads_from terms_tree before_terms (view_further read) (reverse others) c.add_node.new.self c.in_ok-number.number no_terms (folded_back before_terms no_terms (map (view_further read) others)) (c.in_ok-number.ensures.stands nothing nothing no_part no_part) (back before_terms (view_further read) no_terms others);
    }

pub read_arguments-returns-in_err-argument-clause-grows : goal.read_arguments-returns-in_err-argument-clause-grows
read_arguments-returns-in_err-argument-clause-grows t c = grown _ _ _ c.loop-further.invariant.grows c.in_err-argument.ensures.grows

pub read_arguments-add_node-requires-in-loop-further-clause-first : goal.read_arguments-add_node-requires-in-loop-further-clause-first
read_arguments-add_node-requires-in-loop-further-clause-first t c = is_row c.in_ok-argument.ensures.term

pub read_arguments-add_node-requires-in-loop-further-clause-second : goal.read_arguments-add_node-requires-in-loop-further-clause-second
read_arguments-add_node-requires-in-loop-further-clause-second t c = is_row (kept c.in_ok-argument.ensures.grows c.loop-further.invariant.leads.stands)

pub read_arguments-returns-in_err-number-2-clause-grows : goal.read_arguments-returns-in_err-number-2-clause-grows
read_arguments-returns-in_err-number-2-clause-grows t c = grown _ _ _ c.loop-further.invariant.grows (grown _ _ _ c.in_ok-argument.ensures.grows c.in_err-number-2.ensures.grows)

pub read_arguments-loop-further-preserved : goal.read_arguments-loop-further-preserved
read_arguments-loop-further-preserved t c =
    let read = token_of c.args.tree.now in
    let others = (out-GenericArg c.args.arguments.now).others.items in
    let n = length c.loop-further.yielded in
    let new = c.add_node-in-loop-further.new.self in
    let whole = folded_back before_terms no_terms (map (view_further read) others) in
    let turn = YieldsList-turn (YieldsList-from_rev_slice others (search rules)) c.loop-further.yielded _ c.loop-further.yielded_by _ c.next.new.self c.in-Some.further c.in-Some.is c.next.ensures.steps in
    record {
      grows = grown _ _ _ c.loop-further.invariant.grows (grown _ _ _ c.in_ok-argument.ensures.grows c.in_ok-number-2.ensures.grows);
      leads =
          subst (λ k. Leads terms_tree before_terms new c.in_ok-number-2.number (map (view_further read) (drop k (reverse others))) whole) (sym (length_push c.loop-further.yielded c.in-Some.further))
          (leads_on terms_tree before_terms (view_further read) (further_tree read) argument_built (argument_same read) (reverse others) n c.in-Some.further.now turn.0 turn.1 _ _ new c.loop-further.number c.in_ok-argument.argument c.in_ok-number-2.number whole c.loop-further.invariant.leads c.in_ok-argument.ensures.grows c.in_ok-argument.ensures.term (λ a b h k. c.in_ok-number-2.ensures.stands b a k h));
    }

pub read_arguments-returns-in_err-argument-2-clause-grows : goal.read_arguments-returns-in_err-argument-2-clause-grows
read_arguments-returns-in_err-argument-2-clause-grows t c = grown _ _ _ c.loop-further.invariant.grows c.in_err-argument-2.ensures.grows

pub read_arguments-add_node-requires-2-clause-first : goal.read_arguments-add_node-requires-2-clause-first
read_arguments-add_node-requires-2-clause-first t c = is_row c.in_ok-argument-2.ensures.term

pub read_arguments-add_node-requires-2-clause-second : goal.read_arguments-add_node-requires-2-clause-second
read_arguments-add_node-requires-2-clause-second t c = is_row (kept c.in_ok-argument-2.ensures.grows c.loop-further.invariant.leads.stands)

pub read_arguments-returns-clause-grows : goal.read_arguments-returns-clause-grows
read_arguments-returns-clause-grows t c = grown _ _ _ c.loop-further.invariant.grows (grown _ _ _ c.in_ok-argument-2.ensures.grows c.add_node-2.ensures.grows)

pub read_arguments-returns-clause-arguments : goal.read_arguments-returns-clause-arguments
read_arguments-returns-clause-arguments t c =
    let read = token_of c.args.tree.now in
    let x = c.args.arguments.now in
    let others = (out-GenericArg x).others.items in
    let end = YieldsList-end (YieldsList-from_rev_slice others (search rules)) c.loop-further.yielded _ c.loop-further.yielded_by _ c.next.new.self c.in-None.is c.next.ensures.steps in
    let all = leads_to terms_tree before_terms (view_further read) (reverse others) (length c.loop-further.yielded) c.loop-further.terms c.loop-further.number _ c.loop-further.invariant.leads (omega (arith, end.1)) in
    subst (λ ts. IfOk c.add_node-2.result (λ n. IsTerms c.add_node-2.new.self n ts)) (arguments_whole read x)
    (made c.add_node-2.result _ _ refl c.in_ok-argument-2.ensures.term (kept c.in_ok-argument-2.ensures.grows all) c.add_node-2.ensures.stands)

-- entries

pub read_entries-loop-entry-init : goal.read_entries-loop-entry-init
read_entries-loop-entry-init t c =
    let read = token_of c.args.tree.now in
    let items = c.deref-entry-items.result.now in
    record {
      grows = c.in_ok-number.ensures.grows;
      leads = leads_from entries_tree entry_more (view_entry read) items c.add_node.new.self c.in_ok-number.number no_entries (entries_of (with_entries S.no_entries (map (view_entry read) items))) (c.in_ok-number.ensures.stands nothing nothing no_part no_part) (entries_folded S.no_entries (map (view_entry read) items));
    }

pub read_entries-returns-in_err-next-clause-grows : goal.read_entries-returns-in_err-next-clause-grows
read_entries-returns-in_err-next-clause-grows t c = grown _ _ _ c.loop-entry.invariant.grows c.in_err-next.ensures.grows

pub read_entries-add_node-requires-in-loop-entry-clause-first : goal.read_entries-add_node-requires-in-loop-entry-clause-first
read_entries-add_node-requires-in-loop-entry-clause-first t c = is_row (kept c.in_ok-next.ensures.grows c.loop-entry.invariant.leads.stands)

pub read_entries-add_node-requires-in-loop-entry-clause-second : goal.read_entries-add_node-requires-in-loop-entry-clause-second
read_entries-add_node-requires-in-loop-entry-clause-second t c = is_row c.in_ok-next.ensures.entry

pub read_entries-returns-in_err-number-2-clause-grows : goal.read_entries-returns-in_err-number-2-clause-grows
read_entries-returns-in_err-number-2-clause-grows t c = grown _ _ _ c.loop-entry.invariant.grows (grown _ _ _ c.in_ok-next.ensures.grows c.in_err-number-2.ensures.grows)

pub read_entries-loop-entry-preserved : goal.read_entries-loop-entry-preserved
read_entries-loop-entry-preserved t c =
    let read = token_of c.args.tree.now in
    let new = c.add_node-in-loop-entry.new.self in
    record {
      grows = grown _ _ _ c.loop-entry.invariant.grows (grown _ _ _ c.in_ok-next.ensures.grows c.in_ok-number-2.ensures.grows);
      leads = leads_on entries_tree entry_more (view_entry read) (entry_part read) entry_built (entry_same read) c.deref-entry-items.result.now c.loop-entry.entry-index c.entry-item.result c.loop-entry-test.true c.entry-item.is _ _ new c.loop-entry.number c.in_ok-next.next c.in_ok-number-2.number _ c.loop-entry.invariant.leads c.in_ok-next.ensures.grows c.in_ok-next.ensures.entry
          (λ a b h k. subst (λ f. Holds new (Some c.in_ok-number-2.number) (node f None a b)) c.entries_form.ensures (c.in_ok-number-2.ensures.stands a b h k));
    }

pub read_entries-returns-clause-entries : goal.read_entries-returns-clause-entries
read_entries-returns-clause-entries t c =
    let read = token_of c.args.tree.now in
    subst (λ xs. IsEntries c.loop-entry.terms c.loop-entry.number (entries_of (with_entries S.no_entries (map (view_entry read) xs)))) c.deref-entry-items.ensures.value
    (leads_to entries_tree entry_more (view_entry read) c.deref-entry-items.result.now c.loop-entry.entry-index c.loop-entry.terms c.loop-entry.number _ c.loop-entry.invariant.leads c.loop-entry-test.false)

pub read_entry-returns-in-Typed-clause-entry : goal.read_entry-returns-in-Typed-clause-entry
read_entry-returns-in-Typed-clause-entry t c = simp (c.in-Typed.is, views) (with_text c.read_inside.result _ _ _ _ c.occurrence-occur.ensures c.read_inside.ensures.stands)

pub read_entry-returns-in_err-types-in-Keyed-clause-grows : goal.read_entry-returns-in_err-types-in-Keyed-clause-grows
read_entry-returns-in_err-types-in-Keyed-clause-grows t c = grown _ _ _ c.in_ok-key-in-Keyed.ensures.grows c.in_err-types-in-Keyed.ensures.grows

pub read_entry-add_node-requires-clause-first : goal.read_entry-add_node-requires-clause-first
read_entry-add_node-requires-clause-first t c = is_row (kept c.in_ok-types-in-Keyed.ensures.grows c.in_ok-key-in-Keyed.ensures.key)

pub read_entry-add_node-requires-clause-second : goal.read_entry-add_node-requires-clause-second
read_entry-add_node-requires-clause-second t c = is_row c.in_ok-types-in-Keyed.ensures.term

pub read_entry-returns-in_ok-types-in-Keyed-clause-grows : goal.read_entry-returns-in_ok-types-in-Keyed-clause-grows
read_entry-returns-in_ok-types-in-Keyed-clause-grows t c = grown _ _ _ c.in_ok-key-in-Keyed.ensures.grows (grown _ _ _ c.in_ok-types-in-Keyed.ensures.grows c.add_node.ensures.grows)

pub read_entry-returns-in_ok-types-in-Keyed-clause-entry : goal.read_entry-returns-in_ok-types-in-Keyed-clause-entry
read_entry-returns-in_ok-types-in-Keyed-clause-entry t c =
    simp (c.in-Keyed.is, views)
    (simp (sym c.deref.ensures)
    (made c.add_node.result _ _ c.occurrence-occur-in-Keyed.ensures (kept c.in_ok-types-in-Keyed.ensures.grows c.in_ok-key-in-Keyed.ensures.key) c.in_ok-types-in-Keyed.ensures.term c.add_node.ensures.stands))

pub read_entry-add_node-requires-in-Grouped-clause-first : goal.read_entry-add_node-requires-in-Grouped-clause-first
read_entry-add_node-requires-in-Grouped-clause-first t c = is_row c.in_ok-group-in-Grouped.ensures.group

pub read_entry-returns-in_ok-group-in-Grouped-clause-grows : goal.read_entry-returns-in_ok-group-in-Grouped-clause-grows
read_entry-returns-in_ok-group-in-Grouped-clause-grows t c = grown _ _ _ c.in_ok-group-in-Grouped.ensures.grows c.add_node-in-Grouped.ensures.grows

pub read_entry-returns-in_ok-group-in-Grouped-clause-entry : goal.read_entry-returns-in_ok-group-in-Grouped-clause-entry
read_entry-returns-in_ok-group-in-Grouped-clause-entry t c =
    simp (c.in-Grouped.is, views) (made c.add_node-in-Grouped.result _ _ c.occurrence-occur-in-Grouped.ensures c.in_ok-group-in-Grouped.ensures.group no_part c.add_node-in-Grouped.ensures.stands)

-- alternatives

pub read_group-loop-choice-init : goal.read_group-loop-choice-init
read_group-loop-choice-init t c =
    let read = token_of c.args.tree.now in
    let x = c.args.group.now in
    let first = sole (entries_of (with_entries S.no_entries (map (view_entry read) (out-Group x).first.items))) in
    record {
      grows = grown _ _ _ c.in_ok-first.ensures.grows c.in_ok-number.ensures.grows;
      leads =
          leads_from group_tree choice_more (view_choice read) c.deref-choice-items.result.now c.add_node.new.self c.in_ok-number.number first (group_of (view_group read x)) (c.in_ok-number.ensures.stands _ _ c.in_ok-first.ensures.entries no_part)
          (ap (λ xs. folded choice_more first (map (view_choice read) xs)) c.deref-choice-items.ensures.value ∙ group_whole read x);
    }

pub read_group-returns-in_err-next-clause-grows : goal.read_group-returns-in_err-next-clause-grows
read_group-returns-in_err-next-clause-grows t c = grown _ _ _ c.loop-choice.invariant.grows c.in_err-next.ensures.grows

pub read_group-add_node-requires-in-loop-choice-clause-first : goal.read_group-add_node-requires-in-loop-choice-clause-first
read_group-add_node-requires-in-loop-choice-clause-first t c = is_row (kept c.in_ok-next.ensures.grows c.loop-choice.invariant.leads.stands)

pub read_group-add_node-requires-in-loop-choice-clause-second : goal.read_group-add_node-requires-in-loop-choice-clause-second
read_group-add_node-requires-in-loop-choice-clause-second t c = is_row c.in_ok-next.ensures.entries

pub read_group-returns-in_err-number-2-clause-grows : goal.read_group-returns-in_err-number-2-clause-grows
read_group-returns-in_err-number-2-clause-grows t c = grown _ _ _ c.loop-choice.invariant.grows (grown _ _ _ c.in_ok-next.ensures.grows c.in_err-number-2.ensures.grows)

pub read_group-loop-choice-preserved : goal.read_group-loop-choice-preserved
read_group-loop-choice-preserved t c =
    let read = token_of c.args.tree.now in
    record {
      grows = grown _ _ _ c.loop-choice.invariant.grows (grown _ _ _ c.in_ok-next.ensures.grows c.in_ok-number-2.ensures.grows);
      leads = leads_on group_tree choice_more (view_choice read) (choice_part read) choice_built (choice_same read) c.deref-choice-items.result.now c.loop-choice.choice-index c.choice-item.result c.loop-choice-test.true c.choice-item.is _ _ _ c.loop-choice.number c.in_ok-next.next c.in_ok-number-2.number _ c.loop-choice.invariant.leads c.in_ok-next.ensures.grows c.in_ok-next.ensures.entries c.in_ok-number-2.ensures.stands;
    }

pub read_group-returns-clause-group : goal.read_group-returns-clause-group
read_group-returns-clause-group t c =
    let read = token_of c.args.tree.now in
    leads_to group_tree choice_more (view_choice read) c.deref-choice-items.result.now c.loop-choice.choice-index c.loop-choice.terms c.loop-choice.number _ c.loop-choice.invariant.leads c.loop-choice-test.false

-- keys

pub read_key-returns-in_ok-number-in-TypeKey-clause-grows : goal.read_key-returns-in_ok-number-in-TypeKey-clause-grows
read_key-returns-in_ok-number-in-TypeKey-clause-grows t c = grown _ _ _ c.in_ok-number-in-TypeKey.ensures.grows c.add_node.ensures.grows

pub read_key-returns-in_ok-number-in-TypeKey-clause-key : goal.read_key-returns-in_ok-number-in-TypeKey-clause-key
read_key-returns-in_ok-number-in-TypeKey-clause-key t c =
    simp (c.in-TypeKey.is, views)
    (with_form c.add_node.result _ _ _ _ (c.key_form.ensures ∙ ap key_form (sym (still_there (token_of c.args.tree.now) c.in-TypeKey.cut)))
    (made c.add_node.result _ _ refl c.in_ok-number-in-TypeKey.ensures.term no_part c.add_node.ensures.stands))

pub read_key-returns-in_ok-number-in-ValueKey-clause-grows : goal.read_key-returns-in_ok-number-in-ValueKey-clause-grows
read_key-returns-in_ok-number-in-ValueKey-clause-grows t c = grown _ _ _ c.in_ok-number-in-ValueKey.ensures.grows c.add_node-in-ValueKey.ensures.grows

pub read_key-returns-in_ok-number-in-ValueKey-clause-key : goal.read_key-returns-in_ok-number-in-ValueKey-clause-key
read_key-returns-in_ok-number-in-ValueKey-clause-key t c =
    simp (c.in-ValueKey.is, views) (made c.add_node-in-ValueKey.result _ _ refl c.in_ok-number-in-ValueKey.ensures.literal no_part c.add_node-in-ValueKey.ensures.stands)

pub read_key-returns-in-Bareword-clause-key : goal.read_key-returns-in-Bareword-clause-key
read_key-returns-in-Bareword-clause-key t c = simp (c.in-Bareword.is, views) c.add_leaf.ensures.stands
