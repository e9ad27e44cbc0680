use Rattle.std.proofs.Common.{drop, length, map, reverse}
use Rattle.cddl_language.specs.Reading.{term_of, group_of, entries_of}
use Rattle.cddl_language.specs.Terms.{no_terms}
use Rattle.tree_nodes.specs.Syntax.Syntax as S
use Rattle.check_terms.specs.Table.{Grows}
use Rattle.check_terms.specs.Trees.{term_tree, terms_tree, group_tree, entries_tree}
use Rattle.tree_nodes.specs.declared.tree.GrpEnt.TheViews.{out-GenericArg}
use Rattle.tree_nodes.specs.View.{token_of, view_types, view_further, view_group, view_choice, view_entry, with_entries}
use Rattle.check_reading.proofs.OfReader.Lists.{Leads, folded_back}
use Rattle.check_reading.proofs.OfReader.Members.{or_more, before_terms, entry_more, choice_more}
use Rattle.check_reading.proofs.reader.nodes.+nodes.Given as goal

-- what is read so far, with what is left, is the whole
abbrev pub invariant-read_types-loop-further : goal.invariant-read_types-loop-further
invariant-read_types-loop-further l = record {
  grows : Grows l.fn.terms l.terms;
  leads : Leads term_tree or_more l.terms l.number (map (view_further (token_of l.tree)) (drop l.further-index l.further-items)) (term_of (view_types (token_of l.tree) l.types));
}

abbrev pub invariant-read_group-loop-choice : goal.invariant-read_group-loop-choice
invariant-read_group-loop-choice l = record {
  grows : Grows l.fn.terms l.terms;
  leads : Leads group_tree choice_more l.terms l.number (map (view_choice (token_of l.tree)) (drop l.choice-index l.choice-items)) (group_of (view_group (token_of l.tree) l.group));
}

abbrev pub invariant-read_entries-loop-entry : goal.invariant-read_entries-loop-entry
invariant-read_entries-loop-entry l = record {
  grows : Grows l.fn.terms l.terms;
  leads : Leads entries_tree entry_more l.terms l.number (map (view_entry (token_of l.tree)) (drop l.entry-index l.entry-items)) (entries_of (with_entries S.no_entries (map (view_entry (token_of l.tree)) l.entry-items)));
}

abbrev pub invariant-read_arguments-loop-further : goal.invariant-read_arguments-loop-further
invariant-read_arguments-loop-further l = record {
  grows : Grows l.fn.terms l.terms;
  leads : Leads terms_tree before_terms l.terms l.number (map (view_further (token_of l.tree)) (drop (length l.yielded) (reverse (out-GenericArg l.arguments).others.items))) (folded_back before_terms no_terms (map (view_further (token_of l.tree)) (out-GenericArg l.arguments).others.items));
}
