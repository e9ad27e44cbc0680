-- The lists of the nodes: members of a choice, arguments, entries and alternatives.
use Rattle.std.proofs.Common.{◌≡◌, Option, None, Some, List, [], ◌∷◌, map, refl, sym, ap, ◌∙◌}
use Rattle.std.specs.Prelude.{is_some}
use Rattle.cddl_token.specs.declared.Token.{Token}
use Rattle.cddl_language.specs.Reading.{term_of, term_of1, terms_of, followed, group_of, entries_of, entry_of}
use Rattle.cddl_language.specs.Terms.{Term, or, Terms, no_terms, term, Group, sole, orelse, Entries, entries}
use Rattle.tree_nodes.specs.Syntax.Syntax as S
use Rattle.check_terms.specs.declared.row.Form.TheVariants as F
use Rattle.check_terms.specs.Table.{Tree, node}
use Rattle.check_terms.specs.Trees.{term_tree, terms_tree, group_tree, entries_tree, entry_tree, entries_form}
use Rattle.tree_nodes.specs.declared.tree.Leaf.{Leaf}
use Rattle.tree_nodes.specs.declared.tree.Types.{Types}
use Rattle.tree_nodes.specs.declared.tree.Further.{Further}
use Rattle.tree_nodes.specs.declared.tree.GenericArg.{GenericArg}
use Rattle.tree_nodes.specs.declared.tree.Group.{Group as GroupNode}
use Rattle.tree_nodes.specs.declared.tree.GrpChoice.{GrpChoice}
use Rattle.tree_nodes.specs.declared.tree.Entry.{Entry as EntryNode}
use Rattle.tree_nodes.specs.declared.tree.GrpEnt.TheViews.{out-Types, out-GenericArg, out-Group, out-GrpChoice}
use Rattle.tree_nodes.specs.View.{leaf, view_types, view_type1, view_further, view_arg, view_group, view_choice, view_entry, view_grpent, with_types, with_arguments, with_entries, with_choices}
use Rattle.tree_nodes.proofs.Lemmas.{view_out-Types, view_out-GenericArg, view_out-Group, view_out-GrpChoice, view-Further, view-Entry}
use Rattle.check_reading.proofs.OfReader.Lists.{folded, folded_back}

-- members of a choice

abbrev pub or_more : Term → Token × S.Type1 → Term
or_more t x = or t (term_of1 x.1)

types_folded : (t : S.Types) (xs : List (Token × S.Type1)) → folded or_more (term_of t) xs ≡ term_of (with_types t xs)
types_folded t [] = refl
types_folded t (x ∷ xs) = types_folded (S.or t x.0 x.1) xs

abbrev pub or_built : Further → Tree → Tree → Tree
or_built x a b = node F.Or None a b

module _ (read : Leaf → Token) where
  pub types_whole : (x : Types) → folded or_more (term_of1 (view_type1 read (out-Types x).first)) (map (view_further read) (out-Types x).others.items) ≡ term_of (view_types read x)
  types_whole x = types_folded (S.only (view_type1 read (out-Types x).first)) (map (view_further read) (out-Types x).others.items) ∙ ap term_of (sym (view_out-Types read x))

  abbrev pub further_tree : Further → Tree
  further_tree x = term_tree (term_of1 (view_type1 read x.type1))

  pub or_same : (t : Term) (x : Further) → term_tree (or_more t (view_further read x)) ≡ or_built x (term_tree t) (further_tree x)
  or_same t x = ap (λ (p : Token × S.Type1). node F.Or None (term_tree t) (term_tree (term_of1 p.1))) (view-Further read x.sign x.type1)

-- arguments

abbrev pub before_terms : Terms → Token × S.Type1 → Terms
before_terms ts x = term (term_of1 x.1) ts

appended : Terms → Terms → Terms
appended no_terms us = us
appended (term t ts) us = term t (appended ts us)

appended_none : (ts : Terms) → appended ts no_terms ≡ ts
unfolding appended
appended_none no_terms = refl
appended_none (term t ts) = ap (term t) (appended_none ts)

followed_appended : (ts : Terms) (u : Term) (us : Terms) → appended (followed ts u) us ≡ appended ts (term u us)
unfolding appended
followed_appended no_terms u us = refl
followed_appended (term t ts) u us = ap (term t) (followed_appended ts u us)

arguments_folded : (a : S.GenericArg) (xs : List (Token × S.Type1)) → terms_of (with_arguments a xs) ≡ appended (terms_of a) (folded_back before_terms no_terms xs)
unfolding appended
arguments_folded a [] = sym (appended_none (terms_of a))
arguments_folded a (x ∷ xs) = arguments_folded (S.arguments a x.0 x.1) xs ∙ followed_appended (terms_of a) (term_of1 x.1) (folded_back before_terms no_terms xs)

abbrev pub argument_built : Further → Tree → Tree → Tree
argument_built x a b = node F.Argument None b a

module _ (read : Leaf → Token) where
  pub arguments_whole : (x : GenericArg) → term (term_of1 (view_type1 read (out-GenericArg x).first)) (folded_back before_terms no_terms (map (view_further read) (out-GenericArg x).others.items)) ≡ terms_of (view_arg read x)
  unfolding appended
  arguments_whole x = sym (ap terms_of (view_out-GenericArg read x) ∙ arguments_folded (S.argument (view_type1 read (out-GenericArg x).first)) (map (view_further read) (out-GenericArg x).others.items))

  pub argument_same : (ts : Terms) (x : Further) → terms_tree (before_terms ts (view_further read x)) ≡ argument_built x (terms_tree ts) (further_tree read x)
  argument_same ts x = ap (λ (p : Token × S.Type1). node F.Argument None (term_tree (term_of1 p.1)) (terms_tree ts)) (view-Further read x.sign x.type1)

-- entries

abbrev pub entry_more : Entries → S.GrpEnt × Option Token → Entries
entry_more es x = entries es (entry_of x.0) (is_some x.1)

pub entries_folded : (es : S.GrpChoice) (xs : List (S.GrpEnt × Option Token)) → folded entry_more (entries_of es) xs ≡ entries_of (with_entries es xs)
entries_folded es [] = refl
entries_folded es (x ∷ xs) = entries_folded (S.entries es x.0 x.1) xs

pub still_there : (read : Leaf → Token) (o : Option Leaf) → is_some (leaf read o) ≡ is_some o
still_there read None = refl
still_there read (Some t) = refl

abbrev pub entry_built : EntryNode → Tree → Tree → Tree
entry_built x a b = node (entries_form (is_some x.comma)) None a b

module _ (read : Leaf → Token) where
  abbrev pub entry_part : EntryNode → Tree
  entry_part x = entry_tree (entry_of (view_grpent read x.grpent))

  pub entry_same : (es : Entries) (x : EntryNode) → entries_tree (entry_more es (view_entry read x)) ≡ entry_built x (entries_tree es) (entry_part x)
  entry_same es x = ap (λ (p : S.GrpEnt × Option Token). node (entries_form (is_some p.1)) None (entries_tree es) (entry_tree (entry_of p.0))) (view-Entry read x.grpent x.comma) ∙ ap (λ b. node (entries_form b) None (entries_tree es) (entry_part x)) (still_there read x.comma)

-- alternatives

abbrev pub choice_more : Group → Token × S.GrpChoice → Group
choice_more g x = orelse g (entries_of x.1)

choices_folded : (g : S.Group) (xs : List (Token × S.GrpChoice)) → folded choice_more (group_of g) xs ≡ group_of (with_choices g xs)
choices_folded g [] = refl
choices_folded g (x ∷ xs) = choices_folded (S.orelse g x.0 x.1) xs

abbrev pub choice_built : GrpChoice → Tree → Tree → Tree
choice_built x a b = node F.OrElse None a b

module _ (read : Leaf → Token) where
  pub group_whole : (x : GroupNode) → folded choice_more (sole (entries_of (with_entries S.no_entries (map (view_entry read) (out-Group x).first.items)))) (map (view_choice read) (out-Group x).others.items) ≡ group_of (view_group read x)
  group_whole x = choices_folded (S.sole (with_entries S.no_entries (map (view_entry read) (out-Group x).first.items))) (map (view_choice read) (out-Group x).others.items) ∙ ap group_of (sym (view_out-Group read x))

  abbrev pub choice_part : GrpChoice → Tree
  choice_part x = entries_tree (entries_of (with_entries S.no_entries (map (view_entry read) (out-GrpChoice x).entries.items)))

  pub choice_same : (g : Group) (x : GrpChoice) → group_tree (choice_more g (view_choice read x)) ≡ choice_built x (group_tree g) (choice_part x)
  choice_same g x = ap (λ (p : Token × S.GrpChoice). node F.OrElse None (group_tree g) (entries_tree (entries_of p.1))) (view_out-GrpChoice read x)
