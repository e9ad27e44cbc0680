-- In what a root leads to, each written value is taken for what it stands for.
use Rattle.std.proofs.Common.{◌≡◌, Some, subst}
use Rattle.std.specs.Prelude.{Contains}
use Rattle.tree_nodes.specs.Syntax.Syntax.{Cddl}
use Rattle.cddl_language.specs.Terms.{Text, Term, Ref, Group, Entries}
use Rattle.cddl_language.specs.Kinds.{opened, opens_group, opens_type}
use Rattle.cddl_language.specs.Literals.{AreRight, Values}
use Rattle.cddl_language.specs.Reach.{Reaches}
use Rattle.cddl_language.specs.Reading.{definitions_in, rules_of}
use Rattle.cddl_language.specs.Substitution.{group_choices, type_choices}
use Rattle.cddl_language.specs.Written.Written.{AllIn, AllInRef, AllInGroup, AllInEntries, IsMeant}
use Rattle.cddl_language.proofs.OfWritten.Found.{AllDefinitions, in_tree}
use Rattle.cddl_language.proofs.OfWritten.Reached.{AllInOpened, in_group_choices, in_opened, in_reached, in_type_choices, one_alternative, one_term}

module _ (x : Cddl) (worth : Values) (right : AreRight x worth) where
  definitions_meant : AllDefinitions (IsMeant worth) (definitions_in (rules_of x))
  definitions_meant = in_tree (IsMeant worth) x (λ v h. right v h)

  module _ (root : Text) (r : Ref) (reaches : Reaches (definitions_in (rules_of x)) root r) where
    pub reference_meant : AllInRef (IsMeant worth) r
    reference_meant = in_reached (IsMeant worth) (definitions_in (rules_of x)) root r definitions_meant reaches

    pub types_meant : (t : Term) → Contains (type_choices (definitions_in (rules_of x)) r) t → AllIn (IsMeant worth) t
    types_meant t c = one_term (IsMeant worth) (type_choices (definitions_in (rules_of x)) r) t (in_type_choices (IsMeant worth) (definitions_in (rules_of x)) r definitions_meant reference_meant) c

    pub entries_meant : (es : Entries) → Contains (group_choices (definitions_in (rules_of x)) r) es → AllInEntries (IsMeant worth) es
    entries_meant es c = one_alternative (IsMeant worth) (group_choices (definitions_in (rules_of x)) r) es (in_group_choices (IsMeant worth) (definitions_in (rules_of x)) r definitions_meant reference_meant) c

    pub group_meant : (g : Group) → opened (definitions_in (rules_of x)) r ≡ Some (opens_group g) → AllInGroup (IsMeant worth) g
    group_meant g e = subst (AllInOpened (IsMeant worth)) e (in_opened (IsMeant worth) (definitions_in (rules_of x)) r definitions_meant reference_meant)

    pub content_meant : (t : Term) → opened (definitions_in (rules_of x)) r ≡ Some (opens_type t) → AllIn (IsMeant worth) t
    content_meant t e = subst (AllInOpened (IsMeant worth)) e (in_opened (IsMeant worth) (definitions_in (rules_of x)) r definitions_meant reference_meant)
