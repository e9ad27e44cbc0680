use Rattle.std.proofs.Common.{◌≡◌, List, Some, subst, sym}
use Rattle.std.specs.Prelude.{Contains}
use Rattle.cddl_language.specs.Kinds.{opened, opens_group, opens_type}
use Rattle.cddl_language.specs.Reach.{Reaches}
use Rattle.cddl_language.specs.Substitution.{group_choices, type_choices}
use Rattle.cddl_language.specs.Terms.{Definition, Entries, Group, Term}
use Rattle.cddl_language.specs.Written.Written.{AllIn, AllInEntries, AllInGroup, IsMeant}
use Rattle.table_making.specs.Origins.{AllInEach}
use Rattle.table_making.proofs.Knowing.{each_contained_in, group_by_each}
use Rattle.table_making.proofs.Reaching.{all_reached}
use Rattle.table_making.proofs.laws.known_instances.Goals as goal

pub returns-clause-types : goal.returns-clause-types
returns-clause-types c = λ s t src is r reaches x h.
    let values = subst (λ (ds : List Definition). Reaches ds s.root r → (x : Term) → Contains (type_choices ds r) x → AllIn (IsMeant s.worth) x) (sym is.defined) (c.reached_values.ensures.types s.tree s.worth is.right s.root r) in
    (c.meanings_are_reached.ensures.types s.definitions s.root r x reaches h, values reaches x h)

pub returns-clause-alternatives : goal.returns-clause-alternatives
returns-clause-alternatives c = λ s t src is r reaches.
    let values = subst (λ (ds : List Definition). Reaches ds s.root r → (es : Entries) → Contains (group_choices ds r) es → AllInEntries (IsMeant s.worth) es) (sym is.defined) (c.reached_values.ensures.alternatives s.tree s.worth is.right s.root r) in
    (all_reached s (group_choices s.definitions r) (λ es h. c.meanings_are_reached.ensures.alternatives s.definitions s.root r es reaches h), each_contained_in (IsMeant s.worth) (group_choices s.definitions r) (values reaches))

pub returns-clause-group : goal.returns-clause-group
returns-clause-group c = λ s t src is r reaches g e.
    let values = subst (λ (ds : List Definition). Reaches ds s.root r → (es : Entries) → Contains (group_choices ds r) es → AllInEntries (IsMeant s.worth) es) (sym is.defined) (c.reached_values.ensures.alternatives s.tree s.worth is.right s.root r) in
    let each = each_contained_in (IsMeant s.worth) (group_choices s.definitions r) (values reaches) in
    (c.meanings_are_reached.ensures.group s.definitions s.root r g reaches e, group_by_each (IsMeant s.worth) g (subst (AllInEach (IsMeant s.worth)) (sym e) each))

pub returns-clause-opened_group : goal.returns-clause-opened_group
returns-clause-opened_group c = λ s t src is r reaches g e.
    let values = subst (λ (ds : List Definition). Reaches ds s.root r → (g : Group) → opened ds r ≡ Some (opens_group g) → AllInGroup (IsMeant s.worth) g) (sym is.defined) (c.reached_values.ensures.opened_group s.tree s.worth is.right s.root r) in
    (c.opened_is_reached.ensures.group s.definitions s.root r g reaches e, values reaches g e)

pub returns-clause-content : goal.returns-clause-content
returns-clause-content c = λ s t src is r reaches x e.
    let values = subst (λ (ds : List Definition). Reaches ds s.root r → (x : Term) → opened ds r ≡ Some (opens_type x) → AllIn (IsMeant s.worth) x) (sym is.defined) (c.reached_values.ensures.content s.tree s.worth is.right s.root r) in
    (c.opened_is_reached.ensures.content s.definitions s.root r x reaches e, values reaches x e)
