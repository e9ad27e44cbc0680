use Rattle.std.proofs.Common.{map, sym, subst, vec_items}
use Rattle.check_groups.specs.Choosing.Signs.{HaveEntries}
use Rattle.cddl_language.specs.Maps.{map_alternatives}
use Rattle.cddl_language.specs.Reading.{rules_of}
use Rattle.cddl_language.specs.Terms.{alternatives}
use Rattle.check_groups.specs.Splices.Maps.{AreAlternatives}
use Rattle.table_making.proofs.Knowing.{group_known}
use Rattle.table_making.proofs.Mapping.{map_formed, no_map_formed, untold}
use Rattle.table_making.proofs.maps.map_form.Goals as goal

pub returns-then-not-stands_for_some : goal.returns-then-not-stands_for_some
returns-then-not-stands_for_some c s g src is re = no_map_formed s c.args.terms.now (map_alternatives s.definitions g) _ (λ mss e. (
    let nss = c.parts_stand_for_maps.ensures.some s.definitions s.root c.args.terms.now c.args.source.now.parts.now src.parts_are c.args.group g is re.0 mss e in
    let told = c.all_described.ensures c.args.source.now.parts.now c.args.source.now.summaries.now src.summaries_are c.args.group nss.0 nss.1 in
    untold _ told.0 (sym c.if-not-stands_for_some.ensures) told.1)) c.nothing.ensures

pub returns : goal.returns
returns c s g src is re =
    let t = c.args.terms.now in
    let entries = subst HaveEntries (sym src.defined) (c.texts_have_entries.ensures (rules_of s.tree)) in
    let stands = c.in-Ok-Some.ensures.right src.summaries_are in
    let found = c.parts_stand_for_maps.ensures.only s.definitions s.root s.refs t c.args.source.now.parts.now entries src.closed.instances src.closed.few src.parts_are c.args.group g is re.0 (map vec_items c.in-Ok-Some.members.items) (rw c.in-Ok-Some.field-0-is at stands) in
    let known = c.known_members.ensures s t c.args.source.now src (alternatives g) (group_known s g re) found.0 found.1 in
    map_formed s t (map_alternatives s.definitions g) found.0 c.in_ok-forms.forms.items found.1 (c.in_ok-forms.ensures s found.0 (subst (λ vs. AreAlternatives t found.0 (map vec_items vs)) (sym c.deref.ensures.value) found.2) known)
