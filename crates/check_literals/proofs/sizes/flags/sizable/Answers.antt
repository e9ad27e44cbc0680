use Rattle.std.proofs.Common.{Option, ℕ, List, ◌∙◌, ap, map, subst}
use Rattle.lists.proofs.Lemmas.{ok_then}
use Rattle.cddl_language.specs.Reading.{definitions_in, rules_of}
use Rattle.check_terms.specs.Texts.Controls.{membership_view}
use Rattle.check_literals.specs.declared.sizes.sources.Source.{Source}
use Rattle.check_literals.specs.Sizes.Depths.{AreDepths, is_few}
use Rattle.check_literals.proofs.OfSizes.Going.{are_sizable}
use Rattle.check_literals.proofs.OfSizes.Induction.{AreGiven}
use Rattle.check_literals.proofs.sizes.flags.sizable.Goals as goal

pub returns : goal.returns
returns c = ok_then c.flags_of.result _ _ (λ v e x worth root refs right is kinds values rows.
    let xs = definitions_in (rules_of x) in
    let t = c.args.terms.now in
    let closed = c.args.closed.now in
    let ss : List Source = c.in_ok-sources.sources.items in
    let ds : List (Option ℕ) = c.in_ok-depths.depths.items in
    let given : AreGiven (membership_view c.args.membership) xs root worth refs t closed c.args.kinds.now c.args.literals.now c.args.groups.now ss = record {
      kinds = kinds;
      values = values;
      sources = c.in_ok-sources.ensures;
      rows = rows;
      places = λ n r i reach. c.place_of.ensures xs root refs closed n r is i reach;
      meanings = λ k r h. c.meaning_at.ensures xs root refs t closed k r is h;
      choices = λ r y reach q. (c.meanings_are_reached.ensures.types xs root r y reach q, c.reached_values.ensures.types x worth right root r reach y q);
      groups = λ r g reach q. c.meanings_are_reached.ensures.group xs root r g reach q;
      written = λ r es reach q. c.reached_values.ensures.alternatives x worth right root r reach es q;
      opened_written = λ r g reach q. c.reached_values.ensures.opened_group x worth right root r reach g q;
      part_named = λ y r reach q. c.part_is_reached.ensures.named xs root y r reach q;
      part_opened = λ y r g reach q. c.part_is_reached.ensures.opened xs root y r g reach q;
    } in
    let depths : AreDepths ss ds = subst (λ us. AreDepths us ds) c.deref.ensures.value c.in_ok-depths.ensures in
    are_sizable (membership_view c.args.membership) xs root worth refs t closed c.args.kinds.now c.args.literals.now c.args.groups.now ss given ds depths v.items (e ∙ ap (map is_few) c.deref-2.ensures.value)) c.flags_of.ensures
