use Rattle.std.proofs.Common.{List, subst}
use Rattle.cddl_language.specs.Reading.{definitions_in, rules_of}
use Rattle.check_terms.specs.Texts.Controls.{membership_view}
use Rattle.check_literals.specs.declared.sizes.sources.Source.{Source}
use Rattle.check_literals.specs.Sizes.Controllers.{AreListed}
use Rattle.check_literals.proofs.OfSizes.Induction.{AreGiven}
use Rattle.check_literals.proofs.OfSizes.Lists.{ok_with}
use Rattle.check_literals.proofs.OfSizes.Same.{are_sizes}
use Rattle.check_literals.proofs.sizes.sets.sizes_of.Goals as goal

pub returns : goal.returns
returns c = ok_with c.listed.result _ _ _ (λ z listed all x worth root refs right is kinds values rows sizable.
    let xs = definitions_in (rules_of x) in
    let t = c.args.terms.now in
    let closed = c.args.closed.now in
    let ss : List Source = c.in_ok-sources.sources.items in
    let given : AreGiven (membership_view c.args.membership) xs root worth refs t closed c.args.kinds.now c.args.literals.now c.args.groups.now ss = record {
      kinds = kinds;
      values = values;
      sources = c.in_ok-sources.ensures;
      rows = rows;
      places = λ n r i reach. c.place_of.ensures xs root refs closed n r is i reach;
      meanings = λ k r h. c.meaning_at.ensures xs root refs t closed k r is h;
      choices = λ r y reach q. (c.meanings_are_reached.ensures.types xs root r y reach q, c.reached_values.ensures.types x worth right root r reach y q);
      groups = λ r g reach q. c.meanings_are_reached.ensures.group xs root r g reach q;
      written = λ r es reach q. c.reached_values.ensures.alternatives x worth right root r reach es q;
      opened_written = λ r g reach q. c.reached_values.ensures.opened_group x worth right root r reach g q;
      part_named = λ y r reach q. c.part_is_reached.ensures.named xs root y r reach q;
      part_opened = λ y r g reach q. c.part_is_reached.ensures.opened xs root y r g reach q;
    } in
    are_sizes (membership_view c.args.membership) xs root worth refs t closed c.args.kinds.now c.args.literals.now c.args.groups.now ss given c.equal_numbers.ensures.tree c.args.sizable.now sizable z (subst (λ us. AreListed us c.args.sizable.now z) c.deref.ensures.value listed) all) c.listed.ensures.listed c.listed.ensures.all
