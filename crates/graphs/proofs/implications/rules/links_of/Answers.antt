use Rattle.std.proofs.Common.{rules, ◌≡◌, ◌++◌, ◌∷◌, [], ◌+◌, sym, subst, Some, None, set, slice_get, slice_index_or}
use Rattle.std.proofs.lemmas.Option.{slice_get-get_or}
use Rattle.graphs.specs.Implications.Rules.{AreHeads, AreLinks}
use Rattle.graphs.proofs.OfImplications.Places.{heads_with, links_with}
use Rattle.graphs.proofs.implications.rules.links_of.Goals as goal

pub loop-place-preserved : goal.loop-place-preserved
loop-place-preserved c =
    let facts = c.args.facts in
    let premises = c.args.premises.now in
    let place = c.loop-place.place in
    let heads = c.loop-place.heads.items in
    let links = c.loop-place.links.items in
    let fact = slice_index_or premises place 0 in
    let there : slice_get premises place ≡ Some fact = slice_get-get_or premises place 0 (search rules) in
    let kept = c.loop-place.invariant in
    let pushed : c.push.new.self.items ≡ links ++ slice_index_or heads fact None ∷ [] = search rules in
    let written : c.put_head.new.heads.items ≡ set heads fact (Some place) = search rules in
    record {
      all = search rules;
      heads_are = subst (AreHeads facts premises (place + 1)) (sym written) (heads_with facts premises heads links place fact there kept.heads_are);
      links_are = subst (AreLinks facts premises) (sym pushed) (links_with facts premises heads links place fact there kept.heads_are kept.links_are kept.all);
    }
