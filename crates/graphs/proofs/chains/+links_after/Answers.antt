use Rattle.std.proofs.Common.{subst, sym, arith, refl, ◌+◌, ◌/◌}
use Rattle.lists.proofs.Lemmas.{ok_then}
use Rattle.graphs.specs.Chains.Steps.{IsAfter}
use Rattle.graphs.proofs.OfChains.Joining.{at_first, joins, once}
use Rattle.graphs.proofs.chains.+links_after.Goals as goal

pub returns-then-count-eq0 : goal.returns-then-count-eq0
returns-then-count-eq0 t c = ok_then c.first_links.result _ _ (λ v e. subst (λ k. IsAfter c.args.links.now k v.items) (sym c.if-count-eq0.true) (subst (IsAfter c.args.links.now 0) (sym e) (at_first c.args.links.now))) c.first_links.ensures

pub returns-then-count-eq0-2 : goal.returns-then-count-eq0-2
returns-then-count-eq0-2 t c =
    let links = c.args.links.now in
    let half = c.args.count / 2 in
    let first = subst (IsAfter links half) (sym c.deref.ensures.value) c.in_ok-half.ensures in
    let second = subst (IsAfter links half) (sym c.deref-2.ensures.value) c.in_ok-half.ensures in
    subst (IsAfter links c.args.count) (sym c.in_ok-double.ensures) (joins links half half c.args.count _ _ (omega (arith, c.if-count-eq0-2.true)) first second)

pub returns : goal.returns
returns t c =
    let links = c.args.links.now in
    let half = c.args.count / 2 in
    let first = subst (IsAfter links half) (sym c.deref.ensures.value) c.in_ok-half.ensures in
    let second = subst (IsAfter links half) (sym c.deref-2.ensures.value) c.in_ok-half.ensures in
    let double = subst (IsAfter links (half + half)) (sym c.in_ok-double.ensures) (joins links half half (half + half) _ _ refl first second) in
    let last = subst (IsAfter links (half + half)) (sym c.deref-3.ensures.value) double in
    ok_then c.join-2.result _ _ (λ v e. subst (IsAfter links c.args.count) (sym e) (joins links (half + half) 1 c.args.count _ _ (omega (arith, c.if-count-eq0-2.false)) last (once links))) c.join-2.ensures
