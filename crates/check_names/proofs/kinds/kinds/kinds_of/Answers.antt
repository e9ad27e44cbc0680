use Rattle.std.proofs.Common.{map, length, ◌+◌, refl, subst, ap, ◌∙◌}
use Rattle.graphs.specs.Chains.Chains.{AreEnds}
use Rattle.check_names.specs.Environment.Names.{standing}
use Rattle.check_names.specs.Kinds.Links.{kind_links, opening_links}
use Rattle.check_names.proofs.OfKinds.Answering.{are_kinds}
use Rattle.check_names.proofs.kinds.kinds.kinds_of.Goals as goal

pub returns : goal.returns
returns c xs kd od an =
    let t = c.args.terms.now in
    let names = map standing c.args.names.now in
    let own = c.args.definitions.now in
    let khs = c.in_ok-known.known.items in
    let ohs = c.in_ok-own.own.items in
    let most = length c.args.known.now + length own in
    let opening = c.in_ok-opening.ensures ∙ ap (λ hs. opening_links t.texts hs c.deref-2.result.now 0 names) c.deref.ensures.value ∙ ap (λ hs. opening_links t.texts khs hs 0 names) c.deref-2.ensures.value in
    let kind = c.in_ok-kind.ensures ∙ ap (λ hs. kind_links t.texts own hs c.deref-5.result.now 0 names) c.deref-4.ensures.value ∙ ap (λ os. kind_links t.texts own ohs os 0 names) c.deref-5.ensures.value in
    are_kinds c.names_stand.ensures t c.len.ensures.table c.args.known.now own c.args.names.now most khs ohs c.in_ok-known.ensures c.in_ok-own.ensures c.in_ok-opening.opening.items opening c.in_ok-opened.opened.items (subst (λ ls. AreEnds ls most c.in_ok-opened.opened.items) c.deref-3.ensures.value c.in_ok-opened.ensures) c.in_ok-kind.kind.items kind c.in_ok-groups.groups.items (subst (λ ls. AreEnds ls most c.in_ok-groups.groups.items) c.deref-6.ensures.value c.in_ok-groups.ensures) refl xs kd od an _ refl refl
