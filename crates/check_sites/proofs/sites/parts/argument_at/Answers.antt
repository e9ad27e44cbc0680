use Rattle.std.proofs.Common.{List, sym, ap, ◌∙◌, ◌-◌, option_map, slice_get}
use Rattle.tree_nodes.specs.declared.tree.Further.{Further}
use Rattle.check_sites.proofs.OfSites.Asked.{first_argument, further_argument}
use Rattle.check_sites.proofs.sites.parts.argument_at.Goals as goal

pub returns-then-place-eq0 : goal.returns-then-place-eq0
returns-then-place-eq0 c read = first_argument read c.args.arguments.now c.args.place c.if-place-eq0.true

pub returns-in-Some : goal.returns-in-Some
returns-in-Some c read = further_argument read c.args.arguments.now c.args.place _ c.if-place-eq0.false (sym (ap (option_map (λ x. x.now)) c.in-Some.is) ∙ c.further_at.ensures ∙ ap (λ (xs : List Further). slice_get xs (c.args.place - 1)) c.deref.ensures.value)

pub returns-in-None : goal.returns-in-None
returns-in-None c read = further_argument read c.args.arguments.now c.args.place _ c.if-place-eq0.false (sym (ap (option_map (λ x. x.now)) c.in-None.is) ∙ c.further_at.ensures ∙ ap (λ (xs : List Further). slice_get xs (c.args.place - 1)) c.deref.ensures.value)
