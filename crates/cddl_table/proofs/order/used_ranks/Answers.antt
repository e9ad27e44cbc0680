use Rattle.std.proofs.Common.{◌++◌, ◌∷◌, [], ◌∙◌, ap}
use Rattle.cddl_table.proofs.Places.{are_used}
use Rattle.cddl_table.proofs.order.used_ranks.Goals as goal

pub returns : goal.returns
returns c =
    let types = c.in_ok-add.ensures ∙ ap (λ xs. xs ++ c.args.types.now) c.new-used.ensures.items in
    let groups = c.in_ok-add-2.ensures ∙ ap (λ xs. xs ++ c.args.groups.now) types in
    let all = c.in_ok-add-3.ensures ∙ ap (λ xs. xs ++ 0 ∷ []) groups in
    are_used c.args.types.now c.args.groups.now _ _ all c.sort.ensures.increasing c.sort.ensures.members
