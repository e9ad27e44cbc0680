use Rattle.std.proofs.Common.{◌≡◌, ◌-◌, List, length, option_map, Some, None, slice_get, sym, ap, subst, ◌∙◌}
use Rattle.std.specs.Borrow.{Bor}
use Rattle.tree_nodes.specs.declared.tree.Further.{Further}
use Rattle.tree_nodes.specs.View.{token_of}
use Rattle.source_pieces.proofs.Ending.{none_last}
use Rattle.source_pieces.proofs.Nodes.{one_name, several_names}
use Rattle.source_pieces.proofs.names.types_name.Goals as goal

pub returns-in-Some : goal.returns-in-Some
returns-in-Some c =
    several_names (token_of c.args.tree.now) c.args.types.now c.in-Some.field-0.now
    (subst (λ (xs : List Further). slice_get xs (length xs - 1) ≡ Some c.in-Some.field-0.now) c.deref.ensures.value (sym c.last.ensures.value ∙ ap (option_map (λ (x : Bor Further). x.now)) c.in-Some.is))

pub returns-in-None : goal.returns-in-None
returns-in-None c =
    c.type1_name.ensures
    ∙ one_name (token_of c.args.tree.now) c.args.types.now
    (none_last _ (subst (λ (xs : List Further). slice_get xs (length xs - 1) ≡ None) c.deref.ensures.value (sym c.last.ensures.value ∙ ap (option_map (λ (x : Bor Further). x.now)) c.in-None.is)))
