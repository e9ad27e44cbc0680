use Rattle.std.proofs.Common.{◌≡◌, ◌-◌, List, length, option_map, Some, None, slice_get, sym, ap, subst, ◌∙◌}
use Rattle.std.specs.Borrow.{Bor}
use Rattle.tree_nodes.specs.declared.tree.Further.{Further}
use Rattle.tree_nodes.specs.View.{token_of}
use Rattle.source_pieces.proofs.Ending.{no_last, none_last, some_last}
use Rattle.source_pieces.proofs.span.types_end.Goals as goal

pub returns-in-Some : goal.returns-in-Some
returns-in-Some c =
    some_last (token_of c.args.tree.now) c.args.types.now c.in-Some.further.now c.type1_end.result
    (subst (λ (xs : List Further). slice_get xs (length xs - 1) ≡ Some c.in-Some.further.now) c.deref.ensures.value (sym c.last.ensures.value ∙ ap (option_map (λ (x : Bor Further). x.now)) c.in-Some.is))
    c.type1_end.ensures

pub returns-in-None : goal.returns-in-None
returns-in-None c =
    no_last (token_of c.args.tree.now) c.args.types.now c.type1_end-in-None.result
    (none_last _ (subst (λ (xs : List Further). slice_get xs (length xs - 1) ≡ None) c.deref.ensures.value (sym c.last.ensures.value ∙ ap (option_map (λ (x : Bor Further). x.now)) c.in-None.is)))
    c.type1_end-in-None.ensures
