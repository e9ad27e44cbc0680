use Rattle.std.proofs.Common.{◌≡◌, subst, ◌∙◌}
use Rattle.std.specs.Borrow.{Bor}
use Rattle.tree_nodes.specs.Syntax.Syntax as S
use Rattle.tree_nodes.specs.declared.tree.Types.{Types}
use Rattle.tree_nodes.specs.View.{token_of, view_type2, view_types}
use Rattle.source_pieces.specs.Pieces.{bare_type2}
use Rattle.source_pieces.specs.Spans.{IsSpan}
use Rattle.source_pieces.proofs.Nodes.{inner_is, no_inner}
use Rattle.source_pieces.proofs.span.type2_span.Goals as goal

pub returns-in-Some : goal.returns-in-Some
returns-in-Some c =
    let read = token_of c.args.tree.now in
    let same = inner_is (λ (x : Bor Types). view_types read x.now) (S.only (S.one (view_type2 read c.args.type2.now))) c.type2_inside.result c.in-Some.types c.in-Some.is ∙ c.type2_inside.ensures read in
    subst (λ (x : S.Types). IsSpan (S.flat_types x) c.types_span.result) same c.types_span.ensures

pub returns-in-None : goal.returns-in-None
returns-in-None c =
    let read = token_of c.args.tree.now in
    let same : S.only (S.one (view_type2 read c.args.type2.now)) ≡ bare_type2 (view_type2 read c.args.type2.now) = no_inner (λ (x : Bor Types). view_types read x.now) (S.only (S.one (view_type2 read c.args.type2.now))) c.type2_inside.result c.in-None.is ∙ c.type2_inside.ensures read in
    subst (λ (x : S.Types). IsSpan (S.flat_types x) (record { first = c.start.result; end = c.type2_end.result })) same (record { starts = c.start.ensures; ends = c.type2_end.ensures })
