use Rattle.std.proofs.Common.{◌≡◌, subst, ◌∙◌}
use Rattle.std.specs.Borrow.{Bor}
use Rattle.tree_nodes.specs.Syntax.Syntax as S
use Rattle.tree_nodes.specs.declared.tree.Types.{Types}
use Rattle.tree_nodes.specs.View.{token_of, view_type1, view_types}
use Rattle.source_pieces.specs.Pieces.{bare_type1}
use Rattle.source_pieces.specs.Spans.{IsSpan}
use Rattle.source_pieces.proofs.Nodes.{inner_is, no_inner}
use Rattle.source_pieces.proofs.span.type1_span.Goals as goal

pub returns-in-Some : goal.returns-in-Some
returns-in-Some c =
    let read = token_of c.args.tree.now in
    let same = inner_is (λ (x : Bor Types). view_types read x.now) (S.only (view_type1 read c.args.type1.now)) c.type1_inside.result c.in-Some.types c.in-Some.is ∙ c.type1_inside.ensures read in
    subst (λ (x : S.Types). IsSpan (S.flat_types x) c.types_span.result) same c.types_span.ensures

pub returns-in-None : goal.returns-in-None
returns-in-None c =
    let read = token_of c.args.tree.now in
    let same : S.only (view_type1 read c.args.type1.now) ≡ bare_type1 (view_type1 read c.args.type1.now) = no_inner (λ (x : Bor Types). view_types read x.now) (S.only (view_type1 read c.args.type1.now)) c.type1_inside.result c.in-None.is ∙ c.type1_inside.ensures read in
    subst (λ (x : S.Types). IsSpan (S.flat_types x) (record { first = c.start.result; end = c.type1_end.result })) same (record { starts = c.start.ensures; ends = c.type1_end.ensures })
