use Rattle.std.proofs.Common.{◌↔◌, IsTrue, Option, sym, subst}
use Rattle.source_places.specs.States.{AreSplicedFrom, IsInMapFrom}
use Rattle.source_pieces.specs.declared.piece.PieceAt.{PieceAt}
use Rattle.source_places.proofs.Splicing.{by_flag, not_true}
use Rattle.source_places.proofs.sources.TypesInText.is_in_map_from.Goals as goal

pub returns-else-is_between : goal.returns-else-is_between
returns-else-is_between c =
    let x = c.args.self.now in
    let are = subst (λ (o : Option PieceAt). AreSplicedFrom x o c.args.names.now) c.in-Some.is c.requires in
    record { is = subst (λ (o : Option PieceAt). IsTrue c.is_flagged.result ↔ IsInMapFrom x c.args.number o c.args.piece) (sym c.in-Some.is) (by_flag x c.in-Some.map c.args.piece c.args.names.now are c.is_flagged.result (λ b. not_true c.is_between.result c.if-is_between.false (c.is_between.ensures.1 b)) c.is_flagged.ensures) }
