use Rattle.std.proofs.Common.{IfNone, IfSome, Option, subst}
use Rattle.source_places.specs.States.{IsOneIn, passes, to_one}
use Rattle.source_pieces.specs.declared.piece.PieceAt.{PieceAt}
use Rattle.source_places.proofs.sources.TypesInText.found_by.Goals as goal

pub returns-in-Some : goal.returns-in-Some
returns-in-Some c =
    let x = c.args.self.now in
    let one : IsOneIn x c.args.number c.args.found c.args.link c.in-Some.piece = subst (λ (o : Option PieceAt). IfSome o (IsOneIn x c.args.number c.args.found c.args.link)) c.in-Some.is c.in_ok-one.ensures.some in
    λ ids to none l. to_one none one l

pub returns-in-None : goal.returns-in-None
returns-in-None c =
    let x = c.args.self.now in
    let no_one : (a : PieceAt) → IsOneIn x c.args.number c.args.found c.args.link a → ⊥ = subst (λ (o : Option PieceAt). IfNone o ((a : PieceAt) → IsOneIn x c.args.number c.args.found c.args.link a → ⊥)) c.in-None.is c.in_ok-one.ensures.none in
    λ ids to none l. passes none no_one l
