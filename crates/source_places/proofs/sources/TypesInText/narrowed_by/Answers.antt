use Rattle.std.proofs.Common.{◌∷◌, IfNone, IfSome, Option, None, Some, refl, sym, subst}
use Rattle.type_links.specs.declared.link.Link.{Link}
use Rattle.source_places.specs.States.{ArePairIn, LeadsIn, to_pair, with_held}
use Rattle.source_pieces.specs.declared.piece.PieceAt.{PieceAt}
use Rattle.source_places.proofs.Stepping.{found_after}
use Rattle.source_places.proofs.sources.TypesInText.narrowed_by.Goals as goal

pub returns-in-Some : goal.returns-in-Some
returns-in-Some c =
    let x = c.args.self.now in
    let st = c.args.state in
    let pair : ArePairIn x st.number st.found c.args.first c.args.link c.in-Some.piece = subst (λ (o : Option PieceAt). IfSome o (ArePairIn x st.number st.found c.args.first c.args.link)) c.in-Some.is c.in_ok-pair.ensures.some in
    record {
      number = refl;
      rule = refl;
      inside = refl;
      found =
          found_after x c.args.link st (Some c.in-Some.piece) None
          (λ rest to l. subst (λ (o : Option Link). LeadsIn x st.number st.found (with_held o (c.args.link ∷ rest)) to) (sym c.requires) (to_pair pair l));
    }

pub returns-in_ok-found-in-None : goal.returns-in_ok-found-in-None
returns-in_ok-found-in-None c =
    let x = c.args.self.now in
    let st = c.args.state in
    let none : (a : PieceAt) → ArePairIn x st.number st.found c.args.first c.args.link a → ⊥ = subst (λ (o : Option PieceAt). IfNone o ((a : PieceAt) → ArePairIn x st.number st.found c.args.first c.args.link a → ⊥)) c.in-None.is c.in_ok-pair.ensures.none in
    record {
      number = refl;
      rule = refl;
      inside = refl;
      found =
          found_after x c.args.link st c.in_ok-found-in-None.found (Some c.args.link)
          (λ rest to l. subst (λ (o : Option Link). LeadsIn x st.number st.found (with_held o (c.args.link ∷ rest)) to) (sym c.requires) (c.in_ok-found-in-None.ensures (c.args.link ∷ rest) to none l));
    }
