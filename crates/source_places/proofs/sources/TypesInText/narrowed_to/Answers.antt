use Rattle.std.proofs.Common.{◌∷◌, Option, Some, refl, sym, subst}
use Rattle.type_links.specs.declared.link.Link.{Link}
use Rattle.source_places.specs.States.{LeadsIn, with_held}
use Rattle.source_places.proofs.Stepping.{found_after}
use Rattle.source_places.proofs.sources.TypesInText.narrowed_to.Goals as goal

pub returns-in-None : goal.returns-in-None
returns-in-None c =
    let st = c.args.state in
    record {
      number = refl;
      rule = refl;
      inside = refl;
      found =
          found_after c.args.self.now c.args.link st st.found (Some c.args.link)
          (λ rest to l. subst (λ (o : Option Link). LeadsIn c.args.self.now st.number st.found (with_held o (c.args.link ∷ rest)) to) (sym c.in-None.is) l);
    }
