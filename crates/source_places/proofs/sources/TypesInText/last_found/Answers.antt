use Rattle.std.proofs.Common.{[], Option, sym, subst}
use Rattle.type_links.specs.declared.link.Link.{Link}
use Rattle.source_places.specs.States.{LeadsIn, arrives, with_held}
use Rattle.source_places.proofs.Stepping.{last_after, ok_then}
use Rattle.source_places.proofs.sources.TypesInText.last_found.Goals as goal

pub returns-in-Some : goal.returns-in-Some
returns-in-Some c =
    let st = c.args.state in
    ok_then c.found_by.result _ _ (λ o f. last_after c.args.self.now st o (subst (λ (k : Option Link). LeadsIn c.args.self.now st.number st.found (with_held k []) o) (sym c.in-Some.is) (f [] o tt arrives))) c.found_by.ensures

pub returns-in-None : goal.returns-in-None
returns-in-None c =
    let st = c.args.state in
    last_after c.args.self.now st st.found (subst (λ (o : Option Link). LeadsIn c.args.self.now st.number st.found (with_held o []) st.found) (sym c.in-None.is) arrives)
