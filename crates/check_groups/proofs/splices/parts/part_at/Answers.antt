use Rattle.std.proofs.Common.{sym, subst, ◌∙◌, ap}
use Rattle.check_terms.specs.Table.{HoldsText}
use Rattle.check_groups.specs.Splices.Parts.{IsPartAt}
use Rattle.check_groups.specs.Splices.Rows.{part_of}
use Rattle.check_groups.proofs.OfSplices.Rows.{part_stands}
use Rattle.check_groups.proofs.splices.parts.part_at.Goals as goal

pub returns : goal.returns
returns c xs root refs k =
    let t = c.args.terms.now in
    let row = c.row_at-row.result in
    let bounds = c.in_ok-bounds.bounds in
    subst (IsPartAt xs root t c.args.number) (sym (c.part_of.ensures ∙ ap (part_of row bounds) c.len.ensures.value)) (part_stands xs root t c.args.number bounds row (λ o h. c.in_ok-bounds.ensures o (subst (λ n. HoldsText t.texts n o) (sym c.occurrence_at.ensures) h)) (c.row_at-row.ensures xs root refs k))
