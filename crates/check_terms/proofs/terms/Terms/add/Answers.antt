use Rattle.std.proofs.Common.{refl, sym, subst}
use Rattle.check_terms.specs.Table.{AddsRow, HasParts, Table, texts_in}
use Rattle.check_terms.proofs.Adding.{row-added}
use Rattle.check_terms.proofs.Holding.{ok_then, stands}
use Rattle.check_terms.proofs.Numbering.{numbered_rows}
use Rattle.check_terms.proofs.terms.Terms.add.Goals as goal

pub invariant_of-self : goal.invariant_of-self
invariant_of-self c =
    let numbered = c.row_number.ensures.numbered in
    let is = row-added _ c.args.row _ c.self.invariant.0 (subst (λ t. HasParts t c.args.row) (sym c.self.view_is) c.requires.parts) (numbered_rows _ _ numbered) c.row_number.ensures.adds in
    (is, c.self.invariant.1, numbered)

pub returns-clause-stands : goal.returns-clause-stands
returns-clause-stands c =
    let new : Table = record { texts = texts_in c.self.inside.texts.items; rows = c.row_number.new.rows.items } in
    let adds : AddsRow c.args.self.now c.args.row new = subst (λ t. AddsRow t c.args.row new) c.self.view_is (refl, c.row_number.ensures.adds) in
    ok_then c.row_number.result _ _ (λ n there. stands c.args.self.now new c.args.row adds n there) c.row_number.ensures.there
