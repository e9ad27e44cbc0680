use Rattle.std.proofs.Common.{rules, ◌≡◌, length, subst, sym}
use Rattle.check_groups.specs.Splices.Parts.{AreParts}
use Rattle.check_groups.proofs.OfSplices.Rows.{are_parts}
use Rattle.check_groups.proofs.splices.parts.parts_of.Goals as goal

pub returns : goal.returns
returns c xs root refs k a o =
    let t = c.args.terms.now in
    let whole : length c.loop-number.parts.items ≡ length t.rows = search rules in
    subst (AreParts xs root t) (sym c.in_ok-push-2.ensures.items) (are_parts xs root t c.loop-number.parts.items whole (λ n p e. c.loop-number.invariant.each xs root refs (record { closed = k; kinds = a; openings = o }) n p e))
