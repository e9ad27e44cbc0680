use Rattle.std.proofs.Common.{◌<◌, sym, subst, length, true≢false}
use Rattle.check_terms.specs.Fill.Rows.{with_parts}
use Rattle.check_terms.proofs.OfFill.Placing.{no_elements, nothing_left}
use Rattle.check_terms.proofs.OfFill.Unfolding.{IsTaken, all_taken, bound, fewer, one_taken}
use Rattle.check_terms.proofs.fill.rows.rows_of.Goals as goal

pub loop-number-smaller : goal.loop-number-smaller
loop-number-smaller c =
    let t = c.args.terms.now in
    subst (λ ks. bound ks < bound c.loop-number.parts.keys) (sym c.in_ok-add_parts.ensures) (fewer t c.in-Some.number c.loop-number.parts.keys c.pop_last.new.self.keys c.is_table.ensures c.in-Some.ensures.removal c.in-Some.ensures.all_below)

pub loop-number-preserved : goal.loop-number-preserved
loop-number-preserved c =
    let t = c.args.terms.now in
    let body = c.args.body in
    let numbers = c.add_parts.new.parts.keys in
    let one = one_taken t body c.in-Some.number c.loop-number.parts.keys c.pop_last.new.self.keys c.loop-number.rows.items c.in-Some.ensures.removal c.loop-number.invariant in
    let taken = subst (IsTaken t body (with_parts t.rows c.pop_last.new.self.keys c.in-Some.number)) (sym c.in_ok-push.ensures) one in
    subst (λ ks. IsTaken t body ks c.push.new.items.items) (sym c.in_ok-add_parts.ensures) taken

pub returns : goal.returns
returns c = all_taken c.args.terms.now c.args.body c.loop-number.parts.keys c.loop-number.rows.items (no_elements c.loop-number.parts.keys (nothing_left (length c.loop-number.parts.keys) (λ h. true≢false (sym (c.in_default.ensures.variant.1 h))))) c.loop-number.invariant
