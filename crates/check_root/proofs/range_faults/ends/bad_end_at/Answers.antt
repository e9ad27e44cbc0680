use Rattle.std.proofs.Common.{refl, sym, ap, ◌∙◌}
use Rattle.check_root.specs.RangeFaults.Ends.{is_whole}
use Rattle.check_root.proofs.OfRangeFaults.Whole.{bad_told, good_told}
use Rattle.check_root.proofs.range_faults.ends.bad_end_at.Goals as goal

pub returns-in-IsWhole : goal.returns-in-IsWhole
returns-in-IsWhole c xs root worth literals ends =
    let e = ends c.in-IsWhole.is in
    bad_told xs root worth c.args.terms.now (λ n a b h k. (c.equal_numbers.ensures.term n n a b h k).0 refl) c.args.asked e c.in-IsWhole.is (ap is_whole (sym (literals.values c.args.asked.row e.end e.row e.known)) ∙ sym c.is_whole_at.ensures ∙ c.if-not-is_whole_at.true)

pub returns-in_default : goal.returns-in_default
returns-in_default c xs root worth literals ends =
    let e = ends c.in-IsWhole.is in
    good_told xs root worth c.args.terms.now (λ n a b h k. (c.equal_numbers.ensures.term n n a b h k).0 refl) c.args.asked e (ap is_whole (sym (literals.values c.args.asked.row e.end e.row e.known)) ∙ sym c.is_whole_at.ensures ∙ c.if-not-is_whole_at.false)
