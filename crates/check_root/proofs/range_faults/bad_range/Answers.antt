use Rattle.std.proofs.Common.{refl, sym, subst}
use Rattle.cddl_language.specs.Faults.{HasBadRange, definitions}
use Rattle.lists.specs.Least.{IsLeast}
use Rattle.check_root.proofs.OfRangeFaults.Bounding as Bounding
use Rattle.check_root.proofs.OfRangeFaults.Ending as Ending
use Rattle.check_root.proofs.OfRangeFaults.Ranges.{least_range}
use Rattle.check_root.proofs.OfRangeFaults.Stars.{Numbers}
use Rattle.check_root.proofs.OfRangeFaults.Whole.{OneTerm}
use Rattle.check_root.proofs.range_faults.bad_range.Goals as goal

pub returns : goal.returns
returns c s root worth tokens right clear reached literals asked =
    let ends : Ending.Laws s worth root = record {
      first = c.reached_parts.ensures.first s root clear;
      last = c.reached_parts.ensures.last s root clear;
      first_values = λ r xs x y o h. c.operand_values.ensures.first s.tree worth right root r xs x y o h;
      last_values = λ r xs x y o h. c.operand_values.ensures.last s.tree worth right root r xs x y o h;
    } in
    let numbers : Numbers = record {
      inside = λ a b n m h. let e = c.ends_in_ascii.ensures.uint a b n m h in (e.nonempty, e.within);
      least = c.numbers_are_spelled.ensures.least;
      most = c.numbers_are_spelled.ensures.most;
      no_most = c.numbers_are_spelled.ensures.no_most;
    } in
    let bounds : Bounding.Laws s root = record {
      stand = c.site_tokens.ensures s.tree root;
      tokens = tokens;
      numbers = numbers;
    } in
    let t = c.args.terms.now in
    let one : OneTerm t = λ n a b h k. (c.equal_numbers.ensures.term n n a b h k).0 refl in
    subst (IsLeast (HasBadRange s worth root)) (sym c.lesser.ensures) (least_range s worth root t ends bounds c.args.asked.now c.args.reached.now asked reached one _ _ (c.bad_end-end.ensures (definitions s) root worth literals (Ending.ends_there s worth root t ends c.args.asked.now asked)) (c.bad_bounds.ensures (Bounding.are_small s root bounds c.args.terms.now c.args.reached.now reached)))
