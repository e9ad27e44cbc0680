use Rattle.std.proofs.Common.{[], subst, sym}
use Rattle.cddl_language.specs.Faults.{IsFaultAt}
use Rattle.check_faults.specs.Listed.{AreListed, no_code}
use Rattle.check_faults.proofs.listing.list_of_reached.Goals as goal

pub returns : goal.returns
returns c s worth are =
    let none = subst (AreListed (IsFaultAt s worth) c.args.most []) (sym c.new-all.ensures.items) no_code in
    let unwrapped = c.in_ok-push_first.ensures s worth _ are.not_unwrappable none in
    let recursive = c.in_ok-push_first-2.ensures s worth _ are.recursion unwrapped in
    let literal = c.in_ok-push_first-3.ensures s worth _ are.not_literal recursive in
    let range = c.in_ok-push_first-4.ensures s worth _ are.bad_range literal in
    let controller = c.in_ok-push_first-5.ensures s worth _ are.bad_controller range in
    let key = c.in_ok-push_first-6.ensures s worth _ are.no_key controller in
    let shape = c.in_ok-push_first-7.ensures s worth _ are.map_shape key in
    c.in_ok-push_first-8.ensures s worth _ are.too_many_alternatives shape
