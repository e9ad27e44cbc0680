use Rattle.std.proofs.Common.{◌≡◌, ◌+◌, ◌-◌, ◌<◌, length, take, set, get_or, length-take, None, sym, ap, ◌∙◌, subst, arith}
use Rattle.std.proofs.lemmas.Bool.Decides.{nat_tests}
use Rattle.read_building.specs.Building.{item}
use Rattle.read_building.specs.Stages.{stack_of}
use Rattle.read_building.specs.Taking.{AreTaken}
use Rattle.read_building.specs.declared.frame.Frame.TheVariants.{Array, Map}
use Rattle.read_building.proofs.Stacks.{stack_length}
use Rattle.read_building.proofs.Taking.{taken_then, top_taken}
use Rattle.read_building.proofs.members.take_parts.Goals as goal

pub returns-in-Array : goal.returns-in-Array
returns-in-Array c =
    let fs = c.args.frames.now.items in
    let top = c.len-open.result - 1 in
    let f = Array c.in-Array.left c.in-Array.members in
    let some : 0 < length fs = grind (arith, nat_tests) in
    let len : length fs ≡ top + 1 = omega arith in
    let is : f ≡ get_or fs top f = subst (λ y. y ≡ get_or fs top y) c.in-Array.is c.index_mut.ensures.value in
    let below : length (stack_of (take top fs)) ≡ top = stack_length (take top fs) ∙ omega (arith, length-take top fs) in
    taken_then c.take_members.result (λ r h at. top_taken c.args.depth at r.0 fs top f (Array c.take_members.new.left c.take_members.new.members) c.args.bytes.now len is (h c.args.depth at (stack_of (take top fs)) (omega arith))) c.take_members.ensures

pub returns-in-Map-default-default-None : goal.returns-in-Map-default-default-None
returns-in-Map-default-default-None c =
    let m = c.in-Map-default-default-None in
    let fs = c.args.frames.now.items in
    let top = c.len-open.result - 1 in
    let f = Map m.left m.pairs None in
    let some : 0 < length fs = grind (arith, nat_tests) in
    let len : length fs ≡ top + 1 = omega arith in
    let is : f ≡ get_or fs top f = subst (λ y. y ≡ get_or fs top y) (m.is ∙ ap (Map m.left m.pairs) m.field-2-is) c.index_mut.ensures.value in
    let below : length (stack_of (take top fs)) ≡ top = stack_length (take top fs) ∙ omega (arith, length-take top fs) in
    taken_then c.take_pairs.result
    (λ r h at. subst (λ k. AreTaken c.args.depth at (item (stack_of fs)) c.args.bytes.now r.0 (item (stack_of (set fs top (Map c.take_pairs.new.left c.take_pairs.new.pairs k))))) (sym m.field-2-is)
    (top_taken c.args.depth at r.0 fs top f (Map c.take_pairs.new.left c.take_pairs.new.pairs None) c.args.bytes.now len is (h c.args.depth at (stack_of (take top fs)) (omega arith))))
    c.take_pairs.ensures
