use Rattle.std.proofs.Common.{◌≡◌, ◌+◌, ◌++◌, take, false, sym, ap, ◌∙◌, subst, arith}
use Rattle.read_building.specs.Building as building
use Rattle.read_building.specs.Stages.{stack_of, string_major, next_state}
use Rattle.read_building.specs.Turns.{IsBadOn}
use Rattle.read_building.proofs.Runs.{string_on, string_ends, string_bad}
use Rattle.read_building.proofs.Holding.{string_kind, text_only}
use Rattle.read_building.proofs.turn.turn_string.Goals as goal

pub returns-then-count-left : goal.returns-then-count-left
returns-then-count-left c =
    λ depth at stay. (string_on depth at c.args.from (string_major c.args.is_text) c.args.left c.args.held.now.items c.args.rest.now c.extend_from_slice.new.self.items (stack_of c.args.frames.now.items) (omega arith) (omega arith) c.in_ok-extend_from_slice.ensures.items, tt)

pub returns-in_ok-next-in-Some : goal.returns-in_ok-next-in-Some
returns-in_ok-next-in-Some c =
    let held = c.replace-content.new.dest.items in
    let content = c.replace-content.result.items in
    let K = stack_of c.args.frames.now.items in
    let e : content ≡ c.args.held.now.items ++ take (c.args.left + 1) c.args.rest.now = ap (λ v. v.items) c.replace-content.ensures.value ∙ c.in_ok-extend_from_slice-2.ensures.items in
    λ depth at stay. (
      string_ends depth at c.args.from (string_major c.args.is_text) c.args.left c.args.held.now.items c.args.rest.now content K (next_state c.in_ok-next-in-Some.next held (stack_of c.end_item.new.frames.items)) (omega arith) (string_kind c.args.is_text) e
          (text_only c.args.is_text _ c.in-Some.ensures.text)
          (c.in_ok-next-in-Some.ensures.next held ∙ ap (λ x. building.give x K) c.in-Some.ensures.some),
      c.in_ok-next-in-Some.ensures.kept held,
    )

pub returns-in-None : goal.returns-in-None
returns-in-None c =
    let content = c.replace-content.result.items in
    let K = stack_of c.args.frames.now.items in
    let e : content ≡ c.args.held.now.items ++ take (c.args.left + 1) c.args.rest.now = ap (λ v. v.items) c.replace-content.ensures.value ∙ c.in_ok-extend_from_slice-2.ensures.items in
    λ depth at stay. subst (λ t. IsBadOn depth at (building.string c.args.from (string_major t) c.args.left c.args.held.now.items K) c.args.rest.now (c.args.left + 1) c.args.from false K) (sym c.in-None.ensures.none.0)
    (string_bad depth at c.args.from c.args.left c.args.held.now.items c.args.rest.now content K (omega arith) e c.in-None.ensures.none.1)
