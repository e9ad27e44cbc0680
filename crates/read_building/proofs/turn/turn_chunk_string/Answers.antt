use Rattle.std.proofs.Common.{◌≡◌, ◌+◌, ◌++◌, take, drop, true, refl, sym, subst, arith}
use Rattle.std.specs.Str.{IsUtf8}
use Rattle.read_building.specs.Building as building
use Rattle.read_building.specs.Stages.{string_major}
use Rattle.read_building.specs.Turns.{IsBadOn}
use Rattle.read_building.proofs.Runs.{chunk_on, chunk_ends, chunk_bad}
use Rattle.read_building.proofs.Holding.{string_kind, text_only, held_start, held_on, held_whole, slice_to_end}
use Rattle.read_building.proofs.turn.turn_chunk_string.Goals as goal

pub returns-then-count-left : goal.returns-then-count-left
returns-then-count-left c =
    let t = c.args.is_text in
    let held = c.args.held.now.items in
    let held' = c.extend_from_slice.new.self.items in
    let e = c.in_ok-extend_from_slice.ensures.items in
    λ depth at stay around. (
      chunk_on depth at c.args.from (string_major t) c.args.left c.args.start held c.args.rest.now held' around (omega arith) (omega arith) (held_start c.args.from c.args.left c.args.start t held c.requires.held) e,
      held_on c.args.from c.args.left _ c.args.start t held c.args.rest.now held' e c.requires.held,
    )

pub returns-then-not-may_hold : goal.returns-then-not-may_hold
returns-then-not-may_hold c =
    let held = c.args.held.now.items in
    let held' = c.extend_from_slice-2.new.self.items in
    let e : held' ≡ held ++ take (c.args.left + 1) c.args.rest.now = c.in_ok-extend_from_slice-2.ensures.items in
    let bad = c.if-not-may_hold.ensures.bad refl in
    let rest = slice_to_end c.args.start c.deref.result.now held' c.deref.ensures.value in
    λ depth at stay around. subst (λ t. IsBadOn depth at (building.chunk_string c.args.from (string_major t) c.args.left (take c.args.start held) (drop c.args.start held) around) c.args.rest.now (c.args.left + 1) c.args.from true around) (sym bad.0)
    (chunk_bad depth at c.args.from c.args.left c.args.start held c.args.rest.now held' around (omega arith) (held_start c.args.from c.args.left c.args.start c.args.is_text held c.requires.held) e (λ u. bad.1 (subst IsUtf8 (sym rest) u)))

pub returns : goal.returns
returns c =
    let t = c.args.is_text in
    let held = c.args.held.now.items in
    let held' = c.extend_from_slice-2.new.self.items in
    let e : held' ≡ held ++ take (c.args.left + 1) c.args.rest.now = c.in_ok-extend_from_slice-2.ensures.items in
    let rest = slice_to_end c.args.start c.deref.result.now held' c.deref.ensures.value in
    let good : t ≡ true → IsUtf8 (drop c.args.start held') = λ text. subst IsUtf8 rest (c.if-not-may_hold.ensures.good refl text) in
    λ depth at stay around. (
      chunk_ends depth at c.args.from (string_major t) c.args.left c.args.start held c.args.rest.now held' around (omega arith) (held_start c.args.from c.args.left c.args.start t held c.requires.held) (string_kind t) e (text_only t _ good),
      held_whole c.args.from c.args.left c.args.start t held (take (c.args.left + 1) c.args.rest.now) held' e c.requires.held good,
    )
