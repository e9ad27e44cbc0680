use Rattle.check_terms.specs.Definitions.{no_definitions}
use Rattle.check_reading.proofs.OfPrelude.Standing.{further, next_line}
use Rattle.check_reading.proofs.prelude.numbering.add_lines.Goals as goal

pub loop-line-init : goal.loop-line-init
loop-line-init c = record { grows = c.growing_keeps.ensures.same _; numbered = rw c.new-definitions.ensures.items no_definitions }

pub loop-line-preserved : goal.loop-line-preserved
loop-line-preserved c =
    let before = c.growing_keeps.ensures.definitions _ _ c.in_ok-definition.ensures.grows _ _ c.loop-line.invariant.numbered in
    record {
      grows = further c.loop-line.invariant.grows c.in_ok-definition.ensures.grows;
      numbered = next_line _ _ _ _ _ _ _ _ c.loop-line-test.true before c.in_ok-definition.ensures.definition c.push.ensures.items c.in_ok-map_err.ensures.variant;
    }
