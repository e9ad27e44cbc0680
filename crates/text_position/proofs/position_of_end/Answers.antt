use Rattle.std.proofs.Common.{arith, take, sym, subst, ◌∙◌, ◌+◌}
use Rattle.text_position.specs.Positions.{IsAt}
use Rattle.text_position.proofs.Steps.{more_feed, more_begins, more_within, no_feed}
use Rattle.text_position.proofs.position_of_end.Goals as goal
use Rattle.text_position.proofs.position_of_end.Goals.{then-byte-eq10, else-byte-eq10+then-begins_character, else-byte-eq10+else-begins_character}

pub loop-byte-preserved : goal.loop-byte-preserved
loop-byte-preserved c =
    let here = c.loop-byte.invariant.here in
    let now = take (c.loop-byte.byte-index + 1) c.args.before.now in
    elim c.if-byte-eq10.branch [
      | then-byte-eq10 w ↦
          record {
            here = subst (λ l. IsAt now l c.if-byte-eq10.column) (sym w.line-is) (subst (λ k. IsAt now (c.loop-byte.line + 1) k) (sym w.column-is)
                (more_feed _ _ _ _ c.loop-byte-test.true here w.if-byte-eq10.true));
            line_within = omega arith;
            column_within = omega arith;
          }
      | else-byte-eq10+then-begins_character w ↦
          record {
            here = subst (λ l. IsAt now l c.if-byte-eq10.column) (sym w.line-is) (subst (λ k. IsAt now c.loop-byte.line k) (sym w.column-is)
                (more_begins _ _ _ _ c.loop-byte-test.true here (no_feed _ w.if-byte-eq10.false) (sym w.begins_character.ensures ∙ w.if-begins_character.true)));
            line_within = omega arith;
            column_within = omega arith;
          }
      | else-byte-eq10+else-begins_character w ↦
          record {
            here = subst (λ l. IsAt now l c.if-byte-eq10.column) (sym w.line-is) (subst (λ k. IsAt now c.loop-byte.line k) (sym w.column-is)
                (more_within _ _ _ _ c.loop-byte-test.true here (no_feed _ w.if-byte-eq10.false) (sym w.begins_character.ensures ∙ w.if-begins_character.false)));
            line_within = omega arith;
            column_within = omega arith;
          }
    ]
