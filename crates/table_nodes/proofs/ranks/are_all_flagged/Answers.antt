use Rattle.std.proofs.Common.{◌≡◌, slice_index_or, true, false, refl, arith}
use Rattle.std.proofs.lemmas.Option.{slice_get_read}
use Rattle.cddl_meaning.specs.Ranks.Flags.{flag_of}
use Rattle.table_nodes.specs.Nodes.{group_or_none}
use Rattle.table_nodes.specs.Ranks.{flag_in}
use Rattle.table_nodes.proofs.Rows.{one_more, all_rows}
use Rattle.table_nodes.proofs.ranks.are_all_flagged.Goals.{else-flag_of-via-then-flag_of+else-not-flag_at, else-flag_of-via-else-flag_of}
use Rattle.table_nodes.proofs.ranks.are_all_flagged.Goals as goal

pub returns-then-not-flag_at : goal.returns-then-not-flag_at
returns-then-not-flag_at c = (
  λ e. cc,
  λ h.
      let there = slice_get_read c.args.nodes.now _ c.loop-i.i c.index-nodes-i.result refl c.loop-i-test.true c.index-nodes-i.is in
      let row = rw there at (h (record { number = c.loop-i.i })) in
      let yes = row (cc (c.flag_of.ensures, c.if-flag_of.true)) in
      cc (yes, c.flag_at.ensures, c.if-not-flag_at.true),
)

pub loop-i-preserved : goal.loop-i-preserved
loop-i-preserved c =
    let there = slice_get_read c.args.nodes.now _ c.loop-i.i c.index-nodes-i.result refl c.loop-i-test.true c.index-nodes-i.is in
    one_more (λ n o. flag_of (flag_in c.args.flags.now) (group_or_none o) ≡ true → slice_index_or c.args.flags.now n false ≡ true) c.args.nodes.now c.loop-i.i c.index-nodes-i.result there (λ e. elim c.else-flag_of.branch [
      | else-flag_of-via-then-flag_of+else-not-flag_at w ↦ cc (w.flag_at.ensures, w.if-not-flag_at.false)
      | else-flag_of-via-else-flag_of w ↦ cc (e, c.flag_of.ensures, w.if-flag_of.false)
    ]) c.loop-i.invariant

pub returns : goal.returns
returns c = (λ e id. all_rows (λ n o. flag_of (flag_in c.args.flags.now) (group_or_none o) ≡ true → slice_index_or c.args.flags.now n false ≡ true) c.args.nodes.now c.loop-i.i (omega (arith, c.loop-i-test.false)) (λ n f. cc) c.loop-i.invariant id.number, λ h. refl)
