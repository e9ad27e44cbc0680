use Rattle.std.proofs.Common.{slice_index_or, refl, arith}
use Rattle.std.proofs.lemmas.Option.{slice_get_read}
use Rattle.cddl_meaning.specs.Ranks.Flags.{IsTypeRanked}
use Rattle.table_nodes.specs.Nodes.{type_or_none}
use Rattle.table_nodes.specs.Ranks.{type_rank_in, group_rank_in}
use Rattle.table_nodes.proofs.Rows.{one_more, all_rows}
use Rattle.table_nodes.proofs.ranks.are_types_ranked.Goals as goal

pub returns-then-not-is_type_ranked : goal.returns-then-not-is_type_ranked
returns-then-not-is_type_ranked c = (
  λ e. cc,
  λ h.
      let there = slice_get_read c.args.nodes.now _ c.loop-i.i c.index-nodes-i.result refl c.loop-i-test.true c.index-nodes-i.is in
      let row = rw there at (h (record { number = c.loop-i.i })) in
      let yes = c.is_type_ranked.ensures.1 (rw c.rank_at.ensures row) in
      cc (yes, c.if-not-is_type_ranked.true),
)

pub loop-i-preserved : goal.loop-i-preserved
loop-i-preserved c =
    let there = slice_get_read c.args.nodes.now _ c.loop-i.i c.index-nodes-i.result refl c.loop-i-test.true c.index-nodes-i.is in
    let row = rw c.rank_at.ensures at c.is_type_ranked.ensures.0 (cc c.if-not-is_type_ranked.false) in
    one_more (λ n o. IsTypeRanked (type_rank_in c.args.types.now) (group_rank_in c.args.groups.now) (slice_index_or c.args.types.now n 0) (type_or_none o)) c.args.nodes.now c.loop-i.i c.index-nodes-i.result there row c.loop-i.invariant

pub returns : goal.returns
returns c = (λ e id. all_rows (λ n o. IsTypeRanked (type_rank_in c.args.types.now) (group_rank_in c.args.groups.now) (slice_index_or c.args.types.now n 0) (type_or_none o)) c.args.nodes.now c.loop-i.i (omega (arith, c.loop-i-test.false)) (λ n. tt) c.loop-i.invariant id.number, λ h. refl)
