use Rattle.std.proofs.Common.{length, refl, arith}
use Rattle.item_nodes.specs.View.{view}
use Rattle.table_nodes.proofs.Lemmas.{as_many}
use Rattle.table_nodes.specs.Choices.{buckets_in}
use Rattle.table_nodes.specs.Language.{language_of}
use Rattle.cddl_match.proofs.Passed.{led_by, not_led}
use Rattle.cddl_match.proofs.choosing.Members.of.Goals.{in-Some, in-None}
use Rattle.cddl_match.proofs.choosing.Members.of.Goals as goal

pub returns-clause-asking : goal.returns-clause-asking
returns-clause-asking c =
    let l = language_of c.args.table.now in
    let x = view c.args.item.now in
    let ms = c.args.members.now in (
      refl,
      (
        omega arith,
        elim c.match-index_of.branch [
          | in-Some w ↦
              let is = rw w.in-Some.is at (c.index_of.ensures c.requires) in
              led_by l x ms 0 c.match-index_of.index w.in-Some.index w.first.result w.index-is is (w.first.ensures (buckets_in l.type_at ms) (length ms) is (as_many l.type_at ms))
          | in-None w ↦ not_led l x ms 0 c.match-index_of.index w.index-is
        ],
      ),
    )
