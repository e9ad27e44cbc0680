use Rattle.std.proofs.Common.{ap, ◌∙◌, ℕ}
use Rattle.std.specs.BTreeMap.{is_at}
use Rattle.std.specs.Cmp.Lexicographic.{slice_cmp}
use Rattle.std.specs.List.{list_any}
use Rattle.std.specs.Ordering.{nat_cmp}
use Rattle.std.specs.declared.vec.Vec.{Vec}
use Rattle.std.specs.declared.alloc.Global.{Global}
use Rattle.cbor_item.proofs.KeySet.{has-insert}
use Rattle.cbor_item.proofs.duplicates.note_key.Goals as goal
use Rattle.cbor_item.proofs.duplicates.note_key.Goals.{in-Ok, in-Err}

pub returns-clause-noted : goal.returns-clause-noted
returns-clause-noted c = elim c.match-insert.branch [
  | in-Ok w ↦
      rw w.result-is (λ bytes. ap (list_any (is_at (λ (k : Vec ℕ Global). slice_cmp nat_cmp bytes k.items))) w.in-Ok.ensures.keys ∙ has-insert c.args.keys.now.keys c.args.key bytes)
  | in-Err w ↦ rw w.result-is tt
]
