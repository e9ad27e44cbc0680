use Rattle.std.proofs.Common.{◌≡◌, ◌∙◌, Some, Vec, Global, ap, refl, slice_get, sym, subst}
use Rattle.std.proofs.lemmas.Option.{slice_get-map, slice_get_read}
use Rattle.std.specs.Prelude.{option_map}
use Rattle.table_nodes.specs.Choices.{type_in}
use Rattle.table_nodes.specs.Entries.{entry_buckets_in}
use Rattle.table_nodes.specs.Indexes.{AreIndexed, IsOneMore}
use Rattle.table_nodes.specs.Nodes.{alternatives_view, entries_view}
use Rattle.table_nodes.specs.declared.nodes.MapEntry.{MapEntry}
use Rattle.table_nodes.proofs.Asking.{entries_fit, of_map}
use Rattle.table_nodes.proofs.indexes.push_indexes_of_map.Goals.{in-Some+in_ok-push_index, in_default}
use Rattle.table_nodes.proofs.indexes.push_indexes_of_map.Goals as goal

pub push_index-requires : goal.push_index-requires
push_index-requires c = entries_fit c.args.types.now (entries_view c.deref-in-loop-way.result.now) c.deref-in-Some.result.now (c.deref-in-Some.ensures.value ∙ (rw c.in-Some.is at c.in_ok-buckets.ensures))

pub loop-way-preserved : goal.loop-way-preserved
loop-way-preserved c = elim c.match-branch-2.branch [
  | in-Some+in_ok-push_index w ↦
      let types = c.args.types.now in
      let entries = c.index-alternatives-way.result in
      let es = entries_view entries.items in
      let ways = alternatives_view c.args.alternatives.now in
      let there : slice_get ways c.loop-way.way ≡ Some es = slice_get-map (λ (es : Vec MapEntry Global). entries_view es.items) c.args.alternatives.now c.loop-way.way ∙ ap (option_map (λ (es : Vec MapEntry Global). entries_view es.items)) (slice_get_read c.args.alternatives.now _ c.loop-way.way entries refl c.loop-way-test.true c.index-alternatives-way.is) in
      let is : w.deref-in-Some.result.now ≡ entry_buckets_in (type_in types) es = w.deref-in-Some.ensures.value ∙ ((rw w.in-Some.is at c.in_ok-buckets.ensures) ∙ ap (λ x. entry_buckets_in (type_in types) (entries_view x)) c.deref-in-loop-way.ensures.value) in
      subst (λ (v : Vec _ Global). AreIndexed types v.items) (sym w.indexes-is) (of_map types c.args.of ways es c.loop-way.indexes.items w.push_index.new.indexes.items c.loop-way.way c.requires.map there c.loop-way.invariant (subst (λ bs. IsOneMore c.loop-way.indexes.items c.args.of c.loop-way.way bs w.push_index.new.indexes.items) is w.in_ok-push_index.ensures))
  | in_default w ↦ subst (λ (v : Vec _ Global). AreIndexed c.args.types.now v.items) (sym w.indexes-is) c.loop-way.invariant
]
