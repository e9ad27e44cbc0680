use Rattle.std.proofs.Common.{◌≡◌, ◌∙◌, subst}
use Rattle.table_nodes.specs.Choices.{buckets_in, type_in}
use Rattle.table_nodes.specs.Indexes.{IsOneMore}
use Rattle.table_nodes.proofs.Asking.{members_fit, of_choice, ok_so}
use Rattle.table_nodes.proofs.indexes.push_index_of_choice.Goals as goal

pub push_index-requires : goal.push_index-requires
push_index-requires c = members_fit c.args.types.now c.args.members.now c.deref.result.now (c.deref.ensures.value ∙ (rw c.in-Some.is at c.in_ok-buckets.ensures))

pub returns-in-Some : goal.returns-in-Some
returns-in-Some c =
    let types = c.args.types.now in
    let ms = c.args.members.now in
    let is : c.deref.result.now ≡ buckets_in (type_in types) ms = c.deref.ensures.value ∙ (rw c.in-Some.is at c.in_ok-buckets.ensures) in
    ok_so c.push_index.result c.push_index.ensures (λ one. of_choice types c.args.of ms c.args.indexes.now.items c.push_index.new.indexes.items 0 c.requires.choice c.requires.before (subst (λ bs. IsOneMore c.args.indexes.now.items c.args.of 0 bs c.push_index.new.indexes.items) is one))
