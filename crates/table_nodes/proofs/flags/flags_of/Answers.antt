use Rattle.std.proofs.Common.{◌∙◌, ap, length, subst}
use Rattle.graphs.specs.Implications.Implications.{AreFollowing}
use Rattle.table_nodes.specs.Flags.Rules.{link_at}
use Rattle.table_nodes.proofs.OfFlags.Flags.{are_flags}
use Rattle.table_nodes.proofs.flags.flags_of.Goals as goal

pub returns : goal.returns
returns c =
    let count = length c.args.groups.now in
    let flags = c.in_ok-flags.flags.items in
    let facts = c.next_link.ensures ∙ ap (λ rules. link_at count (length rules)) (c.deref.ensures.value ∙ c.in_ok-rules.ensures) in
    let found = subst (λ rules. AreFollowing c.next_link.result rules flags) (c.deref-2.ensures.value ∙ c.in_ok-rules.ensures) c.in_ok-flags.ensures in
    λ types. rw c.truncate.ensures.items (are_flags types c.args.groups.now c.next_link.result flags facts found)
