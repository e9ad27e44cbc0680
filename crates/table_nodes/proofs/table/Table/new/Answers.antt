use Rattle.std.proofs.Common.{◌≡◌, max, refl}
use Rattle.cddl_meaning.proofs.OfRanks.Lemmas.{by_flags, ranked_by}
use Rattle.table_nodes.specs.Nodes.{language_in}
use Rattle.table_nodes.specs.Ranks.{flag_in, greatest, rank_in}
use Rattle.table_nodes.proofs.Greatest.{at_most}
use Rattle.table_nodes.proofs.table.Table.new.Goals as goal

pub returns-then-not-are_ranked-clause-refused : goal.returns-then-not-are_ranked-clause-refused
returns-then-not-are_ranked-clause-refused c = λ exact bound k.
    let by = by_flags (language_in c.args.types.items c.args.groups.items) (flag_in c.args.ranks.may_be_empty.items) exact (rank_in c.args.ranks.types.items c.args.ranks.groups.items) k in
    let yes = c.are_ranked.ensures.1 (rw (c.deref.ensures.value, c.deref-2.ensures.value) by) in
    cc (yes, c.if-not-are_ranked.true)

pub invariant_of-result : goal.invariant_of-result
invariant_of-result c =
    let is : c.max-most.result ≡ max (greatest c.args.ranks.types.items) (greatest c.args.ranks.groups.items) = rw (c.max-most.ensures, c.greatest.ensures, c.greatest-2.ensures, c.deref-3.ensures.value, c.deref-4.ensures.value) refl in
    let by = rw (c.deref.ensures.value, c.deref-2.ensures.value) at c.are_ranked.ensures.0 (cc c.if-not-are_ranked.false) in
    record {
      bound = is;
      ranked = ranked_by (language_in c.args.types.items c.args.groups.items) (flag_in c.args.ranks.may_be_empty.items) (rank_in c.args.ranks.types.items c.args.ranks.groups.items) by (λ a. rw is (at_most c.args.ranks.types.items c.args.ranks.groups.items a));
      shown = rw c.new-told.ensures.items (λ n m t e. absurd (cc));
      valued = rw c.new-literals.ensures.items (λ i n e. absurd (cc));
      indexed = rw c.new-indexes.ensures.items (λ i index e. absurd (cc));
      begun = rw c.new-fronts.ensures.items (λ i front e. absurd (cc));
    }
