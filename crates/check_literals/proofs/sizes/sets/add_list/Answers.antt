use Rattle.std.proofs.Common.{◌∙◌, Option, ℕ, List, slice_get, sym, ap, subst}
use Rattle.cddl_meaning.specs.Alike.{SameTest}
use Rattle.cddl_meaning.specs.Forms.{sized}
use Rattle.table_nodes.specs.SizeSets.{set_view}
use Rattle.check_literals.specs.Sizes.Controllers.{IsList, is_wanted}
use Rattle.check_literals.specs.Sizes.Reach.{ranges_of}
use Rattle.check_literals.specs.Sizes.Sizes.{flag_at}
use Rattle.check_literals.proofs.OfSizes.Listing.{IsWanted, added, kept, more_listed, wanted}
use Rattle.check_literals.proofs.OfSizes.Lists.{ok_with}
use Rattle.check_literals.proofs.sizes.sets.add_list.Goals as goal

is_it_wanted : (c : goal.After-put_list) → IsWanted (flag_at c.args.sizable.now c.args.row) (slice_get c.args.sizes.now.rows.items c.args.row)
is_it_wanted c = wanted (flag_at c.args.sizable.now c.args.row) (slice_get c.args.sizes.now.rows.items c.args.row) (sym (ap (λ (rows : List (Option ℕ)). is_wanted (flag_at c.args.sizable.now c.args.row) (slice_get rows c.args.row)) c.deref.ensures.value) ∙ (sym c.is_wanted.ensures ∙ c.if-not-is_wanted.false))

is_list : (c : goal.After-put_list) → IsList c.args.sources.now c.args.row c.in_ok-list.list
is_list c = record {
  reached = c.reach.new.self.reached.items;
  are_reached = c.in_ok-reach.ensures.reached;
  same = subst (λ (rows : List ℕ). SameTest (sized (ranges_of c.args.sources.now rows)) (sized (set_view c.in_ok-list.list))) c.deref-2.ensures.value c.in_ok-list.ensures;
}

pub returns-clause-listed : goal.returns-clause-listed
returns-clause-listed c = ok_with c.put_list.result _ _ _ (λ v rows lists. more_listed c.args.sources.now c.args.sizable.now c.args.sizes.now c.put_list.new.sizes c.args.row c.in_ok-list.list (is_it_wanted c) rows lists c.requires.listed (is_list c)) c.put_list.ensures.rows c.put_list.ensures.lists

pub returns-clause-added : goal.returns-clause-added
returns-clause-added c = ok_with c.put_list.result _ _ _ (λ v rows lists. added c.args.sources.now c.args.sizable.now c.args.sizes.now c.put_list.new.sizes c.args.row c.in_ok-list.list (is_it_wanted c) rows lists) c.put_list.ensures.rows c.put_list.ensures.lists

pub returns-clause-kept : goal.returns-clause-kept
returns-clause-kept c = ok_with c.put_list.result _ _ _ (λ v rows lists. kept c.args.sources.now c.args.sizable.now c.args.sizes.now c.put_list.new.sizes c.args.row c.in_ok-list.list (is_it_wanted c) rows lists) c.put_list.ensures.rows c.put_list.ensures.lists
