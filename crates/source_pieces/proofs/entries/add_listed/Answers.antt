use Rattle.std.proofs.Common.{◌∷◌, [], length, sym, ap}
use Rattle.tree_nodes.specs.View.{view_grpent}
use Rattle.source_pieces.specs.Pieces.{Inner, an_entry, inner_of}
use Rattle.source_pieces.specs.Walk.{listed_entries, view_around}
use Rattle.source_pieces.proofs.Adding.{adds_as, adds_both, adds_none}
use Rattle.source_pieces.proofs.Listing.{none_left}
use Rattle.source_pieces.proofs.entries.add_listed.Goals as goal

pub each-init : goal.each-init
each-init c = record { follows = λ new h. h }

pub each-preserved : goal.each-preserved
each-preserved c =
    let is = c.in-Some.ensures.cases.0 in
    let k = length c.in-Some.others.now in
    let one = adds_as (λ read. an_entry (view_around read c.args.around) c.args.alternative k (inner_of (view_grpent read c.in-Some.entry.now.grpent)) ∷ []) (λ read. ap (λ (e : Inner). an_entry (view_around read c.args.around) c.args.alternative k e ∷ []) (sym (c.inner_node.ensures read))) c.in_ok-push_entry.ensures in
    record { follows = λ new h. c.each.invariant.follows new (adds_as _ (λ read. ap (listed_entries read (view_around read c.args.around) c.args.alternative) is) (adds_both one h)) }

pub returns : goal.returns
returns c = c.each.invariant.follows _ (adds_none _ _ _ (λ read. ap (listed_entries read (view_around read c.args.around) c.args.alternative) (none_left _ c.in_default.ensures.cases)))
