use Rattle.std.proofs.Common.{ap}
use Rattle.source_pieces.specs.Walk.{listed_choices, view_around}
use Rattle.source_pieces.proofs.Adding.{adds_as, adds_both, adds_none}
use Rattle.source_pieces.proofs.Listing.{listed_as, none_left}
use Rattle.source_pieces.proofs.entries.add_choices.Goals as goal

pub each-init : goal.each-init
each-init c = record { follows = λ new h. h }

pub each-preserved : goal.each-preserved
each-preserved c =
    let is = c.in-Some.ensures.cases.0 in
    record { follows = λ new h. c.each.invariant.follows new (adds_as _ (λ read. ap (listed_choices read (view_around read c.args.around)) is) (adds_both (listed_as c.args.around _ _ _ c.as_slice-entries.ensures.value c.in_ok-add_listed.ensures) h)) }

pub returns : goal.returns
returns c = c.each.invariant.follows _ (adds_none _ _ _ (λ read. ap (listed_choices read (view_around read c.args.around)) (none_left _ c.in_default.ensures.cases)))
