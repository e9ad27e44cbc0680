use Rattle.source_pieces.proofs.Adding.{on_ok}
use Rattle.source_pieces.proofs.Listing.{whole_group}
use Rattle.source_pieces.proofs.entries.add_entries_of.Goals as goal

pub returns : goal.returns
returns c =
    on_ok c.add_choices.result _ _ (whole_group c.args.around c.args.group.now _ _ c.as_slice-entries.ensures.value c.as_slice-choices.ensures.value c.in_ok-add_listed.ensures) c.add_choices.ensures
