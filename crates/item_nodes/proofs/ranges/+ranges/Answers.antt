use Rattle.std.proofs.Common.{sym, subst}
use Rattle.std.proofs.lemmas.Str.{IsUtf8-string_bytes}
use Rattle.cbor_data.specs.Value.{AreBytes, IsInRange}
use Rattle.item_nodes.specs.View.{view}
use Rattle.item_nodes.proofs.Views.{view-Text}
use Rattle.item_nodes.proofs.ranges.+ranges.Goals as goal

pub note_ranges-returns-in-Text : goal.note_ranges-returns-in-Text
note_ranges-returns-in-Text t c =
    subst (λ i. IsInRange (view i)) (sym c.in-Text.is)
    (subst IsInRange (sym (view-Text c.in-Text.text)) (subst AreBytes c.as_bytes.ensures.value c.note_bytes-in-Text.ensures, IsUtf8-string_bytes c.in-Text.text))
