use Rattle.item_nodes.proofs.Lemmas.{view-Bytes, view-Text}
use Rattle.match_tests.proofs.keys.differ_at_once.Goals as goal

pub returns-in-Bytes-Bytes : goal.returns-in-Bytes-Bytes
returns-in-Bytes-Bytes c = λ h. rw (c.in-Bytes-Bytes.is-0, c.in-Bytes-Bytes.is-1, view-Bytes c.in-Bytes-Bytes.some, view-Bytes c.in-Bytes-Bytes.others) (rw (c.deref.ensures.value, c.deref-in-Bytes-Bytes.ensures.value) at c.differ_in_length.ensures h)

pub returns-in-Text-Text : goal.returns-in-Text-Text
returns-in-Text-Text c = λ h. rw (c.in-Text-Text.is-0, c.in-Text-Text.is-1, view-Text c.in-Text-Text.some, view-Text c.in-Text-Text.others) (rw (c.as_bytes.ensures.value, c.as_bytes-in-Text-Text.ensures.value) at c.differ_in_length-in-Text-Text.ensures h)
