-- What contracts see of what a test is asked of.
use Rattle.cbor_data.specs.Value.{Value, uint, bytes}
use Rattle.item_nodes.specs.View.{view}
use Rattle.match_tests.specs.declared.subject.Subject.{Subject}
use Rattle.match_tests.specs.declared.subject.Subject.TheVariants as S

abbrev pub subject_view : Subject → Value
subject_view (S.Item i) = view i.now
subject_view (S.Number n) = uint n
subject_view (S.Bytes b) = bytes b.now
