-- Types and groups of lists as a language: what each number stands for.
use Rattle.std.specs.Prelude.{List, [], map, Option, Some, None, slice_get}
use Rattle.cbor_data.specs.Value.{Value, uint, nint}
use Rattle.item_nodes.specs.View.{view}
use Rattle.cddl_meaning.specs.Forms as F
use Rattle.cddl_meaning.specs.Forms.{Language}
use Rattle.std.specs.declared.vec.Vec.{Vec}
use Rattle.std.specs.declared.alloc.Global.{Global}
use Rattle.table_nodes.specs.declared.nodes.TypeId.{TypeId}
use Rattle.table_nodes.specs.declared.nodes.GroupId.{GroupId}
use Rattle.table_nodes.specs.declared.nodes.Whole.{Whole}
use Rattle.table_nodes.specs.declared.nodes.Whole.TheVariants as W
use Rattle.table_nodes.specs.SizeSets.{set_view}
use Rattle.table_nodes.specs.declared.nodes.Test.{Test}
use Rattle.table_nodes.specs.declared.nodes.Test.TheVariants as T
use Rattle.table_nodes.specs.declared.nodes.TagNumber.{TagNumber}
use Rattle.table_nodes.specs.declared.nodes.TagNumber.TheVariants as K
use Rattle.table_nodes.specs.declared.nodes.MapEntry.{MapEntry}
use Rattle.table_nodes.specs.declared.nodes.Content.{Content}
use Rattle.table_nodes.specs.declared.nodes.Content.TheVariants as C
use Rattle.table_nodes.specs.declared.nodes.Node.{Node}
use Rattle.table_nodes.specs.declared.nodes.Node.TheVariants as N
use Rattle.table_nodes.specs.declared.nodes.Most.{Most}
use Rattle.table_nodes.specs.declared.nodes.Most.TheVariants as M
use Rattle.table_nodes.specs.declared.nodes.Group.{Group}
use Rattle.table_nodes.specs.declared.nodes.Group.TheVariants as G

-- a whole number as an item
abbrev pub whole_view : Whole → Value
whole_view (W.Uint n) = uint n
whole_view (W.Nint n) = nint n

-- a test; of a literal only its value counts
abbrev pub test_view : Test → F.Test
test_view T.Anything = F.anything
test_view (T.Major m) = F.of_major m
test_view (T.Simple n) = F.simple_value n
test_view (T.Float w) = F.float_of w
test_view (T.Equals i) = F.equals (view i)
test_view (T.Between least last closed) = F.between (whole_view least) (whole_view last) closed
test_view (T.Differs i) = F.differs_from (view i)
test_view (T.Less n) = F.less_than (whole_view n)
test_view (T.AtMost n) = F.at_most_number (whole_view n)
test_view (T.Greater n) = F.greater_than (whole_view n)
test_view (T.AtLeast n) = F.at_least_number (whole_view n)
test_view (T.Sized z) = F.sized (set_view z)
test_view (T.Bits z) = F.bits_among (set_view z)

-- which tag numbers are meant
abbrev pub tag_number_view : TagNumber → F.TagNumber TypeId
tag_number_view K.Any = F.any_number
tag_number_view (K.Exactly n) = F.exactly n
tag_number_view (K.SuchAs m) = F.such_as m

-- how often at most
abbrev pub most_view : Most → F.Most
most_view (M.AtMost n) = F.at_most n
most_view M.Any = F.any_number_of

-- an entry of a map, and the entries of an alternative
abbrev pub entry_view : MapEntry → F.MapEntry TypeId
entry_view e = record { least = e.least; most = most_view e.most; key_type = e.key_type; cuts = e.cuts; value_type = e.value_type }

abbrev pub entries_view : List MapEntry → List (F.MapEntry TypeId)
entries_view es = map entry_view es

abbrev pub alternatives_view : List (Vec MapEntry Global) → List (List (F.MapEntry TypeId))
alternatives_view ess = map (λ (es : Vec MapEntry Global). entries_view es.items) ess

-- what is read in a byte string
abbrev pub content_view : Content → F.Content
content_view C.OneItem = F.one_item
content_view C.Sequence = F.sequence_of_items

-- the form of a type
abbrev pub type_view : Node → F.Node TypeId GroupId
type_view (N.Plain t) = F.Plain (test_view t)
type_view (N.Ref m) = F.Ref m
type_view (N.Choice ms) = F.Choice ms.items
type_view (N.ArrayOf g) = F.ArrayOf g
type_view (N.TagOf t m) = F.TagOf (tag_number_view t) m
type_view (N.SimpleBy m) = F.SimpleBy m
type_view (N.MapOf ess) = F.MapOf (alternatives_view ess.items)
type_view (N.Both m n) = F.Both m n
type_view (N.Such m t) = F.Such m (test_view t)
type_view (N.Holding m c n) = F.Holding m (content_view c) n

-- the form of a group
abbrev pub group_view : Group → F.Group TypeId GroupId
group_view (G.Entry m) = F.Entry m
group_view (G.Ref g) = F.GroupRef g
group_view (G.Sequence gs) = F.Sequence gs.items
group_view (G.Alternatives gs) = F.Alternatives gs.items
group_view (G.Repeat least most g) = F.Repeat least (most_view most) g

-- A type that is not there says no to every item, and a group that is not there fails.
abbrev pub type_or_none : Option Node → F.Node TypeId GroupId
type_or_none (Some n) = type_view n
type_or_none None = F.Choice []

abbrev pub group_or_none : Option Group → F.Group TypeId GroupId
group_or_none (Some g) = group_view g
group_or_none None = F.Alternatives []

-- the language of these lists: a type or a group at each number
abbrev pub language_in : List Node → List Group → Language TypeId GroupId
language_in types groups = record { type_at = λ n. type_or_none (slice_get types n.number); group_at = λ g. group_or_none (slice_get groups g.number); counting = F.by_forms (λ n. type_or_none (slice_get types n.number)) }
