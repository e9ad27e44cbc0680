-- Forms whose parts are known by what they are of.
use Rattle.std.specs.Prelude.{List, map}
use Rattle.std.specs.declared.alloc.Global.{Global}
use Rattle.std.specs.declared.vec.Vec.{Vec}
use Rattle.cddl_meaning.specs.Forms as F
use Rattle.table_nodes.specs.Nodes.{content_view, most_view, test_view}
use Rattle.table_making.specs.declared.origin.TypeOrigin.{TypeOrigin}
use Rattle.table_making.specs.declared.origin.GroupOrigin.{GroupOrigin}
use Rattle.table_making.specs.declared.form.EntryForm.{EntryForm}
use Rattle.table_making.specs.declared.form.TagForm.{TagForm}
use Rattle.table_making.specs.declared.form.TagForm.TheVariants as K
use Rattle.table_making.specs.declared.form.TypeForm.{TypeForm}
use Rattle.table_making.specs.declared.form.TypeForm.TheVariants as T
use Rattle.table_making.specs.declared.form.GroupForm.{GroupForm}
use Rattle.table_making.specs.declared.form.GroupForm.TheVariants as G

abbrev pub tag_form_view : TagForm → F.TagNumber TypeOrigin
tag_form_view K.Any = F.any_number
tag_form_view (K.Exactly n) = F.exactly n
tag_form_view (K.SuchAs o) = F.such_as o

-- an entry of a map, and the entries of alternatives
abbrev pub entry_form_view : EntryForm → F.MapEntry TypeOrigin
entry_form_view e = record { least = e.least; most = most_view e.most; key_type = e.key; cuts = e.cuts; value_type = e.value }

abbrev pub map_form_view : List (Vec EntryForm Global) → List (List (F.MapEntry TypeOrigin))
map_form_view ess = map (λ (es : Vec EntryForm Global). map entry_form_view es.items) ess

abbrev pub type_form_view : TypeForm → F.Node TypeOrigin GroupOrigin
type_form_view (T.Plain t) = F.Plain (test_view t)
type_form_view (T.Ref o) = F.Ref o
type_form_view (T.Choice os) = F.Choice os.items
type_form_view (T.ArrayOf o) = F.ArrayOf o
type_form_view (T.TagOf n o) = F.TagOf (tag_form_view n) o
type_form_view (T.SimpleBy o) = F.SimpleBy o
type_form_view (T.MapOf ess) = F.MapOf (map_form_view ess.items)
type_form_view (T.Both o p) = F.Both o p
type_form_view (T.Such o t) = F.Such o (test_view t)
type_form_view (T.Holding o c p) = F.Holding o (content_view c) p

abbrev pub group_form_view : GroupForm → F.Group TypeOrigin GroupOrigin
group_form_view (G.Entry o) = F.Entry o
group_form_view (G.Ref o) = F.GroupRef o
group_form_view (G.Sequence os) = F.Sequence os.items
group_form_view (G.Alternatives os) = F.Alternatives os.items
group_form_view (G.Repeat least most o) = F.Repeat least (most_view most) o
