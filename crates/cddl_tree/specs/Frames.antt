-- What the frames stand for, where a function reads the token of each leaf. Frames that do not fit what is below them stand for nothing.
use Rattle.std.specs.Prelude.{◌≡◌, ℕ, List, [], ◌∷◌, Option, Some, None, map, Bool, true, false, Result, Ok, Err, Box}
use Rattle.std.specs.declared.alloc.Global.{Global}
use Rattle.cddl_token.specs.declared.Token.{Token}
use Rattle.cddl_token.specs.declared.Kind.{Kind}
use Rattle.cddl_token.specs.declared.Kind.TheVariants as K
use Rattle.tree_nodes.specs.declared.tree.Leaf.{Leaf}
use Rattle.tree_nodes.specs.declared.tree.Entry.{Entry}
use Rattle.tree_nodes.specs.declared.tree.MemberKey.{MemberKey}
use Rattle.cddl_tree.specs.declared.frames.Alternatives.{Alternatives}
use Rattle.cddl_tree.specs.declared.frames.Arguments.{Arguments}
use Rattle.cddl_tree.specs.declared.frames.Parameters.{Parameters}
use Rattle.cddl_tree.specs.declared.frames.Prefix.{Prefix}
use Rattle.cddl_tree.specs.declared.frames.Prefix.TheVariants as P
use Rattle.cddl_tree.specs.declared.frames.TypeOpening.{TypeOpening}
use Rattle.cddl_tree.specs.declared.frames.TypeOpening.TheVariants as O
use Rattle.cddl_tree.specs.declared.frames.GroupOpening.{GroupOpening}
use Rattle.cddl_tree.specs.declared.frames.GroupOpening.TheVariants as G
use Rattle.cddl_tree.specs.declared.frames.Home.{Home}
use Rattle.cddl_tree.specs.declared.frames.Home.TheVariants as H
use Rattle.cddl_tree.specs.declared.frames.Before.{Before}
use Rattle.cddl_tree.specs.declared.frames.Before.TheVariants as B
use Rattle.cddl_tree.specs.declared.frames.Left.{Left}
use Rattle.cddl_tree.specs.declared.frames.AtType1.{AtType1}
use Rattle.cddl_tree.specs.declared.frames.AtType2.{AtType2}
use Rattle.cddl_tree.specs.declared.frames.Frame.{Frame}
use Rattle.cddl_tree.specs.declared.frames.Frame.TheVariants as F
use Rattle.cddl_tree.specs.declared.frames.Now.{Now}
use Rattle.cddl_tree.specs.declared.frames.Now.TheVariants as N
use Rattle.cddl_tree.specs.declared.frames.Next.{Next}
use Rattle.cddl_tree.specs.declared.frames.Next.TheVariants as X
use Rattle.cddl_tree.specs.declared.frames.Content.{Content}
use Rattle.cddl_tree.specs.declared.frames.Content.TheVariants as C
use Rattle.cddl_tree.specs.declared.frames.Current.{Current}
use Rattle.cddl_tree.specs.declared.frames.Stop.{Stop}
use Rattle.cddl_tree.specs.declared.frames.Stop.TheVariants.{Unexpected, Memory}
use Rattle.tree_nodes.specs.Syntax.Syntax as S
use Rattle.tree_nodes.specs.Syntax.Machine as M
use Rattle.tree_nodes.specs.View.{view_operator, view_types, view_type1, view_type2, view_arg, view_group, view_grpent, view_entry, view_key, view_parm, view_name, view_assigng, view_rule, with_entries, leaf}

-- what holds of what is there, if anything is
abbrev pub on : {A : Type 0} → Option A → (A → Type 0) → Type 0
on None P = Unit {0}
on (Some x) P = P x

-- what is made of what is there
abbrev pub made : {A B : Type 0} → (A → B) → Option A → Option B
made f None = None
made f (Some x) = Some (f x)

abbrev pub view_alternatives : (Leaf → Token) → Option Alternatives → M.Before
view_alternatives read None = M.nothing
view_alternatives read (Some b) = M.earlier (view_group read b.group) (read b.slashes)

abbrev pub view_arguments : (Leaf → Token) → Option Arguments → M.ArgBefore
view_arguments read None = M.no_arg
view_arguments read (Some b) = M.earlier_arg (view_arg read b.arguments.value) (read b.comma)

abbrev pub view_parameters : (Leaf → Token) → Option Parameters → M.ParmBefore
view_parameters read None = M.no_parm
view_parameters read (Some b) = M.earlier_parm (view_parm read b.parameters) (read b.comma)

abbrev pub view_prefix : (Leaf → Token) → Prefix → M.Prefix
view_prefix read P.Bare = M.bare
view_prefix read (P.Tilde t) = M.tilde (read t)
view_prefix read (P.Ampersand t) = M.ampersand (read t)

abbrev pub view_type_opening : (Leaf → Token) → TypeOpening → M.TypeOpening
view_type_opening read (O.Paren t) = M.paren (read t)
view_type_opening read (O.Tag t) = M.tag (read t)
view_type_opening read (O.TagHead t) = M.tag_head (read t)
view_type_opening read (O.TagContent o h a t) = M.tag_content (read o) (view_types read h.value) (read a) (read t)
view_type_opening read (O.SimpleHead t) = M.simple_head (read t)

abbrev pub view_group_opening : (Leaf → Token) → GroupOpening → M.GroupOpening
view_group_opening read (G.Brace t) = M.brace (read t)
view_group_opening read (G.Bracket t) = M.bracket (read t)
view_group_opening read (G.Choice a t) = M.choice (read a) (read t)

abbrev pub view_entries : (Leaf → Token) → List Entry → S.GrpChoice
view_entries read es = with_entries S.no_entries (map (view_entry read) es)

-- a group in brackets
abbrev pub bracketed : M.GroupOpening → S.Group → Token → S.Type2
bracketed (M.brace o) g c = S.map_of o g c
bracketed (M.bracket o) g c = S.array_of o g c
bracketed (M.choice a o) g c = S.choice_of a o g c

-- whether a token closes what was opened so
abbrev pub is_closed_by : M.GroupOpening → Kind → Bool
is_closed_by (M.brace o) K.BraceClose = true
is_closed_by (M.bracket o) K.BracketClose = true
is_closed_by (M.choice a o) K.ParenClose = true
is_closed_by _ i = false

-- the type1 that an operand ends
abbrev pub joined_to : (Leaf → Token) → Option (Box Left Global) → S.Type2 → S.Type1
joined_to read None x = S.one x
joined_to read (Some l) x = S.operation (view_type2 read l.value.type2.value) (view_operator read l.value.operator) x

-- What the frames stand for, by what may stand over them.
pub data Below : Type 0 where
  nowhere : Below
  types : M.AtTypes → Below
  reference : M.AtType2 → M.Prefix → Token → Below
  entry : M.AtEntry → Below
  group : M.AtGroup → Below

-- a type that is no entry's
abbrev pub as_types : Below → Option M.AtTypes
as_types (types (M.body rs n a)) = Some (M.body rs n a)
as_types (types (M.inside k o)) = Some (M.inside k o)
as_types _ = None

abbrev pub as_entry : Below → Option M.AtEntry
as_entry (entry p) = Some p
as_entry _ = None

abbrev pub as_group : Below → Option M.AtGroup
as_group (group k) = Some k
as_group _ = None

abbrev pub as_reference : Below → Option (M.AtType2 × M.Prefix × Token)
as_reference (reference k p o) = Some (k, p, o)
as_reference _ = None

abbrev pub view_home : (Leaf → Token) → Below → Home → Option M.AtTypes
view_home read b H.Inside = as_types b
view_home read b (H.Start oc) = made (λ p. M.start p (leaf read oc)) (as_entry b)
view_home read b (H.ValueOf oc m) = made (λ p. M.value_of p (leaf read oc) (view_key read m.value)) (as_entry b)

-- an argument of the reference below
abbrev pub as_argument : Below → M.ArgBefore → Option M.AtType1
as_argument (reference k p o) before = Some (M.argument_of k p o before)
as_argument _ before = None

abbrev pub type1_at : (Leaf → Token) → Below → Home → Before → Option M.AtType1
type1_at read b home B.Nothing = made M.head (view_home read b home)
type1_at read b home (B.Choices ts s) = made (λ k. M.next k (view_types read ts.value) (read s)) (view_home read b home)
type1_at read b home (B.Arguments before) = as_argument b (view_arguments read before)

abbrev pub view_at_type1 : (Leaf → Token) → Below → AtType1 → Option M.AtType1
view_at_type1 read b at = type1_at read b at.home at.before

abbrev pub type2_at : (Leaf → Token) → Option (Box Left Global) → Option M.AtType1 → Option M.AtType2
type2_at read None q = made M.lower q
type2_at read (Some l) q = made (λ k. M.upper k (view_type2 read l.value.type2.value) (view_operator read l.value.operator)) q

abbrev pub view_at_type2 : (Leaf → Token) → Below → AtType2 → Option M.AtType2
view_at_type2 read b at = type2_at read at.left (view_at_type1 read b at.at.value)

abbrev pub inside_at : Option M.AtType2 → M.TypeOpening → Below
inside_at None o = nowhere
inside_at (Some k) o = types (M.inside k o)

abbrev pub within_at : Option M.AtType2 → M.GroupOpening → Below
within_at None o = nowhere
within_at (Some k) o = group (M.within k o)

abbrev pub reference_at : Option M.AtType2 → M.Prefix → Token → Below
reference_at None p o = nowhere
reference_at (Some k) p o = reference k p o

abbrev pub in_entry_at : Option M.AtEntry → Option Token → Token → Below
in_entry_at None oc o = nowhere
in_entry_at (Some p) oc o = group (M.in_entry p oc o)

abbrev pub member_at : Option M.AtGroup → M.Before → S.GrpChoice → Below
member_at None b es = nowhere
member_at (Some k) b es = entry (M.member k b es)

-- with one frame more, in a rule after the rules
abbrev pub above : (Leaf → Token) → S.Rules → Below → Frame → Below
above read rs b (F.TypeBody n a) = types (M.body rs (view_name read n) (read a))
above read rs b (F.GroupBody n a) = entry (M.group_body rs (view_name read n) (view_assigng read a))
above read rs b (F.Types at o) = inside_at (view_at_type2 read b at) (view_type_opening read o)
above read rs b (F.Group at o) = within_at (view_at_type2 read b at) (view_group_opening read o)
above read rs b (F.Reference at p o) = reference_at (view_at_type2 read b at) (view_prefix read p) (read o)
above read rs b (F.Entry oc o) = in_entry_at (as_entry b) (leaf read oc) (read o)
above read rs b (F.Member before es) = member_at (as_group b) (view_alternatives read before) (view_entries read es.items)

abbrev pub over : (Leaf → Token) → S.Rules → Below → List Frame → Below
over read rs b [] = b
over read rs b (f ∷ fs) = over read rs (above read rs b f) fs

unfoldable pub below : (Leaf → Token) → S.Rules → List Frame → Below
below read rs fs = over read rs nowhere fs

abbrev pub view_now : (Leaf → Token) → Below → Now → Option M.State
view_now read b (N.Want at) = made M.want (view_at_type2 read b at)
view_now read b (N.WantRef at p) = made (λ k. M.want_ref k (view_prefix read p)) (view_at_type2 read b at)
view_now read b (N.WantContent at o h a) = made (λ k. M.want_content k (read o) (view_types read h.value) (read a)) (view_at_type2 read b at)
view_now read b (N.Have at r) = made (λ k. M.have k (view_type1 read r.value)) (view_at_type1 read b at.value)
view_now read b (N.WantArrow oc r u) = made (λ p. M.want_arrow p (leaf read oc) (view_type1 read r.value) (read u)) (as_entry b)
view_now read b (N.HaveGroup e) = made (λ p. M.have_group p (view_grpent read e.value)) (as_entry b)

-- where the code refuses the token that begins there, the machine is stuck
abbrev pub Refused : ℕ → Stop → M.State → Type 0
Refused start Memory m = Unit {0}
Refused start (Unexpected n) m = (m ≡ M.stuck) × (n ≡ start)

-- the code comes to the machine's state m over these frames
abbrev pub Comes : (Leaf → Token) → Current → S.Rules → Below → Next → M.State → Type 0
Comes read t rs b (X.Within now) m = view_now read b now.value ≡ Some m
Comes read t rs b (X.Ended r) m = m ≡ M.next_rule (S.rules rs (view_rule read r.value)) t.kind (read t.leaf)

-- the code does the machine's step to m at the token, or refuses it
abbrev pub Gives : (Leaf → Token) → Current → S.Rules → Below → Result Next Stop → M.State → Type 0
Gives read t rs b (Ok next) m = Comes read t rs b next m
Gives read t rs b (Err e) m = Refused t.start e m

-- a position that is not the head of an entry
abbrev pub IsElsewhere : M.AtType2 → Type 0
IsElsewhere (M.lower (M.head (M.start p oc))) = ⊥
IsElsewhere _ = Unit {0}

-- the occurrence before the first operand there, where that is the head of an entry
abbrev pub IsStart : (Leaf → Token) → Option (Option Leaf) → AtType1 → Type 0
IsStart read (Some oc) x = (b : Below) → made M.lower (view_at_type1 read b x) ≡ made (λ p. M.lower (M.head (M.start p (leaf read oc)))) (as_entry b)
IsStart read None x = (b : Below) → on (made M.lower (view_at_type1 read b x)) IsElsewhere

-- the occurrence before the position, where that is the head of an entry
abbrev pub IsHead : (Leaf → Token) → Option (Option Leaf) → AtType2 → Type 0
IsHead read (Some oc) x = (b : Below) → view_at_type2 read b x ≡ made (λ p. M.lower (M.head (M.start p (leaf read oc)))) (as_entry b)
IsHead read None x = (b : Below) → on (view_at_type2 read b x) IsElsewhere

-- a choice of more than one type1
abbrev pub IsChoice : S.Types → Type 0
IsChoice (S.only r) = ⊥
IsChoice (S.or ts s r) = Unit {0}

abbrev pub IsKeyAt : (Leaf → Token) → M.AtEntry → Option Token → Option MemberKey → S.Type1 → Token → Type 0
IsKeyAt read p oc None r c = M.colon p oc (S.only r) c ≡ M.stuck
IsKeyAt read p oc (Some m) r c = M.colon p oc (S.only r) c ≡ M.open_value p oc (view_key read m)

-- the key that the type1 is before a colon, if it is a name or a value
abbrev pub IsKeyOf : (Leaf → Token) → Option MemberKey → S.Type1 → Token → Type 0
IsKeyOf read o r c = (p : M.AtEntry) → (oc : Option Token) → IsKeyAt read p oc o r c

-- what stands in parentheses: a type, where it is one
abbrev pub IsContent : (Leaf → Token) → Content → S.Group → Type 0
IsContent read (C.Type t) g = g ≡ S.sole (S.entries S.no_entries (S.typed None (view_types read t)) None)
IsContent read (C.Group x) g = (view_group read x ≡ g) × (S.is_type g ≡ false)
