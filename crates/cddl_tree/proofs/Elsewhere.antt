-- Places that are not the head of an entry, and frames that are none of an entry or a group.
use Rattle.std.proofs.Common.{◌≡◌, ℕ, Option, Some, None, refl, sym, subst, Box, Global}
use Rattle.tree_nodes.specs.declared.tree.Leaf.{Leaf}
use Rattle.cddl_token.specs.declared.Token.{Token}
use Rattle.cddl_token.specs.declared.Kind.{Kind}
use Rattle.cddl_token.specs.declared.Kind.TheVariants as K
use Rattle.cddl_tree.specs.declared.frames.Stop.{Stop}
use Rattle.cddl_tree.specs.declared.frames.Stop.TheVariants.{Unexpected}
use Rattle.cddl_tree.specs.declared.frames.Home.TheVariants as H
use Rattle.cddl_tree.specs.declared.frames.Before.TheVariants as B
use Rattle.cddl_tree.specs.declared.frames.Left.{Left}
use Rattle.cddl_tree.specs.declared.frames.Arguments.{Arguments}
use Rattle.tree_nodes.specs.declared.tree.MemberKey.{MemberKey}
use Rattle.cddl_tree.specs.declared.frames.AtType1.{AtType1}
use Rattle.cddl_tree.specs.declared.frames.AtType2.{AtType2}
use Rattle.cddl_tree.specs.declared.frames.GroupOpening.{GroupOpening}
use Rattle.cddl_tree.specs.declared.frames.GroupOpening.TheVariants as G
use Rattle.cddl_tree.specs.declared.frames.Content.{Content}
use Rattle.cddl_tree.specs.declared.frames.Content.TheVariants as C
use Rattle.tree_nodes.specs.declared.tree.Types.{Types}
use Rattle.tree_nodes.specs.declared.tree.Group.{Group}
use Rattle.tree_nodes.specs.View.{view_types, view_group, leaf}
use Rattle.std.proofs.Common.{true, false}
use Rattle.tree_nodes.specs.Syntax.Syntax as S
use Rattle.tree_nodes.specs.Syntax.Machine as M
use Rattle.cddl_tree.specs.Frames.{on, made, Below, nowhere, types, reference, entry, group, as_types, as_entry, as_argument, view_home, view_at_type1, view_at_type2, view_group_opening, bracketed, is_closed_by, Refused, IsElsewhere, IsStart, IsHead, IsContent}
use Rattle.cddl_tree.proofs.Steps.{refuses}
use Rattle.cddl_tree.proofs.Closing.{open_paren_elsewhere, occur_elsewhere, paren_group}

-- The first position of a type.

start_position : (q : Option M.AtEntry) (oc : Option Token) → made M.lower (made M.head (made (λ p. M.start p oc) q)) ≡ made (λ p. M.lower (M.head (M.start p oc))) q
start_position None oc = refl
start_position (Some p) oc = refl

pub start_here : (read : Leaf → Token) (b : Below) (x : AtType1) (oc : Option Leaf) → x.before ≡ B.Nothing → x.home ≡ H.Start oc → made M.lower (view_at_type1 read b x) ≡ made (λ p. M.lower (M.head (M.start p (leaf read oc)))) (as_entry b)
start_here read b x oc f g = rw (f, g) (start_position (as_entry b) (leaf read oc))

-- at a position with no operand before it
pub first_position : (read : Leaf → Token) (r : Option (Option Leaf)) (x : AtType2) (y : AtType1) → x.left ≡ None → y ≡ x.at.value → IsStart read r y → IsHead read r x
first_position read (Some oc) x y e f h = λ b. rw (e, ← f) (h b)
first_position read None x y e f h = λ b. rw (e, ← f) (h b)

-- Places elsewhere.

upper_elsewhere : (q : Option M.AtType1) (x : S.Type2) (o : S.Operator) → on (made (λ k. M.upper k x o) q) IsElsewhere
upper_elsewhere None x o = tt
upper_elsewhere (Some k) x o = tt

value_elsewhere : (q : Option M.AtEntry) (oc : Option Token) (m : S.MemberKey) → on (made M.lower (made M.head (made (λ p. M.value_of p oc m) q))) IsElsewhere
value_elsewhere None oc m = tt
value_elsewhere (Some p) oc m = tt

next_elsewhere : (q : Option M.AtTypes) (ts : S.Types) (s : Token) → on (made M.lower (made (λ k. M.next k ts s) q)) IsElsewhere
next_elsewhere None ts s = tt
next_elsewhere (Some k) ts s = tt

argument_elsewhere : (b : Below) (a : M.ArgBefore) → on (made M.lower (as_argument b a)) IsElsewhere
argument_elsewhere nowhere a = tt
argument_elsewhere (types k) a = tt
argument_elsewhere (reference k p o) a = tt
argument_elsewhere (entry p) a = tt
argument_elsewhere (group k) a = tt

inside_elsewhere : (b : Below) → on (made M.lower (made M.head (as_types b))) IsElsewhere
inside_elsewhere nowhere = tt
inside_elsewhere (types (M.body rs n a)) = tt
inside_elsewhere (types (M.inside k o)) = tt
inside_elsewhere (types (M.start p oc)) = tt
inside_elsewhere (types (M.value_of p oc m)) = tt
inside_elsewhere (reference k p o) = tt
inside_elsewhere (entry p) = tt
inside_elsewhere (group k) = tt

pub left_position : (read : Leaf → Token) (b : Below) (x : AtType2) (l : Box Left Global) → x.left ≡ Some l → on (view_at_type2 read b x) IsElsewhere
left_position read b x l e = rw e (upper_elsewhere (view_at_type1 read b x.at.value) _ _)

pub inside_position : (read : Leaf → Token) (b : Below) (x : AtType1) → x.before ≡ B.Nothing → x.home ≡ H.Inside → on (made M.lower (view_at_type1 read b x)) IsElsewhere
inside_position read b x f g = rw (f, g) (inside_elsewhere b)

pub value_position : (read : Leaf → Token) (b : Below) (x : AtType1) (oc : Option Leaf) (m : Box MemberKey Global) → x.before ≡ B.Nothing → x.home ≡ H.ValueOf oc m → on (made M.lower (view_at_type1 read b x)) IsElsewhere
value_position read b x oc m f g = rw (f, g) (value_elsewhere (as_entry b) _ _)

pub choices_position : (read : Leaf → Token) (b : Below) (x : AtType1) (ts : Box Types Global) (s : Leaf) → x.before ≡ B.Choices ts s → on (made M.lower (view_at_type1 read b x)) IsElsewhere
choices_position read b x ts s f = rw f (next_elsewhere (view_home read b x.home) _ _)

pub argument_position : (read : Leaf → Token) (b : Below) (x : AtType1) (a : Option Arguments) → x.before ≡ B.Arguments a → on (made M.lower (view_at_type1 read b x)) IsElsewhere
argument_position read b x a f = rw f (argument_elsewhere b _)

-- A bracket that its opening fits, and one that it does not.

pub closed : (k : M.AtType2) (o : M.GroupOpening) (g : S.Group) (i : Kind) (t : Token) → is_closed_by o i ≡ true → M.shut_group (M.within k o) g i t ≡ M.got k (bracketed o g t)
closed k (M.brace o) g K.BraceClose t e = refl
closed k (M.bracket o) g K.BracketClose t e = refl
closed k (M.choice a o) g K.ParenClose t e = refl
closed k o g i t e = cc

pub not_closed : (k : M.AtType2) (o : M.GroupOpening) (g : S.Group) (i : Kind) (t : Token) → is_closed_by o i ≡ false → M.shut_group (M.within k o) g i t ≡ M.stuck
not_closed k (M.brace o) g K.BraceClose t e = cc
not_closed k (M.bracket o) g K.BracketClose t e = cc
not_closed k (M.choice a o) g K.ParenClose t e = cc
not_closed k o g i t e = refl

-- A member without entries.

pub fresh : (q : Option M.AtGroup) (bf : M.Before) (es : S.GrpChoice) (P : M.State → Type 0) → es ≡ S.no_entries → on q (λ k. P (M.open_entry (M.member k bf es))) → on q (λ k. P (M.open_entry (M.member k bf S.no_entries)))
fresh q bf es P e h = rw e at h

-- At the head of an entry, and elsewhere.

pub occur_twice : (q : Option M.AtType2) (x : Option M.AtEntry) (oc : Option Token) (o t : Token) (start : ℕ) (e : Stop) → oc ≡ Some o → q ≡ made (λ p. M.lower (M.head (M.start p oc))) x → e ≡ Unexpected start → on q (λ k. Refused start e (M.occur_want k t))
occur_twice q None oc o t start e f g h = rw g tt
occur_twice q (Some p) oc o t start e f g h = rw (g, f) (refuses start e _ h refl)

pub occur_refused : (q : Option M.AtType2) (t : Token) (start : ℕ) (e : Stop) → on q IsElsewhere → e ≡ Unexpected start → on q (λ k. Refused start e (M.occur_want k t))
occur_refused None t start e g h = tt
occur_refused (Some k) t start e g h = refuses start e _ h (occur_elsewhere k t g)

pub paren_elsewhere : (q : Option M.AtType2) (t : Token) (P : M.State → Type 0) → on q IsElsewhere → on q (λ k. P (M.open_types (M.inside k (M.paren t)))) → on q (λ k. P (M.open_paren k t))
paren_elsewhere None t P h g = tt
paren_elsewhere (Some k) t P h g = subst P (sym (open_paren_elsewhere k t h)) g

-- After a group.

pub got_as : (q : Option M.AtType2) (x y : S.Type2) (P : M.State → Type 0) → x ≡ y → on q (λ k. P (M.got k x)) → on q (λ k. P (M.got k y))
got_as q x y P e h = subst (λ (z : S.Type2). on q (λ k. P (M.got k z))) e h

pub map_bracketed : (read : Leaf → Token) (o : GroupOpening) (p : Leaf) (c : Token) (g h : S.Group) → o ≡ G.Brace p → g ≡ h → S.map_of (read p) g c ≡ bracketed (view_group_opening read o) h c
map_bracketed read o p c g h e f = rw (e, f) refl

pub array_bracketed : (read : Leaf → Token) (o : GroupOpening) (p : Leaf) (c : Token) (g h : S.Group) → o ≡ G.Bracket p → g ≡ h → S.array_of (read p) g c ≡ bracketed (view_group_opening read o) h c
array_bracketed read o p c g h e f = rw (e, f) refl

pub choice_bracketed : (read : Leaf → Token) (o : GroupOpening) (a p : Leaf) (c : Token) (g h : S.Group) → o ≡ G.Choice a p → g ≡ h → S.choice_of (read a) (read p) g c ≡ bracketed (view_group_opening read o) h c
choice_bracketed read o a p c g h e f = rw (e, f) refl

pub content_type : (read : Leaf → Token) (x : Content) (ts : Types) (g : S.Group) → x ≡ C.Type ts → IsContent read x g → g ≡ S.sole (S.entries S.no_entries (S.typed None (view_types read ts)) None)
content_type read x ts g e h = rw e at h

pub content_group : (read : Leaf → Token) (x : Content) (y : Group) (g : S.Group) → x ≡ C.Group y → IsContent read x g → (view_group read y ≡ g) × (S.is_type g ≡ false)
content_group read x y g e h = rw e at h

pub paren_got : (q : Option M.AtEntry) (w : Option M.AtType2) (oc : Option Token) (o t : Token) (g : S.Group) (ts : S.Types) (x : S.Type2) (P : M.State → Type 0) → w ≡ made (λ k. M.lower (M.head k)) (made (λ p. M.start p oc) q) → g ≡ S.sole (S.entries S.no_entries (S.typed None ts) None) → x ≡ S.parens o ts t → on w (λ k. P (M.got k x)) → on q (λ p. P (M.shut_paren p oc o g t))
paren_got None w oc o t g ts x P d e f h = tt
paren_got (Some p) w oc o t g ts x P d e f h = rw e (rw (d, f) at h)

pub paren_have : (q : Option M.AtEntry) (oc : Option Token) (o t : Token) (g h : S.Group) (x : S.GrpEnt) (P : M.State → Type 0) → x ≡ S.grouped oc o h t → h ≡ g → S.is_type g ≡ false → on q (λ p. P (M.have_group p x)) → on q (λ p. P (M.shut_paren p oc o g t))
paren_have None oc o t g h x P e f n i = tt
paren_have (Some p) oc o t g h x P e f n i = subst P (sym (paren_group p oc o g t n)) (rw (e, f) at i)
