-- What the machine does where the frames fit, in the forms that the code's steps have.
use Rattle.std.proofs.Common.{◌≡◌, ℕ, ◌≢◌, List, [], ◌∷◌, ◌++◌, Option, Some, None, refl, sym, ap, ◌∙◌, subst, Box, Global}
use Rattle.tree_nodes.specs.declared.tree.Leaf.{Leaf}
use Rattle.cddl_token.specs.declared.Token.{Token}
use Rattle.cddl_token.specs.declared.Kind.{Kind}
use Rattle.cddl_token.specs.declared.Kind.TheVariants as K
use Rattle.cddl_tree.specs.declared.frames.Stop.{Stop}
use Rattle.cddl_tree.specs.declared.frames.Stop.TheVariants.{Unexpected}
use Rattle.cddl_tree.specs.declared.frames.Home.{Home}
use Rattle.cddl_tree.specs.declared.frames.Before.{Before}
use Rattle.cddl_tree.specs.declared.frames.Before.TheVariants as B
use Rattle.cddl_tree.specs.declared.frames.AtType1.{AtType1}
use Rattle.cddl_tree.specs.declared.frames.Left.{Left}
use Rattle.cddl_tree.specs.declared.frames.Arguments.{Arguments}
use Rattle.cddl_tree.specs.declared.frames.TypeOpening.{TypeOpening}
use Rattle.cddl_tree.specs.declared.frames.TypeOpening.TheVariants as O
use Rattle.cddl_tree.specs.declared.frames.Frame.{Frame}
use Rattle.tree_nodes.specs.declared.tree.Types.{Types}
use Rattle.tree_nodes.specs.Syntax.Syntax as S
use Rattle.tree_nodes.specs.Syntax.Machine as M
use Rattle.tree_nodes.specs.View.{view_operator, view_types, view_type2}
use Rattle.cddl_tree.specs.Frames.{on, made, Below, nowhere, types, reference, entry, group, as_argument, view_home, view_arguments, view_type_opening, type1_at, type2_at, view_at_type1, joined_to, above, below, Refused}
use Rattle.cddl_tree.proofs.Pushing.{below-push, below-empty}

pub on_all : {A : Type 0} (q : Option A) (P : A → Type 0) → ((x : A) → P x) → on q P
on_all None P h = tt
on_all (Some x) P h = h x

pub made_made : {A B C : Type 0} (f : A → B) (g : B → C) (q : Option A) → made g (made f q) ≡ made (λ x. g (f x)) q
made_made f g None = refl
made_made f g (Some x) = refl

pub refuses : (start : ℕ) (e : Stop) (m : M.State) → e ≡ Unexpected start → m ≡ M.stuck → Refused start e m
refuses start e m f g = rw f (g, refl)

-- a refusal wherever the machine is stuck
pub refused_on : {A : Type 0} (q : Option A) (start : ℕ) (e : Stop) (f : A → M.State) → e ≡ Unexpected start → ((x : A) → f x ≡ M.stuck) → on q (λ x. Refused start e (f x))
refused_on q start e f h g = on_all q _ (λ x. refuses start e _ h (g x))

pub popped : (read : Leaf → Token) (rs : S.Rules) (old new : List Frame) (f : Frame) → old ≡ new ++ f ∷ [] → below read rs old ≡ above read rs (below read rs new) f
popped read rs old new f e = ap (below read rs) e ∙ below-push read rs new f

pub bottom : (read : Leaf → Token) (rs : S.Rules) (old : List Frame) → old ≡ [] → below read rs old ≡ nowhere
bottom read rs old e = ap (below read rs) e ∙ below-empty read rs

-- What is in a box is what was put into it.

-- where the view is what the position makes, it is the state there
pub stands_at : {A : Type 0} (f : A → M.State) (q : Option A) (v : Option M.State) → v ≡ made f q → on q (λ x. v ≡ Some (f x))
stands_at f None v e = tt
stands_at f (Some x) v e = e

pub on_with : {A : Type 0} (q : Option A) (P R : A → Type 0) → ((x : A) → P x → R x) → on q P → on q R
on_with None P R f h = tt
on_with (Some x) P R f h = f x h

-- what holds of what is in a box holds of the box
pub at_same : (read : Leaf → Token) (b : Below) (x y : AtType1) (P : M.AtType1 → Type 0) → x ≡ y → on (view_at_type1 read b x) P → on (view_at_type1 read b y) P
at_same read b x y P e h = subst (λ (z : AtType1). on (view_at_type1 read b z) P) e h

-- At the head of an entry that has no occurrence.

pub head_none : (q : Option M.AtType2) (x : Option M.AtEntry) (oc : Option Token) (P : M.AtType2 → Type 0) → oc ≡ None → q ≡ made (λ p. M.lower (M.head (M.start p oc))) x → on x (λ p. P (M.lower (M.head (M.start p None)))) → on q P
head_none q None oc P e f h = rw f tt
head_none q (Some p) oc P e f h = rw (f, e) h

-- After an operand.

pub got_joined : (read : Leaf → Token) (q : Option M.AtType1) (l : Option (Box Left Global)) (P : M.State → Type 0) (r : S.Type1) (x : S.Type2) → r ≡ joined_to read l x → on q (λ k. P (M.have k r)) → on (type2_at read l q) (λ k. P (M.got k x))
got_joined read None None P r x e h = tt
got_joined read None (Some l) P r x e h = tt
got_joined read (Some k) None P r x e h = rw e at h
got_joined read (Some k) (Some l) P r x e h = rw e at h

pub joined_none : (read : Leaf → Token) (l : Option (Box Left Global)) (r : S.Type1) (x : S.Type2) → l ≡ None → r ≡ S.one x → r ≡ joined_to read l x
joined_none read l r x e f = rw (e, f) refl

pub joined_some : (read : Leaf → Token) (l : Option (Box Left Global)) (w : Box Left Global) (y : Left) (r : S.Type1) (x : S.Type2) → l ≡ Some w → y ≡ w.value → r ≡ S.operation (view_type2 read y.type2.value) (view_operator read y.operator) x → r ≡ joined_to read l x
joined_some read l w y r x e d f = rw (e, ← d, f) refl

pub operated_one : (read : Leaf → Token) (q : Option M.AtType1) (l : Box Left Global) (r : S.Type1) (x : S.Type2) (o : S.Operator) (P : M.State → Type 0) → view_type2 read l.value.type2.value ≡ x → view_operator read l.value.operator ≡ o → r ≡ S.one x → on (type2_at read (Some l) q) (λ k. P (M.want k)) → on q (λ k. P (M.operated k r o))
operated_one read None l r x o P f g e h = tt
operated_one read (Some k) l r x o P f g e h = rw e (rw (f, g) at h)

pub operated_two : (r : S.Type1) (x y : S.Type2) (p o : S.Operator) (k : M.AtType1) → r ≡ S.operation x p y → M.operated k r o ≡ M.stuck
operated_two r x y p o k e = rw e refl

-- After a type1.

slash_first_at : (q : Option M.AtTypes) (P : M.State → Type 0) (r : S.Type1) (t : Token) → on q (λ k. P (M.want (M.lower (M.next k (S.only r) t)))) → on (made M.head q) (λ k. P (M.slash k r t))
slash_first_at None P r t h = tt
slash_first_at (Some k) P r t h = h

pub slash_first : (read : Leaf → Token) (b : Below) (h : Home) (bf : Before) (P : M.State → Type 0) (ts : S.Types) (r : S.Type1) (t : Token) → bf ≡ B.Nothing → ts ≡ S.only r → on (view_home read b h) (λ k. P (M.want (M.lower (M.next k ts t)))) → on (type1_at read b h bf) (λ k. P (M.slash k r t))
slash_first read b h bf P ts r t e f g = rw e (slash_first_at (view_home read b h) P r t (rw f at g))

slash_more_at : (q : Option M.AtTypes) (P : M.State → Type 0) (us : S.Types) (s : Token) (r : S.Type1) (t : Token) → on q (λ k. P (M.want (M.lower (M.next k (S.or us s r) t)))) → on (made (λ k. M.next k us s) q) (λ k. P (M.slash k r t))
slash_more_at None P us s r t h = tt
slash_more_at (Some k) P us s r t h = h

pub slash_more : (read : Leaf → Token) (b : Below) (h : Home) (bf : Before) (P : M.State → Type 0) (us : Box Types Global) (s : Leaf) (ts : S.Types) (r : S.Type1) (t : Token) → bf ≡ B.Choices us s → ts ≡ S.or (view_types read us.value) (read s) r → on (view_home read b h) (λ k. P (M.want (M.lower (M.next k ts t)))) → on (type1_at read b h bf) (λ k. P (M.slash k r t))
slash_more read b h bf P us s ts r t e f g = rw e (slash_more_at (view_home read b h) P (view_types read us.value) (read s) r t (rw f at g))

slash_argument_at : (b : Below) (a : M.ArgBefore) (r : S.Type1) (t : Token) → on (as_argument b a) (λ k. M.slash k r t ≡ M.stuck)
slash_argument_at nowhere a r t = tt
slash_argument_at (types k) a r t = tt
slash_argument_at (reference k p o) a r t = refl
slash_argument_at (entry k) a r t = tt
slash_argument_at (group k) a r t = tt

pub slash_argument : (read : Leaf → Token) (b : Below) (h : Home) (bf : Before) (a : Option Arguments) (r : S.Type1) (t : Token) (start : ℕ) (e : Stop) → bf ≡ B.Arguments a → e ≡ Unexpected start → on (type1_at read b h bf) (λ k. Refused start e (M.slash k r t))
slash_argument read b h bf a r t start e f g = rw f (along (as_argument b (view_arguments read a)) (slash_argument_at b (view_arguments read a) r t))
  where
    along : (q : Option M.AtType1) → on q (λ k. M.slash k r t ≡ M.stuck) → on q (λ k. Refused start e (M.slash k r t))
    along None i = tt
    along (Some k) i = refuses start e _ g i

-- After a type.

pub on_kind : {A : Type 0} (q : Option A) (P : M.State → Type 0) (f : A → Kind → M.State) (i j : Kind) → i ≡ j → on q (λ x. P (f x j)) → on q (λ x. P (f x i))
on_kind q P f i j e h = subst (λ (l : Kind). on q (λ x. P (f x l))) (sym e) h

pub on_same : {A : Type 0} (q : Option A) (P : M.State → Type 0) (f g : A → M.State) → ((x : A) → f x ≡ g x) → on q (λ x. P (g x)) → on q (λ x. P (f x))
on_same None P f g e h = tt
on_same (Some x) P f g e h = subst P (sym (e x)) h

-- the step at the kind that the token has, and the type that was put into a box
pub shut_by : (q : Option M.AtType2) (P : M.State → Type 0) (o : M.TypeOpening) (us ts : S.Types) (i j : Kind) (t : Token) → i ≡ j → us ≡ ts → on q (λ k. P (M.shut_types k o us j t)) → on q (λ k. P (M.shut_types k o ts i t))
shut_by q P o us ts i j t d e h = rw (d, ← e) h

pub head_shut : (u : M.TypeOpening) (o : Token) (ts : S.Types) (t : Token) → u ≡ M.tag_head o → (k : M.AtType2) → M.shut_types k u ts K.AngleClose t ≡ M.want_content k o ts t
head_shut u o ts t e k = rw e refl

pub simple_shut : (u : M.TypeOpening) (o : Token) (ts : S.Types) (t : Token) (x : S.Type2) → u ≡ M.simple_head o → x ≡ S.simple_by o ts t → (k : M.AtType2) → M.shut_types k u ts K.AngleClose t ≡ M.got k x
simple_shut u o ts t x e f k = rw (e, f) refl

pub paren_shut : (u : M.TypeOpening) (o : Token) (ts : S.Types) (t : Token) (x : S.Type2) → u ≡ M.paren o → x ≡ S.parens o ts t → (k : M.AtType2) → M.shut_types k u ts K.ParenClose t ≡ M.got k x
paren_shut u o ts t x e f k = rw (e, f) refl

pub tag_shut : (u : M.TypeOpening) (o : Token) (ts : S.Types) (t : Token) (x : S.Type2) → u ≡ M.tag o → x ≡ S.tagged o ts t → (k : M.AtType2) → M.shut_types k u ts K.ParenClose t ≡ M.got k x
tag_shut u o ts t x e f k = rw (e, f) refl

pub content_shut : (u : M.TypeOpening) (o : Token) (h : S.Types) (a p : Token) (ts : S.Types) (t : Token) (x : S.Type2) → u ≡ M.tag_content o h a p → x ≡ S.tagged_by o h a p ts t → (k : M.AtType2) → M.shut_types k u ts K.ParenClose t ≡ M.got k x
content_shut u o h a p ts t x e f k = rw (e, f) refl

pub no_parens : (read : Leaf → Token) (u : TypeOpening) (ts : S.Types) (t : Token) → ((o : Leaf) → u ≢ O.Paren o) → ((o : Leaf) → u ≢ O.Tag o) → ((o : Leaf) (h : Box Types Global) (a p : Leaf) → u ≢ O.TagContent o h a p) → (k : M.AtType2) → M.shut_types k (view_type_opening read u) ts K.ParenClose t ≡ M.stuck
no_parens read (O.Paren o) ts t e f g k = absurd (e o refl)
no_parens read (O.Tag o) ts t e f g k = absurd (f o refl)
no_parens read (O.TagHead o) ts t e f g k = refl
no_parens read (O.TagContent o h a p) ts t e f g k = absurd (g o h a p refl)
no_parens read (O.SimpleHead o) ts t e f g k = refl

pub no_angles : (read : Leaf → Token) (u : TypeOpening) (ts : S.Types) (t : Token) → ((o : Leaf) → u ≢ O.TagHead o) → ((o : Leaf) → u ≢ O.SimpleHead o) → (k : M.AtType2) → M.shut_types k (view_type_opening read u) ts K.AngleClose t ≡ M.stuck
no_angles read (O.Paren o) ts t e f k = refl
no_angles read (O.Tag o) ts t e f k = refl
no_angles read (O.TagHead o) ts t e f k = absurd (e o refl)
no_angles read (O.TagContent o h a p) ts t e f k = refl
no_angles read (O.SimpleHead o) ts t e f k = absurd (f o refl)
