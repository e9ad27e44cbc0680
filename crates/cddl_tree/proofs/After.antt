-- What the machine does where the frames fit, in the forms that the code's steps have.
use Rattle.std.proofs.Common.{◌≡◌, ◌≢◌, Option, Some, None, refl, sym, subst, Box, Global}
use Rattle.tree_nodes.specs.declared.tree.Leaf.{Leaf}
use Rattle.cddl_token.specs.declared.Token.{Token}
use Rattle.cddl_token.specs.declared.Kind.{Kind}
use Rattle.cddl_token.specs.declared.Kind.TheVariants as K
use Rattle.cddl_tree.specs.declared.frames.Home.{Home}
use Rattle.cddl_tree.specs.declared.frames.Before.{Before}
use Rattle.cddl_tree.specs.declared.frames.Before.TheVariants as B
use Rattle.cddl_tree.specs.declared.frames.Arguments.{Arguments}
use Rattle.cddl_tree.specs.declared.frames.AtType2.{AtType2}
use Rattle.cddl_tree.specs.declared.frames.Prefix.{Prefix}
use Rattle.cddl_tree.specs.declared.frames.TypeOpening.{TypeOpening}
use Rattle.tree_nodes.specs.declared.tree.RuleName.{RuleName}
use Rattle.cddl_tree.specs.declared.frames.Frame.{Frame}
use Rattle.cddl_tree.specs.declared.frames.Frame.TheVariants as F
use Rattle.tree_nodes.specs.declared.tree.Types.{Types}
use Rattle.tree_nodes.specs.Syntax.Syntax as S
use Rattle.tree_nodes.specs.Syntax.Machine as M
use Rattle.tree_nodes.specs.View.{leaf, view_types}
use Rattle.cddl_tree.specs.Frames.{on, made, Below, nowhere, types, reference, entry, group, as_types, as_entry, as_group, as_argument, as_reference, view_home, view_at_type2, view_arguments, view_alternatives, view_entries, view_prefix, view_type_opening, view_group_opening, type1_at, inside_at, within_at, reference_at, in_entry_at, member_at, above}

pub on_made : {A B : Type 0} (f : A → B) (q : Option A) (P : B → Type 0) → on q (λ x. P (f x)) → on (made f q) P
on_made f None P h = tt
on_made f (Some x) P h = h

type1_first_at : (q : Option M.AtTypes) (P : M.State → Type 0) (r : S.Type1) (i : Kind) (t : Token) → on q (λ k. P (M.after_types k (S.only r) i t)) → on (made M.head q) (λ k. P (M.after_type1 k r i t))
type1_first_at None P r i t h = tt
type1_first_at (Some k) P r i t h = h

pub type1_first : (read : Leaf → Token) (b : Below) (h : Home) (bf : Before) (P : M.State → Type 0) (ts : S.Types) (r : S.Type1) (i : Kind) (t : Token) → bf ≡ B.Nothing → ts ≡ S.only r → on (view_home read b h) (λ k. P (M.after_types k ts i t)) → on (type1_at read b h bf) (λ k. P (M.after_type1 k r i t))
type1_first read b h bf P ts r i t e f g = rw e (type1_first_at (view_home read b h) P r i t (rw f at g))

type1_more_at : (q : Option M.AtTypes) (P : M.State → Type 0) (us : S.Types) (s : Token) (r : S.Type1) (i : Kind) (t : Token) → on q (λ k. P (M.after_types k (S.or us s r) i t)) → on (made (λ k. M.next k us s) q) (λ k. P (M.after_type1 k r i t))
type1_more_at None P us s r i t h = tt
type1_more_at (Some k) P us s r i t h = h

pub type1_more : (read : Leaf → Token) (b : Below) (h : Home) (bf : Before) (P : M.State → Type 0) (us : Box Types Global) (s : Leaf) (ts : S.Types) (r : S.Type1) (i : Kind) (t : Token) → bf ≡ B.Choices us s → ts ≡ S.or (view_types read us.value) (read s) r → on (view_home read b h) (λ k. P (M.after_types k ts i t)) → on (type1_at read b h bf) (λ k. P (M.after_type1 k r i t))
type1_more read b h bf P us s ts r i t e f g = rw e (type1_more_at (view_home read b h) P (view_types read us.value) (read s) r i t (rw f at g))

type1_argument_at : (b : Below) (P : M.State → Type 0) (a : M.ArgBefore) (x : S.GenericArg) (r : S.Type1) (i : Kind) (t : Token) → x ≡ M.arg_of a r → on (as_reference b) (λ y. P (M.after_argument y.0 y.1 y.2 x i t)) → on (as_argument b a) (λ k. P (M.after_type1 k r i t))
type1_argument_at nowhere P a x r i t e h = tt
type1_argument_at (types k) P a x r i t e h = tt
type1_argument_at (reference k p o) P a x r i t e h = rw e at h
type1_argument_at (entry k) P a x r i t e h = tt
type1_argument_at (group k) P a x r i t e h = tt

pub type1_argument : (read : Leaf → Token) (b : Below) (h : Home) (bf : Before) (P : M.State → Type 0) (a : Option Arguments) (x : S.GenericArg) (r : S.Type1) (i : Kind) (t : Token) → bf ≡ B.Arguments a → x ≡ M.arg_of (view_arguments read a) r → on (as_reference b) (λ y. P (M.after_argument y.0 y.1 y.2 x i t)) → on (type1_at read b h bf) (λ k. P (M.after_type1 k r i t))
type1_argument read b h bf P a x r i t e f g = rw e (type1_argument_at b P (view_arguments read a) x r i t f g)

-- After an argument.

pub argument_other : (k : M.AtType2) (p : M.Prefix) (o : Token) (a : S.GenericArg) (i : Kind) (t : Token) → i ≢ K.Comma → i ≢ K.AngleClose → M.after_argument k p o a i t ≡ M.stuck
argument_other k p o a K.Comma t e f = absurd (e refl)
argument_other k p o a K.AngleClose t e f = absurd (f refl)
argument_other k p o a i t e f = refl

pub argument_shut : (b : Below) (q : Option M.AtType2) (p : M.Prefix) (o : Token) (a : S.GenericArg) (t : Token) (x : S.Type2) (P : M.State → Type 0) → b ≡ reference_at q p o → x ≡ M.prefixed p (S.applied o a t) → on q (λ k. P (M.got k x)) → on (as_reference b) (λ y. P (M.after_argument y.0 y.1 y.2 a K.AngleClose t))
argument_shut b None p o a t x P e f h = rw e tt
argument_shut b (Some k) p o a t x P e f h = rw e (rw f at h)

-- After a type.

pub inside_shut : (b : Below) (q : Option M.AtType2) (o : M.TypeOpening) (ts : S.Types) (i : Kind) (t : Token) (P : M.State → Type 0) → b ≡ inside_at q o → on q (λ k. P (M.shut_types k o ts i t)) → on (as_types b) (λ k. P (M.after_types k ts i t))
inside_shut b None o ts i t P e h = rw e tt
inside_shut b (Some k) o ts i t P e h = rw e h

pub body_ended : (b : Below) (rs : S.Rules) (n : S.RuleName) (a : Token) (ts : S.Types) (i : Kind) (t : Token) (P : M.State → Type 0) → b ≡ types (M.body rs n a) → P (M.next_rule (S.rules rs (S.type_rule n (S.type_or a) ts)) i t) → on (as_types b) (λ k. P (M.after_types k ts i t))
body_ended b rs n a ts i t P e h = rw e h

-- other frames are no arguments' and no type's
pub no_reference : (read : Leaf → Token) (rs : S.Rules) (b : Below) (f : Frame) → ((k : AtType2) (p : Prefix) (o : Leaf) → f ≢ F.Reference k p o) → as_reference (above read rs b f) ≡ None
no_reference read rs b (F.TypeBody n a) h = refl
no_reference read rs b (F.GroupBody n a) h = refl
no_reference read rs b (F.Types k o) h = shut (view_at_type2 read b k) (view_type_opening read o)
  where
    shut : (q : Option M.AtType2) (o : M.TypeOpening) → as_reference (inside_at q o) ≡ None
    shut None o = refl
    shut (Some k) o = refl
no_reference read rs b (F.Group k o) h = shut (view_at_type2 read b k) (view_group_opening read o)
  where
    shut : (q : Option M.AtType2) (o : M.GroupOpening) → as_reference (within_at q o) ≡ None
    shut None o = refl
    shut (Some k) o = refl
no_reference read rs b (F.Reference k p o) h = absurd (h k p o refl)
no_reference read rs b (F.Entry oc o) h = shut (as_entry b)
  where
    shut : (q : Option M.AtEntry) → as_reference (in_entry_at q (leaf read oc) (read o)) ≡ None
    shut None = refl
    shut (Some k) = refl
no_reference read rs b (F.Member before es) h = shut (as_group b) (view_alternatives read before) (view_entries read es.items)
  where
    shut : (q : Option M.AtGroup) (bf : M.Before) (es : S.GrpChoice) → as_reference (member_at q bf es) ≡ None
    shut None bf es = refl
    shut (Some k) bf es = refl

pub no_types : (read : Leaf → Token) (rs : S.Rules) (b : Below) (f : Frame) → ((n : RuleName) (a : Leaf) → f ≢ F.TypeBody n a) → ((k : AtType2) (o : TypeOpening) → f ≢ F.Types k o) → as_types (above read rs b f) ≡ None
no_types read rs b (F.TypeBody n a) g h = absurd (g n a refl)
no_types read rs b (F.GroupBody n a) g h = refl
no_types read rs b (F.Types k o) g h = absurd (h k o refl)
no_types read rs b (F.Group k o) g h = shut (view_at_type2 read b k) (view_group_opening read o)
  where
    shut : (q : Option M.AtType2) (o : M.GroupOpening) → as_types (within_at q o) ≡ None
    shut None o = refl
    shut (Some k) o = refl
no_types read rs b (F.Reference k p o) g h = shut (view_at_type2 read b k) (view_prefix read p)
  where
    shut : (q : Option M.AtType2) (p : M.Prefix) → as_types (reference_at q p (read o)) ≡ None
    shut None p = refl
    shut (Some k) p = refl
no_types read rs b (F.Entry oc o) g h = shut (as_entry b)
  where
    shut : (q : Option M.AtEntry) → as_types (in_entry_at q (leaf read oc) (read o)) ≡ None
    shut None = refl
    shut (Some k) = refl
no_types read rs b (F.Member before es) g h = shut (as_group b) (view_alternatives read before) (view_entries read es.items)
  where
    shut : (q : Option M.AtGroup) (bf : M.Before) (es : S.GrpChoice) → as_types (member_at q bf es) ≡ None
    shut None bf es = refl
    shut (Some k) bf es = refl

-- nothing is said of what is not there
pub on_none : {A : Type 0} (q : Option A) (P : A → Type 0) → q ≡ None → on q P
on_none q P e = rw e tt

pub nowhere_types : (b : Below) → b ≡ nowhere → as_types b ≡ None
nowhere_types b e = rw e refl

pub nowhere_reference : (b : Below) → b ≡ nowhere → as_reference b ≡ None
nowhere_reference b e = rw e refl

pub on_home : (read : Leaf → Token) (b : Below) (P : M.AtTypes → Type 0) (h j : Home) → h ≡ j → on (view_home read b j) P → on (view_home read b h) P
on_home read b P h j e f = subst (λ (x : Home). on (view_home read b x) P) (sym e) f
