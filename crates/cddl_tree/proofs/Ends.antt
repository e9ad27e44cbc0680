-- What the machine does after a group, and frames that are none of an entry or a group.
use Rattle.std.proofs.Common.{◌≡◌, ℕ, ◌≢◌, Option, Some, None, refl, sym, ap, ◌∙◌, subst}
use Rattle.tree_nodes.specs.declared.tree.Leaf.{Leaf}
use Rattle.cddl_token.specs.declared.Token.{Token}
use Rattle.cddl_token.specs.declared.Kind.{Kind}
use Rattle.cddl_token.specs.declared.Kind.TheVariants as K
use Rattle.cddl_tree.specs.declared.frames.Stop.{Stop}
use Rattle.cddl_tree.specs.declared.frames.Stop.TheVariants.{Unexpected}
use Rattle.cddl_tree.specs.declared.frames.AtType2.{AtType2}
use Rattle.cddl_tree.specs.declared.frames.GroupOpening.{GroupOpening}
use Rattle.cddl_tree.specs.declared.frames.Frame.{Frame}
use Rattle.cddl_tree.specs.declared.frames.Frame.TheVariants as F
use Rattle.cddl_tree.specs.declared.frames.Alternatives.{Alternatives}
use Rattle.tree_nodes.specs.declared.tree.Entry.{Entry}
use Rattle.std.proofs.Common.{Vec, Global}
use Rattle.tree_nodes.specs.View.{leaf}
use Rattle.tree_nodes.specs.Syntax.Syntax as S
use Rattle.tree_nodes.specs.Syntax.Machine as M
use Rattle.cddl_tree.proofs.Steps.{refuses}
use Rattle.cddl_tree.specs.Frames.{on, made, Below, nowhere, as_entry, as_group, view_at_type2, view_group_opening, view_type_opening, view_prefix, view_alternatives, view_entries, inside_at, within_at, reference_at, in_entry_at, member_at, above, Refused, IsElsewhere}

-- Where only an alternative can end.

pub ends_elsewhere : (k : M.AtType2) (i : Kind) (t : Token) → IsElsewhere k → M.ends_want k i t ≡ M.stuck
ends_elsewhere (M.lower (M.head (M.start p oc))) i t h = absurd h
ends_elsewhere k i t h = refl

pub ends_occur : (p : M.AtEntry) (o : Token) (i : Kind) (t : Token) → M.ends_want (M.lower (M.head (M.start p (Some o)))) i t ≡ M.stuck
ends_occur (M.group_body rs n a) o i t = refl
ends_occur (M.member k b es) o i t = refl

pub ends_member : (b : Below) (q : Option M.AtGroup) (bf : M.Before) (es : S.GrpChoice) (i : Kind) (t : Token) (P : M.State → Type 0) → b ≡ member_at q bf es → on q (λ k. P (M.ends k bf es i t)) → on (as_entry b) (λ p. P (M.ends_want (M.lower (M.head (M.start p None))) i t))
ends_member b None bf es i t P e h = rw e tt
ends_member b (Some k) bf es i t P e h = rw e h

pub ends_slashes : (k : M.AtGroup) (bf : M.Before) (es : S.GrpChoice) (g : S.Group) (i : Kind) (t : Token) → i ≡ K.DoubleSlash → g ≡ M.group_of bf es → M.ends k bf es i t ≡ M.open_entry (M.member k (M.earlier g t) S.no_entries)
ends_slashes k bf es g i t e f = rw (e, f) refl

pub ends_other : (k : M.AtGroup) (bf : M.Before) (es : S.GrpChoice) (g : S.Group) (i : Kind) (t : Token) → i ≢ K.DoubleSlash → g ≡ M.group_of bf es → M.ends k bf es i t ≡ M.shut_group k g i t
ends_other k bf es g K.DoubleSlash t e f = absurd (e refl)
ends_other k bf es g i t e f = rw f refl

pub within_shut : (b : Below) (q : Option M.AtType2) (o : M.GroupOpening) (g : S.Group) (i : Kind) (t : Token) (P : M.State → Type 0) → b ≡ within_at q o → on q (λ k. P (M.shut_group (M.within k o) g i t)) → on (as_group b) (λ k. P (M.shut_group k g i t))
within_shut b None o g i t P e h = rw e tt
within_shut b (Some k) o g i t P e h = rw e h

pub in_entry_shut : (b : Below) (q : Option M.AtEntry) (oc : Option Token) (o : Token) (g : S.Group) (i : Kind) (t : Token) (P : M.State → Type 0) → b ≡ in_entry_at q oc o → on q (λ p. P (M.shut_group (M.in_entry p oc o) g i t)) → on (as_group b) (λ k. P (M.shut_group k g i t))
in_entry_shut b None oc o g i t P e h = rw e tt
in_entry_shut b (Some p) oc o g i t P e h = rw e h

pub in_entry_other : (p : M.AtEntry) (oc : Option Token) (o : Token) (g : S.Group) (i : Kind) (t : Token) → i ≢ K.ParenClose → M.shut_group (M.in_entry p oc o) g i t ≡ M.stuck
in_entry_other p oc o g K.ParenClose t e = absurd (e refl)
in_entry_other p oc o g i t e = refl

-- Frames that are no entry's, and no group's.

pub nothing_entry : (b : Below) (P : M.AtEntry → Type 0) → b ≡ nowhere → on (as_entry b) P
nothing_entry b P e = rw e tt

pub nothing_group : (b : Below) (P : M.AtGroup → Type 0) → b ≡ nowhere → on (as_group b) P
nothing_group b P e = rw e tt

ends_no_member : (read : Leaf → Token) (rs : S.Rules) (b : Below) (f : Frame) (i : Kind) (t : Token) (start : ℕ) (e : Stop) → e ≡ Unexpected start → ((x : Option Alternatives) (es : Vec Entry Global) → f ≢ F.Member x es) → on (as_entry (above read rs b f)) (λ p. Refused start e (M.ends_want (M.lower (M.head (M.start p None))) i t))
ends_no_member read rs b (F.TypeBody n a) i t start e g h = tt
ends_no_member read rs b (F.GroupBody n a) i t start e g h = refuses start e _ g refl
ends_no_member read rs b (F.Types k o) i t start e g h = shut (view_at_type2 read b k) (view_type_opening read o)
  where
    shut : (q : Option M.AtType2) (u : M.TypeOpening) → on (as_entry (inside_at q u)) (λ p. Refused start e (M.ends_want (M.lower (M.head (M.start p None))) i t))
    shut None u = tt
    shut (Some x) u = tt
ends_no_member read rs b (F.Group k o) i t start e g h = shut (view_at_type2 read b k) (view_group_opening read o)
  where
    shut : (q : Option M.AtType2) (u : M.GroupOpening) → on (as_entry (within_at q u)) (λ p. Refused start e (M.ends_want (M.lower (M.head (M.start p None))) i t))
    shut None u = tt
    shut (Some x) u = tt
ends_no_member read rs b (F.Reference k p o) i t start e g h = shut (view_at_type2 read b k) (view_prefix read p)
  where
    shut : (q : Option M.AtType2) (u : M.Prefix) → on (as_entry (reference_at q u (read o))) (λ p. Refused start e (M.ends_want (M.lower (M.head (M.start p None))) i t))
    shut None u = tt
    shut (Some x) u = tt
ends_no_member read rs b (F.Entry oc o) i t start e g h = shut (as_entry b)
  where
    shut : (q : Option M.AtEntry) → on (as_entry (in_entry_at q (leaf read oc) (read o))) (λ p. Refused start e (M.ends_want (M.lower (M.head (M.start p None))) i t))
    shut None = tt
    shut (Some x) = tt
ends_no_member read rs b (F.Member x es) i t start e g h = absurd (h x es refl)

-- where no alternative is open the token is refused
pub ends_default : (read : Leaf → Token) (a : Below) (rs : S.Rules) (b : Below) (f : Frame) (i : Kind) (t : Token) (start : ℕ) (e : Stop) → a ≡ above read rs b f → e ≡ Unexpected start → ((x : Option Alternatives) (es : Vec Entry Global) → f ≢ F.Member x es) → on (as_entry a) (λ p. Refused start e (M.ends_want (M.lower (M.head (M.start p None))) i t))
ends_default read a rs b f i t start e d g h = rw d (ends_no_member read rs b f i t start e g h)

no_group : (read : Leaf → Token) (rs : S.Rules) (b : Below) (f : Frame) → ((k : AtType2) (o : GroupOpening) → f ≢ F.Group k o) → ((oc : Option Leaf) (o : Leaf) → f ≢ F.Entry oc o) → as_group (above read rs b f) ≡ None
no_group read rs b (F.TypeBody n a) g h = refl
no_group read rs b (F.GroupBody n a) g h = refl
no_group read rs b (F.Types k o) g h = shut (view_at_type2 read b k) (view_type_opening read o)
  where
    shut : (q : Option M.AtType2) (u : M.TypeOpening) → as_group (inside_at q u) ≡ None
    shut None u = refl
    shut (Some x) u = refl
no_group read rs b (F.Group k o) g h = absurd (g k o refl)
no_group read rs b (F.Reference k p o) g h = shut (view_at_type2 read b k) (view_prefix read p)
  where
    shut : (q : Option M.AtType2) (u : M.Prefix) → as_group (reference_at q u (read o)) ≡ None
    shut None u = refl
    shut (Some x) u = refl
no_group read rs b (F.Entry oc o) g h = absurd (h oc o refl)
no_group read rs b (F.Member before es) g h = shut (as_group b) (view_alternatives read before) (view_entries read es.items)
  where
    shut : (q : Option M.AtGroup) (bf : M.Before) (xs : S.GrpChoice) → as_group (member_at q bf xs) ≡ None
    shut None bf xs = refl
    shut (Some x) bf xs = refl

none_holds : {A : Type 0} (q : Option A) (P : A → Type 0) → q ≡ None → on q P
none_holds q P e = rw e tt

-- where no group is open anything holds
pub group_default : (read : Leaf → Token) (a : Below) (rs : S.Rules) (b : Below) (f : Frame) (P : M.AtGroup → Type 0) → a ≡ above read rs b f → ((k : AtType2) (o : GroupOpening) → f ≢ F.Group k o) → ((oc : Option Leaf) (o : Leaf) → f ≢ F.Entry oc o) → on (as_group a) P
group_default read a rs b f P d g h = none_holds (as_group a) P (ap as_group d ∙ no_group read rs b f g h)

pub ends_twice : (q : Option M.AtType2) (x : Option M.AtEntry) (oc : Option Token) (o : Token) (i : Kind) (t : Token) (start : ℕ) (e : Stop) → oc ≡ Some o → q ≡ made (λ p. M.lower (M.head (M.start p oc))) x → e ≡ Unexpected start → on q (λ k. Refused start e (M.ends_want k i t))
ends_twice q None oc o i t start e f g h = rw g tt
ends_twice q (Some p) oc o i t start e f g h = rw (g, f) (refuses start e _ h (ends_occur p o i t))

pub ends_refused : (q : Option M.AtType2) (i : Kind) (t : Token) (start : ℕ) (e : Stop) → on q IsElsewhere → e ≡ Unexpected start → on q (λ k. Refused start e (M.ends_want k i t))
ends_refused None i t start e f h = tt
ends_refused (Some k) i t start e f h = refuses start e _ h (ends_elsewhere k i t f)

-- After the entries of an alternative.

pub slashes_opened : (q : Option M.AtGroup) (bf : M.Before) (es : S.GrpChoice) (g : S.Group) (xs : S.GrpChoice) (i : Kind) (t : Token) (P : M.State → Type 0) → i ≡ K.DoubleSlash → g ≡ M.group_of bf es → xs ≡ S.no_entries → on q (λ k. P (M.open_entry (M.member k (M.earlier g t) xs))) → on q (λ k. P (M.ends k bf es i t))
slashes_opened None bf es g xs i t P e f n h = tt
slashes_opened (Some k) bf es g xs i t P e f n h = subst P (sym (ends_slashes k bf es g i t e f)) (rw n at h)

pub ends_shut : (q : Option M.AtGroup) (bf : M.Before) (es : S.GrpChoice) (g : S.Group) (i : Kind) (t : Token) (P : M.State → Type 0) → i ≢ K.DoubleSlash → g ≡ M.group_of bf es → on q (λ k. P (M.shut_group k g i t)) → on q (λ k. P (M.ends k bf es i t))
ends_shut None bf es g i t P e f h = tt
ends_shut (Some k) bf es g i t P e f h = subst P (sym (ends_other k bf es g i t e f)) h

-- After a group.

pub entry_shut : (b : Below) (q : Option M.AtEntry) (oc : Option Token) (o : Token) (g : S.Group) (i : Kind) (t : Token) (P : M.State → Type 0) → b ≡ in_entry_at q oc o → i ≡ K.ParenClose → on q (λ p. P (M.shut_paren p oc o g t)) → on (as_group b) (λ k. P (M.shut_group k g i t))
entry_shut b q oc o g i t P e f h = in_entry_shut b q oc o g i t P e (rw f h)
