-- What the machine does where a bracket closes, where one opens, and at an entry's head.
use Rattle.std.proofs.Common.{◌≡◌, ◌≢◌, false, Option, Some, None, refl, sym, subst}
use Rattle.cddl_token.specs.declared.Token.{Token}
use Rattle.cddl_token.specs.declared.Kind.{Kind}
use Rattle.cddl_token.specs.declared.Kind.TheVariants as K
use Rattle.tree_nodes.specs.Syntax.Syntax as S
use Rattle.tree_nodes.specs.Syntax.Machine as M
use Rattle.cddl_tree.specs.Frames.{on, made, Below, nowhere, types, reference, entry, group, as_types, as_entry, as_group, as_argument, as_reference, inside_at, within_at, reference_at, in_entry_at, member_at, IsElsewhere, IsChoice}

-- After a type in brackets.

pub shut_other : (k : M.AtType2) (o : M.TypeOpening) (ts : S.Types) (i : Kind) (t : Token) → i ≢ K.ParenClose → i ≢ K.AngleClose → M.shut_types k o ts i t ≡ M.stuck
shut_other k (M.paren o) ts K.ParenClose t e f = absurd (e refl)
shut_other k (M.tag o) ts K.ParenClose t e f = absurd (e refl)
shut_other k (M.tag_head o) ts K.AngleClose t e f = absurd (f refl)
shut_other k (M.tag_content o h a p) ts K.ParenClose t e f = absurd (e refl)
shut_other k (M.simple_head o) ts K.AngleClose t e f = absurd (f refl)
shut_other k o ts i t e f = refl

-- After a type at the head of an entry.

pub arrow_several : (p : M.AtEntry) (oc : Option Token) (ts : S.Types) (t : Token) → IsChoice ts → M.arrow p oc ts t ≡ M.stuck
arrow_several p oc (S.only r) t h = absurd h
arrow_several p oc (S.or ts s r) t h = refl

pub colon_several : (p : M.AtEntry) (oc : Option Token) (ts : S.Types) (t : Token) → IsChoice ts → M.colon p oc ts t ≡ M.stuck
colon_several p oc (S.only r) t h = absurd h
colon_several p oc (S.or ts s r) t h = refl

pub value_opened : (q : Option M.AtEntry) (oc : Option Token) (m n : S.MemberKey) (P : M.State → Type 0) → m ≡ n → on (made (λ p. M.value_of p oc m) q) (λ k. P (M.open_types k)) → on q (λ p. P (M.open_value p oc n))
value_opened None oc m n P e h = tt
value_opened (Some p) oc m n P e h = rw e at h

pub arrow_taken : (q : Option M.AtEntry) (P : M.State → Type 0) (oc : Option Token) (ts : S.Types) (r : S.Type1) (m : S.MemberKey) (t : Token) → ts ≡ S.only r → m ≡ S.type_key r None t → on q (λ p. P (M.open_value p oc m)) → on q (λ p. P (M.arrow p oc ts t))
arrow_taken None P oc ts r m t e f h = tt
arrow_taken (Some p) P oc ts r m t e f h = rw e (rw f at h)

pub colon_taken : (q : Option M.AtEntry) (P : M.State → Type 0) (oc : Option Token) (ts : S.Types) (r : S.Type1) (m : S.MemberKey) (t : Token) → ts ≡ S.only r → ((p : M.AtEntry) → M.colon p oc (S.only r) t ≡ M.open_value p oc m) → on q (λ p. P (M.open_value p oc m)) → on q (λ p. P (M.colon p oc ts t))
colon_taken None P oc ts r m t e f h = tt
colon_taken (Some p) P oc ts r m t e f h = rw e (subst P (sym (f p)) h)

-- After an argument and a comma.

argument_comma_at : (b : Below) (a : S.GenericArg) (t : Token) (P : M.State → Type 0) → on (as_argument b (M.earlier_arg a t)) (λ k. P (M.want (M.lower k))) → on (as_reference b) (λ y. P (M.after_argument y.0 y.1 y.2 a K.Comma t))
argument_comma_at nowhere a t P h = tt
argument_comma_at (types k) a t P h = tt
argument_comma_at (reference k p o) a t P h = h
argument_comma_at (entry k) a t P h = tt
argument_comma_at (group k) a t P h = tt

pub argument_comma : (b : Below) (x a : S.GenericArg) (t : Token) (P : M.State → Type 0) → x ≡ a → on (as_argument b (M.earlier_arg x t)) (λ k. P (M.want (M.lower k))) → on (as_reference b) (λ y. P (M.after_argument y.0 y.1 y.2 a K.Comma t))
argument_comma b x a t P e h = argument_comma_at b a t P (rw e at h)

-- After the choices of a type and a `/`.

pub choice_opened : (q : Option M.AtTypes) (us ts : S.Types) (s : Token) (w : Option M.AtType1) (P : M.State → Type 0) → us ≡ ts → w ≡ made (λ j. M.next j us s) q → on (made M.lower w) (λ k. P (M.want k)) → on q (λ k. P (M.want (M.lower (M.next k ts s))))
choice_opened None us ts s w P e f h = tt
choice_opened (Some k) us ts s w P e f h = rw (f, e) at h

-- Where a type or an argument is awaited.

pub type_opened : (q : Option M.AtTypes) (w : Option M.AtType2) (P : M.State → Type 0) → w ≡ made (λ k. M.lower (M.head k)) q → on w (λ k. P (M.want k)) → on q (λ k. P (M.open_types k))
type_opened None w P e h = tt
type_opened (Some k) w P e h = rw e at h

pub argument_opened : (q w : Option M.AtType1) (P : M.State → Type 0) → w ≡ q → on (made M.lower w) (λ k. P (M.want k)) → on q (λ k. P (M.want (M.lower k)))
argument_opened None w P e h = tt
argument_opened (Some k) w P e h = rw e at h

-- Where a bracket opens.

pub inside_opened : (q : Option M.AtType2) (b : Below) (o : M.TypeOpening) (P : M.State → Type 0) → b ≡ inside_at q o → on (as_types b) (λ k. P (M.open_types k)) → on q (λ k. P (M.open_types (M.inside k o)))
inside_opened None b o P e h = tt
inside_opened (Some k) b o P e h = rw e at h

pub reference_opened : (q : Option M.AtType2) (b : Below) (p : M.Prefix) (o : Token) (P : M.State → Type 0) → b ≡ reference_at q p o → on (as_argument b M.no_arg) (λ k. P (M.want (M.lower k))) → on q (λ k. P (M.open_argument k p o M.no_arg))
reference_opened None b p o P e h = tt
reference_opened (Some k) b p o P e h = rw e at h

pub member_opened : (q : Option M.AtGroup) (b : Below) (bf : M.Before) (es : S.GrpChoice) (P : M.State → Type 0) → b ≡ member_at q bf es → on (made (λ p. M.start p None) (as_entry b)) (λ k. P (M.open_types k)) → on q (λ k. P (M.open_entry (M.member k bf es)))
member_opened None b bf es P e h = tt
member_opened (Some k) b bf es P e h = rw e at h

pub group_opened : (q : Option M.AtType2) (b : Below) (o : M.GroupOpening) (P : M.State → Type 0) → b ≡ within_at q o → on (as_group b) (λ k. P (M.open_entry (M.member k M.nothing S.no_entries))) → on q (λ k. P (M.open_group (M.within k o)))
group_opened None b o P e h = tt
group_opened (Some k) b o P e h = rw e at h

pub entry_opened : (q : Option M.AtEntry) (b : Below) (oc : Option Token) (o : Token) (P : M.State → Type 0) → b ≡ in_entry_at q oc o → on (as_group b) (λ k. P (M.open_entry (M.member k M.nothing S.no_entries))) → on q (λ p. P (M.open_group (M.in_entry p oc o)))
entry_opened None b oc o P e h = tt
entry_opened (Some p) b oc o P e h = rw e at h

-- At the head of an entry, and elsewhere.

pub head_at : (q : Option M.AtType2) (e : Option M.AtEntry) (oc : Option Token) (P : M.AtType2 → Type 0) → q ≡ made (λ p. M.lower (M.head (M.start p oc))) e → on e (λ p. P (M.lower (M.head (M.start p oc)))) → on q P
head_at q None oc P f h = rw f tt
head_at q (Some p) oc P f h = rw f h

pub open_paren_elsewhere : (k : M.AtType2) (t : Token) → IsElsewhere k → M.open_paren k t ≡ M.open_types (M.inside k (M.paren t))
open_paren_elsewhere (M.lower (M.head (M.start p oc))) t h = absurd h
open_paren_elsewhere k t h = refl

pub occur_elsewhere : (k : M.AtType2) (t : Token) → IsElsewhere k → M.occur_want k t ≡ M.stuck
occur_elsewhere (M.lower (M.head (M.start p oc))) t h = absurd h
occur_elsewhere k t h = refl

pub occur_taken : (q : Option M.AtEntry) (t : Token) (P : M.State → Type 0) → on (made (λ p. M.start p (Some t)) q) (λ k. P (M.open_types k)) → on q (λ p. P (M.occur_want (M.lower (M.head (M.start p None))) t))
occur_taken None t P h = tt
occur_taken (Some p) t P h = h

-- what parentheses at the head of an entry come to

pub paren_group : (p : M.AtEntry) (oc : Option Token) (o : Token) (g : S.Group) (t : Token) → S.is_type g ≡ false → M.shut_paren p oc o g t ≡ M.have_group p (S.grouped oc o g t)
paren_group p oc o (S.sole (S.entries S.no_entries (S.typed None ts) None)) t e = cc
paren_group p oc o g t e = refl
