-- What the machine does after a type at an entry's head, after an entry, and where a part is awaited.
use Rattle.std.proofs.Common.{◌≡◌, ◌≢◌, false, Option, Some, None, refl}
use Rattle.cddl_token.specs.declared.Token.{Token}
use Rattle.cddl_token.specs.declared.Kind.{Kind}
use Rattle.cddl_token.specs.declared.Kind.TheVariants as K
use Rattle.tree_nodes.specs.Syntax.Syntax as S
use Rattle.tree_nodes.specs.Syntax.Machine as M
use Rattle.cddl_tree.specs.Kinds.{IsNoOperator}
use Rattle.cddl_tree.specs.Frames.{on, made, Below, entry, as_entry, member_at, IsChoice}

-- After a type at the head of an entry.

pub start_other : (p : M.AtEntry) (oc : Option Token) (ts : S.Types) (i : Kind) (t : Token) → i ≢ K.Arrow → i ≢ K.Cut → i ≢ K.Colon → M.after_start p oc ts i t ≡ M.after_entry p (S.typed oc ts) i t
start_other p oc ts K.Arrow t e f g = absurd (e refl)
start_other p oc ts K.Cut t e f g = absurd (f refl)
start_other p oc ts K.Colon t e f g = absurd (g refl)
start_other p oc ts i t e f g = refl

pub cut_several : (p : M.AtEntry) (oc : Option Token) (ts : S.Types) (t : Token) → IsChoice ts → M.cut p oc ts t ≡ M.stuck
cut_several p oc (S.only r) t h = absurd h
cut_several p oc (S.or ts s r) t h = refl

-- the position of a value after its key
pub arrow_after_cut : (q : Option M.AtEntry) (P : M.State → Type 0) (oc : Option Token) (r : S.Type1) (u : Token) (m : S.MemberKey) (i : Kind) (t : Token) → i ≡ K.Arrow → m ≡ S.type_key r (Some u) t → on q (λ p. P (M.open_value p oc m)) → on q (λ p. P (M.step (M.want_arrow p oc r u) i t))
arrow_after_cut None P oc r u m i t e f h = tt
arrow_after_cut (Some p) P oc r u m i t e f h = rw e (rw f at h)

pub cut_taken : (q : Option M.AtEntry) (P : M.State → Type 0) (oc : Option Token) (ts : S.Types) (r : S.Type1) (t : Token) → ts ≡ S.only r → on q (λ p. P (M.want_arrow p oc r t)) → on q (λ p. P (M.cut p oc ts t))
cut_taken None P oc ts r t e h = tt
cut_taken (Some p) P oc ts r t e h = rw e h

-- one position's step is another's
pub on_along : {A : Type 0} (q : Option A) (P : M.State → Type 0) (f g : A → M.State) → ((x : A) → f x ≡ g x) → on q (λ x. P (g x)) → on q (λ x. P (f x))
on_along None P f g e h = tt
on_along (Some x) P f g e h = rw (e x) h

-- After an entry.

pub body_entry : (b : Below) (rs : S.Rules) (n : S.RuleName) (a : S.AssignG) (x : S.GrpEnt) (r : S.Rule) (i : Kind) (t : Token) → b ≡ entry (M.group_body rs n a) → r ≡ M.rule_of n a x → on (as_entry b) (λ p. M.after_entry p x i t ≡ M.next_rule (S.rules rs r) i t)
body_entry b rs n a x r i t e f = rw (e, f) refl

pub member_entry : (b : Below) (q : Option M.AtGroup) (bf : M.Before) (es : S.GrpChoice) (x : S.GrpEnt) (i : Kind) (t : Token) (P : M.State → Type 0) → b ≡ member_at q bf es → on q (λ k. P (M.after_entry (M.member k bf es) x i t)) → on (as_entry b) (λ p. P (M.after_entry p x i t))
member_entry b None bf es x i t P e h = rw e tt
member_entry b (Some k) bf es x i t P e h = rw e h

pub entry_comma : (k : M.AtGroup) (bf : M.Before) (es es' : S.GrpChoice) (x : S.GrpEnt) (i : Kind) (t : Token) → i ≡ K.Comma → es' ≡ S.entries es x (Some t) → M.after_entry (M.member k bf es) x i t ≡ M.open_entry (M.member k bf es')
entry_comma k bf es es' x i t e f = rw (e, f) refl

pub entry_other : (k : M.AtGroup) (bf : M.Before) (es es' : S.GrpChoice) (x : S.GrpEnt) (i : Kind) (t : Token) → i ≢ K.Comma → es' ≡ S.entries es x None → M.after_entry (M.member k bf es) x i t ≡ M.step_want (M.lower (M.head (M.start (M.member k bf es') None))) i t
entry_other k bf es es' x K.Comma t e f = absurd (e refl)
entry_other k bf es es' x i t e f = rw f refl

pub entry_want : (q : Option M.AtGroup) (b : Below) (bf : M.Before) (es : S.GrpChoice) (w : Option M.AtType2) (P : M.AtType2 → Type 0) → b ≡ member_at q bf es → w ≡ made (λ k. M.lower (M.head k)) (made (λ p. M.start p None) (as_entry b)) → on w P → on q (λ k. P (M.lower (M.head (M.start (M.member k bf es) None))))
entry_want None b bf es w P e f h = tt
entry_want (Some k) b bf es w P e f h = rw (f, e) at h

-- A body.

pub rule_typed : (n : S.RuleName) (t : Token) (x : S.GrpEnt) (ts : S.Types) → x ≡ S.typed None ts → S.type_rule n (S.type_is t) ts ≡ M.rule_of n (S.group_is t) x
rule_typed n t x ts e = rw e refl

pub rule_grouped : (n : S.RuleName) (a : S.AssignG) (x : S.GrpEnt) → S.is_bare x ≡ false → S.group_rule n a x ≡ M.rule_of n a x
rule_grouped n (S.group_is t) (S.typed None ts) e = cc
rule_grouped n (S.group_is t) (S.typed (Some o) ts) e = refl
rule_grouped n (S.group_is t) (S.keyed o k ts) e = refl
rule_grouped n (S.group_is t) (S.grouped o p g c) e = refl
rule_grouped n (S.group_or t) x e = refl

pub rule_or : (n : S.RuleName) (t : Token) (x : S.GrpEnt) → S.group_rule n (S.group_or t) x ≡ M.rule_of n (S.group_or t) x
rule_or n t x = refl

-- Where a reference is awaited.

pub ref_other : (k : M.AtType2) (p : M.Prefix) (i : Kind) (t : Token) → i ≢ K.Name → i ≢ K.NameOpen → i ≢ K.ParenOpen → M.step_want_ref k p i t ≡ M.stuck
ref_other k p K.Name t e f g = absurd (e refl)
ref_other k p K.NameOpen t e f g = absurd (f refl)
ref_other k p K.ParenOpen t e f g = absurd (g refl)
ref_other k p i t e f g = refl

-- Where a type2 is awaited, and after a type1.

pub no_operator : (i : Kind) → i ≢ K.Range → i ≢ K.RangeBelow → i ≢ K.Control → IsNoOperator i
no_operator K.Range e f g = absurd (e refl)
no_operator K.RangeBelow e f g = absurd (f refl)
no_operator K.Control e f g = absurd (g refl)
no_operator i e f g = tt

pub have_other : (k : M.AtType1) (r : S.Type1) (i : Kind) (t : Token) → IsNoOperator i → i ≢ K.Slash → M.step_have k r i t ≡ M.after_type1 k r i t
have_other k r K.Range t e h = absurd e
have_other k r K.RangeBelow t e h = absurd e
have_other k r K.Control t e h = absurd e
have_other k r K.Slash t e h = absurd (h refl)
have_other k r i t e h = refl
