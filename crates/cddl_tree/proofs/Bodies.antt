-- What the machine does after an entry, between the rules and in the head of a rule.
use Rattle.std.proofs.Common.{◌≡◌, ℕ, ◌≢◌, List, [], ◌∷◌, ◌++◌, Option, Some, None, Result, Ok, Err, refl, sym, ap, ◌∙◌, subst, Box, Vec, Global}
use Rattle.tree_nodes.specs.declared.tree.Leaf.{Leaf}
use Rattle.std.specs.Prelude.{MatchResult}
use Rattle.cddl_token.specs.declared.Token.{Token}
use Rattle.cddl_token.specs.declared.Kind.{Kind}
use Rattle.cddl_token.specs.declared.Kind.TheVariants as K
use Rattle.cddl_tree.specs.declared.frames.Stop.{Stop}
use Rattle.cddl_tree.specs.declared.frames.Stop.TheVariants.{Unexpected, Memory}
use Rattle.tree_nodes.specs.declared.tree.RuleName.{RuleName}
use Rattle.tree_nodes.specs.declared.tree.AssignG.{AssignG}
use Rattle.tree_nodes.specs.declared.tree.Rule.{Rule}
use Rattle.tree_nodes.specs.declared.tree.Entry.{Entry}
use Rattle.cddl_tree.specs.declared.frames.Alternatives.{Alternatives}
use Rattle.cddl_tree.specs.declared.frames.AtType2.{AtType2}
use Rattle.cddl_tree.specs.declared.frames.Home.{Home}
use Rattle.cddl_tree.specs.declared.frames.Prefix.{Prefix}
use Rattle.cddl_tree.specs.declared.frames.Prefix.TheVariants as P
use Rattle.cddl_tree.specs.declared.frames.Frame.{Frame}
use Rattle.cddl_tree.specs.declared.frames.Frame.TheVariants as F
use Rattle.cddl_tree.specs.declared.frames.Now.{Now}
use Rattle.cddl_tree.specs.declared.state.State.{State}
use Rattle.tree_nodes.specs.View.{leaf}
use Rattle.tree_nodes.specs.Syntax.Syntax as S
use Rattle.tree_nodes.specs.Syntax.Machine as M
use Rattle.cddl_tree.specs.Kinds.{IsNoOperand, IsNoHead}
use Rattle.cddl_tree.proofs.Steps.{on_all, refuses, popped, bottom}
use Rattle.cddl_tree.specs.Frames.{on, made, Below, nowhere, as_entry, view_home, view_at_type2, view_prefix, view_type_opening, view_group_opening, inside_at, within_at, reference_at, in_entry_at, above, below, view_now, Refused}
use Rattle.cddl_tree.proofs.After.{on_made}
use Rattle.cddl_tree.specs.States.{view_rules, view_state, BeginsBody, GivesState}

pub refused_at : {A : Type 0} (q : Option A) (start : ℕ) (e : Stop) (f : A → M.State) → e ≡ Unexpected start → ((x : A) → f x ≡ M.stuck) → on q (λ x. Refused start e (f x))
refused_at q start e f h g = on_all q _ (λ x. refuses start e _ h (g x))

-- Where a type2 is awaited.

-- the step at the kind that the token has
pub at_kind : {A : Type 0} (q : Option A) (P : M.State → Type 0) (f : A → Kind → M.State) (i j : Kind) → i ≡ j → on q (λ x. P (f x j)) → on q (λ x. P (f x i))
at_kind q P f i j e h = subst (λ (l : Kind). on q (λ x. P (f x l))) (sym e) h

-- the step that makes an operand
pub got_at : (q : Option M.AtType2) (P : M.State → Type 0) (f : M.AtType2 → Kind → M.State) (i j : Kind) (x y : S.Type2) → i ≡ j → x ≡ y → ((k : M.AtType2) → f k j ≡ M.got k y) → on q (λ k. P (M.got k x)) → on q (λ k. P (f k i))
got_at None P f i j x y d e g h = tt
got_at (Some k) P f i j x y d e g h = subst P (sym (ap (f k) d ∙ g k ∙ ap (M.got k) (sym e))) h

pub no_operand : (i : Kind) → i ≢ K.Number → i ≢ K.Text → i ≢ K.Bytes → i ≢ K.Name → i ≢ K.Hash → IsNoOperand i
no_operand K.Number n1 n2 n3 n4 n5 = absurd (n1 refl)
no_operand K.Text n1 n2 n3 n4 n5 = absurd (n2 refl)
no_operand K.Bytes n1 n2 n3 n4 n5 = absurd (n3 refl)
no_operand K.Name n1 n2 n3 n4 n5 = absurd (n4 refl)
no_operand K.Hash n1 n2 n3 n4 n5 = absurd (n5 refl)
no_operand i n1 n2 n3 n4 n5 = tt

pub no_head : (i : Kind) → IsNoOperand i → i ≢ K.NameOpen → i ≢ K.Tilde → i ≢ K.Ampersand → i ≢ K.ParenOpen → i ≢ K.Occur → IsNoHead i
no_head K.Number h n1 n2 n3 n4 n5 = absurd h
no_head K.Text h n1 n2 n3 n4 n5 = absurd h
no_head K.Bytes h n1 n2 n3 n4 n5 = absurd h
no_head K.Name h n1 n2 n3 n4 n5 = absurd h
no_head K.Hash h n1 n2 n3 n4 n5 = absurd h
no_head K.NameOpen h n1 n2 n3 n4 n5 = absurd (n1 refl)
no_head K.Tilde h n1 n2 n3 n4 n5 = absurd (n2 refl)
no_head K.Ampersand h n1 n2 n3 n4 n5 = absurd (n3 refl)
no_head K.ParenOpen h n1 n2 n3 n4 n5 = absurd (n4 refl)
no_head K.Occur h n1 n2 n3 n4 n5 = absurd (n5 refl)
no_head i h n1 n2 n3 n4 n5 = tt

pub want_ends : (k : M.AtType2) (i : Kind) (t : Token) → IsNoHead i → i ≢ K.BraceOpen → i ≢ K.BracketOpen → i ≢ K.TagOpen → i ≢ K.TagHeadOpen → i ≢ K.SimpleHeadOpen → M.step_want k i t ≡ M.ends_want k i t
want_ends k K.Number t h n1 n2 n3 n4 n5 = absurd h
want_ends k K.Text t h n1 n2 n3 n4 n5 = absurd h
want_ends k K.Bytes t h n1 n2 n3 n4 n5 = absurd h
want_ends k K.Name t h n1 n2 n3 n4 n5 = absurd h
want_ends k K.Hash t h n1 n2 n3 n4 n5 = absurd h
want_ends k K.NameOpen t h n1 n2 n3 n4 n5 = absurd h
want_ends k K.Tilde t h n1 n2 n3 n4 n5 = absurd h
want_ends k K.Ampersand t h n1 n2 n3 n4 n5 = absurd h
want_ends k K.ParenOpen t h n1 n2 n3 n4 n5 = absurd h
want_ends k K.Occur t h n1 n2 n3 n4 n5 = absurd h
want_ends k K.BraceOpen t h n1 n2 n3 n4 n5 = absurd (n1 refl)
want_ends k K.BracketOpen t h n1 n2 n3 n4 n5 = absurd (n2 refl)
want_ends k K.TagOpen t h n1 n2 n3 n4 n5 = absurd (n3 refl)
want_ends k K.TagHeadOpen t h n1 n2 n3 n4 n5 = absurd (n4 refl)
want_ends k K.SimpleHeadOpen t h n1 n2 n3 n4 n5 = absurd (n5 refl)
want_ends k i t h n1 n2 n3 n4 n5 = refl

-- Where a reference is awaited.

pub no_choice : (read : Leaf → Token) (k : M.AtType2) (p : Prefix) (t : Token) → ((a : Leaf) → p ≢ P.Ampersand a) → M.open_choice k (view_prefix read p) t ≡ M.stuck
no_choice read k P.Bare t e = refl
no_choice read k (P.Tilde u) t e = refl
no_choice read k (P.Ampersand a) t e = absurd (e a refl)

-- After an entry.

pub nowhere_entry : (b : Below) (P : M.AtEntry → Type 0) → b ≡ nowhere → on (as_entry b) P
nowhere_entry b P e = rw e tt

-- other frames are no entry's
pub other_entry : (read : Leaf → Token) (rs : S.Rules) (b : Below) (f : Frame) → ((n : RuleName) (a : AssignG) → f ≢ F.GroupBody n a) → ((bf : Option Alternatives) (es : Vec Entry Global) → f ≢ F.Member bf es) → as_entry (above read rs b f) ≡ None
other_entry read rs b (F.TypeBody n a) g h = refl
other_entry read rs b (F.GroupBody n a) g h = absurd (g n a refl)
other_entry read rs b (F.Types k o) g h = shut (view_at_type2 read b k) (view_type_opening read o)
  where
    shut : (q : Option M.AtType2) (o : M.TypeOpening) → as_entry (inside_at q o) ≡ None
    shut None o = refl
    shut (Some k) o = refl
other_entry read rs b (F.Group k o) g h = shut (view_at_type2 read b k) (view_group_opening read o)
  where
    shut : (q : Option M.AtType2) (o : M.GroupOpening) → as_entry (within_at q o) ≡ None
    shut None o = refl
    shut (Some k) o = refl
other_entry read rs b (F.Reference k p o) g h = shut (view_at_type2 read b k) (view_prefix read p)
  where
    shut : (q : Option M.AtType2) (p : M.Prefix) → as_entry (reference_at q p (read o)) ≡ None
    shut None p = refl
    shut (Some k) p = refl
other_entry read rs b (F.Entry oc o) g h = shut (as_entry b)
  where
    shut : (q : Option M.AtEntry) → as_entry (in_entry_at q (leaf read oc) (read o)) ≡ None
    shut None = refl
    shut (Some k) = refl
other_entry read rs b (F.Member bf es) g h = absurd (h bf es refl)

-- so nothing is said after them
pub other_frame : (read : Leaf → Token) (rs : S.Rules) (b b' : Below) (f : Frame) (P : M.AtEntry → Type 0) → b ≡ above read rs b' f → ((n : RuleName) (a : AssignG) → f ≢ F.GroupBody n a) → ((bf : Option Alternatives) (es : Vec Entry Global) → f ≢ F.Member bf es) → on (as_entry b) P
other_frame read rs b b' f P e g h = rw (e, other_entry read rs b' f g h) tt

-- Between the rules.

pub next_other : (rs : S.Rules) (i : Kind) (t : Token) → i ≢ K.Name → i ≢ K.NameOpen → i ≢ K.End → M.next_rule rs i t ≡ M.stuck
next_other rs K.Name t e f g = absurd (e refl)
next_other rs K.NameOpen t e f g = absurd (f refl)
next_other rs K.End t e f g = absurd (g refl)
next_other rs i t e f g = refl

pub parm_other : (rs : S.Rules) (o : Token) (p : S.GenericParm) (i : Kind) (t : Token) → i ≢ K.Comma → i ≢ K.AngleClose → M.after_parm rs o p i t ≡ M.stuck
parm_other rs o p K.Comma t e f = absurd (e refl)
parm_other rs o p K.AngleClose t e f = absurd (f refl)
parm_other rs o p i t e f = refl

pub assigned_other : (rs : S.Rules) (n : S.RuleName) (i : Kind) (t : Token) → i ≢ K.Assign → i ≢ K.TypeAssign → i ≢ K.GroupAssign → M.assigned rs n i t ≡ M.stuck
assigned_other rs n K.Assign t e f g = absurd (e refl)
assigned_other rs n K.TypeAssign t e f g = absurd (f refl)
assigned_other rs n K.GroupAssign t e f g = absurd (g refl)
assigned_other rs n i t e f g = refl

pub awaited_parm : (rs : S.Rules) (o : Token) (b : M.ParmBefore) (i : Kind) (t : Token) → i ≢ K.Name → M.step (M.awaits_parm rs o b) i t ≡ M.stuck
awaited_parm rs o b K.Name t e = absurd (e refl)
awaited_parm rs o b i t e = refl

-- Within a body.

-- what holds of the state that the position makes
pub now_made : {A : Type 0} (f : A → M.State) (q : Option A) (v : Option M.State) (P : M.State → Type 0) → v ≡ made f q → on q (λ x. P (f x)) → on v P
now_made f q v P e h = rw e (on_made f q P h)

pub content_other : (k : M.AtType2) (o : Token) (h : S.Types) (a : Token) (i : Kind) (t : Token) → i ≢ K.ParenOpen → M.step (M.want_content k o h a) i t ≡ M.stuck
content_other k o h a K.ParenOpen t e = absurd (e refl)
content_other k o h a i t e = refl

pub arrow_other : (p : M.AtEntry) (oc : Option Token) (r : S.Type1) (u : Token) (i : Kind) (t : Token) → i ≢ K.Arrow → M.step (M.want_arrow p oc r u) i t ≡ M.stuck
arrow_other p oc r u K.Arrow t e = absurd (e refl)
arrow_other p oc r u i t e = refl

-- A body.

pub begun : (read : Leaf → Token) (start : ℕ) (r : Result (Box State Global) Stop) (k : M.AtTypes) (m : M.State) → m ≡ M.open_types k → BeginsBody read r (Some k) → GivesState read start r m
begun read start (Ok s) k m e h = h ∙ ap Some (sym e)
begun read start (Err x) k m e h = rw h tt

-- what stands in the box is what was put into it
pub given : (read : Leaf → Token) (start : ℕ) (r : Result (Box State Global) Stop) (x : State) (m : M.State) → MatchResult r (λ s. s.value ≡ x) (λ e. e ≡ Memory) → view_state read x ≡ Some m → GivesState read start r m
given read start (Ok s) x m h e = ap (view_state read) h ∙ e
given read start (Err y) x m h e = rw h tt

pub begins : (read : Leaf → Token) (r : Result (Box State Global) Stop) (v : (Leaf → Token) → Option M.State) (k : Option M.AtTypes) → MatchResult r (λ s. (read : Leaf → Token) → view_state read s.value ≡ v read) (λ e. e ≡ Memory) → v read ≡ made M.open_types k → BeginsBody read r k
begins read (Ok s) v k h e = h read ∙ e
begins read (Err y) v k h e = h

pub stays : (read : Leaf → Token) (start : ℕ) (r : Result (Box State Global) Stop) (v : (Leaf → Token) → Option M.State) (m : M.State) → MatchResult r (λ s. (read : Leaf → Token) → view_state read s.value ≡ v read) (λ e. e ≡ Memory) → v read ≡ Some m → GivesState read start r m
stays read start (Ok s) v m h e = h read ∙ e
stays read start (Err y) v m h e = rw h tt

pub awaited_at : (r : Result (Box Now Global) Stop) (x : AtType2) (f : (Leaf → Token) → Below → Option M.AtType2) → ((read : Leaf → Token) (b : Below) → view_at_type2 read b x ≡ f read b) → MatchResult r (λ now. (read : Leaf → Token) (b : Below) → view_now read b now.value ≡ made M.want (view_at_type2 read b x)) (λ e. e ≡ Memory) → MatchResult r (λ now. (read : Leaf → Token) (b : Below) → view_now read b now.value ≡ made M.want (f read b)) (λ e. e ≡ Memory)
awaited_at (Ok now) x f e h = λ read b. h read b ∙ ap (made M.want) (e read b)
awaited_at (Err y) x f e h = h

made_twice : (q : Option M.AtTypes) → made M.want (made (λ k. M.lower (M.head k)) q) ≡ made M.open_types q
made_twice None = refl
made_twice (Some k) = refl

pub body_begun : (read : Leaf → Token) (rs : S.Rules) (old new : List Frame) (f : Frame) (h : Home) (w : Option M.AtType2) → old ≡ [] → new ≡ old ++ f ∷ [] → w ≡ made (λ k. M.lower (M.head k)) (view_home read (below read rs new) h) → made M.want w ≡ made M.open_types (view_home read (above read rs nowhere f) h)
body_begun read rs old new f h w e g i = ap (made M.want) (i ∙ ap (λ (b : Below). made (λ k. M.lower (M.head k)) (view_home read b h)) here) ∙ made_twice (view_home read (above read rs nowhere f) h)
  where
    here : below read rs new ≡ above read rs nowhere f
    here = popped read rs new old f g ∙ ap (λ (b : Below). above read rs b f) (bottom read rs old e)

pub rule_ends : (read : Leaf → Token) (start : ℕ) (i : Kind) (t : Token) (r : Result (Box State Global) Stop) (old new : S.Rules) (x : S.Rule) (m : M.State) → new ≡ S.rules old x → m ≡ M.next_rule (S.rules old x) i t → GivesState read start r (M.next_rule new i t) → GivesState read start r m
rule_ends read start i t r old new x m e f h = rw (f, ← e) h

-- Within the rules.

pub now_at : (v : Option M.State) (m : M.State) (P : M.State → Type 0) → v ≡ Some m → P m → on v P
now_at v m P e h = rw e h

pub on_through : (v w : Option M.State) (P R : M.State → Type 0) → v ≡ w → ((m : M.State) → P m → R m) → on w P → on v R
on_through v w P R e f h = rw e (along w h)
  where
    along : (q : Option M.State) → on q P → on q R
    along None i = tt
    along (Some m) i = f m i

pub parm_named : (rs : S.Rules) (o : Token) (b : M.ParmBefore) (p : S.GenericParm) (i : Kind) (t : Token) → i ≡ K.Name → p ≡ M.parm_of b t → Some (M.have_parm rs o p) ≡ Some (M.step (M.awaits_parm rs o b) i t)
parm_named rs o b p i t e f = rw (e, f) refl

pub begin_next : (read : Leaf → Token) (start : ℕ) (i : Kind) (t : Token) (r : Result (Box State Global) Stop) (xs : List Rule) → xs ≡ [] → GivesState read start r (M.next_rule (view_rules read xs) i t) → GivesState read start r (M.next_rule S.no_rules i t)
begin_next read start i t r xs e h = rw e at h
