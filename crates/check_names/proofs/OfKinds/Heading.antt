-- The heads of definitions.
use Rattle.std.proofs.Common.{◌≡◌, ◌≢◌, ℕ, zero, suc, Bool, true, false, ◌||◌, if◌then◌else◌, List, [], ◌∷◌, ◌++◌, Some, refl, sym, ap, subst, ◌∙◌, ◌⊎◌, inl, inr, nat_eq, slice_get, drop, ◌+◌, ◌<◌, length, get_or, arith}
use Rattle.std.specs.List.{list_any}
use Rattle.std.specs.Cmp.Lexicographic.{same_text}
use Rattle.std.proofs.Math.Seq.{drop-cons}
use Rattle.std.proofs.lemmas.Cmp.{nat_list_eq_equiv}
use Rattle.std.proofs.lemmas.Bool.Decides.{eqb_tells}
use Rattle.lists.proofs.Lemmas.{one_of}
use Rattle.cddl_language.specs.Terms as L
use Rattle.cddl_language.specs.Terms.{Text, Term, literal, named, parens, map_of, array_of, unwrapped, choice_of, choice_of_name, tagged, tagged_by, simple_by, hash, range, control, or, call, stripped}
use Rattle.cddl_language.specs.Environment.{is_in, is_same}
use Rattle.check_terms.specs.declared.definition.Body.{Body}
use Rattle.check_terms.specs.declared.definition.Body.TheVariants as BodyV
use Rattle.check_terms.specs.declared.definition.Definition.{Definition}
use Rattle.check_terms.specs.Definitions.{AreDefinitions, no_definitions, further_definition, AreTexts, no_texts, further_text, IsBody, types, entry}
use Rattle.check_terms.specs.Table.{IsTable, Table}
use Rattle.check_terms.specs.Trees.{IsTerm}
use Rattle.check_names.specs.declared.kinds.heads.Head.{Head}
use Rattle.check_names.specs.declared.kinds.heads.Head.TheVariants as HeadV
use Rattle.check_names.specs.Kinds.Heads.{AreHeads, no_heads, further_head, HasHead, HasTop, IsHead, is_name, is_unwrapped, is_container, is_tag, is_in_group, is_other, Top, names, unwraps, other, top_body, top_type, unless, without}

-- A number is another exactly where its text is the other's.
same_number : (t : Table) → IsTable t → (k m : ℕ) (x n : Text) → slice_get t.texts k ≡ Some x → slice_get t.texts m ≡ Some n → nat_eq k m ≡ is_same x n
same_number t is k m x n h g = by (eqb_tells k m)
  where
    other_text : k ≢ m → (b : Bool) → b ≡ is_same x n → false ≡ b
    other_text e false f = refl
    other_text e true f = absurd (e (is.texts k m n (h ∙ ap Some (same_text x n f)) g))

    by : ((nat_eq k m ≡ true) × (k ≡ m)) ⊎ ((nat_eq k m ≡ false) × (k ≢ m)) → nat_eq k m ≡ is_same x n
    by (inl e) = e.0 ∙ sym (subst (λ z. is_same z n ≡ true) (one_of (slice_get t.texts m) n x g (ap (slice_get t.texts) (sym e.1) ∙ h)) (nat_list_eq_equiv.refl n))
    by (inr e) = e.0 ∙ other_text e.1 (is_same x n) refl

among : (t : Table) → IsTable t → (m : ℕ) (n : Text) → slice_get t.texts m ≡ Some n → (ks : List ℕ) (ps : List Text) → AreTexts t.texts ks ps → list_any (λ k. nat_eq k m) ks ≡ is_in ps n
among t is m n e [] [] no_texts = refl
among t is m n e [] (p ∷ ps) h = elim h [ ]
among t is m n e (k ∷ ks) [] h = elim h [ ]
among t is m n e (k ∷ ks) (p ∷ ps) (further_text g h) = ap (λ b. b || list_any (λ k. nat_eq k m) ks) (same_number t is k m p n g e) ∙ ap (λ b. is_same p n || b) (among t is m n e ks ps h)

-- Where these are parameters, names that are parameters lead nowhere.

abbrev limited : List Text → Top → Top
limited ps (names n) = unless ps n (names n)
limited ps (unwraps n) = unless ps n (unwraps n)
limited ps x = x

limit : (ps : List Text) (x : Term) → limited ps (top_type [] x) ≡ top_type ps x
limit ps (literal v) = refl
limit ps (named (call n ts)) = refl
limit ps (parens t) = refl
limit ps (map_of g) = refl
limit ps (array_of g) = refl
limit ps (unwrapped (call n ts)) = refl
limit ps (choice_of g) = refl
limit ps (choice_of_name r) = refl
limit ps (tagged n t) = refl
limit ps (tagged_by h t) = refl
limit ps (simple_by h) = refl
limit ps (hash n) = refl
limit ps (range a c b) = refl
limit ps (control a n b) = refl
limit ps (or t u) = refl

limit_head : (t : Table) → IsTable t → (ks : List ℕ) (ps : List Text) → AreTexts t.texts ks ps → (h : Head) (x : Top) → IsHead t.texts h x → IsHead t.texts (without ks h) (limited ps x)
limit_head t is ks ps a h x (is_name {m = m} {n = n} e) = subst (λ b. IsHead t.texts (without ks (HeadV.Name m)) (if b then other else names n)) (among t is m n e ks ps a) (by (list_any (λ k. nat_eq k m) ks))
  where
    by : (b : Bool) → IsHead t.texts (if b then HeadV.Other else HeadV.Name m) (if b then other else names n)
    by true = is_other
    by false = is_name e
limit_head t is ks ps a h x (is_unwrapped {m = m} {n = n} e) = subst (λ b. IsHead t.texts (without ks (HeadV.Unwrapped m)) (if b then other else unwraps n)) (among t is m n e ks ps a) (by (list_any (λ k. nat_eq k m) ks))
  where
    by : (b : Bool) → IsHead t.texts (if b then HeadV.Other else HeadV.Unwrapped m) (if b then other else unwraps n)
    by true = is_other
    by false = is_unwrapped e
limit_head t is ks ps a h x is_container = is_container
limit_head t is ks ps a h x is_tag = is_tag
limit_head t is ks ps a h x is_in_group = is_in_group
limit_head t is ks ps a h x is_other = is_other

pub entry_head : (t : Table) (b : Body) (x : L.Body) (n : ℕ) → IsBody t b x → b ≡ BodyV.Entry n → (ps : List Text) → IsHead t.texts HeadV.Entry (top_body ps x)
entry_head t b x n (types h) e ps = cc
entry_head t b x n (entry h) e ps = is_in_group

pub types_head : (t : Table) → IsTable t → (b : Body) (x : L.Body) (n : ℕ) (h : Head) → IsBody t b x → b ≡ BodyV.Types n → HasTop t n h → (ks : List ℕ) (ps : List Text) → AreTexts t.texts ks ps → IsHead t.texts (without ks h) (top_body ps x)
types_head t is b x n h (types {n = m} {x = u} k) e top ks ps a = subst (IsHead t.texts (without ks h)) (limit ps (stripped u)) (limit_head t is ks ps a h (top_type [] (stripped u)) (top u (subst (λ i. IsTerm t i u) (number m n e) k)))
  where
    number : (m n : ℕ) → BodyV.Types m ≡ BodyV.Types n → m ≡ n
    number m n e = cc
types_head t is b x n h (entry k) e top ks ps a = cc

-- One more head.

one_more : {A : Type 0} (xs : List A) (x : A) (ys : List A) → (xs ++ x ∷ []) ++ ys ≡ xs ++ (x ∷ ys)
one_more [] x ys = refl
one_more {A = A} (z ∷ xs) x ys = ap (λ (zs : List A). z ∷ zs) (one_more xs x ys)

pub next_drop : (ds : List Definition) (i : ℕ) (d : Definition) → i < length ds → d ≡ get_or ds i d → drop i ds ≡ d ∷ drop (i + 1) ds
next_drop ds i d h e = drop-cons ds i d h ∙ ap (λ (x : Definition). x ∷ drop (suc i) ds) (sym e) ∙ ap (λ j. d ∷ drop j ds) step
  where
    step : suc i ≡ i + 1
    step = omega arith

pub next_head : (t : Table) (ds rest further : List Definition) (d : Definition) (hs new : List Head) (h : Head) → rest ≡ d ∷ further → HasHead t d h → new ≡ hs ++ h ∷ [] → ((ks : List Head) → AreHeads t rest ks → AreHeads t ds (hs ++ ks)) → (ks : List Head) → AreHeads t further ks → AreHeads t ds (new ++ ks)
next_head t ds rest further d hs new h e k f inv ks a = subst (AreHeads t ds) (sym (ap (λ (z : List Head). z ++ ks) f ∙ one_more hs h ks)) (inv (h ∷ ks) (subst (λ r. AreHeads t r (h ∷ ks)) (sym e) (further_head k a)))

pub all_heads : (t : Table) (ds rest : List Definition) (hs : List Head) → rest ≡ [] → ((ks : List Head) → AreHeads t rest ks → AreHeads t ds (hs ++ ks)) → AreHeads t ds hs
all_heads t ds rest hs e inv = subst (AreHeads t ds) (none hs) (inv [] (subst (λ r. AreHeads t r []) (sym e) no_heads))
  where
    none : (xs : List Head) → xs ++ [] ≡ xs
    none [] = refl
    none (x ∷ xs) = ap (λ (ys : List Head). x ∷ ys) (none xs)

-- the head of the definition at a place
pub head_at : (t : Table) (ds : List Definition) (xs : List L.Definition) (hs : List Head) → AreDefinitions t ds xs → AreHeads t ds hs → (p : ℕ) (x : L.Definition) → slice_get xs p ≡ Some x → (h : Head) × (slice_get hs p ≡ Some h) × IsHead t.texts h (top_body x.parameters x.body)
head_at t [] [] hs no_definitions k p x e = cc
head_at t [] (y ∷ xs) hs h k p x e = elim h [ ]
head_at t (d ∷ ds) [] hs h k p x e = elim h [ ]
head_at t (d ∷ ds) (y ∷ xs) [] h k p x e = elim k [ ]
head_at t (d ∷ ds) (y ∷ xs) (g ∷ hs) (further_definition h h2) (further_head k k2) zero x e = (g, refl, subst (λ z. IsHead t.texts g (top_body z.parameters z.body)) (one_of (Some y) y x refl e) (k y h))
head_at t (d ∷ ds) (y ∷ xs) (g ∷ hs) (further_definition h h2) (further_head k k2) (suc p) x e = head_at t ds xs hs h2 k2 p x e
