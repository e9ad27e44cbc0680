-- What is wrong with a word, from what a survey says of it.
use Rattle.std.proofs.Common.{◌≡◌, ◌≢◌, ℕ, inl, inr, nat_eq, not, Bool, true, false, if◌then◌else◌, ◌||◌, List, [], ◌∷◌, length, Option, Some, None, slice_get, refl, sym, ap, subst, ◌∙◌, true≢false}
use Rattle.std.proofs.lemmas.Bool.Decides.{eqb_tells}
use Rattle.tree_nodes.specs.Syntax.Syntax as S
use Rattle.tree_nodes.specs.declared.tree.Tree.{Tree}
use Rattle.tree_nodes.specs.View.{view}
use Rattle.cddl_language.specs.Terms as L
use Rattle.cddl_language.specs.Terms.{Text}
use Rattle.cddl_language.specs.Controls.{control_of}
use Rattle.cddl_language.specs.Environment.{definitions_of, has_any, is_socket}
use Rattle.cddl_language.specs.Faults as F
use Rattle.cddl_language.specs.Faults.{HasBadHash, HasGroupAsType, HasName, HasSite, HasUnknownControl, IsUndefined, Specification, definitions, occur_token, parameter_count}
use Rattle.cddl_language.specs.Numbers.{hash_form}
use Rattle.cddl_language.specs.Reading.{rules_of}
use Rattle.cddl_language.specs.Sites.{Site, a_name, an_unwrapping, a_choice_of, a_choice_of_name, a_hash, an_operation, an_entry, a_map, arguments, is_parameter, ref_at_site, ref_name, ref_token}
use Rattle.cddl_token.specs.declared.Token.{Token}
use Rattle.check_names.specs.Kinds.Kinds.{is_group_there}
use Rattle.check_reading.specs.Survey.Survey.{defined_in}
use Rattle.check_reading.specs.Words.{IsSaid, Said, control_said, hash_said, name_said, occur_said, occurrence_said, said_at}
use Rattle.check_reading.specs.declared.survey.survey.Survey.{Survey}
use Rattle.check_reading.specs.declared.words.word.Role.{Role}
use Rattle.check_reading.specs.declared.words.word.Role.TheVariants as RoleV
use Rattle.check_reading.specs.declared.words.word.Word.{Word}
use Rattle.check_terms.specs.Table.{Table}
use Rattle.lists.specs.Least.{IsLeast}
use Rattle.lists.proofs.Lemmas.{same_least}
use Rattle.all_offsets.specs.Offsets.{AreOf}
use Rattle.all_offsets.proofs.Lemmas.{IsOne, same_of}
use Rattle.check_text.specs.SiteFaults.Kinds.{is_wrong_kind}
use Rattle.check_text.specs.SiteFaults.Marks.{has_mark}
use Rattle.check_text.specs.SiteFaults.Names.{count_there, is_defined_there}
use Rattle.check_text.specs.SiteFaults.Reads.{IsRead}
use Rattle.check_text.specs.SiteFaults.Roles.{is_name_role}
use Rattle.check_text.specs.SiteFaults.Words.{HasWrongArityAtName, by_name, by_parameter, IsToldAtSites, IsToldAtWord, IsUndefinedName, IsWrongControl, IsWrongHash, IsWrongKind, IsWrongWord, OfName, count_wanted, is_other_than, kind_of_name}
use Rattle.check_text.specs.declared.site_faults.code.SiteCode.{SiteCode}
use Rattle.check_text.specs.declared.site_faults.code.SiteCode.TheVariants.{Undefined, Arity, GroupAsType, HashForm, UnknownControl}
use Rattle.check_text.specs.declared.site_faults.marks.Mark.{Mark}
use Rattle.check_text.proofs.OfSiteFaults.Naming.{same_count, same_defined, same_kind, same_parameter}
use Rattle.check_text.proofs.OfSiteFaults.Telling.{IsTold, told_here, told_nowhere}

-- By the role of a word.

no_name : (B : Type 0) (o : Role) → is_name_role o ≡ false → OfName B o → ⊥
no_name B (RoleV.Name b) e k = true≢false e
no_name B (RoleV.Unwrapped b u) e k = true≢false e
no_name B RoleV.ChosenFrom e k = true≢false e
no_name B RoleV.Hash e k = k
no_name B RoleV.Control e k = k
no_name B RoleV.Occurrence e k = k

some_name : (B : Type 0) (o : Role) → is_name_role o ≡ true → B → OfName B o
some_name B (RoleV.Name b) e k = k
some_name B (RoleV.Unwrapped b u) e k = k
some_name B RoleV.ChosenFrom e k = k
some_name B RoleV.Hash e k = absurd (true≢false (sym e))
some_name B RoleV.Control e k = absurd (true≢false (sym e))
some_name B RoleV.Occurrence e k = absurd (true≢false (sym e))

of_name : (B : Type 0) (o : Role) → OfName B o → B
of_name B (RoleV.Name b) k = k
of_name B (RoleV.Unwrapped b u) k = k
of_name B RoleV.ChosenFrom k = k
of_name B RoleV.Hash k = absurd k
of_name B RoleV.Control k = absurd k
of_name B RoleV.Occurrence k = absurd k

wrong_kind : (ds : List L.Definition) (r : S.Rule) (n : Text) (o : Role) → is_wrong_kind o (kind_of_name ds r n) ≡ true → IsWrongKind ds r n o
wrong_kind ds r n (RoleV.Name true) e = e
wrong_kind ds r n (RoleV.Name false) e = absurd (true≢false (sym e))
wrong_kind ds r n (RoleV.Unwrapped b u) e = absurd (true≢false (sym e))
wrong_kind ds r n RoleV.ChosenFrom e = by (kind_of_name ds r n) e
  where
    by : (g : Bool) → not g ≡ true → g ≡ false
    by true f = absurd (true≢false (sym f))
    by false f = refl
wrong_kind ds r n RoleV.Hash e = absurd (true≢false (sym e))
wrong_kind ds r n RoleV.Control e = absurd (true≢false (sym e))
wrong_kind ds r n RoleV.Occurrence e = absurd (true≢false (sym e))

right_kind : (ds : List L.Definition) (r : S.Rule) (n : Text) (o : Role) → is_wrong_kind o (kind_of_name ds r n) ≡ false → IsWrongKind ds r n o → ⊥
right_kind ds r n (RoleV.Name true) e k = true≢false (sym k ∙ e)
right_kind ds r n (RoleV.Name false) e k = k
right_kind ds r n (RoleV.Unwrapped b u) e k = k
right_kind ds r n RoleV.ChosenFrom e k = true≢false (ap not (sym k) ∙ e)
right_kind ds r n RoleV.Hash e k = k
right_kind ds r n RoleV.Control e k = k
right_kind ds r n RoleV.Occurrence e k = k

none_of_three : (a b c : Bool) → (a || (b || c)) ≡ true → a ≡ false → b ≡ false → c ≡ false → ⊥
none_of_three a b c e f g h = true≢false (sym e ∙ (λ i. f i || (g i || h i)))

all_of_three : (a b c : Bool) → (a || (b || c)) ≡ false → (a ≡ false) × (b ≡ false) × (c ≡ false)
all_of_three true b c e = absurd (true≢false e)
all_of_three false true c e = absurd (true≢false e)
all_of_three false false c e = (refl, refl, e)

empty : (ds : List L.Definition) → has_any ds ≡ false → ds ≡ []
empty [] e = refl
empty (d ∷ ds) e = absurd (true≢false e)

-- At one word, of the rule r, that says x.

module _ (t : Table) (w : Word) (x : Said) (is : IsSaid t w x) where
  pub told_at : (B : Type 0) → B → IsLeast (λ at. B × (at ≡ x.at)) (Some w.at)
  told_at B b = subst (λ p. IsLeast (λ at. B × (at ≡ x.at)) (Some p)) (sym is.at) (told_here B x.at b)

  pub told_not : (B : Type 0) → (B → ⊥) → IsLeast (λ at. B × (at ≡ x.at)) None
  told_not B b = told_nowhere B x.at b

  -- a text of that number is its own
  pub its_text : (n : Text) → Some n ≡ slice_get t.texts w.text → n ≡ x.text
  its_text n e = let h = e ∙ is.text in cc

  pub no_text : None ≡ slice_get t.texts w.text → ⊥
  no_text e = let h : None ≡ Some x.text = e ∙ is.text in cc

  pub other_role : (B : Type 0) → is_name_role w.role ≡ false → OfName B x.role → ⊥
  other_role B e k = no_name B x.role (ap is_name_role (sym is.role) ∙ e) k

module _ (t : Table) (tree : Tree) (s : Survey) (ms : List Mark) (is : IsRead t tree s ms) (w : Word) (r : S.Rule) (x : Said) (place : slice_get (rules_of (view tree)) w.rule ≡ Some r) (said : IsSaid t w x) where
  parameter : has_mark ms w.rule w.text ≡ is_parameter r x.text
  parameter = same_parameter t tree s ms is w.rule w.text r x.text place said.text

  known : (b : Bool) (n : Text) → n ≡ x.text → b ≡ (has_mark ms w.rule w.text || (is_socket n || is_defined_there (slice_get s.names.items w.text))) → b ≡ (is_parameter r x.text || (is_socket x.text || has_any (definitions_of (defined_in tree) x.text)))
  known b n same e = e ∙ (λ i. parameter i || (is_socket (same i) || same_defined t tree s ms is x.text w.text said.text i))

  pub defined_there : (b : Bool) (n : Text) → n ≡ x.text → b ≡ (has_mark ms w.rule w.text || (is_socket n || is_defined_there (slice_get s.names.items w.text))) → b ≡ true → IsLeast (IsToldAtWord Undefined (defined_in tree) r x) None
  defined_there b n same e g = told_not t w x said (IsWrongWord Undefined (defined_in tree) r x) (λ k. let q = of_name (IsUndefinedName (defined_in tree) r x.text) x.role k in none_of_three _ _ _ (sym (known b n same e) ∙ g) q.0 q.1 (ap has_any q.2))

  pub undefined_there : (b : Bool) (n : Text) → n ≡ x.text → b ≡ (has_mark ms w.rule w.text || (is_socket n || is_defined_there (slice_get s.names.items w.text))) → b ≡ false → is_name_role w.role ≡ true → IsLeast (IsToldAtWord Undefined (defined_in tree) r x) (Some w.at)
  undefined_there b n same e g name =
      let h = all_of_three _ _ _ (sym (known b n same e) ∙ g) in
      told_at t w x said (IsWrongWord Undefined (defined_in tree) r x) (some_name (IsUndefinedName (defined_in tree) r x.text) x.role (ap is_name_role (sym said.role) ∙ name) (h.0, h.1, empty _ h.2))

  abbrev IsWrongCount : Type 0
  IsWrongCount = is_other_than (count_wanted (defined_in tree) r x.text) x.arguments ≡ true

  counts : (b : Bool) (wanted : Option ℕ) → wanted ≡ (if has_mark ms w.rule w.text then Some 0 else count_there s.definitions.items (slice_get s.names.items w.text)) → b ≡ is_other_than wanted w.arguments → b ≡ is_other_than (count_wanted (defined_in tree) r x.text) x.arguments
  counts b wanted e h = h ∙ (λ i. is_other_than ((e ∙ (λ j. if parameter j then Some 0 else same_count t tree s ms is x.text w.text said.text j)) i) (said.arguments i))

  pub right_count : (b : Bool) (wanted : Option ℕ) → wanted ≡ (if has_mark ms w.rule w.text then Some 0 else count_there s.definitions.items (slice_get s.names.items w.text)) → b ≡ is_other_than wanted w.arguments → b ≡ false → IsLeast (IsToldAtWord Arity (defined_in tree) r x) None
  right_count b wanted e h n = told_not t w x said (IsWrongWord Arity (defined_in tree) r x) (λ k. true≢false (sym (of_name IsWrongCount x.role k) ∙ sym (counts b wanted e h) ∙ n))

  pub wrong_count : (b : Bool) (wanted : Option ℕ) → wanted ≡ (if has_mark ms w.rule w.text then Some 0 else count_there s.definitions.items (slice_get s.names.items w.text)) → b ≡ is_other_than wanted w.arguments → b ≡ true → is_name_role w.role ≡ true → IsLeast (IsToldAtWord Arity (defined_in tree) r x) (Some w.at)
  wrong_count b wanted e h n name = told_at t w x said (IsWrongWord Arity (defined_in tree) r x) (some_name IsWrongCount x.role (ap is_name_role (sym said.role) ∙ name) (sym (counts b wanted e h) ∙ n))

  kinds : (b g : Bool) → g ≡ (if has_mark ms w.rule w.text then false else is_group_there s.kinds w.text) → b ≡ is_wrong_kind w.role g → b ≡ is_wrong_kind x.role (kind_of_name (defined_in tree) r x.text)
  kinds b g e h = h ∙ (λ i. is_wrong_kind (said.role i) ((e ∙ (λ j. if parameter j then false else same_kind t tree s ms is x.text w.text said.text j)) i))

  pub wrong_kind_there : (b g : Bool) → g ≡ (if has_mark ms w.rule w.text then false else is_group_there s.kinds w.text) → b ≡ is_wrong_kind w.role g → b ≡ true → IsLeast (IsToldAtWord GroupAsType (defined_in tree) r x) (Some w.at)
  wrong_kind_there b g e h n = told_at t w x said (IsWrongWord GroupAsType (defined_in tree) r x) (wrong_kind (defined_in tree) r x.text x.role (sym (kinds b g e h) ∙ n))

  pub right_kind_there : (b g : Bool) → g ≡ (if has_mark ms w.rule w.text then false else is_group_there s.kinds w.text) → b ≡ is_wrong_kind w.role g → b ≡ false → IsLeast (IsToldAtWord GroupAsType (defined_in tree) r x) None
  right_kind_there b g e h n = told_not t w x said (IsWrongWord GroupAsType (defined_in tree) r x) (right_kind (defined_in tree) r x.text x.role (sym (kinds b g e h) ∙ n))

-- A form of `#`, and a control: the role has to be that of the word.

no_hash : (n : Text) (o : Role) → (F.IsBadHash (hash_form n) → ⊥) → IsWrongHash n o → ⊥
no_hash n (RoleV.Name b) h k = k
no_hash n (RoleV.Unwrapped b u) h k = k
no_hash n RoleV.ChosenFrom h k = k
no_hash n RoleV.Hash h k = h k
no_hash n RoleV.Control h k = k
no_hash n RoleV.Occurrence h k = k

no_control : (n : Text) (o : Role) → (control_of n ≡ None → ⊥) → IsWrongControl n o → ⊥
no_control n (RoleV.Name b) h k = k
no_control n (RoleV.Unwrapped b u) h k = k
no_control n RoleV.ChosenFrom h k = k
no_control n RoleV.Hash h k = k
no_control n RoleV.Control h k = h k
no_control n RoleV.Occurrence h k = k

module _ (t : Table) (ds : List L.Definition) (r : S.Rule) (w : Word) (x : Said) (said : IsSaid t w x) where
  pub bad_hash : (n : Text) → n ≡ x.text → w.role ≡ RoleV.Hash → F.IsBadHash (hash_form n) → IsLeast (IsToldAtWord HashForm ds r x) (Some w.at)
  bad_hash n same role h = told_at t w x said (IsWrongHash x.text x.role) (subst (IsWrongHash x.text) (sym role ∙ said.role) (subst (λ m. F.IsBadHash (hash_form m)) same h))

  pub good_hash : (n : Text) → n ≡ x.text → (F.IsBadHash (hash_form n) → ⊥) → IsLeast (IsToldAtWord HashForm ds r x) None
  good_hash n same h = told_not t w x said (IsWrongHash x.text x.role) (no_hash x.text x.role (subst (λ m. F.IsBadHash (hash_form m) → ⊥) same h))

  pub no_hash_there : ((n : Text) → IsWrongHash n w.role → ⊥) → IsLeast (IsToldAtWord HashForm ds r x) None
  no_hash_there h = told_not t w x said (IsWrongHash x.text x.role) (λ k. h x.text (subst (IsWrongHash x.text) (sym said.role) k))

  pub unknown : (n : Text) → n ≡ x.text → w.role ≡ RoleV.Control → control_of n ≡ None → IsLeast (IsToldAtWord UnknownControl ds r x) (Some w.at)
  unknown n same role h = told_at t w x said (IsWrongControl x.text x.role) (subst (IsWrongControl x.text) (sym role ∙ said.role) (ap control_of (sym same) ∙ h))

  pub known_control : (n : Text) → n ≡ x.text → (control_of n ≡ None → ⊥) → IsLeast (IsToldAtWord UnknownControl ds r x) None
  known_control n same h = told_not t w x said (IsWrongControl x.text x.role) (no_control x.text x.role (λ e. h (ap control_of same ∙ e)))

  pub no_control_there : ((n : Text) → IsWrongControl n w.role → ⊥) → IsLeast (IsToldAtWord UnknownControl ds r x) None
  no_control_there h = told_not t w x said (IsWrongControl x.text x.role) (λ k. h x.text (subst (IsWrongControl x.text) (sym said.role) k))

-- A word is told at one offset.
pub one_at_word : (code : SiteCode) (ds : List L.Definition) (r : S.Rule) (x : Said) → IsOne (IsToldAtWord code ds r x)
one_at_word code ds r x p q h k = h.1 ∙ sym k.1

-- In all of a text.

no_occurrence : (code : SiteCode) (ds : List L.Definition) (r : S.Rule) (t : Token) → IsWrongWord code ds r (occurrence_said t) → ⊥
no_occurrence Undefined ds r t k = k
no_occurrence Arity ds r t k = k
no_occurrence GroupAsType ds r t k = k
no_occurrence HashForm ds r t k = k
no_occurrence UnknownControl ds r t k = k

module _ (s : Specification) where
  abbrev Wrong : SiteCode → S.Rule → Said → Type 0
  Wrong code r x = IsWrongWord code (definitions s) r x

  same_word : (x y : Said) → Some x ≡ Some y → x ≡ y
  same_word x y e = cc

  -- at an entry no code stands
  at_entry : (code : SiteCode) (r : S.Rule) (x : Said) (o : Option Token) → occur_said o ≡ Some x → Wrong code r x → ⊥
  at_entry code r x None e k = cc
  at_entry code r x (Some t) e k = no_occurrence code (definitions s) r t (subst (Wrong code r) (sym (same_word (occurrence_said t) x e)) k)

  named_at : (r : S.Rule) (q : Site) (f : S.Ref) → HasSite s r q → ref_at_site q ≡ Some f → HasName s r f
  named_at r q f h e = record { at = q; found = h; name = e }

  undefined_of : (r : S.Rule) (f : S.Ref) (p : ℕ) → HasName s r f → IsUndefinedName (definitions s) r (ref_name f) → p ≡ (ref_token f).start → IsUndefined s p
  undefined_of r f p h k at = record { rule = r; ref = f; found = h; no_parameter = k.0; no_socket = k.1; no_definition = k.2; offset = at }

  other_count : (k m : ℕ) → not (nat_eq m k) ≡ true → m ≢ k
  other_count k m e f = elim (eqb_tells m k) [ inl h ↦ true≢false (sym e ∙ ap not h.0) | inr h ↦ h.1 f ]

  count_other : (k m : ℕ) → m ≢ k → not (nat_eq m k) ≡ true
  count_other k m e = elim (eqb_tells m k) [ inl h ↦ absurd (e h.1) | inr h ↦ ap not h.0 ]

  no_arguments : (xs : List S.Type1) → length xs ≡ 0 → xs ≡ []
  no_arguments [] e = refl
  no_arguments (x ∷ xs) e = cc

  some_arguments : (xs : List S.Type1) → length xs ≢ 0 → xs ≢ []
  some_arguments xs e f = e (ap length f)

  arity_of : (r : S.Rule) (f : S.Ref) (p : ℕ) → HasName s r f → p ≡ (ref_token f).start → (b : Bool) → is_parameter r (ref_name f) ≡ b → (c : Option ℕ) → parameter_count (definitions s) (ref_name f) ≡ c → is_other_than (if b then Some 0 else c) (length (arguments f)) ≡ true → HasWrongArityAtName s p
  arity_of r f p h at true e c g w = by_parameter h e (some_arguments (arguments f) (other_count 0 (length (arguments f)) w)) at
  arity_of r f p h at false e None g w = absurd (true≢false (sym w))
  arity_of r f p h at false e (Some k) g w = by_name h e g (other_count k (length (arguments f)) w) at

  -- a code at a name of the rule r
  name_wrong : (code : SiteCode) (r : S.Rule) (f : S.Ref) (o : Role) (p : ℕ) → HasName s r f → (IsWrongKind (definitions s) r (ref_name f) o → HasGroupAsType s p) → Wrong code r (name_said o f) → p ≡ (ref_token f).start → (is_name_role o ≡ true) → IsToldAtSites code s p
  name_wrong Undefined r f o p h kind k at name = undefined_of r f p h (of_name (IsUndefinedName (definitions s) r (ref_name f)) o k) at
  name_wrong Arity r f o p h kind k at name = arity_of r f p h at (is_parameter r (ref_name f)) refl (parameter_count (definitions s) (ref_name f)) refl (of_name (is_other_than (count_wanted (definitions s) r (ref_name f)) (length (arguments f)) ≡ true) o k)
  name_wrong GroupAsType r f o p h kind k at name = kind k
  name_wrong HashForm r f (RoleV.Name b) p h kind k at name = absurd k
  name_wrong HashForm r f (RoleV.Unwrapped b u) p h kind k at name = absurd k
  name_wrong HashForm r f RoleV.ChosenFrom p h kind k at name = absurd k
  name_wrong HashForm r f RoleV.Hash p h kind k at name = absurd (true≢false (sym name))
  name_wrong HashForm r f RoleV.Control p h kind k at name = absurd k
  name_wrong HashForm r f RoleV.Occurrence p h kind k at name = absurd k
  name_wrong UnknownControl r f (RoleV.Name b) p h kind k at name = absurd k
  name_wrong UnknownControl r f (RoleV.Unwrapped b u) p h kind k at name = absurd k
  name_wrong UnknownControl r f RoleV.ChosenFrom p h kind k at name = absurd k
  name_wrong UnknownControl r f RoleV.Hash p h kind k at name = absurd k
  name_wrong UnknownControl r f RoleV.Control p h kind k at name = absurd (true≢false (sym name))
  name_wrong UnknownControl r f RoleV.Occurrence p h kind k at name = absurd k

  hash_wrong : (code : SiteCode) (r : S.Rule) (t : Token) (p : ℕ) → HasSite s r (a_hash t) → Wrong code r (hash_said t) → p ≡ t.start → IsToldAtSites code s p
  hash_wrong Undefined r t p h k at = absurd k
  hash_wrong Arity r t p h k at = absurd k
  hash_wrong GroupAsType r t p h k at = absurd k
  hash_wrong HashForm r t p h k at = record { rule = r; token = t; found = h; bad = k; offset = at }
  hash_wrong UnknownControl r t p h k at = absurd k

  control_wrong : (code : SiteCode) (r : S.Rule) (y : S.Type2) (t : Token) (z : S.Type2) (p : ℕ) → HasSite s r (an_operation y (S.control t) z) → Wrong code r (control_said t) → p ≡ t.start → IsToldAtSites code s p
  control_wrong Undefined r y t z p h k at = absurd k
  control_wrong Arity r y t z p h k at = absurd k
  control_wrong GroupAsType r y t z p h k at = absurd k
  control_wrong HashForm r y t z p h k at = absurd k
  control_wrong UnknownControl r y t z p h k at = record { rule = r; left = y; token = t; right = z; found = h; unknown = k; offset = at }

  wrong_at : (code : SiteCode) (r : S.Rule) (q : Site) (x : Said) (p : ℕ) → HasSite s r q → said_at q ≡ Some x → IsToldAtWord code (definitions s) r x p → IsToldAtSites code s p
  wrong_at code r (a_name true f) x p h e k = let w = subst (λ y. IsToldAtWord code (definitions s) r y p) (sym (same_word _ x e)) k in name_wrong code r f (RoleV.Name true) p (named_at r (a_name true f) f h refl) (λ g. F.group_name h g w.1) w.0 w.1 refl
  wrong_at code r (a_name false f) x p h e k = let w = subst (λ y. IsToldAtWord code (definitions s) r y p) (sym (same_word _ x e)) k in name_wrong code r f (RoleV.Name false) p (named_at r (a_name false f) f h refl) (λ g. absurd g) w.0 w.1 refl
  wrong_at code r (an_unwrapping b t f) x p h e k = let w = subst (λ y. IsToldAtWord code (definitions s) r y p) (sym (same_word _ x e)) k in name_wrong code r f (RoleV.Unwrapped b t.start) p (named_at r (an_unwrapping b t f) f h refl) (λ g. absurd g) w.0 w.1 refl
  wrong_at code r (a_choice_of t g) x p h e k = cc
  wrong_at code r (a_choice_of_name t f) x p h e k = let w = subst (λ y. IsToldAtWord code (definitions s) r y p) (sym (same_word _ x e)) k in name_wrong code r f RoleV.ChosenFrom p (named_at r (a_choice_of_name t f) f h refl) (λ g. F.type_name h g w.1) w.0 w.1 refl
  wrong_at code r (a_hash t) x p h e k = let w = subst (λ y. IsToldAtWord code (definitions s) r y p) (sym (same_word _ x e)) k in hash_wrong code r t p h w.0 w.1
  wrong_at code r (an_operation y (S.range t) z) x p h e k = cc
  wrong_at code r (an_operation y (S.range_below t) z) x p h e k = cc
  wrong_at code r (an_operation y (S.control t) z) x p h e k = let w = subst (λ v. IsToldAtWord code (definitions s) r v p) (sym (same_word _ x e)) k in control_wrong code r y t z p h w.0 w.1
  wrong_at code r (an_entry g) x p h e k = absurd (at_entry code r x (occur_token g) e k.0)
  wrong_at code r (a_map t g) x p h e k = cc

  -- a name at a site has a word
  word_of : (q : Site) (f : S.Ref) → ref_at_site q ≡ Some f → (o : Role) × ((said_at q ≡ Some (name_said o f)) × (is_name_role o ≡ true))
  word_of (a_name b g) f e = (RoleV.Name b, (ap (λ h. Some (name_said (RoleV.Name b) h)) (same_ref g f e), refl))
    where
      same_ref : (g f : S.Ref) → Some g ≡ Some f → g ≡ f
      same_ref g f e = cc
  word_of (an_unwrapping b t g) f e = (RoleV.Unwrapped b t.start, (ap (λ h. Some (name_said (RoleV.Unwrapped b t.start) h)) (same_ref g f e), refl))
    where
      same_ref : (g f : S.Ref) → Some g ≡ Some f → g ≡ f
      same_ref g f e = cc
  word_of (a_choice_of t g) f e = cc
  word_of (a_choice_of_name t g) f e = (RoleV.ChosenFrom, (ap (λ h. Some (name_said RoleV.ChosenFrom h)) (same_ref g f e), refl))
    where
      same_ref : (g f : S.Ref) → Some g ≡ Some f → g ≡ f
      same_ref g f e = cc
  word_of (a_hash t) f e = cc
  word_of (an_operation x o y) f e = cc
  word_of (an_entry g) f e = cc
  word_of (a_map t g) f e = cc

  at_name : (code : SiteCode) (r : S.Rule) (f : S.Ref) (p : ℕ) → HasName s r f → ((o : Role) → is_name_role o ≡ true → Wrong code r (name_said o f)) → p ≡ (ref_token f).start → IsTold s (IsToldAtWord code (definitions s)) p
  at_name code r f p h wrong at = let w = word_of h.at f h.name in record { rule = r; site = h.at; said = name_said w.0 f; found = h.found; there = w.1.0; told = (wrong w.0 w.1.1, at) }

  arity_to : (p : ℕ) → HasWrongArityAtName s p → IsTold s (IsToldAtWord Arity (definitions s)) p
  arity_to p (by_name {r = r} {f = f} {k = k} h e c w at) = at_name Arity r f p h (λ o name. some_name _ o name ((λ i. is_other_than (if e i then Some 0 else c i) (length (arguments f))) ∙ count_other k (length (arguments f)) w)) at
  arity_to p (by_parameter {r = r} {f = f} h e w at) = at_name Arity r f p h (λ o name. some_name _ o name ((λ i. is_other_than (if e i then Some 0 else parameter_count (definitions s) (ref_name f)) (length (arguments f))) ∙ count_other 0 (length (arguments f)) (λ z. w (no_arguments (arguments f) z)))) at

  kind_to : (p : ℕ) → HasGroupAsType s p → IsTold s (IsToldAtWord GroupAsType (definitions s)) p
  kind_to p (F.group_name {r = r} {f = f} h e at) = record { rule = r; site = a_name true f; said = name_said (RoleV.Name true) f; found = h; there = refl; told = (e, at) }
  kind_to p (F.type_name {r = r} {t = t} {f = f} h e at) = record { rule = r; site = a_choice_of_name t f; said = name_said RoleV.ChosenFrom f; found = h; there = refl; told = (e, at) }

  from_text : (code : SiteCode) (p : ℕ) → IsToldAtSites code s p → IsTold s (IsToldAtWord code (definitions s)) p
  from_text Undefined p k = at_name Undefined k.rule k.ref p k.found (λ o name. some_name _ o name (k.no_parameter, k.no_socket, k.no_definition)) k.offset
  from_text Arity p k = arity_to p k
  from_text GroupAsType p k = kind_to p k
  from_text HashForm p k = record { rule = k.rule; site = a_hash k.token; said = hash_said k.token; found = k.found; there = refl; told = (k.bad, k.offset) }
  from_text UnknownControl p k = record { rule = k.rule; site = an_operation k.left (S.control k.token) k.right; said = control_said k.token; found = k.found; there = refl; told = (k.unknown, k.offset) }

  to_text : (code : SiteCode) (p : ℕ) → IsTold s (IsToldAtWord code (definitions s)) p → IsToldAtSites code s p
  to_text code p k = wrong_at code k.rule k.site k.said p k.found k.there k.told

  pub least_in_text : (code : SiteCode) (o : Option ℕ) → IsLeast (IsTold s (IsToldAtWord code (definitions s))) o → IsLeast (IsToldAtSites code s) o
  least_in_text code o h = same_least (IsTold s (IsToldAtWord code (definitions s))) (IsToldAtSites code s) (to_text code) (from_text code) o h

  pub all_in_text : (code : SiteCode) (offsets : List ℕ) → AreOf (IsTold s (IsToldAtWord code (definitions s))) offsets → AreOf (IsToldAtSites code s) offsets
  all_in_text code offsets h = same_of (IsTold s (IsToldAtWord code (definitions s))) (IsToldAtSites code s) offsets (to_text code) (from_text code) h
