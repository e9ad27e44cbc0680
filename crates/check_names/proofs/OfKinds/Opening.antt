-- How `~` of names leads on.
use Rattle.std.proofs.Common.{◌≡◌, ℕ, zero, suc, ◌+◌, Bool, true, false, if◌then◌else◌, is_some, List, [], ◌∷◌, ◌++◌, length, Option, Some, None, refl, sym, ap, subst, ◌∙◌, slice_get, slice_index_or, arith}
use Rattle.graphs.specs.declared.chains.Link.{Link}
use Rattle.graphs.specs.declared.chains.Link.TheVariants as LinkV
use Rattle.graphs.specs.Chains.Chains.{end_by, end_within}
use Rattle.cddl_language.specs.Terms as L
use Rattle.cddl_language.specs.Terms.{Text, Term, literal, named, parens, map_of, array_of, unwrapped, choice_of, choice_of_name, tagged, tagged_by, simple_by, hash, range, control, or, Ref, Terms, call, stripped, term_list, of_types, of_entry}
use Rattle.cddl_language.specs.Environment as E
use Rattle.cddl_language.specs.Environment.{definitions_of, from_prelude, has_equals, is_group_socket, is_in, named_so}
use Rattle.cddl_language.specs.Prelude.{prelude}
use Rattle.cddl_language.specs.Substitution.{fill, fill_all, fill_group}
use Rattle.cddl_language.specs.Kinds.{Opened, opens_group, opens_type, opened_body, opened_by, opened_in, opened_term}
use Rattle.check_terms.specs.declared.definition.Definition.{Definition}
use Rattle.check_terms.specs.Definitions.{AreDefinitions}
use Rattle.check_terms.specs.Table.{Table}
use Rattle.check_names.specs.Environment.Environment.{AreAt, IsStanding, as_list, none_there, one_there}
use Rattle.check_names.specs.Environment.Names.{Standing}
use Rattle.check_names.specs.declared.kinds.heads.Head.{Head}
use Rattle.check_names.specs.Kinds.Heads.{AreHeads, IsHead, is_name, is_unwrapped, is_container, is_tag, is_in_group, is_other, names, unwraps, container, tag, other, top_body, top_type}
use Rattle.check_names.specs.Kinds.Kinds.{answered_sort, sort_of}
use Rattle.check_names.specs.Kinds.Links.{known_alone, only_by, only_head, opening_by, opening_link, opening_links, opening_of, single, text_there}
use Rattle.check_names.proofs.OfKinds.Heading.{head_at}

-- What each name opens, in both words.
abbrev pub Agree : List Text → (ℕ → Option ℕ) → (Ref → Option Opened) → Type 0
Agree texts f g = (j : ℕ) (n : Text) (ts : Terms) → slice_get texts j ≡ Some n → answered_sort (f j) ≡ sort_of (g (call n ts))

module _ (texts : List Text) (f : ℕ → Option ℕ) (g : Ref → Option Opened) (agree : Agree texts f g) (ps : List Text) (xs : List Term) where
  abbrev IsOpening : Head → Option Opened → Type 0
  IsOpening h o = answered_sort (end_by f (opening_of h)) ≡ sort_of o

  at_other : (h : Head) → IsHead texts h other → IsOpening h None
  at_other h is_other = refl

  at_name : (h : Head) (n : Text) (ts : Terms) → (b : Bool) → is_in ps n ≡ b → IsHead texts h (if b then other else names n) → IsOpening h (if b then None else g (call n ts))
  at_name h n ts true e is_other = refl
  at_name h n ts false e (is_name {m = m} k) = agree m n ts k

  at_unwrapping : (h : Head) (n : Text) (b : Bool) → IsHead texts h (if b then other else unwraps n) → IsOpening h None
  at_unwrapping h n true is_other = refl
  at_unwrapping h n false (is_unwrapped k) = refl

  at_container : (h : Head) (o : L.Group) → IsHead texts h container → IsOpening h (Some (opens_group o))
  at_container h o is_container = refl

  at_tag : (h : Head) (o : Term) → IsHead texts h tag → IsOpening h (Some (opens_type o))
  at_tag h o is_tag = refl

  type_opening : (h : Head) (t : Term) → IsHead texts h (top_type ps t) → IsOpening h (opened_term g ps xs t)
  type_opening h (named (call n ts)) k = at_name h n (fill_all ps xs ts) (is_in ps n) refl k
  type_opening h (unwrapped (call n ts)) k = at_unwrapping h n (is_in ps n) k
  type_opening h (map_of o) k = at_container h (fill_group ps xs o) k
  type_opening h (array_of o) k = at_container h (fill_group ps xs o) k
  type_opening h (tagged n t) k = at_tag h (fill ps xs t) k
  type_opening h (tagged_by z t) k = at_tag h (fill ps xs t) k
  type_opening h (literal v) k = at_other h k
  type_opening h (parens t) k = at_other h k
  type_opening h (choice_of o) k = at_other h k
  type_opening h (choice_of_name r) k = at_other h k
  type_opening h (simple_by z) k = at_other h k
  type_opening h (hash n) k = at_other h k
  type_opening h (range a c b) k = at_other h k
  type_opening h (control a n b) k = at_other h k
  type_opening h (or t u) k = at_other h k

  body_opening : (h : Head) (b : L.Body) → IsHead texts h (top_body ps b) → IsOpening h (opened_body g ps xs b)
  body_opening h (of_types t) k = type_opening h (stripped t) k
  body_opening h (of_entry e) is_in_group = refl

-- The head of the definition of a name, where it has one alone.
pub data IsOnly (texts : List Text) : Option Head → List L.Definition → Type 0 where
  the_one : {h : Head} {x : L.Definition} → IsHead texts h (top_body x.parameters x.body) → IsOnly texts (Some h) (x ∷ [])
  none_of : IsOnly texts None []
  several : {x y : L.Definition} {zs : List L.Definition} → IsOnly texts None (x ∷ y ∷ zs)

opening_step : (texts : List Text) (f : ℕ → Option ℕ) (g : Ref → Option Opened) → Agree texts f g → (o : Option Head) (ds : List L.Definition) → IsOnly texts o ds → (xs : List Term) → answered_sort (end_by f (opening_by o)) ≡ sort_of (opened_by g xs ds)
opening_step texts f g agree o ds (the_one {h = h} {x = x} k) xs = body_opening texts f g agree x.parameters xs h x.body k
opening_step texts f g agree o ds none_of xs = refl
opening_step texts f g agree o ds several xs = refl

module _ (t : Table) (known own : List Definition) (xs : List L.Definition) (khs ohs : List Head) (kd : AreDefinitions t known prelude) (od : AreDefinitions t own xs) (kh : AreHeads t known khs) (oh : AreHeads t own ohs) where
  single_only : (ps : List ℕ) (cs : List L.Definition) → AreAt xs ps cs → IsOnly t.texts (single ohs ps) cs
  single_only [] cs none_there = none_of
  single_only (p ∷ []) cs (one_there {x = x} e none_there) =
      let h = head_at t own xs ohs od oh p x e in
      subst (λ o. IsOnly t.texts o (x ∷ [])) (sym h.1) (the_one h.2)
  single_only (p ∷ q ∷ ps) cs (one_there e (one_there k a)) = several

  known_only : (p : ℕ) (x : L.Definition) → slice_get prelude p ≡ Some x → (ps : List ℕ) (cs : List L.Definition) → AreAt xs ps cs → IsOnly t.texts (known_alone khs p ps) (x ∷ cs)
  known_only p x e [] cs none_there =
      let h = head_at t known prelude khs kd kh p x e in
      subst (λ o. IsOnly t.texts o (x ∷ [])) (sym h.1) (the_one h.2)
  known_only p x e (q ∷ ps) cs (one_there k a) = several

  -- (k, q: the prelude's place, and the first by `=`; b: whether there is such a one.)
  only_of : (k q : Option ℕ) (ps : List ℕ) (ys cs : List L.Definition) (b : Bool) → is_some q ≡ b → AreAt prelude (as_list k) ys → AreAt xs ps cs → IsOnly t.texts (only_by khs ohs q k ps) ((if b then [] else ys) ++ cs)
  only_of k (Some q) ps ys cs true e a c = single_only ps cs c
  only_of k (Some q) ps ys cs false e a c = cc
  only_of k None ps ys cs true e a c = cc
  only_of None None ps ys cs false e none_there c = single_only ps cs c
  only_of (Some p) None ps ys cs false e (one_there {x = x} g none_there) c = known_only p x g ps cs c

  pub is_only : (n : Text) (s : Standing) → IsStanding xs n s → IsOnly t.texts (only_head khs ohs s) (definitions_of xs n)
  is_only n s h = only_of s.known s.first_equals s.counting (named_so n prelude) (E.counting false (named_so n xs)) (has_equals (named_so n xs)) h.replaced h.known h.counting

-- the link of a name in the list of all
pub link_at : (texts : List Text) (khs ohs : List Head) (i : ℕ) (ss : List Standing) (k : ℕ) (s : Standing) (l : Link) → slice_get ss k ≡ Some s → slice_index_or (opening_links texts khs ohs i ss) k l ≡ opening_link (text_there (slice_get texts (i + k))) khs ohs s
link_at texts khs ohs i [] k s l e = cc
link_at texts khs ohs i (r ∷ ss) zero s l e = first r s cc
  where
    first : (r s : Standing) → r ≡ s → opening_link (text_there (slice_get texts i)) khs ohs r ≡ opening_link (text_there (slice_get texts (i + 0))) khs ohs s
    first r s h = ap (opening_link (text_there (slice_get texts i)) khs ohs) h ∙ ap (λ j. opening_link (text_there (slice_get texts j)) khs ohs s) (same i)
      where
        same : (i : ℕ) → i ≡ i + 0
        same i = omega arith
link_at texts khs ohs i (r ∷ ss) (suc k) s l e = link_at texts khs ohs (i + 1) ss k s l e ∙ ap (λ j. opening_link (text_there (slice_get texts j)) khs ohs s) (same i k)
  where
    same : (i k : ℕ) → (i + 1) + k ≡ i + suc k
    same i k = omega arith

pub count_links : (texts : List Text) (khs ohs : List Head) (i : ℕ) (ss : List Standing) → length (opening_links texts khs ohs i ss) ≡ length ss
count_links texts khs ohs i [] = refl
count_links texts khs ohs i (s ∷ ss) = ap suc (count_links texts khs ohs (i + 1) ss)

-- Through so many names each opens what the definitions say.
module _ (texts : List Text) (links : List Link) (xs : List L.Definition) (khs ohs : List Head) (standings : List Standing) (here : (k : ℕ) (n : Text) → slice_get texts k ≡ Some n → (s : Standing) × (slice_get standings k ≡ Some s) × IsOnly texts (only_head khs ohs s) (definitions_of xs n)) (are : links ≡ opening_links texts khs ohs 0 standings) where
  pub openings_agree : (k : ℕ) → Agree texts (λ j. end_within links k j) (λ r. opened_in k xs r)
  openings_agree zero j n ts e = refl
  openings_agree (suc k) j n ts e =
      let s = here j n e in
      subst (λ l. answered_sort (end_by (λ i. end_within links k i) l) ≡ sort_of (opened_in (suc k) xs (call n ts))) (sym (ap (λ ls. slice_index_or ls j (LinkV.Next j)) are ∙ link_at texts khs ohs 0 standings j s.0 (LinkV.Next j) s.1 ∙ ap (λ o. opening_link (text_there o) khs ohs s.0) (ap (slice_get texts) from_nought ∙ e))) (by s.0 (is_group_socket n) (opening_step texts (λ i. end_within links k i) (λ r. opened_in k xs r) (openings_agree k) (only_head khs ohs s.0) (definitions_of xs n) s.2 (term_list ts)))
    where
      from_nought : 0 + j ≡ j
      from_nought = omega arith

      by : (s : Standing) (b : Bool) → answered_sort (end_by (λ i. end_within links k i) (opening_by (only_head khs ohs s))) ≡ sort_of (opened_by (λ r. opened_in k xs r) (term_list ts) (definitions_of xs n)) → answered_sort (end_by (λ i. end_within links k i) (if b then LinkV.End 2 else opening_by (only_head khs ohs s))) ≡ sort_of (if b then None else opened_by (λ r. opened_in k xs r) (term_list ts) (definitions_of xs n))
      by s true h = refl
      by s false h = h
