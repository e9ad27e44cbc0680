-- A reference has one owner, and an owner one group.
use Rattle.std.proofs.Common.{◌≡◌, ◌≢◌, ℕ, zero, suc, ◌<◌, ◌⊎◌, inl, inr, Bool, true, false, if◌then◌else◌, List, [], ◌∷◌, Option, Some, None, refl, sym, ap, subst, ◌∙◌, slice_get, true≢false}
use Rattle.std.specs.Prelude.{AllPairs}
use Rattle.lists.proofs.Lemmas.{indexed, no_some, ordered, same_some, within}
use Rattle.cddl_language.specs.Environment.{definitions_of, is_in, is_group_socket, most_names}
use Rattle.cddl_language.specs.Kinds.{Opened, opens_group, opens_type, opened, opened_body, opened_by, opened_in, opened_part, opened_term, Part, asks_type, names_group, opens, part_of, stripped_part, is_group}
use Rattle.cddl_language.specs.MapFaults.{group_in, group_of_part, point_in, point_of_part}
use Rattle.cddl_language.specs.Reach.{Point, at_name, at_unwrapping}
use Rattle.cddl_language.specs.Substitution.{fill_ref, group_choices}
use Rattle.cddl_language.specs.Terms.{Term, literal, named, parens, map_of, array_of, unwrapped, choice_of, choice_of_name, tagged, tagged_by, simple_by, hash, range, control, or, Ref, call, Group, Entries, Entry, typed, keyed, grouped, of_types, Definition, alternatives, arguments_of, name_of, stripped}
use Rattle.check_instances.specs.Openings.Endings.{IsOneType, LeadsOn, at_once, through, is_name}
use Rattle.check_maps.specs.declared.spliced.owners.Owner.{Owner}
use Rattle.check_maps.specs.declared.spliced.owners.Owner.TheVariants as OwnerV
use Rattle.check_maps.specs.Spliced.Spliced.{IsOwner, a_name, an_opening}

pub none_is_some : {A C : Type 0} {x : A} → None ≡ Some x → C
none_is_some e = absurd (no_some e)

-- An instance has one place.

abbrev pub AreOnce : List Ref → Type 0
AreOnce refs = AllPairs (λ (q r : Ref). q ≢ r) refs

one_place : (refs : List Ref) → AreOnce refs → (k j : ℕ) (f : Ref) → slice_get refs k ≡ Some f → slice_get refs j ≡ Some f → k ≡ j
one_place refs once k j f e h = by (ordered k j)
  where
    by : (k ≡ j) ⊎ ((k < j) ⊎ (j < k)) → k ≡ j
    by (inl same) = same
    by (inr (inl l)) = absurd (once k j f l (within refs j f h) (indexed refs k f f e ∙ sym (indexed refs j f f h)))
    by (inr (inr l)) = absurd (once j k f l (within refs k f e) (indexed refs j f f h ∙ sym (indexed refs k f f e)))

-- The way of `~` has one end.

pub same_body : (t u : Term) → of_types t ≡ of_types u → t ≡ u
same_body t u e = cc

same_name : (r h : Ref) → named r ≡ named h → r ≡ h
same_name r h e = cc

one_definition : (d e : Definition) → d ∷ [] ≡ e ∷ [] → d ≡ e
one_definition d e h = cc

module _ (ds : List Definition) where
  one_sole : {r : Ref} {t u : Term} → (a : IsOneType ds r t) (b : IsOneType ds r u) → a.definition ≡ b.definition
  one_sole a b = one_definition a.definition b.definition (sym a.sole ∙ b.sole)

  one_type : {r : Ref} {t u : Term} → IsOneType ds r t → IsOneType ds r u → t ≡ u
  one_type a b = sym a.same ∙ ap stripped (same_body a.type b.type (sym a.body ∙ ap (λ (d : Definition). d.body) (one_sole a b) ∙ b.body)) ∙ b.same

  one_end : (f e g : Ref) (x y : Term) → LeadsOn ds f e → LeadsOn ds f g → IsOneType ds e x → is_name x ≡ false → IsOneType ds g y → is_name y ≡ false → e ≡ g
  one_end f e g x y at_once at_once a b c d = refl
  one_end f e g x y at_once (through one free w) a b c d = absurd (true≢false (ap is_name (one_type one a) ∙ b))
  one_end f e g x y (through one free w) at_once a b c d = absurd (true≢false (ap is_name (one_type one c) ∙ d))
  one_end f e g x y (through {h = h} one free v) (through {h = k} two free2 w) a b c d =
      let same = one_sole two one in
      let names = same_name k h (one_type two one) in
      one_end (fill_ref one.definition.parameters (arguments_of f) h) e g x y v (subst (λ z. LeadsOn ds (fill_ref one.definition.parameters (arguments_of f) z) g) names (subst (λ (z : Definition). LeadsOn ds (fill_ref z.parameters (arguments_of f) k) g) same w)) a b c d

  pub one_owner : (refs : List Ref) → AreOnce refs → (v w : Owner) (p : Point) → IsOwner ds refs v (Some p) → IsOwner ds refs w (Some p) → v ≡ w
  one_owner refs once _ _ _ (a_name {k = k} {f = f} h) (a_name {k = j} i) = ap OwnerV.Named (one_place refs once k j f h i)
  one_owner refs once _ _ _ (an_opening {k = k} {f = f} {e = e} {x = x} h way one free) (an_opening {k = j} {e = g} {x = y} i away two free2) =
      let same = one_end f e g x y way away one free two free2 in
      ap OwnerV.Opened (one_place refs once k j e h (i ∙ ap Some (sym same)))

  -- What `~` opens by a way through names is what it opens at the end of the way.

  opened_suc : (k : ℕ) (f : Ref) → opened_in (suc k) ds f ≡ (if is_group_socket (name_of f) then None else opened_by (λ r. opened_in k ds r) (arguments_of f) (definitions_of ds (name_of f)))
  opened_suc k (call n ts) = refl

  -- the one body by which something is opened
  opened_sole : (k : ℕ) (f : Ref) (d : Definition) (o : Opened) → definitions_of ds (name_of f) ≡ d ∷ [] → opened_in (suc k) ds f ≡ Some o → opened_body (λ r. opened_in k ds r) d.parameters (arguments_of f) d.body ≡ Some o
  opened_sole k f d o sole e = by (is_group_socket (name_of f)) (sym (opened_suc k f) ∙ e)
    where
      by : (b : Bool) → (if b then None else opened_by (λ r. opened_in k ds r) (arguments_of f) (definitions_of ds (name_of f))) ≡ Some o → opened_body (λ r. opened_in k ds r) d.parameters (arguments_of f) d.body ≡ Some o
      by true g = none_is_some g
      by false g = sym (ap (opened_by (λ r. opened_in k ds r) (arguments_of f)) sole) ∙ g

  pub opened_types : (k : ℕ) (f : Ref) (d : Definition) (t : Term) (o : Opened) → definitions_of ds (name_of f) ≡ d ∷ [] → d.body ≡ of_types t → opened_in (suc k) ds f ≡ Some o → opened_term (λ r. opened_in k ds r) d.parameters (arguments_of f) (stripped t) ≡ Some o
  opened_types k f d t o sole body e = sym (ap (opened_body (λ r. opened_in k ds r) d.parameters (arguments_of f)) body) ∙ opened_sole k f d o sole e

  pub opened_through : (k : ℕ) (f h : Ref) (d : Definition) (t : Term) (o : Opened) → definitions_of ds (name_of f) ≡ d ∷ [] → d.body ≡ of_types t → stripped t ≡ named h → is_in d.parameters (name_of h) ≡ false → opened_in (suc k) ds f ≡ Some o → opened_in k ds (fill_ref d.parameters (arguments_of f) h) ≡ Some o
  opened_through k f h d t o sole body same free e =
      let at : opened_term (λ r. opened_in k ds r) d.parameters (arguments_of f) (named h) ≡ Some o = sym (ap (opened_term (λ r. opened_in k ds r) d.parameters (arguments_of f)) same) ∙ opened_types k f d t o sole body e in
      sym (ap (λ (b : Bool). if b then None else opened_in k ds (fill_ref d.parameters (arguments_of f) h)) free) ∙ at

  -- one definition, where something is opened
  pub opened_one : (k : ℕ) (f : Ref) (o : Opened) → opened_in (suc k) ds f ≡ Some o → (d : Definition) × (definitions_of ds (name_of f) ≡ d ∷ [])
  opened_one k f o e = by (is_group_socket (name_of f)) (sym (opened_suc k f) ∙ e)
    where
      of : (es : List Definition) → opened_by (λ r. opened_in k ds r) (arguments_of f) es ≡ Some o → (d : Definition) × (es ≡ d ∷ [])
      of [] g = none_is_some g
      of (d ∷ []) g = (d, refl)
      of (d ∷ c ∷ es) g = none_is_some g

      by : (b : Bool) → (if b then None else opened_by (λ r. opened_in k ds r) (arguments_of f) (definitions_of ds (name_of f))) ≡ Some o → (d : Definition) × (definitions_of ds (name_of f) ≡ d ∷ [])
      by true g = none_is_some g
      by false g = of (definitions_of ds (name_of f)) g

  module _ (more : (k : ℕ) (r : Ref) (o : Opened) → opened_in k ds r ≡ Some o → opened_in (suc k) ds r ≡ Some o) where
    opened_end : (k : ℕ) (f e : Ref) (o : Opened) → LeadsOn ds f e → opened_in k ds f ≡ Some o → opened_in k ds e ≡ Some o
    opened_end k f e o at_once g = g
    opened_end zero f e o (through one free w) g = none_is_some g
    opened_end (suc k) f e o (through {h = h} one free w) g =
        let next = fill_ref one.definition.parameters (arguments_of f) h in
        opened_end (suc k) next e o w (more k next o (opened_through k f h one.definition one.type o one.sole one.body one.same free g))

    -- the choices of the group of a reference
    pub data HasGroup : Point → List Entries → Type 0 where
      has_named : {f : Ref} → HasGroup (at_name f) (group_choices ds f)
      has_opened : {f : Ref} {g : Group} → opened ds f ≡ Some (opens_group g) → HasGroup (at_unwrapping f) (alternatives g)

    same_group : {g h : Group} {o : Option Opened} → o ≡ Some (opens_group g) → o ≡ Some (opens_group h) → g ≡ h
    same_group e i = cc

    same_ref : {o : Option Ref} {f g : Ref} → o ≡ Some f → o ≡ Some g → f ≡ g
    same_ref e i = cc

    pub one_group : (refs : List Ref) (w : Owner) (p q : Point) (ess fss : List Entries) → IsOwner ds refs w (Some p) → IsOwner ds refs w (Some q) → HasGroup p ess → HasGroup q fss → ess ≡ fss
    one_group refs _ _ _ _ _ (a_name h) (a_name i) has_named has_named = ap (group_choices ds) (same_ref h i)
    one_group refs _ _ _ _ _ (an_opening {f = f} {e = e} h way one free) (an_opening {f = g} {e = d} i away two free2) (has_opened {g = x} a) (has_opened {g = y} b) =
        let same = same_ref i h in
        let there = opened_end (most_names ds) f e (opens_group x) way a in
        let here = opened_end (most_names ds) g e (opens_group y) (subst (LeadsOn ds g) same away) b in
        ap alternatives (same_group there here)

    -- What an entry names or opens.

    by_opened : (r : Ref) (g : Group) (q : Ref) (o : Option Opened) → opened ds q ≡ o → opened_part q o ≡ opens r g → opened ds r ≡ Some (opens_group g)
    by_opened r g q None f e = cc
    by_opened r g q (Some (opens_type x)) f e = cc
    by_opened r g q (Some (opens_group h)) f e =
        let same : q ≡ r = cc in
        let group : h ≡ g = cc in
        ap (opened ds) (sym same) ∙ f ∙ ap (λ z. Some (opens_group z)) group

    by_kind : (r : Ref) (g : Group) (q : Ref) (b : Bool) → (if b then names_group q else asks_type) ≡ opens r g → ⊥
    by_kind r g q true e = cc
    by_kind r g q false e = cc

    opened_so : (r : Ref) (g : Group) (z : Term) → stripped_part ds z ≡ opens r g → opened ds r ≡ Some (opens_group g)
    opened_so r g (unwrapped q) e = by_opened r g q (opened ds q) refl e
    opened_so r g (named q) e = absurd (by_kind r g q (is_group ds (name_of q)) e)
    opened_so r g (literal v) e = cc
    opened_so r g (parens t) e = cc
    opened_so r g (map_of h) e = cc
    opened_so r g (array_of h) e = cc
    opened_so r g (choice_of h) e = cc
    opened_so r g (choice_of_name q) e = cc
    opened_so r g (tagged n t) e = cc
    opened_so r g (tagged_by h t) e = cc
    opened_so r g (simple_by h) e = cc
    opened_so r g (hash n) e = cc
    opened_so r g (range a c b) e = cc
    opened_so r g (control a n b) e = cc
    opened_so r g (or t u) e = cc

    -- a reference by which an entry has its group
    pub point_group : (d : Entry) (p : Point) → point_in ds d ≡ Some p → (fss : List Entries) × (group_in ds d ≡ Some fss) × HasGroup p fss
    point_group (typed o t) p e = by (part_of ds t) refl e
      where
        by : (k : Part) → part_of ds t ≡ k → point_of_part ds k ≡ Some p → (fss : List Entries) × (group_of_part ds k ≡ Some fss) × HasGroup p fss
        by asks_type i f = none_is_some f
        by (names_group r) i f = (group_choices ds r, refl, subst (λ q. HasGroup q (group_choices ds r)) (same_some f) has_named)
        by (opens r g) i f = (alternatives g, refl, subst (λ q. HasGroup q (alternatives g)) (same_some f) (has_opened (opened_so r g (stripped t) i)))
    point_group (keyed o k t) p e = none_is_some e
    point_group (grouped o g) p e = none_is_some e
