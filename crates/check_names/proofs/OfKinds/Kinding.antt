-- How the kind of a name is that of another.
use Rattle.std.proofs.Common.{◌≡◌, ℕ, zero, suc, ◌+◌, Bool, true, false, ◌&&◌, not, if◌then◌else◌, is_some, List, [], ◌∷◌, length, Option, Some, None, refl, sym, ap, subst, ◌∙◌, nat_eq, slice_get, slice_index_or, arith}
use Rattle.std.specs.Cmp.Lexicographic.{same_text}
use Rattle.graphs.specs.declared.chains.Link.{Link}
use Rattle.graphs.specs.declared.chains.Link.TheVariants as LinkV
use Rattle.graphs.specs.Chains.Chains.{end_by, end_within}
use Rattle.cddl_language.specs.Terms as L
use Rattle.cddl_language.specs.Terms.{Text, Term, literal, named, parens, map_of, array_of, unwrapped, choice_of, choice_of_name, tagged, tagged_by, simple_by, hash, range, control, or, Terms, call, stripped, of_types, of_entry}
use Rattle.cddl_language.specs.Environment.{is_group_socket, is_in, is_in_prelude, is_same, is_socket, named_so}
use Rattle.cddl_language.specs.Kinds.{Opened, opens_type, is_group, is_group_body, is_group_in, is_group_type, is_opened_group, defines_group, first_defines_group, opened}
use Rattle.cddl_language.specs.Kinds as K
use Rattle.check_terms.specs.declared.definition.Definition.{Definition}
use Rattle.check_terms.specs.declared.definition.Sign.{Sign}
use Rattle.check_terms.specs.declared.definition.Sign.TheVariants as SignV
use Rattle.check_terms.specs.Definitions.{AreDefinitions, no_definitions, further_definition, sign_of}
use Rattle.check_terms.specs.Table.{Table}
use Rattle.check_names.specs.Environment.Environment.{AreAt, IsStanding, none_there, one_there}
use Rattle.check_names.specs.Environment.Names.{Standing}
use Rattle.check_names.specs.Environment.Places.{first_of}
use Rattle.check_names.specs.declared.kinds.heads.Head.{Head}
use Rattle.check_names.specs.Kinds.Heads.{AreHeads, IsHead, is_name, is_unwrapped, is_container, is_tag, is_in_group, is_other, names, unwraps, container, tag, other, top_body, top_type}
use Rattle.check_names.specs.Kinds.Kinds.{a_group, a_content, answered_sort, sort_of}
use Rattle.check_names.specs.Kinds.Links.{end_of, kind_at, kind_by, kind_link, kind_links, kind_of, opens_group, text_there}
use Rattle.check_names.proofs.OfKinds.Heading.{head_at}

end_kind : (f : ℕ → Option ℕ) (b : Bool) → opens_group (Some (end_by f (end_of b))) ≡ b
end_kind f true = refl
end_kind f false = refl

-- where the sort of what is opened is told, so is whether it is a group
pub opened_group : (a : Option ℕ) (o : Option Opened) → answered_sort a ≡ sort_of o → opens_group (Some a) ≡ is_opened_group o
opened_group None None e = refl
opened_group None (Some (K.opens_group g)) e = cc
opened_group None (Some (opens_type t)) e = cc
opened_group (Some a) o e = by (nat_eq a 0) (nat_eq a 1) o e
  where
    by : (b c : Bool) (o : Option Opened) → (if b then Some a_group else (if c then Some a_content else None)) ≡ sort_of o → b ≡ is_opened_group o
    by true c None e = cc
    by true c (Some (K.opens_group g)) e = refl
    by true c (Some (opens_type t)) e = cc
    by false c None e = refl
    by false true (Some (K.opens_group g)) e = cc
    by false false (Some (K.opens_group g)) e = cc
    by false c (Some (opens_type t)) e = refl

-- The kinds of names, in both words.
abbrev pub AgreeKinds : List Text → (ℕ → Option ℕ) → (Text → Bool) → Type 0
AgreeKinds texts f g = (j : ℕ) (n : Text) → slice_get texts j ≡ Some n → opens_group (Some (f j)) ≡ g n

-- what `~` of each name opens
abbrev pub AreOpened : List Text → List L.Definition → List (Option ℕ) → Type 0
AreOpened texts xs os = (j : ℕ) (n : Text) (ts : Terms) → slice_get texts j ≡ Some n → opens_group (slice_get os j) ≡ is_opened_group (opened xs (call n ts))

module _ (texts : List Text) (f : ℕ → Option ℕ) (g : Text → Bool) (agree : AgreeKinds texts f g) (xs : List L.Definition) (os : List (Option ℕ)) (right : AreOpened texts xs os) where
  abbrev IsKind : Link → Bool → Type 0
  IsKind l b = opens_group (Some (end_by f l)) ≡ b

  module _ (ps : List Text) where
    at_other : (h : Head) → IsHead texts h other → IsKind (kind_of os SignV.Is h) false
    at_other h is_other = refl

    at_container : (h : Head) → IsHead texts h container → IsKind (kind_of os SignV.Is h) false
    at_container h is_container = refl

    at_tag : (h : Head) → IsHead texts h tag → IsKind (kind_of os SignV.Is h) false
    at_tag h is_tag = refl

    at_name : (h : Head) (n : Text) (b : Bool) → IsHead texts h (if b then other else names n) → IsKind (kind_of os SignV.Is h) (not b && g n)
    at_name h n true is_other = refl
    at_name h n false (is_name {m = m} e) = agree m n e

    at_unwrapping : (h : Head) (n : Text) (ts : Terms) (b : Bool) → IsHead texts h (if b then other else unwraps n) → IsKind (kind_of os SignV.Is h) (not b && is_opened_group (opened xs (call n ts)))
    at_unwrapping h n ts true is_other = refl
    at_unwrapping h n ts false (is_unwrapped {m = m} e) = end_kind f (opens_group (slice_get os m)) ∙ right m n ts e

    type_kind : (h : Head) (t : Term) → IsHead texts h (top_type ps t) → IsKind (kind_of os SignV.Is h) (is_group_type g xs ps t)
    type_kind h (named (call n ts)) k = at_name h n (is_in ps n) k
    type_kind h (unwrapped (call n ts)) k = at_unwrapping h n ts (is_in ps n) k
    type_kind h (map_of o) k = at_container h k
    type_kind h (array_of o) k = at_container h k
    type_kind h (tagged n t) k = at_tag h k
    type_kind h (tagged_by z t) k = at_tag h k
    type_kind h (literal v) k = at_other h k
    type_kind h (parens t) k = at_other h k
    type_kind h (choice_of o) k = at_other h k
    type_kind h (choice_of_name r) k = at_other h k
    type_kind h (simple_by z) k = at_other h k
    type_kind h (hash n) k = at_other h k
    type_kind h (range a c b) k = at_other h k
    type_kind h (control a n b) k = at_other h k
    type_kind h (or t u) k = at_other h k

    body_kind : (h : Head) (b : L.Body) → IsHead texts h (top_body ps b) → IsKind (kind_of os SignV.Is h) (is_group_body g xs ps b)
    body_kind h (of_types t) k = type_kind h (stripped t) k
    body_kind h (of_entry e) is_in_group = refl

  pub definition_kind : (h : Head) (x : L.Definition) → is_group_socket x.name ≡ false → IsHead texts h (top_body x.parameters x.body) → (s : Sign) (z : L.Sign) → sign_of s ≡ z → IsKind (kind_of os s h) (defines_group g xs x z)
  definition_kind h x e k SignV.Is L.is i = subst (λ b. IsKind (kind_of os SignV.Is h) (if b then true else is_group_body g xs x.parameters x.body)) (sym e) (body_kind x.parameters h x.body k)
  definition_kind h x e k SignV.TypeOr L.type_or i = refl
  definition_kind h x e k SignV.GroupOr L.group_or i = refl
  definition_kind h x e k SignV.Is L.type_or i = cc
  definition_kind h x e k SignV.Is L.group_or i = cc
  definition_kind h x e k SignV.TypeOr L.is i = cc
  definition_kind h x e k SignV.TypeOr L.group_or i = cc
  definition_kind h x e k SignV.GroupOr L.is i = cc
  definition_kind h x e k SignV.GroupOr L.type_or i = cc

  module _ (t : Table) (same : t.texts ≡ texts) (own : List Definition) (ohs : List Head) (od : AreDefinitions t own xs) (oh : AreHeads t own ohs) where
    definition_at : (ds : List Definition) (ys : List L.Definition) (p : ℕ) (x : L.Definition) → AreDefinitions t ds ys → slice_get ys p ≡ Some x → (d : Definition) × (slice_get ds p ≡ Some d) × (sign_of d.sign ≡ x.sign)
    definition_at [] [] p x no_definitions e = cc
    definition_at [] (y ∷ ys) p x h e = elim h [ ]
    definition_at (d ∷ ds) [] p x h e = elim h [ ]
    definition_at (d ∷ ds) (y ∷ ys) zero x (further_definition h hs) e = (d, refl, h.sign ∙ sign_at y x e)
      where
        sign_at : (y x : L.Definition) → Some y ≡ Some x → y.sign ≡ x.sign
        sign_at y x e = ap sign_in e
          where
            sign_in : Option L.Definition → L.Sign
            sign_in (Some z) = z.sign
            sign_in None = L.is
    definition_at (d ∷ ds) (y ∷ ys) (suc p) x (further_definition h hs) e = definition_at ds ys p x hs e

    first_kind : (ps : List ℕ) (ys : List L.Definition) → AreAt xs ps ys → ((x : L.Definition) (zs : List L.Definition) → ys ≡ x ∷ zs → is_group_socket x.name ≡ false) → (q : Option ℕ) → q ≡ first_of ps → IsKind (kind_by own ohs os None q) (first_defines_group g xs ys)
    first_kind [] ys none_there plain q e = subst (λ o. IsKind (kind_by own ohs os None o) false) (sym e) refl
    first_kind (p ∷ ps) ys (one_there {x = x} {ys = zs} a k) plain q e =
        let d = definition_at own xs p x od a in
        let h = head_at t own xs ohs od oh p x a in
        subst (λ o. IsKind (kind_by own ohs os None o) (defines_group g xs x x.sign)) (sym e) (subst (λ o. IsKind (kind_at os o (slice_get ohs p)) (defines_group g xs x x.sign)) (sym d.1) (subst (λ o. IsKind (kind_at os (Some d.0) o) (defines_group g xs x x.sign)) (sym h.1) (definition_kind h.0 x (plain x zs refl) (subst (λ ts. IsHead ts h.0 (top_body x.parameters x.body)) same h.2) d.0.sign x.sign d.2)))

    first_named : (n : Text) (ys : List L.Definition) (x : L.Definition) (zs : List L.Definition) → named_so n ys ≡ x ∷ zs → x.name ≡ n
    first_named n [] x zs e = cc
    first_named n (y ∷ ys) x zs e = by (is_same y.name n) refl (first_named n ys x zs) e
      where
        head_of : List L.Definition → Text
        head_of [] = n
        head_of (z ∷ zs) = z.name

        by : (b : Bool) → is_same y.name n ≡ b → (named_so n ys ≡ x ∷ zs → x.name ≡ n) → (if b then y ∷ named_so n ys else named_so n ys) ≡ x ∷ zs → x.name ≡ n
        by true k i e = sym (ap head_of e) ∙ same_text y.name n (sym k)
        by false k i e = i e

    no_socket : (n : Text) → is_socket n ≡ false → is_group_socket n ≡ false
    no_socket [] e = refl
    no_socket (b ∷ bs) e = subst (λ c. (if c then is_socket bs else false) ≡ false) (sym e) refl

    pub kind_step : (n : Text) (s : Standing) → IsStanding xs n s → IsKind (kind_link n own ohs os s) (if is_socket n then is_group_socket n else (if is_in_prelude n then false else first_defines_group g xs (named_so n xs)))
    kind_step n s h = by (is_socket n) refl
      where
        known : (b : Bool) (k q : Option ℕ) → is_some k ≡ b → IsKind (kind_by own ohs os None q) (first_defines_group g xs (named_so n xs)) → IsKind (kind_by own ohs os k q) (if b then false else first_defines_group g xs (named_so n xs))
        known true (Some k) q e i = refl
        known true None q e i = cc
        known false (Some k) q e i = cc
        known false None q e i = i

        by : (b : Bool) → is_socket n ≡ b → IsKind (if b then end_of (is_group_socket n) else kind_by own ohs os s.known s.first) (if b then is_group_socket n else (if is_in_prelude n then false else first_defines_group g xs (named_so n xs)))
        by true e = end_kind f (is_group_socket n)
        by false e = known (is_in_prelude n) s.known s.first h.in_prelude (first_kind _ (named_so n xs) h.defined (λ x zs i. ap is_group_socket (first_named n xs x zs i) ∙ no_socket n e) s.first h.first)

-- the link of a name in the list of all
link_at : (texts : List Text) (ds : List Definition) (ohs : List Head) (os : List (Option ℕ)) (i : ℕ) (ss : List Standing) (k : ℕ) (s : Standing) (l : Link) → slice_get ss k ≡ Some s → slice_index_or (kind_links texts ds ohs os i ss) k l ≡ kind_link (text_there (slice_get texts (i + k))) ds ohs os s
link_at texts ds ohs os i [] k s l e = cc
link_at texts ds ohs os i (r ∷ ss) zero s l e = first r s cc
  where
    first : (r s : Standing) → r ≡ s → kind_link (text_there (slice_get texts i)) ds ohs os r ≡ kind_link (text_there (slice_get texts (i + 0))) ds ohs os s
    first r s h = ap (kind_link (text_there (slice_get texts i)) ds ohs os) h ∙ ap (λ j. kind_link (text_there (slice_get texts j)) ds ohs os s) (same i)
      where
        same : (i : ℕ) → i ≡ i + 0
        same i = omega arith
link_at texts ds ohs os i (r ∷ ss) (suc k) s l e = link_at texts ds ohs os (i + 1) ss k s l e ∙ ap (λ j. kind_link (text_there (slice_get texts j)) ds ohs os s) (same i k)
  where
    same : (i k : ℕ) → (i + 1) + k ≡ i + suc k
    same i k = omega arith

pub count_links : (texts : List Text) (ds : List Definition) (ohs : List Head) (os : List (Option ℕ)) (i : ℕ) (ss : List Standing) → length (kind_links texts ds ohs os i ss) ≡ length ss
count_links texts ds ohs os i [] = refl
count_links texts ds ohs os i (s ∷ ss) = ap suc (count_links texts ds ohs os (i + 1) ss)

module _ (t : Table) (links : List Link) (xs : List L.Definition) (os : List (Option ℕ)) (right : AreOpened t.texts xs os) (own : List Definition) (ohs : List Head) (od : AreDefinitions t own xs) (oh : AreHeads t own ohs) (standings : List Standing) (here : (k : ℕ) (n : Text) → slice_get t.texts k ≡ Some n → (s : Standing) × (slice_get standings k ≡ Some s) × IsStanding xs n s) (are : links ≡ kind_links t.texts own ohs os 0 standings) where
  pub kinds_agree : (k : ℕ) → AgreeKinds t.texts (λ j. end_within links k j) (λ n. is_group_in k xs n)
  kinds_agree zero j n e = refl
  kinds_agree (suc k) j n e =
      let s = here j n e in
      subst (λ l. opens_group (Some (end_by (λ i. end_within links k i) l)) ≡ is_group_in (suc k) xs n) (sym (ap (λ ls. slice_index_or ls j (LinkV.Next j)) are ∙ link_at t.texts own ohs os 0 standings j s.0 (LinkV.Next j) s.1 ∙ ap (λ o. kind_link (text_there o) own ohs os s.0) (ap (slice_get t.texts) from_nought ∙ e))) (kind_step t.texts (λ i. end_within links k i) (λ m. is_group_in k xs m) (kinds_agree k) xs os right t refl own ohs od oh n s.0 s.2)
    where
      from_nought : 0 + j ≡ j
      from_nought = omega arith
