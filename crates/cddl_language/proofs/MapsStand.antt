-- What is wrong with a map that is reached stands somewhere in the text.
use Rattle.std.specs.Prelude.{◌≡◌, ◌≢◌, ℕ, zero, suc, nat_eq, Bool, true, false, if◌then◌else◌, not, ◌&&◌, ◌⊎◌, List, [], ◌∷◌, ◌++◌, map, flat_map, Contains, Option, Some, None}
use Rattle.std.specs.List.{list_all}
use Rattle.std.specs.Cmp.Lexicographic.{same_text}
use Rattle.std.proofs.Common.{inl, inr, refl, sym, ap, subst, ◌∙◌, arith, true≢false}
use Rattle.std.proofs.lemmas.Bool.Decides.{eqb_tells}
use Rattle.std.proofs.lemmas.List.Elements.{Contains-append_cases, Contains-append_left, Contains-append_right, Contains-push}
use Rattle.lists.proofs.Lemmas.{later, no_some as none_is_some, same_some}
use Rattle.cddl_token.specs.declared.Token.{Token}
use Rattle.tree_nodes.specs.Syntax.Syntax as S
use Rattle.cddl_language.proofs.Basics.{none_in, only}
use Rattle.cddl_language.specs.Terms.{Text, Term, named, map_of, array_of, unwrapped, tagged, tagged_by, Ref, call, Group, Entries, Entry, Body, of_types, of_entry, Definition, alternatives, entry_list, stripped, name_of, arguments_of, term_list, lone}
use Rattle.cddl_language.specs.Prelude.{prelude}
use Rattle.cddl_language.specs.Environment.{is_same, is_in, is_equals, named_so, has_equals, counting, from_prelude, definitions_of, has_any, is_in_prelude, is_socket, is_group_socket, most_names}
use Rattle.cddl_language.specs.Reading.{term_of, term_of2, group_of, entries_of, name_in, parameters_in, body_of, definition_of, definitions_in}
use Rattle.cddl_language.specs.Substitution.{fill, fill_ref, fill_group, fill_entries, fill_body, body_alternatives, group_choices}
use Rattle.cddl_language.specs.Kinds.{Opened, opens_group, opens_type, opened_term, opened_body, opened_by, opened_in, opened, is_group, is_group_in, first_defines_group, Part, asks_type, names_group, opens, opened_part, stripped_part, part_of}
use Rattle.cddl_language.specs.Reach.{Point, at_name, at_unwrapping}
use Rattle.cddl_language.specs.Sites.{a_map, IsReached}
use Rattle.cddl_language.specs.MapFaults as F
use Rattle.cddl_language.specs.MapFaults.{group_of_part, group_in, point_of_part, point_in, IsSplicedInto, its_own, further, IsLedToBy, by_itself, by_group, LacksKey, OccursBadly, ComesBack, choice_entries, group_entries, rule_entries, entry_at, closed_entry, IsBare, itself, in_parens, group_between, StandsAt, at_once, through, IsSpliced, of_map, of_parens, of_name, of_opened, HasNoKey, HasMapShape, comes_back, occurs_badly}

-- Lists.

first_or_later : {A : Type 0} (x : A) (xs : List A) (y : A) → Contains (x ∷ xs) y → (y ≡ x) ⊎ Contains xs y
first_or_later x xs y c = by (Contains-append_cases (x ∷ []) xs y c)
  where
    by : Contains (x ∷ []) y ⊎ Contains xs y → (y ≡ x) ⊎ Contains xs y
    by (inl h) = inl (only h)
    by (inr h) = inr h

-- an entry of the first choices, or of the last
either : (ess fss : List Entries) (e : Entry) → Contains (F.all_entries (ess ++ fss)) e → Contains (F.all_entries ess) e ⊎ Contains (F.all_entries fss) e
either [] fss e c = inr c
either (es ∷ ess) fss e c = by (either ess fss e) (Contains-append_cases (entry_list es) (F.all_entries (ess ++ fss)) e c)
  where
    by : (Contains (F.all_entries (ess ++ fss)) e → Contains (F.all_entries ess) e ⊎ Contains (F.all_entries fss) e) → Contains (entry_list es) e ⊎ Contains (F.all_entries (ess ++ fss)) e → Contains (entry_list es ++ F.all_entries ess) e ⊎ Contains (F.all_entries fss) e
    by more (inl h) = inl (Contains-append_left (entry_list es) (F.all_entries ess) e h)
    by more (inr h) = on (more h)
      where
        on : Contains (F.all_entries ess) e ⊎ Contains (F.all_entries fss) e → Contains (entry_list es ++ F.all_entries ess) e ⊎ Contains (F.all_entries fss) e
        on (inl i) = inl (Contains-append_right (entry_list es) (F.all_entries ess) e i)
        on (inr i) = inr i

-- of one choice alone
of_one : (es : Entries) (e : Entry) → Contains (F.all_entries (es ∷ [])) e → Contains (entry_list es) e
of_one es e c = by (Contains-append_cases (entry_list es) [] e c)
  where
    by : Contains (entry_list es) e ⊎ Contains [] e → Contains (entry_list es) e
    by (inl h) = h
    by (inr h) = absurd (none_in h)

kept : (n : Text) (ds : List Definition) (d : Definition) → Contains (named_so n ds) d → Contains ds d × (d.name ≡ n)
kept n [] d c = absurd (none_in c)
kept n (x ∷ xs) d c = by (is_same x.name n) refl (kept n xs d) c
  where
    by : (b : Bool) → b ≡ is_same x.name n → (Contains (named_so n xs) d → Contains xs d × (d.name ≡ n)) → Contains (if b then x ∷ named_so n xs else named_so n xs) d → Contains (x ∷ xs) d × (d.name ≡ n)
    by true h again i = on (first_or_later x (named_so n xs) d i)
      where
        on : (d ≡ x) ⊎ Contains (named_so n xs) d → Contains (x ∷ xs) d × (d.name ≡ n)
        on (inl e) = ((0, omega arith, sym e), ap (λ (y : Definition). y.name) e ∙ same_text x.name n h)
        on (inr j) = let k = again j in (later x xs d k.0, k.1)
    by false h again i = let k = again i in (later x xs d k.0, k.1)

counted : (met : Bool) (ds : List Definition) (d : Definition) → Contains (counting met ds) d → Contains ds d
counted met [] d c = absurd (none_in c)
counted false (x ∷ xs) d c = by (counted (is_equals x.sign) xs d) (first_or_later x (counting (is_equals x.sign) xs) d c)
  where
    by : (Contains (counting (is_equals x.sign) xs) d → Contains xs d) → (d ≡ x) ⊎ Contains (counting (is_equals x.sign) xs) d → Contains (x ∷ xs) d
    by more (inl e) = (0, omega arith, sym e)
    by more (inr h) = later x xs d (more h)
counted true (x ∷ xs) d c = by (is_equals x.sign) (counted true xs d) c
  where
    by : (b : Bool) → (Contains (counting true xs) d → Contains xs d) → Contains (if b then counting true xs else x ∷ counting true xs) d → Contains (x ∷ xs) d
    by true more h = later x xs d (more h)
    by false more h = on (first_or_later x (counting true xs) d h)
      where
        on : (d ≡ x) ⊎ Contains (counting true xs) d → Contains (x ∷ xs) d
        on (inl e) = (0, omega arith, sym e)
        on (inr i) = later x xs d (more i)

-- a rule of these makes the definition
abbrev Made : List S.Rule → Definition → Type 0
Made rs d = (r : S.Rule) × Contains rs r × (d ≡ definition_of r)

made : (rs : List S.Rule) (d : Definition) → Contains (definitions_in rs) d → Made rs d
made [] d c = absurd (none_in c)
made (r ∷ rs) d c = by (made rs d) (first_or_later (definition_of r) (definitions_in rs) d c)
  where
    by : (Contains (definitions_in rs) d → Made rs d) → (d ≡ definition_of r) ⊎ Contains (definitions_in rs) d → Made (r ∷ rs) d
    by more (inl e) = (r, (0, omega arith, refl), e)
    by more (inr h) = let k = more h in (k.0, later r rs k.0 k.1, k.2)

-- Definitions of a name are of the prelude or of the text.
module _ (ds : List Definition) (n : Text) where
  of_prelude_or_text : (d : Definition) → Contains (definitions_of ds n) d → Contains prelude d × (is_in_prelude n ≡ true) ⊎ Contains ds d × (d.name ≡ n)
  of_prelude_or_text d c = by (Contains-append_cases (from_prelude ds n) (counting false (named_so n ds)) d c)
    where
      some : (es : List Definition) → Contains es d → has_any es ≡ true
      some [] h = absurd (none_in h)
      some (e ∷ es) h = refl

      old : (b : Bool) → Contains (if b then [] else named_so n prelude) d → Contains prelude d × (is_in_prelude n ≡ true)
      old true h = absurd (none_in h)
      old false h = ((kept n prelude d h).0, some (named_so n prelude) h)

      by : Contains (from_prelude ds n) d ⊎ Contains (counting false (named_so n ds)) d → Contains prelude d × (is_in_prelude n ≡ true) ⊎ Contains ds d × (d.name ≡ n)
      by (inl h) = inl (old (has_equals (named_so n ds)) h)
      by (inr h) = inr (kept n ds d (counted false (named_so n ds) d h))

-- Names of groups are none of the prelude's.

no_dollar : (bs : List ℕ) → named_so (36 ∷ bs) prelude ≡ []
unfolding prelude
no_dollar bs = refl

is_dollar : (b : ℕ) → nat_eq b 36 ≡ true → b ≡ 36
is_dollar b e = by (eqb_tells b 36)
  where
    by : ((nat_eq b 36 ≡ true) × (b ≡ 36)) ⊎ ((nat_eq b 36 ≡ false) × (b ≢ 36)) → b ≡ 36
    by (inl h) = h.1
    by (inr h) = absurd (true≢false (sym e ∙ h.0))

no_socket : (n : Text) → is_in_prelude n ≡ true → is_socket n ≡ false
no_socket [] h = refl
no_socket (b ∷ bs) h = by (nat_eq b 36) refl
  where
    by : (c : Bool) → nat_eq b 36 ≡ c → c ≡ false
    by false e = refl
    by true e = absurd (true≢false (sym h ∙ ap has_any (subst (λ x. named_so (x ∷ bs) prelude ≡ []) (sym (is_dollar b e)) (no_dollar bs))))

pub known_type : (k : ℕ) (ds : List Definition) (n : Text) → is_in_prelude n ≡ true → is_group_in k ds n ≡ false
known_type zero ds n h = refl
known_type (suc k) ds n h = by (is_socket n) (is_in_prelude n) (no_socket n h) h (is_group_socket n) (first_defines_group (λ m. is_group_in k ds m) ds (named_so n ds))
  where
    by : (a b : Bool) → a ≡ false → b ≡ true → (x y : Bool) → (if a then x else (if b then false else y)) ≡ false
    by a b e f x y = subst (λ c. (if c then x else (if b then false else y)) ≡ false) (sym e) (subst (λ c. (if c then false else y) ≡ false) (sym f) refl)

-- No definition of the prelude is a map's or an array's group by itself.

abbrev opens_at_once : Term → Bool
opens_at_once (map_of g) = true
opens_at_once (array_of g) = true
opens_at_once _ = false

abbrev body_between : Body → Bool
body_between (of_types t) = opens_at_once (stripped t)
body_between (of_entry e) = false

abbrev is_between : Definition → Bool
is_between d = body_between d.body

none_between : list_all (λ (d : Definition). not (is_between d)) prelude ≡ true
unfolding prelude
none_between = refl

each : (ds : List Definition) (d : Definition) → list_all (λ (x : Definition). not (is_between x)) ds ≡ true → Contains ds d → is_between d ≡ false
each [] d h c = absurd (none_in c)
each (x ∷ xs) d h c = by (is_between x) refl (each xs d) (first_or_later x xs d c) h
  where
    by : (b : Bool) → is_between x ≡ b → (list_all (λ (y : Definition). not (is_between y)) xs ≡ true → Contains xs d → is_between d ≡ false) → (d ≡ x) ⊎ Contains xs d → (not b && list_all (λ (y : Definition). not (is_between y)) xs) ≡ true → is_between d ≡ false
    by true e more k i = absurd (true≢false (sym i))
    by false e more (inl k) i = ap is_between k ∙ e
    by false e more (inr k) i = more i k

-- Entries of the text, closed.
module _ (r : S.Rule) (xs : List Term) where
  abbrev ps : List Text
  ps = parameters_in r

  -- one of these is this entry
  abbrev OneIs : List S.GrpEnt → Entry → Type 0
  OneIs ds e = (d : S.GrpEnt) × Contains ds d × (closed_entry r xs d ≡ e)

  choice_is : (es : S.GrpChoice) (e : Entry) → Contains (entry_list (fill_entries ps xs (entries_of es))) e → OneIs (choice_entries es) e
  choice_is S.no_entries e c = absurd (none_in c)
  choice_is (S.entries es d k) e c = by (choice_is es e) (Contains-append_cases (entry_list (fill_entries ps xs (entries_of es))) (closed_entry r xs d ∷ []) e c)
    where
      by : (Contains (entry_list (fill_entries ps xs (entries_of es))) e → OneIs (choice_entries es) e) → Contains (entry_list (fill_entries ps xs (entries_of es))) e ⊎ Contains (closed_entry r xs d ∷ []) e → OneIs (choice_entries es ++ d ∷ []) e
      by more (inl h) = let k = more h in (k.0, Contains-append_left (choice_entries es) (d ∷ []) k.0 k.1, k.2)
      by more (inr h) = (d, Contains-push (choice_entries es) d, sym (only h))

  group_is : (g : S.Group) (e : Entry) → Contains (F.all_entries (alternatives (fill_group ps xs (group_of g)))) e → OneIs (group_entries g) e
  group_is (S.sole es) e c = choice_is es e (of_one (fill_entries ps xs (entries_of es)) e c)
  group_is (S.orelse g t es) e c = by (group_is g e) (either (alternatives (fill_group ps xs (group_of g))) (fill_entries ps xs (entries_of es) ∷ []) e c)
    where
      by : (Contains (F.all_entries (alternatives (fill_group ps xs (group_of g)))) e → OneIs (group_entries g) e) → Contains (F.all_entries (alternatives (fill_group ps xs (group_of g)))) e ⊎ Contains (F.all_entries (fill_entries ps xs (entries_of es) ∷ [])) e → OneIs (group_entries g ++ choice_entries es) e
      by more (inl h) = let k = more h in (k.0, Contains-append_left (group_entries g) (choice_entries es) k.0 k.1, k.2)
      by more (inr h) = let k = choice_is es e (of_one (fill_entries ps xs (entries_of es)) e h) in (k.0, Contains-append_right (group_entries g) (choice_entries es) k.0 k.1, k.2)

lone_is : (r : S.Rule) (xs : List Term) (d : S.GrpEnt) (e : Entry) → Contains (F.all_entries (lone (closed_entry r xs d) ∷ [])) e → OneIs r xs (d ∷ []) e
lone_is r xs d e c = (d, (0, omega arith, refl), sym (only (of_one (lone (closed_entry r xs d)) e c)))

body_is : (r : S.Rule) (xs : List Term) (e : Entry) → Contains (F.all_entries (body_alternatives (fill_body (parameters_in r) xs (body_of r)))) e → OneIs r xs (rule_entries r) e
body_is (S.type_rule n a t) xs e c = lone_is (S.type_rule n a t) xs (S.typed None t) e c
body_is (S.group_rule n a (S.grouped None p g k)) xs e c = group_is (S.group_rule n a (S.grouped None p g k)) xs g e c
body_is (S.group_rule n a (S.grouped (Some o) p g k)) xs e c = lone_is (S.group_rule n a (S.grouped (Some o) p g k)) xs (S.grouped (Some o) p g k) e c
body_is (S.group_rule n a (S.typed o t)) xs e c = lone_is (S.group_rule n a (S.typed o t)) xs (S.typed o t) e c
body_is (S.group_rule n a (S.keyed o k t)) xs e c = lone_is (S.group_rule n a (S.keyed o k t)) xs (S.keyed o k t) e c

-- an entry of what these definitions have is of one of them
of_some : (xs : List Term) (ds : List Definition) (e : Entry) → Contains (F.all_entries (flat_map body_alternatives (map (λ (d : Definition). fill_body d.parameters xs d.body) ds))) e → (d : Definition) × Contains ds d × Contains (F.all_entries (body_alternatives (fill_body d.parameters xs d.body))) e
of_some xs [] e c = absurd (none_in c)
of_some xs (d ∷ ds) e c = by (of_some xs ds e) (either (body_alternatives (fill_body d.parameters xs d.body)) (flat_map body_alternatives (map (λ (x : Definition). fill_body x.parameters xs x.body) ds)) e c)
  where
    by : (Contains (F.all_entries (flat_map body_alternatives (map (λ (x : Definition). fill_body x.parameters xs x.body) ds))) e → (x : Definition) × Contains ds x × Contains (F.all_entries (body_alternatives (fill_body x.parameters xs x.body))) e) → Contains (F.all_entries (body_alternatives (fill_body d.parameters xs d.body))) e ⊎ Contains (F.all_entries (flat_map body_alternatives (map (λ (x : Definition). fill_body x.parameters xs x.body) ds))) e → (x : Definition) × Contains (d ∷ ds) x × Contains (F.all_entries (body_alternatives (fill_body x.parameters xs x.body))) e
    by more (inl h) = (d, (0, omega arith, refl), h)
    by more (inr h) = let k = more h in (k.0, later d ds k.0 k.1, k.2)

same_opened : (g h : Group) → Some (opens_group g) ≡ Some (opens_group h) → g ≡ h
same_opened g h e = cc

other_opened : (t : Term) (h : Group) → Some (opens_type t) ≡ Some (opens_group h) → ⊥
other_opened t h e = cc

module _ (rs : List S.Rule) where
  abbrev ds : List Definition
  ds = definitions_in rs

  -- an entry of what a name means as a group
  named_is : (f : Ref) (e : Entry) → is_group ds (name_of f) ≡ true → Contains (F.all_entries (group_choices ds f)) e → (r : S.Rule) × Contains rs r × (name_in r ≡ name_of f) × OneIs r (arguments_of f) (rule_entries r) e
  named_is (call n ts) e g c = by (of_some (term_list ts) (definitions_of ds n) e c)
    where
      by : (d : Definition) × Contains (definitions_of ds n) d × Contains (F.all_entries (body_alternatives (fill_body d.parameters (term_list ts) d.body))) e → (r : S.Rule) × Contains rs r × (name_in r ≡ n) × OneIs r (term_list ts) (rule_entries r) e
      by h = on (of_prelude_or_text ds n h.0 h.1)
        where
          on : Contains prelude (h.0) × (is_in_prelude n ≡ true) ⊎ Contains ds (h.0) × ((h.0).name ≡ n) → (r : S.Rule) × Contains rs r × (name_in r ≡ n) × OneIs r (term_list ts) (rule_entries r) e
          on (inl k) = absurd (true≢false (sym g ∙ known_type (most_names ds) ds n k.1))
          on (inr k) =
              let m = made rs h.0 k.0 in
              (m.0, m.1, sym (ap (λ (x : Definition). x.name) m.2) ∙ k.1, body_is m.0 (term_list ts) e (subst (λ (x : Definition). Contains (F.all_entries (body_alternatives (fill_body x.parameters (term_list ts) x.body))) e) m.2 h.2))

  -- The group that `~` opens.

  -- the type is, out of its parentheses, a map or an array of this group
  abbrev Between : S.Types → Group → Type 0
  Between t h = (x : S.Type2) × (g : S.Group) × IsBare x t × (group_between x ≡ Some g) × (h ≡ group_of g)

  abbrev opened_at_once : Term → Option Group
  opened_at_once (map_of g) = Some g
  opened_at_once (array_of g) = Some g
  opened_at_once _ = None

  mutual
    between : (t : S.Types) (h : Group) → opened_at_once (stripped (term_of t)) ≡ Some h → Between t h
    between (S.only (S.one x)) h e = between2 x h e
    between (S.only (S.operation x (S.range u) y)) h e = absurd (none_is_some e)
    between (S.only (S.operation x (S.range_below u) y)) h e = absurd (none_is_some e)
    between (S.only (S.operation x (S.control u) y)) h e = absurd (none_is_some e)
    between (S.or t u r) h e = absurd (none_is_some e)

    between2 : (x : S.Type2) (h : Group) → opened_at_once (stripped (term_of2 x)) ≡ Some h → Between (S.only (S.one x)) h
    between2 (S.parens o t c) h e = let k = between t h e in (k.0, k.1, in_parens k.2, k.3, k.4)
    between2 (S.map_of o g c) h e = (S.map_of o g c, g, itself, refl, sym (same_some e))
    between2 (S.array_of o g c) h e = (S.array_of o g c, g, itself, refl, sym (same_some e))
    between2 _ h e = absurd (none_is_some e)

  -- where the group stands in the text
  record Place (f : Ref) (h : Group) : Type 0 where
    rule : S.Rule
    arguments : List Term
    group : S.Group
    stands : StandsAt rs f rule arguments group
    same : h ≡ fill_group (parameters_in rule) arguments (group_of group)

  by_rule : (r : S.Rule) → Contains rs r → (ts : List Term) (n : Text) → name_in r ≡ n → (t : Term) (h : Group) → body_of r ≡ of_types t → opened_at_once (stripped t) ≡ Some h → (f : Ref) → name_of f ≡ n → arguments_of f ≡ ts → Place f (fill_group (parameters_in r) ts h)
  by_rule (S.type_rule m a x) c ts n e t h b o f i j =
      let k = between x h (ap (λ u. opened_at_once (stripped u)) (same_types (term_of x) t b) ∙ o) in
      record { rule = S.type_rule m a x; arguments = arguments_of f; group = k.1; stands = at_once c (e ∙ sym i) k.2 k.3; same = ap (λ us. fill_group (parameters_in (S.type_rule m a x)) us h) (sym j) ∙ ap (fill_group (parameters_in (S.type_rule m a x)) (arguments_of f)) k.4 }
    where
      same_types : (u t : Term) → of_types u ≡ of_types t → u ≡ t
      same_types u t e = cc
  by_rule (S.group_rule m a x) c ts n e t h b o f i j = cc

  module _ (k : ℕ) (again : (f : Ref) (h : Group) → opened_in k ds f ≡ Some (opens_group h) → Place f h) where
    at_once_there : (n : Text) (ts : _) (d : Definition) (t : Term) (g : Group) → Contains (definitions_of ds n) d → d.body ≡ of_types t → opened_at_once (stripped t) ≡ Some g → opens_at_once (stripped t) ≡ true → Place (call n ts) (fill_group d.parameters (term_list ts) g)
    at_once_there n ts d t g c b o z = by (of_prelude_or_text ds n d c)
      where
        by : Contains prelude d × (is_in_prelude n ≡ true) ⊎ Contains ds d × (d.name ≡ n) → Place (call n ts) (fill_group d.parameters (term_list ts) g)
        by (inl i) = absurd (true≢false (sym z ∙ (ap body_between (sym b) ∙ each prelude d none_between i.0)))
        by (inr i) =
            let m = made rs d i.0 in
            subst (λ (x : Definition). Place (call n ts) (fill_group x.parameters (term_list ts) g)) (sym m.2) (by_rule m.0 m.1 (term_list ts) n (sym (ap (λ (x : Definition). x.name) m.2) ∙ i.1) t g (sym (ap (λ (x : Definition). x.body) m.2) ∙ b) o (call n ts) refl refl)

    of_term : (n : Text) (ts : _) (d : Definition) (t u : Term) (h : Group) → definitions_of ds n ≡ d ∷ [] → d.body ≡ of_types t → stripped t ≡ u → opened_term (λ f. opened_in k ds f) d.parameters (term_list ts) u ≡ Some (opens_group h) → Place (call n ts) h
    of_term n ts d t (map_of g) h one b s e = subst (Place (call n ts)) (same_opened (fill_group d.parameters (term_list ts) g) h e) (at_once_there n ts d t g (subst (λ us. Contains us d) (sym one) (0, omega arith, refl)) b (ap opened_at_once s) (ap opens_at_once s))
    of_term n ts d t (array_of g) h one b s e = subst (Place (call n ts)) (same_opened (fill_group d.parameters (term_list ts) g) h e) (at_once_there n ts d t g (subst (λ us. Contains us d) (sym one) (0, omega arith, refl)) b (ap opened_at_once s) (ap opens_at_once s))
    of_term n ts d t (named r) h one b s e = by (is_in d.parameters (name_of r)) refl e
      where
        by : (x : Bool) → is_in d.parameters (name_of r) ≡ x → (if x then None else opened_in k ds (fill_ref d.parameters (term_list ts) r)) ≡ Some (opens_group h) → Place (call n ts) h
        by true i j = absurd (none_is_some j)
        by false i j =
            let w = again (fill_ref d.parameters (term_list ts) r) h j in
            record { rule = w.rule; arguments = w.arguments; group = w.group; stands = through one b s i w.stands; same = w.same }
    of_term n ts d t (tagged m c) h one b s e = absurd (other_opened (fill d.parameters (term_list ts) c) h e)
    of_term n ts d t (tagged_by a c) h one b s e = absurd (other_opened (fill d.parameters (term_list ts) c) h e)
    of_term n ts d t _ h one b s e = absurd (none_is_some e)

    of_body : (n : Text) (ts : _) (d : Definition) (c : Body) (h : Group) → definitions_of ds n ≡ d ∷ [] → d.body ≡ c → opened_body (λ f. opened_in k ds f) d.parameters (term_list ts) c ≡ Some (opens_group h) → Place (call n ts) h
    of_body n ts d (of_types t) h one b e = of_term n ts d t (stripped t) h one b refl e
    of_body n ts d (of_entry x) h one b e = absurd (none_is_some e)

    of_those : (n : Text) (ts : _) (es : List Definition) (h : Group) → definitions_of ds n ≡ es → opened_by (λ f. opened_in k ds f) (term_list ts) es ≡ Some (opens_group h) → Place (call n ts) h
    of_those n ts [] h one e = absurd (none_is_some e)
    of_those n ts (d ∷ []) h one e = of_body n ts d d.body h one refl e
    of_those n ts (d ∷ c ∷ es) h one e = absurd (none_is_some e)

    unless_socket : (b : Bool) (n : Text) (ts : _) (h : Group) → (if b then None else opened_by (λ f. opened_in k ds f) (term_list ts) (definitions_of ds n)) ≡ Some (opens_group h) → Place (call n ts) h
    unless_socket true n ts h e = absurd (none_is_some e)
    unless_socket false n ts h e = of_those n ts (definitions_of ds n) h refl e

  place_in : (k : ℕ) (f : Ref) (h : Group) → opened_in k ds f ≡ Some (opens_group h) → Place f h
  place_in zero f h e = absurd (none_is_some e)
  place_in (suc k) (call n ts) h e = unless_socket k (place_in k) (is_group_socket n) n ts h e

  -- what the part of an entry says
  abbrev Said : Part → Type 0
  Said asks_type = Unit {0}
  Said (names_group f) = is_group ds (name_of f) ≡ true
  Said (opens f h) = opened ds f ≡ Some (opens_group h)

  said : (u : Term) → Said (stripped_part ds u)
  said (named f) = by (is_group ds (name_of f)) refl
    where
      by : (b : Bool) → is_group ds (name_of f) ≡ b → Said (if b then names_group f else asks_type)
      by true e = e
      by false e = tt
  said (unwrapped f) = by (opened ds f) refl
    where
      by : (o : Option Opened) → opened ds f ≡ o → Said (opened_part f o)
      by (Some (opens_group g)) e = e
      by (Some (opens_type t)) e = tt
      by None e = tt
  said _ = tt

  -- Entries that are spliced into a map.
  module _ (root : Text) where
    -- this entry stands in the text, in the group of this reference
    record Stands (q : Option Point) (e : Entry) : Type 0 where
      rule : S.Rule
      arguments : List Term
      entry : S.GrpEnt
      spliced : IsSpliced rs root rule arguments q entry
      same : closed_entry rule arguments entry ≡ e

    abbrev StandsSomewhere : Entry → Type 0
    StandsSomewhere e = (q : Option Point) × Stands q e

    part_stands : (r : S.Rule) (xs : List Term) (q : Option Point) (o : Option Token) (t : S.Types) → IsSpliced rs root r xs q (S.typed o t) → (p : Part) → part_of ds (fill (parameters_in r) xs (term_of t)) ≡ p → Said p → (fss : List Entries) → group_of_part ds p ≡ Some fss → (e : Entry) → Contains (F.all_entries fss) e → (w : Point) × (point_of_part ds p ≡ Some w) × Stands (Some w) e
    part_stands r xs q o t s asks_type i h fss g e c = absurd (none_is_some g)
    part_stands r xs q o t s (names_group f) i h fss g e c =
        let k = named_is f e h (subst (λ us. Contains (F.all_entries us) e) (sym (same_some g)) c) in
        (at_name f, refl, record { rule = k.0; arguments = arguments_of f; entry = (k.3).0; spliced = of_name s (ap (point_of_part ds) i) k.1 k.2 (k.3).1; same = (k.3).2 })
    part_stands r xs q o t s (opens f g') i h fss g e c =
        let w = place_in (most_names ds) f g' h in
        let k = group_is w.rule w.arguments w.group e (subst (λ x. Contains (F.all_entries (alternatives x)) e) w.same (subst (λ us. Contains (F.all_entries us) e) (sym (same_some g)) c)) in
        (at_unwrapping f, refl, record { rule = w.rule; arguments = w.arguments; entry = k.0; spliced = of_opened s (ap (point_of_part ds) i) w.stands k.1; same = k.2 })

    -- what stands in the group of an entry that stands in the text, stands there by the entry's reference, if it has one
    abbrev StandsBy : Entry → Entry → Type 0
    StandsBy d e = (q : Option Point) × Stands q e × ((p : Point) → point_in ds d ≡ Some p → q ≡ Some p)

    entry_stands : (r : S.Rule) (xs : List Term) (q : Option Point) (d : S.GrpEnt) → IsSpliced rs root r xs q d → (fss : List Entries) → group_in ds (closed_entry r xs d) ≡ Some fss → (e : Entry) → Contains (F.all_entries fss) e → StandsBy (closed_entry r xs d) e
    entry_stands r xs q (S.typed o t) s fss g e c =
        let w = part_stands r xs q o t s (part_of ds (fill (parameters_in r) xs (term_of t))) refl (said (stripped (fill (parameters_in r) xs (term_of t)))) fss g e c in
        (Some (w.0), w.2, λ p i. sym w.1 ∙ i)
    entry_stands r xs q (S.keyed o k t) s fss g e c = absurd (none_is_some g)
    entry_stands r xs q (S.grouped o p g' k) s fss g e c =
        let w = group_is r xs g' e (subst (λ us. Contains (F.all_entries us) e) (sym (same_some g)) c) in
        (q, record { rule = r; arguments = xs; entry = w.0; spliced = of_parens s w.1; same = w.2 }, λ p' i. absurd (none_is_some i))

    group_stands : (q : Option Point) (d : Entry) → Stands q d → (fss : List Entries) → group_in ds d ≡ Some fss → (e : Entry) → Contains (F.all_entries fss) e → StandsBy d e
    group_stands q d s fss g e c = subst (λ x. StandsBy x e) s.same (entry_stands s.rule s.arguments q s.entry s.spliced fss (ap (group_in ds) s.same ∙ g) e c)

    spliced_stands : {e : Entry} {ess : List Entries} → IsSplicedInto ds e ess → ((d : Entry) → Contains (F.all_entries ess) d → StandsSomewhere d) → StandsSomewhere e
    spliced_stands {e = e} (its_own c) h = h e c
    spliced_stands (further {fss = fss} {d = d} c g s) h = spliced_stands s (λ e k. let w = h d c in let u = group_stands w.0 d w.1 fss g e k in (u.0, u.1))

    -- an entry that stands in a map has the reference
    abbrev HasReference : Point → Type 0
    HasReference p = (s : S.Rule) × (ys : List Term) × (u : Option Point) × (d : S.GrpEnt) × IsSpliced rs root s ys u d × (point_in ds (closed_entry s ys d) ≡ Some p)

    reference_of : (p : Point) (e : Entry) → StandsSomewhere e → point_in ds e ≡ Some p → HasReference p
    reference_of p e w i = ((w.1).rule, (w.1).arguments, w.0, (w.1).entry, (w.1).spliced, ap (point_in ds) (w.1).same ∙ i)

    pub reference_stands : (r : S.Rule) (xs : List Term) (q : Option Point) (e : S.GrpEnt) (p : Point) → IsSpliced rs root r xs q e → IsLedToBy ds p (closed_entry r xs e) → HasReference p
    reference_stands r xs q e p s (by_itself i) = (r, xs, q, e, s, i)
    reference_stands r xs q e p s (by_group {d = d} {fss = fss} g i j) = reference_of p d (spliced_stands i (λ x c. let w = entry_stands r xs q e s fss g x c in (w.0, w.1))) j

    module _ {r : S.Rule} {xs : List Term} {t : Token} {g : S.Group} (reached : IsReached rs root r xs (a_map t g)) where
      abbrev own : List Entries
      own = alternatives (fill_group (parameters_in r) xs (group_of g))

      map_stands : (e : Entry) → Contains (F.all_entries own) e → StandsSomewhere e
      map_stands e c = let w = group_is r xs g e c in (None, record { rule = r; arguments = xs; entry = w.0; spliced = of_map reached w.1; same = w.2 })

      pub no_key_stands : (e : Entry) → IsSplicedInto ds e own → LacksKey ds e → (at : ℕ) × HasNoKey rs root at
      no_key_stands e s l =
          let w = spliced_stands s map_stands in
          (entry_at (w.1).entry, record { rule = (w.1).rule; arguments = (w.1).arguments; owner = w.0; entry = (w.1).entry; spliced = (w.1).spliced; lacks = subst (LacksKey ds) (sym (w.1).same) l; offset = refl })

      pub bad_occurrence_stands : (e : Entry) → IsSplicedInto ds e own → OccursBadly ds e → (at : ℕ) × HasMapShape rs root at
      bad_occurrence_stands e s b =
          let w = spliced_stands s map_stands in
          (entry_at (w.1).entry, occurs_badly (w.1).spliced (subst (OccursBadly ds) (sym (w.1).same) b) refl)

      -- what is spliced into a group of what is spliced in is spliced in
      deeper : {d e : Entry} {ess fss : List Entries} → IsSplicedInto ds d ess → group_in ds d ≡ Some fss → IsSplicedInto ds e fss → IsSplicedInto ds e ess
      deeper (its_own c) h i = further c h i
      deeper (further c k s) h i = further c k (deeper s h i)

      -- the entry of the reference's own that leads to it
      own_leads : {p : Point} {e : Entry} {ess : List Entries} → IsSplicedInto ds e ess → IsLedToBy ds p e → (d : Entry) × Contains (F.all_entries ess) d × IsLedToBy ds p d
      own_leads {e = e} (its_own c) l = (e, c, l)
      own_leads {p = p} {e = e} (further {fss = fss} {d = d} c k s) l = (d, c, by l)
        where
          by : IsLedToBy ds p e → IsLedToBy ds p d
          by (by_itself i) = by_group k s i
          by (by_group i u j) = by_group k (deeper s i u) j

      by_reference : (p : Point) (d e : Entry) → point_in ds d ≡ Some p → StandsBy d e → Stands (Some p) e
      by_reference p d e i w = subst (λ q. Stands q e) (w.2 p i) w.1

      told : (p : Point) (e : Entry) → Stands (Some p) e → IsLedToBy ds p e → (at : ℕ) × HasMapShape rs root at
      told p e s l = (entry_at s.entry, comes_back s.spliced (subst (IsLedToBy ds p) (sym s.same) l) refl)

      pub way_back_stands : (e : Entry) → ComesBack ds own e → (at : ℕ) × HasMapShape rs root at
      way_back_stands e b =
          let w = spliced_stands b.spliced map_stands in
          let d = own_leads b.inside b.back in
          told b.reference d.0 (by_reference b.reference b.entry d.0 b.named (group_stands w.0 b.entry w.1 b.group b.has d.0 d.1)) d.2
