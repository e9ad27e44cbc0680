-- The names of all types and groups to which instances lead, in a list.
use Rattle.std.proofs.Common.{◌≡◌, Bool, true, false, if◌then◌else◌, inl, inr, List, [], ◌∷◌, ◌++◌, Option, Some, None, refl, sym, subst}
use Rattle.std.specs.Prelude.{flat_map}
use Rattle.lists.proofs.Lemmas.{IsIn, from_contains, in_left, in_right}
use Rattle.cddl_language.specs.Terms.{Text, Term, literal, named, parens, map_of, array_of, unwrapped, choice_of, choice_of_name, tagged, tagged_by, simple_by, hash, range, control, or, Ref, Group, sole, orelse, Entries, no_entries, entries, Entry, typed, keyed, grouped, Key, of_type, bareword, of_value, Definition, alternatives}
use Rattle.cddl_language.specs.Substitution.{group_choices, type_choices}
use Rattle.cddl_language.specs.Kinds.{Opened, opens_group, opens_type, opened}
use Rattle.cddl_language.specs.Choices.{can_choose}
use Rattle.cddl_language.specs.Literals.{Values}
use Rattle.cddl_language.specs.Language.{TypeName, type, reference, chosen_of, word, GroupName, first_of, each_of, entry, round}
use Rattle.cddl_language.specs.Reach.{Reaches}
use Rattle.cddl_meaning.specs.Ranks.Ranked.{Name, a_type, a_group}
use Rattle.cddl_meaning.proofs.OfRanks.Lemmas.{AreAll}
use Rattle.cddl_decided.proofs.Names.{GroupHas, OfInstances, TypeHas, all_both, instances_down}
use Rattle.cddl_decided.proofs.Parts.{opened_group}
use Rattle.cddl_decided.proofs.Pieces.{GoesDown, Piece, a_body, a_key, a_ref, a_term, a_word, all_of, an_entry, each_in, one_of}
use Rattle.cddl_decided.proofs.Reached.{AreInstancesOn}

abbrev pub Named : Type 0
Named = Name TypeName GroupName

module _ (ds : List Definition) where
  -- alternatives as a group that is asked, and as what `&` chooses from
  abbrev heads : List Entries → List Named
  heads ess = a_group (first_of ess) ∷ (if can_choose ds ess then a_type (chosen_of ess) ∷ [] else [])

  abbrev mutual
    term_names : Term → List Named
    term_names (literal v) = a_type (type (literal v)) ∷ []
    term_names (named r) = a_type (type (named r)) ∷ []
    term_names (parens t) = a_type (type (parens t)) ∷ term_names t
    term_names (map_of g) = a_type (type (map_of g)) ∷ (heads (alternatives g) ++ group_names g)
    term_names (array_of g) = a_type (type (array_of g)) ∷ (heads (alternatives g) ++ group_names g)
    term_names (unwrapped r) = a_type (type (unwrapped r)) ∷ []
    term_names (choice_of g) = a_type (type (choice_of g)) ∷ (heads (alternatives g) ++ group_names g)
    term_names (choice_of_name r) = a_type (type (choice_of_name r)) ∷ []
    term_names (tagged n t) = a_type (type (tagged n t)) ∷ term_names t
    term_names (tagged_by h t) = a_type (type (tagged_by h t)) ∷ (term_names h ++ term_names t)
    term_names (simple_by h) = a_type (type (simple_by h)) ∷ term_names h
    term_names (hash n) = a_type (type (hash n)) ∷ []
    term_names (range a c b) = a_type (type (range a c b)) ∷ []
    term_names (control a n b) = a_type (type (control a n b)) ∷ (term_names a ++ term_names b)
    term_names (or t u) = a_type (type (or t u)) ∷ (term_names t ++ term_names u)

    group_names : Group → List Named
    group_names (sole es) = entries_names es
    group_names (orelse g es) = group_names g ++ entries_names es

    -- of the first entries, too
    entries_names : Entries → List Named
    entries_names no_entries = a_group (each_of no_entries) ∷ []
    entries_names (entries es x c) = a_group (each_of (entries es x c)) ∷ (entries_names es ++ (a_group (entry x) ∷ a_group (round x) ∷ entry_names x))

    entry_names : Entry → List Named
    entry_names (typed o t) = term_names t
    entry_names (keyed o k t) = key_names k ++ term_names t
    entry_names (grouped o g) = heads (alternatives g) ++ group_names g

    key_names : Key → List Named
    key_names (of_type t c) = term_names t
    key_names (bareword n) = a_type (word n) ∷ []
    key_names (of_value v) = a_type (type (literal v)) ∷ []

  abbrev all_names : List Entries → List Named
  all_names ess = heads ess ++ flat_map entries_names ess

  abbrev opened_names : Option Opened → List Named
  opened_names (Some (opens_type t)) = term_names t
  opened_names (Some (opens_group g)) = all_names (alternatives g)
  opened_names None = []

  -- of what an instance means
  abbrev pub instance_names : Ref → List Named
  instance_names r = a_type (reference r) ∷ (flat_map term_names (type_choices ds r) ++ (all_names (group_choices ds r) ++ opened_names (opened ds r)))

  abbrev pub names_of : List Ref → List Named
  names_of rs = flat_map instance_names rs

  pub within : (rs : List Ref) (r : Ref) → IsIn r rs → (n : Named) → IsIn n (instance_names r) → IsIn n (flat_map instance_names rs)
  within [] r i n j = absurd i
  within (q ∷ rs) r (inl e) n j = in_left (instance_names q) (flat_map instance_names rs) n (subst (λ z. IsIn n (instance_names z)) e j)
  within (q ∷ rs) r (inr i) n j = in_right (instance_names q) (flat_map instance_names rs) n (within rs r i n j)

  -- where these names are in the list
  module _ (all : List Named) where
    abbrev AreIn : List Named → Type 0
    AreIn ns = (n : Named) → IsIn n ns → IsIn n all

    first : (x : Named) (xs : List Named) → AreIn (x ∷ xs) → IsIn x all
    first x xs h = h x (inl refl)

    rest : (x : Named) (xs : List Named) → AreIn (x ∷ xs) → AreIn xs
    rest x xs h = λ n i. h n (inr i)

    front : (xs ys : List Named) → AreIn (xs ++ ys) → AreIn xs
    front xs ys h = λ n i. h n (in_left xs ys n i)

    back : (xs ys : List Named) → AreIn (xs ++ ys) → AreIn ys
    back xs ys h = λ n i. h n (in_right xs ys n i)

    each_in_all : {A : Type 0} (f : A → List Named) (xs : List A) → AreIn (flat_map f xs) → AreAll (λ x. AreIn (f x)) xs
    each_in_all f [] h = tt
    each_in_all f (x ∷ xs) h = (front (f x) (flat_map f xs) h, each_in_all f xs (back (f x) (flat_map f xs) h))

    of_one : {A : Type 0} (f : A → List Named) (xs : List A) (x : A) → IsIn x xs → AreIn (flat_map f xs) → AreIn (f x)
    of_one f [] x i h = absurd i
    of_one f (y ∷ ys) x (inl e) h = subst (λ z. AreIn (f z)) (sym e) (front (f y) (flat_map f ys) h)
    of_one f (y ∷ ys) x (inr i) h = of_one f ys x i (back (f y) (flat_map f ys) h)

    abbrev AreListed : List Entries → Type 0
    AreListed ess = AreAll (λ es. AreIn (entries_names es)) ess

    abbrev IsListed : Piece → Type 0
    IsListed (a_ref r) = Unit {0}
    IsListed (a_term t) = AreIn (term_names t)
    IsListed (all_of ess) = AreIn (heads ess) × AreListed ess
    IsListed (each_in ess) = AreListed ess
    IsListed (a_body g) = AreIn (group_names g)
    IsListed (one_of es) = AreIn (entries_names es)
    IsListed (an_entry x) = AreIn (a_group (entry x) ∷ a_group (round x) ∷ entry_names x)
    IsListed (a_key k) = AreIn (key_names k)
    IsListed (a_word n) = IsIn (a_type (word n)) all

    of_group : (g : Group) → AreIn (group_names g) → AreListed (alternatives g)
    of_group (sole es) h = (h, tt)
    of_group (orelse g es) h = all_both (λ fs. AreIn (entries_names fs)) (alternatives g) (es ∷ []) (of_group g (front (group_names g) (entries_names es) h)) (back (group_names g) (entries_names es) h, tt)

    group_in : (g : Group) → AreIn (heads (alternatives g) ++ group_names g) → AreIn (heads (alternatives g)) × AreListed (alternatives g)
    group_in g h = (front (heads (alternatives g)) (group_names g) h, of_group g (back (heads (alternatives g)) (group_names g) h))

    all_in : (ess : List Entries) → AreIn (all_names ess) → AreIn (heads ess) × AreListed ess
    all_in ess h = (front (heads ess) (flat_map entries_names ess) h, each_in_all entries_names ess (back (heads ess) (flat_map entries_names ess) h))

    entry_in : (x : Entry) → IsListed (an_entry x) → AreIn (entry_names x)
    entry_in x h = λ n i. h n (inr (inr i))

    -- of instances alone, and in the list
    abbrev pub Holds : Text → Piece → Type 0
    Holds root p = OfInstances ds root p × IsListed p

    module _ (root : Text) (on : AreInstancesOn ds root) (whole : (r : Ref) → Reaches ds root r → AreIn (instance_names r)) where
      meaning_in : (r : Ref) → Reaches ds root r → AreIn (flat_map term_names (type_choices ds r) ++ (all_names (group_choices ds r) ++ opened_names (opened ds r)))
      meaning_in r h = rest (a_type (reference r)) (flat_map term_names (type_choices ds r) ++ (all_names (group_choices ds r) ++ opened_names (opened ds r))) (whole r h)

      groups_in : (r : Ref) → Reaches ds root r → AreIn (all_names (group_choices ds r) ++ opened_names (opened ds r))
      groups_in r h = back (flat_map term_names (type_choices ds r)) (all_names (group_choices ds r) ++ opened_names (opened ds r)) (meaning_in r h)

      opened_in : (r : Ref) (o : Option Opened) → Reaches ds root r → opened ds r ≡ o → AreIn (opened_names o)
      opened_in r o h e = subst (λ q. AreIn (opened_names q)) e (back (all_names (group_choices ds r)) (opened_names (opened ds r)) (groups_in r h))

      pub goes_down : GoesDown ds (Holds root)
      goes_down =
          let d = instances_down ds root on in
          record {
            name = λ r h. (d.name r h.0, tt);
            unwrapping = λ r h. (d.unwrapping r h.0, tt);
            choice_by_name = λ r h. (d.choice_by_name r h.0, tt);
            named_group = λ t r h i. (d.named_group t r h.0 i, tt);
            opened_group = λ t r g h i. (d.opened_group t r g h.0 i, all_in (alternatives g) (opened_in r (Some (opens_group g)) (on.opening t r g h.0 i) (opened_group ds t r g i)));
            types = λ r t h c. (d.types r t h.0 c, of_one term_names (type_choices ds r) t (from_contains (type_choices ds r) t c) (front (flat_map term_names (type_choices ds r)) (all_names (group_choices ds r) ++ opened_names (opened ds r)) (meaning_in r h.0)));
            group = λ r h. (d.group r h.0, all_in (group_choices ds r) (front (all_names (group_choices ds r)) (opened_names (opened ds r)) (groups_in r h.0)));
            content = λ r t h e. (d.content r t h.0 e, opened_in r (Some (opens_type t)) h.0 e);
            in_parens = λ t h. (d.in_parens t h.0, rest (a_type (type (parens t))) (term_names t) h.1);
            in_map = λ g h. (d.in_map g h.0, group_in g (rest (a_type (type (map_of g))) (heads (alternatives g) ++ group_names g) h.1));
            in_array = λ g h. (d.in_array g h.0, group_in g (rest (a_type (type (array_of g))) (heads (alternatives g) ++ group_names g) h.1));
            in_choice = λ g h. (d.in_choice g h.0, group_in g (rest (a_type (type (choice_of g))) (heads (alternatives g) ++ group_names g) h.1));
            in_tag = λ n t h. (d.in_tag n t h.0, rest (a_type (type (tagged n t))) (term_names t) h.1);
            in_tag_by = λ u t h.
                let k = d.in_tag_by u t h.0 in
                let j = rest (a_type (type (tagged_by u t))) (term_names u ++ term_names t) h.1 in
                ((k.0, front (term_names u) (term_names t) j), (k.1, back (term_names u) (term_names t) j));
            in_simple = λ u h. (d.in_simple u h.0, rest (a_type (type (simple_by u))) (term_names u) h.1);
            in_control = λ a n b h.
                let k = d.in_control a n b h.0 in
                let j = rest (a_type (type (control a n b))) (term_names a ++ term_names b) h.1 in
                ((k.0, front (term_names a) (term_names b) j), (k.1, back (term_names a) (term_names b) j));
            in_or = λ t u h.
                let k = d.in_or t u h.0 in
                let j = rest (a_type (type (or t u))) (term_names t ++ term_names u) h.1 in
                ((k.0, front (term_names t) (term_names u) j), (k.1, back (term_names t) (term_names u) j));
            each = λ ess h. (h.0, h.1.1);
            in_each = λ es ess h. let k = d.in_each es ess h.0 in ((k.0, h.1.0), (k.1, h.1.1));
            in_sole = λ es h. (h.0, h.1);
            in_orelse = λ g es h. let k = d.in_orelse g es h.0 in ((k.0, front (group_names g) (entries_names es) h.1), (k.1, back (group_names g) (entries_names es) h.1));
            in_entries = λ es x c h.
                let k = d.in_entries es x c h.0 in
                let j = rest (a_group (each_of (entries es x c))) (entries_names es ++ (a_group (entry x) ∷ a_group (round x) ∷ entry_names x)) h.1 in
                ((k.0, front (entries_names es) (a_group (entry x) ∷ a_group (round x) ∷ entry_names x) j), (k.1, back (entries_names es) (a_group (entry x) ∷ a_group (round x) ∷ entry_names x) j));
            in_typed = λ o t h. (h.0, entry_in (typed o t) h.1);
            in_keyed = λ o k t h.
                let q = d.in_keyed o k t h.0 in
                let j = entry_in (keyed o k t) h.1 in
                ((q.0, front (key_names k) (term_names t) j), (q.1, back (key_names k) (term_names t) j));
            in_grouped = λ o g h.
                let k = d.in_grouped o g h.0 in
                let j = entry_in (grouped o g) h.1 in
                ((k.0, back (heads (alternatives g)) (group_names g) j), (k.1, group_in g j));
            in_type_key = λ t c h. (h.0, h.1);
            in_word_key = λ n h. (tt, h.1 (a_type (word n)) (inl refl));
            in_value_key = λ v h. (d.in_value_key v h.0, h.1);
          }

      chosen_in : (ess : List Entries) (b : Bool) → b ≡ true → IsIn {A = Named} (a_type (chosen_of ess)) (if b then a_type (chosen_of ess) ∷ [] else [])
      chosen_in ess true e = inl refl
      chosen_in ess false e = cc

      first_of_entries : (es : Entries) → AreIn (entries_names es) → IsIn (a_group (each_of es)) all
      first_of_entries no_entries h = h (a_group (each_of no_entries)) (inl refl)
      first_of_entries (entries es x c) h = h (a_group (each_of (entries es x c))) (inl refl)

      first_of_term : (t : Term) → AreIn (term_names t) → IsIn (a_type (type t)) all
      first_of_term (literal v) h = h (a_type (type (literal v))) (inl refl)
      first_of_term (named r) h = h (a_type (type (named r))) (inl refl)
      first_of_term (parens t) h = h (a_type (type (parens t))) (inl refl)
      first_of_term (map_of g) h = h (a_type (type (map_of g))) (inl refl)
      first_of_term (array_of g) h = h (a_type (type (array_of g))) (inl refl)
      first_of_term (unwrapped r) h = h (a_type (type (unwrapped r))) (inl refl)
      first_of_term (choice_of g) h = h (a_type (type (choice_of g))) (inl refl)
      first_of_term (choice_of_name r) h = h (a_type (type (choice_of_name r))) (inl refl)
      first_of_term (tagged n t) h = h (a_type (type (tagged n t))) (inl refl)
      first_of_term (tagged_by u t) h = h (a_type (type (tagged_by u t))) (inl refl)
      first_of_term (simple_by u) h = h (a_type (type (simple_by u))) (inl refl)
      first_of_term (hash n) h = h (a_type (type (hash n))) (inl refl)
      first_of_term (range a c b) h = h (a_type (type (range a c b))) (inl refl)
      first_of_term (control a n b) h = h (a_type (type (control a n b))) (inl refl)
      first_of_term (or t u) h = h (a_type (type (or t u))) (inl refl)

      module _ (worth : Values) where
        pub type_in : (n : TypeName) → TypeHas worth ds (Holds root) n → IsIn (a_type n) all
        type_in (type t) h = first_of_term t h.1
        type_in (reference r) h = whole r h.0.0 (a_type (reference r)) (inl refl)
        type_in (chosen_of ess) h = h.0.1.0 (a_type (chosen_of ess)) (inr (chosen_in ess (can_choose ds ess) h.1))
        type_in (word n) h = h.1

        pub group_in_all : (n : GroupName) → GroupHas worth ds (Holds root) n → IsIn (a_group n) all
        group_in_all (first_of ess) h = h.1.0 (a_group (first_of ess)) (inl refl)
        group_in_all (each_of es) h = first_of_entries es h.1
        group_in_all (entry x) h = h.1 (a_group (entry x)) (inl refl)
        group_in_all (round x) h = h.1 (a_group (round x)) (inr (inl refl))
