-- What a root leads to has the names after `&` of the text.
use Rattle.std.proofs.Common.{◌<◌, ℕ, zero, suc, if◌then◌else◌, List, [], ◌∷◌, ◌++◌, Bool, true, false, cond, map, Option, Some, None, sym, subst, arith}
use Rattle.std.specs.Prelude.{Contains, filter, flat_map}
use Rattle.cddl_language.specs.Terms.{Text, Term, literal, named, parens, map_of, array_of, unwrapped, choice_of, choice_of_name, tagged, tagged_by, simple_by, hash, range, control, or, Ref, call, Group, sole, orelse, Entries, no_entries, entries, Entry, typed, keyed, grouped, Key, of_type, bareword, of_value, Body, of_types, of_entry, Definition, term_list, choices, name_of, stripped}
use Rattle.cddl_language.specs.Environment.{counting, definitions_of, from_prelude, has_equals, is_equals, is_group_socket, is_in, is_same, most_names, named_so}
use Rattle.cddl_language.specs.Kinds.{Opened, opens_group, opens_type, opened, opened_body, opened_by, opened_in, opened_term, way_through}
use Rattle.cddl_language.specs.Prelude.{prelude}
use Rattle.cddl_language.specs.Reach.{Point, Reaches, at_choice, at_chosen_name, at_name, at_opened_choice, at_root, at_unwrapping, onward, body_points, entries_points, entry_points, group_points, key_points, points, points_in, ref_at}
use Rattle.cddl_language.specs.Substitution.{bodies, body_alternatives, fill_body, fill_ref, group_choices, type_choices, types_in}
use Rattle.cddl_decided.proofs.OfBounds.After.{AllIn, AllInRef, AllInGroup, AllInEntries, AllInEntry, AllInKey, AllInBody, AllAlternatives, in_alternatives, in_choices, in_stripped, joined, joined_alternatives, AllTerms, as_list, in_filled, in_filled_body, in_filled_group, in_filled_ref}

module _ (P : Text → Type 0) where
  abbrev pub AllDefinitions : List Definition → Type 0
  AllDefinitions [] = Unit {0}
  AllDefinitions (d ∷ ds) = AllInBody P d.body × AllDefinitions ds

  pub in_prelude : AllDefinitions prelude
  unfolding prelude
  in_prelude = (tt, (tt, (tt, ((tt, tt), (tt, (tt, (tt, (tt, (tt, (tt, ((tt, tt), (tt, (tt, ((tt, tt), ((tt, tt), ((tt, tt), (((tt, (tt, tt)), (tt, tt)), (((tt, (tt, tt)), (tt, tt)), (tt, (tt, (tt, (tt, (tt, (tt, (tt, (tt, (tt, (tt, (tt, (tt, (tt, ((tt, tt), ((tt, tt), ((tt, tt), (tt, (tt, ((tt, tt), (tt, (tt, (tt, tt))))))))))))))))))))))))))))))))))))))))

  abbrev AllBodies : List Body → Type 0
  AllBodies [] = Unit {0}
  AllBodies (b ∷ bs) = AllInBody P b × AllBodies bs

  kept : (b : Bool) (d : Definition) (ds : List Definition) → AllInBody P d.body → AllDefinitions ds → AllDefinitions (cond b (d ∷ ds) ds)
  kept true d ds h k = (h, k)
  kept false d ds h k = k

  in_filtered : (f : Definition → Bool) (ds : List Definition) → AllDefinitions ds → AllDefinitions (filter f ds)
  in_filtered f [] h = tt
  in_filtered f (d ∷ ds) h = kept (f d) d (filter f ds) h.0 (in_filtered f ds h.1)

  unless : (b : Bool) (ds es : List Definition) → AllDefinitions ds → AllDefinitions es → AllDefinitions (if b then ds else es)
  unless true ds es h k = h
  unless false ds es h k = k

  in_counting : (met : Bool) (ds : List Definition) → AllDefinitions ds → AllDefinitions (counting met ds)
  in_counting true [] h = tt
  in_counting false [] h = tt
  in_counting false (d ∷ ds) h = (h.0, in_counting (is_equals d.sign) ds h.1)
  in_counting true (d ∷ ds) h = unless (is_equals d.sign) (counting true ds) (d ∷ counting true ds) (in_counting true ds h.1) (h.0, in_counting true ds h.1)

  both : (ds es : List Definition) → AllDefinitions ds → AllDefinitions es → AllDefinitions (ds ++ es)
  both [] es h k = k
  both (d ∷ ds) es h k = (h.0, both ds es h.1 k)

  in_definitions : (ds : List Definition) (n : Text) → AllDefinitions ds → AllDefinitions (definitions_of ds n)
  in_definitions ds n h = both (from_prelude ds n) (counting false (named_so n ds)) (unless (has_equals (named_so n ds)) [] (named_so n prelude) tt (in_filtered (λ (d : Definition). is_same d.name n) prelude in_prelude)) (in_counting false (named_so n ds) (in_filtered (λ (d : Definition). is_same d.name n) ds h))

  fill_each : (ts : List Term) (ds : List Definition) → AllTerms P ts → AllDefinitions ds → AllBodies (map (λ (d : Definition). fill_body d.parameters ts d.body) ds)
  fill_each ts [] h k = tt
  fill_each ts (d ∷ ds) h k = (in_filled_body P d.parameters ts h d.body k.0, fill_each ts ds h k.1)

  in_bodies : (ds : List Definition) (r : Ref) → AllDefinitions ds → AllInRef P r → AllBodies (bodies ds r)
  in_bodies ds (call n ts) h k = fill_each (term_list ts) (definitions_of ds n) (as_list P ts k) (in_definitions ds n h)

  in_types : (bs : List Body) → AllBodies bs → AllTerms P (types_in bs)
  in_types [] h = tt
  in_types (of_types t ∷ bs) h = joined P (choices t) (types_in bs) (in_choices P t h.0) (in_types bs h.1)
  in_types (of_entry e ∷ bs) h = in_types bs h.1

  in_body_alternatives : (b : Body) → AllInBody P b → AllAlternatives P (body_alternatives b)
  in_body_alternatives (of_types t) h = ((tt, h), tt)
  in_body_alternatives (of_entry (grouped None g)) h = in_alternatives P g h
  in_body_alternatives (of_entry (grouped (Some o) g)) h = ((tt, h), tt)
  in_body_alternatives (of_entry (typed o t)) h = ((tt, h), tt)
  in_body_alternatives (of_entry (keyed o k t)) h = ((tt, h), tt)

  in_groups : (bs : List Body) → AllBodies bs → AllAlternatives P (flat_map body_alternatives bs)
  in_groups [] h = tt
  in_groups (b ∷ bs) h = joined_alternatives P (body_alternatives b) (flat_map body_alternatives bs) (in_body_alternatives b h.0) (in_groups bs h.1)

  pub in_type_choices : (ds : List Definition) (r : Ref) → AllDefinitions ds → AllInRef P r → AllTerms P (type_choices ds r)
  in_type_choices ds r h k = in_types (bodies ds r) (in_bodies ds r h k)

  pub in_group_choices : (ds : List Definition) (r : Ref) → AllDefinitions ds → AllInRef P r → AllAlternatives P (group_choices ds r)
  in_group_choices ds r h k = in_groups (bodies ds r) (in_bodies ds r h k)

  -- the references that stand there

  abbrev pub AllAt : Point → Type 0
  AllAt (at_name r) = AllInRef P r
  AllAt (at_unwrapping r) = AllInRef P r
  AllAt (at_choice r) = P (name_of r) × AllInRef P r
  AllAt (at_chosen_name r) = AllInRef P r
  AllAt (at_opened_choice r) = AllInRef P r

  in_ref_at : (p : Point) → AllAt p → AllInRef P (ref_at p)
  in_ref_at (at_name r) h = h
  in_ref_at (at_unwrapping r) h = h
  in_ref_at (at_choice r) h = h.1
  in_ref_at (at_chosen_name r) h = h
  in_ref_at (at_opened_choice r) h = h

  abbrev pub AllPoints : List Point → Type 0
  AllPoints [] = Unit {0}
  AllPoints (p ∷ ps) = AllAt p × AllPoints ps

  two : (ps qs : List Point) → AllPoints ps → AllPoints qs → AllPoints (ps ++ qs)
  two [] qs h k = k
  two (p ∷ ps) qs h k = (h.0, two ps qs h.1 k)

  mutual
    pub in_points : (t : Term) → AllIn P t → AllPoints (points t)
    in_points (literal v) h = tt
    in_points (named r) h = (h, tt)
    in_points (parens t) h = in_points t h
    in_points (map_of g) h = in_group_points g h
    in_points (array_of g) h = in_group_points g h
    in_points (unwrapped r) h = (h, tt)
    in_points (choice_of g) h = in_group_points g h
    in_points (choice_of_name r) h = (h, tt)
    in_points (tagged n t) h = in_points t h
    in_points (tagged_by u t) h = two (points u) (points t) (in_points u h.0) (in_points t h.1)
    in_points (simple_by u) h = in_points u h
    in_points (hash n) h = tt
    in_points (range a c b) h = two (points a) (points b) (in_points a h.0) (in_points b h.1)
    in_points (control a n b) h = two (points a) (points b) (in_points a h.0) (in_points b h.1)
    in_points (or t u) h = two (points t) (points u) (in_points t h.0) (in_points u h.1)

    pub in_group_points : (g : Group) → AllInGroup P g → AllPoints (group_points g)
    in_group_points (sole es) h = in_entries_points es h
    in_group_points (orelse g es) h = two (group_points g) (entries_points es) (in_group_points g h.0) (in_entries_points es h.1)

    pub in_entries_points : (es : Entries) → AllInEntries P es → AllPoints (entries_points es)
    in_entries_points no_entries h = tt
    in_entries_points (entries es e c) h = two (entries_points es) (entry_points e) (in_entries_points es h.0) (in_entry_points e h.1)

    in_entry_points : (e : Entry) → AllInEntry P e → AllPoints (entry_points e)
    in_entry_points (typed o t) h = in_points t h
    in_entry_points (keyed o k t) h = two (key_points k) (points t) (in_key_points k h.0) (in_points t h.1)
    in_entry_points (grouped o g) h = in_group_points g h

    in_key_points : (k : Key) → AllInKey P k → AllPoints (key_points k)
    in_key_points (of_type t c) h = in_points t h
    in_key_points (bareword n) h = tt
    in_key_points (of_value v) h = tt

  in_body_points : (b : Body) → AllInBody P b → AllPoints (body_points b)
  in_body_points (of_types t) h = in_points t h
  in_body_points (of_entry e) h = in_entry_points e h

  in_all_points : (bs : List Body) → AllBodies bs → AllPoints (flat_map body_points bs)
  in_all_points [] h = tt
  in_all_points (b ∷ bs) h = two (body_points b) (flat_map body_points bs) (in_body_points b h.0) (in_all_points bs h.1)

  pub one_point : (ps : List Point) (p : Point) → AllPoints ps → Contains ps p → AllAt p
  one_point [] p h (k, l, e) = absurd (below_none k l)
    where
      below_none : (k : ℕ) → k < 0 → ⊥
      below_none k l = omega arith
  one_point (q ∷ ps) p h (zero, l, e) = subst AllAt e h.0
  one_point (q ∷ ps) p h (suc k, l, e) = one_point ps p h.1 (k, omega arith, e)

  pub one_term : (ts : List Term) (t : Term) → AllTerms P ts → Contains ts t → AllIn P t
  one_term [] t h (k, l, e) = absurd (below_none k l)
    where
      below_none : (k : ℕ) → k < 0 → ⊥
      below_none k l = omega arith
  one_term (u ∷ ts) t h (zero, l, e) = subst (AllIn P) e h.0
  one_term (u ∷ ts) t h (suc k, l, e) = one_term ts t h.1 (k, omega arith, e)

  pub one_alternative : (ess : List Entries) (es : Entries) → AllAlternatives P ess → Contains ess es → AllInEntries P es
  one_alternative [] t h (k, l, e) = absurd (below_none k l)
    where
      below_none : (k : ℕ) → k < 0 → ⊥
      below_none k l = omega arith
  one_alternative (u ∷ ts) t h (zero, l, e) = subst (AllInEntries P) e h.0
  one_alternative (u ∷ ts) t h (suc k, l, e) = one_alternative ts t h.1 (k, omega arith, e)

  -- in what it means
  pub in_meaning : (ds : List Definition) (r : Ref) → AllDefinitions ds → AllInRef P r → AllPoints (points_in ds r)
  in_meaning ds r h k = in_all_points (bodies ds r) (in_bodies ds r h k)

  pub in_reached : (ds : List Definition) (root : Text) (r : Ref) → AllDefinitions ds → Reaches ds root r → AllInRef P r
  in_reached ds root r h at_root = tt
  in_reached ds root s h (onward {r = r} {p = p} k c e) = subst (AllInRef P) (sym e) (in_ref_at p (one_point (points_in ds r) p (in_meaning ds r h (in_reached ds root r h k)) c))

  -- what `~` opens

  abbrev pub AllInOpened : Option Opened → Type 0
  AllInOpened None = Unit {0}
  AllInOpened (Some (opens_group g)) = AllInGroup P g
  AllInOpened (Some (opens_type t)) = AllIn P t

  if_open : (b : Bool) (o : Option Opened) → AllInOpened o → AllInOpened (if b then None else o)
  if_open true o h = tt
  if_open false o h = h

  module _ (next : Ref → Option Opened) (further : (r : Ref) → AllInRef P r → AllInOpened (next r)) (ps : List Text) (ts : List Term) (given : AllTerms P ts) where
    in_way : (r : Ref) → AllInRef P r → AllInOpened (way_through next ps ts r)
    in_way (call n us) h = if_open (is_in ps n) (next (fill_ref ps ts (call n us))) (further (fill_ref ps ts (call n us)) (in_filled_ref P ps ts given (call n us) h))

    in_opened_term : (t : Term) → AllIn P t → AllInOpened (opened_term next ps ts t)
    in_opened_term (literal v) h = tt
    in_opened_term (named r) h = in_way r h
    in_opened_term (parens t) h = tt
    in_opened_term (map_of g) h = in_filled_group P ps ts given g h
    in_opened_term (array_of g) h = in_filled_group P ps ts given g h
    in_opened_term (unwrapped r) h = tt
    in_opened_term (choice_of g) h = tt
    in_opened_term (choice_of_name r) h = tt
    in_opened_term (tagged n t) h = in_filled P ps ts given t h
    in_opened_term (tagged_by u t) h = in_filled P ps ts given t h.1
    in_opened_term (simple_by u) h = tt
    in_opened_term (hash n) h = tt
    in_opened_term (range a c b) h = tt
    in_opened_term (control a n b) h = tt
    in_opened_term (or t u) h = tt

    in_opened_body : (b : Body) → AllInBody P b → AllInOpened (opened_body next ps ts b)
    in_opened_body (of_types t) h = in_opened_term (stripped t) (in_stripped P t h)
    in_opened_body (of_entry e) h = tt

  in_opened_by : (next : Ref → Option Opened) → ((r : Ref) → AllInRef P r → AllInOpened (next r)) → (ts : List Term) → AllTerms P ts → (ds : List Definition) → AllDefinitions ds → AllInOpened (opened_by next ts ds)
  in_opened_by next further ts given [] h = tt
  in_opened_by next further ts given (d ∷ []) h = in_opened_body next further d.parameters ts given d.body h.0
  in_opened_by next further ts given (d ∷ e ∷ ds) h = tt

  in_opened_in : (k : ℕ) (ds : List Definition) (r : Ref) → AllDefinitions ds → AllInRef P r → AllInOpened (opened_in k ds r)
  in_opened_in zero ds r h i = tt
  in_opened_in (suc k) ds (call n ts) h i = if_open (is_group_socket n) (opened_by (λ r. opened_in k ds r) (term_list ts) (definitions_of ds n)) (in_opened_by (λ r. opened_in k ds r) (λ r. in_opened_in k ds r h) (term_list ts) (as_list P ts i) (definitions_of ds n) (in_definitions ds n h))

  pub in_opened : (ds : List Definition) (r : Ref) → AllDefinitions ds → AllInRef P r → AllInOpened (opened ds r)
  in_opened ds r h i = in_opened_in (most_names ds) ds r h i
