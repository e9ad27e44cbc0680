-- What maps have through so many names: it stays the same after as many as there are instances.
use Rattle.std.proofs.Common.{◌≡◌, ℕ, zero, suc, ◌≤◌, Bool, true, false, if◌then◌else◌, List, [], ◌∷◌, ◌++◌, length, Option, Some, None, is_some, refl, sym, ap, subst, ◌∙◌, arith, slice_get}
use Rattle.std.specs.Prelude.{Contains}
use Rattle.std.proofs.lemmas.List.Elements.{Contains-append_left, Contains-append_right}
use Rattle.lists.proofs.Lemmas.{beyond_all, contains_at, no_some, place_of as to_place}
use Rattle.cddl_language.specs.Terms.{Text, Term, named, unwrapped, Ref, Group, sole, orelse, Entries, no_entries, entries, Entry, typed, keyed, grouped, Definition, alternatives, name_of, stripped}
use Rattle.cddl_language.specs.Substitution.{group_choices}
use Rattle.cddl_language.specs.Kinds.{Opened, opens_group, opens_type, opened, is_group, Part, asks_type, names_group, opens, opened_part, stripped_part, part_of}
use Rattle.cddl_language.specs.Reach.{Point, Reaches, points, group_points, entries_points, entry_points}
use Rattle.cddl_language.specs.StandsFor.{AreInstances}
use Rattle.cddl_language.specs.Maps.{Alternatives, in_part, in_group, in_entries, in_entry, in_each, alternatives_in}
use Rattle.check_instances.specs.Closed.Closed.{AreReached}
use Rattle.check_groups.proofs.OfSplices.Options.{Follows, combined_follows, group_each, joined_follows, narrowed, occurring_follows}

module _ (ds : List Definition) where
  -- what names have where so many are gone through
  abbrev pub names_in : ℕ → List Entries → Option Alternatives
  names_in zero us = None
  names_in (suc k) us = alternatives_in ds k us

  pub in_is : (k : ℕ) (ess : List Entries) → alternatives_in ds k ess ≡ in_each ds (names_in k) ess
  in_is zero ess = refl
  in_is (suc k) ess = refl

  pub group_is : (k : ℕ) (g : Group) → alternatives_in ds k (alternatives g) ≡ in_group ds (names_in k) g
  group_is k g = in_is k (alternatives g) ∙ sym (group_each ds (names_in k) g)

module _ (ds : List Definition) (root : Text) where
  -- What the type of an entry names or opens is a group's.

  named_stripped : (x : Term) (r : Ref) → stripped_part ds x ≡ names_group r → is_group ds (name_of r) ≡ true
  named_stripped (named q) r e = by (is_group ds (name_of q)) refl e
    where
      by : (b : Bool) → is_group ds (name_of q) ≡ b → (if b then names_group q else asks_type) ≡ names_group r → is_group ds (name_of r) ≡ true
      by true i e = subst (λ s. is_group ds (name_of s) ≡ true) same i
        where
          same : q ≡ r
          same = cc
      by false i e = cc
  named_stripped (unwrapped q) r e = by (opened ds q) e
    where
      by : (o : Option Opened) → opened_part q o ≡ names_group r → is_group ds (name_of r) ≡ true
      by None e = cc
      by (Some (opens_group g)) e = cc
      by (Some (opens_type t)) e = cc
  named_stripped _ r e = cc

  opened_stripped : (x : Term) (r : Ref) (g : Group) → stripped_part ds x ≡ opens r g → opened ds r ≡ Some (opens_group g)
  opened_stripped (named q) r g e = by (is_group ds (name_of q)) e
    where
      by : (b : Bool) → (if b then names_group q else asks_type) ≡ opens r g → opened ds r ≡ Some (opens_group g)
      by true e = cc
      by false e = cc
  opened_stripped (unwrapped q) r g e = by (opened ds q) refl e
    where
      by : (o : Option Opened) → opened ds q ≡ o → opened_part q o ≡ opens r g → opened ds r ≡ Some (opens_group g)
      by None i e = cc
      by (Some (opens_group f)) i e = ap (opened ds) (sym same) ∙ (i ∙ ap (λ h. Some (opens_group h)) alike)
        where
          same : q ≡ r
          same = cc

          alike : f ≡ g
          alike = cc
      by (Some (opens_type t)) i e = cc
  opened_stripped _ r g e = cc

  -- what these groups of instances have by the one way, they have by the other
  pub record Carries (f g : List Entries → Option Alternatives) : Type 0 where
    pub of_name : (r : Ref) → Reaches ds root r → is_group ds (name_of r) ≡ true → Follows (f (group_choices ds r)) (g (group_choices ds r))
    pub of_opened : (r : Ref) (h : Group) → Reaches ds root r → opened ds r ≡ Some (opens_group h) → Follows (f (alternatives h)) (g (alternatives h))

  module _ (part_reached : (x : Term) (r : Ref) → AreReached ds root (points x) → part_of ds x ≡ names_group r → Reaches ds root r) (opening_reached : (x : Term) (r : Ref) (g : Group) → AreReached ds root (points x) → part_of ds x ≡ opens r g → Reaches ds root r) where
    module _ (f g : List Entries → Option Alternatives) (c : Carries f g) where
      pub carried_part : (x : Term) (p : Part) → part_of ds x ≡ p → AreReached ds root (points x) → Follows (in_part ds f p) (in_part ds g p)
      carried_part x asks_type i h mss e = e
      carried_part x (names_group r) i h mss e = c.of_name r (part_reached x r h i) (named_stripped (stripped x) r i) mss e
      carried_part x (opens r q) i h mss e = c.of_opened r q (opening_reached x r q h i) (opened_stripped (stripped x) r q i) mss e

      left : (ps qs : List Point) → AreReached ds root (ps ++ qs) → AreReached ds root ps
      left ps qs h p i = h p (Contains-append_left ps qs p i)

      right : (ps qs : List Point) → AreReached ds root (ps ++ qs) → AreReached ds root qs
      right ps qs h p i = h p (Contains-append_right ps qs p i)

      mutual
        carried_group : (h : Group) → AreReached ds root (group_points h) → Follows (in_group ds f h) (in_group ds g h)
        carried_group (sole es) r mss e = carried_entries es r mss e
        carried_group (orelse h es) r mss e = joined_follows (in_group ds f h) (in_entries ds f es) (in_group ds g h) (in_entries ds g es) (carried_group h (left (group_points h) (entries_points es) r)) (carried_entries es (right (group_points h) (entries_points es) r)) mss e

        carried_entries : (es : Entries) → AreReached ds root (entries_points es) → Follows (in_entries ds f es) (in_entries ds g es)
        carried_entries no_entries r mss e = e
        carried_entries (entries es x b) r mss e = combined_follows (in_entries ds f es) (in_entry ds f x) (in_entries ds g es) (in_entry ds g x) (carried_entries es (left (entries_points es) (entry_points x) r)) (carried_entry x (right (entries_points es) (entry_points x) r)) mss e

        carried_entry : (x : Entry) → AreReached ds root (entry_points x) → Follows (in_entry ds f x) (in_entry ds g x)
        carried_entry (typed o t) r mss e = occurring_follows o (in_part ds f (part_of ds t)) (in_part ds g (part_of ds t)) (carried_part t (part_of ds t) refl r) mss e
        carried_entry (keyed o k t) r mss e = e
        carried_entry (grouped o h) r mss e = occurring_follows o (in_group ds f h) (in_group ds g h) (carried_group h r) mss e

      carried_each : (ess : List Entries) → ((es : Entries) → Contains ess es → AreReached ds root (entries_points es)) → Follows (in_each ds f ess) (in_each ds g ess)
      carried_each [] r mss e = e
      carried_each (es ∷ ess) r mss e = joined_follows (in_entries ds f es) (in_each ds f ess) (in_entries ds g es) (in_each ds g ess) (carried_entries es (r es (Contains-append_left (es ∷ []) ess es (0, omega arith, refl)))) (carried_each ess (λ fs i. r fs (Contains-append_right (es ∷ []) ess fs i))) mss e

    module _ (more : (k n : ℕ) → k ≤ n → (ess : List Entries) (mss : Alternatives) → alternatives_in ds k ess ≡ Some mss → alternatives_in ds n ess ≡ Some mss) (choices_reached : (r : Ref) (es : Entries) → Reaches ds root r → Contains (group_choices ds r) es → AreReached ds root (entries_points es)) (opened_reached : (r : Ref) (g : Group) → Reaches ds root r → opened ds r ≡ Some (opens_group g) → AreReached ds root (group_points g)) where
      further : (k : ℕ) (us : List Entries) → Follows (names_in ds k us) (names_in ds (suc k) us)
      further zero us mss e = absurd (no_some e)
      further (suc k) us mss e = more k (suc k) (omega arith) us mss e

      one_further : (j k : ℕ) → Carries (names_in ds j) (names_in ds k) → Carries (names_in ds (suc j)) (names_in ds (suc k))
      one_further j k c = record {
        of_name = λ r h i mss e. in_is ds k (group_choices ds r) ∙ carried_each (names_in ds j) (names_in ds k) c (group_choices ds r) (λ es. choices_reached r es h) mss (sym (in_is ds j (group_choices ds r)) ∙ e);
        of_opened = λ r g h i mss e. group_is ds k g ∙ carried_group (names_in ds j) (names_in ds k) c g (opened_reached r g h i) mss (sym (group_is ds j g) ∙ e);
      }

      module _ (refs : List Ref) (instances : AreInstances ds root refs) (one_kind : (r : Ref) (o : Opened) → opened ds r ≡ Some o → is_group ds (name_of r) ≡ false) where
        -- whether each instance has something, as a group by its name or by what it opens
        abbrev way : ℕ → Ref → Bool → Option Opened → Bool
        way k r true o = is_some (names_in ds k (group_choices ds r))
        way k r false (Some (opens_group g)) = is_some (names_in ds k (alternatives g))
        way k r false (Some (opens_type t)) = false
        way k r false None = false

        abbrev way_of : ℕ → Option Ref → Bool
        way_of k None = false
        way_of k (Some r) = way k r (is_group ds (name_of r)) (opened ds r)

        abbrev have : ℕ → ℕ → Bool
        have k i = way_of k (slice_get refs i)

        never : false ≡ true → ⊥
        never e = cc

        none_after : (k i : ℕ) → length refs ≤ i → have k i ≡ true → ⊥
        none_after k i h e = never (sym (ap (way_of k) (beyond_all refs i h)) ∙ e)

        is_there : (o q : Option Alternatives) → Follows o q → is_some o ≡ true → is_some q ≡ true
        is_there (Some ms) q f e = ap is_some (f ms refl)
        is_there None q f e = absurd (never e)

        to_sets : (j k : ℕ) → Carries (names_in ds j) (names_in ds k) → (i : ℕ) → have j i ≡ true → have k i ≡ true
        to_sets j k c i e = at (slice_get refs i) refl e
          where
            by : (r : Ref) → Reaches ds root r → (b : Bool) → b ≡ is_group ds (name_of r) → (o : Option Opened) → o ≡ opened ds r → way j r b o ≡ true → way k r b o ≡ true
            by r h true i o l e = is_there (names_in ds j (group_choices ds r)) (names_in ds k (group_choices ds r)) (c.of_name r h (sym i)) e
            by r h false i (Some (opens_group g)) l e = is_there (names_in ds j (alternatives g)) (names_in ds k (alternatives g)) (c.of_opened r g h (sym l)) e
            by r h false i (Some (opens_type t)) l e = e
            by r h false i None l e = e

            at : (o : Option Ref) → o ≡ slice_get refs i → way_of j o ≡ true → way_of k o ≡ true
            at None s e = e
            at (Some r) s e = by r (instances.only r (contains_at refs i r (sym s))) (is_group ds (name_of r)) refl (opened ds r) refl e

        -- back from one name more
        from_sets : (k : ℕ) → ((i : ℕ) → have (suc k) i ≡ true → have k i ≡ true) → Carries (names_in ds (suc k)) (names_in ds k)
        from_sets k f = record {
          of_name = λ r h g. let at = place r h in narrowed (names_in ds (suc k) (group_choices ds r)) (names_in ds k (group_choices ds r)) (further k (group_choices ds r)) (λ e. sym (by_name k r g at.0 at.1) ∙ f at.0 (by_name (suc k) r g at.0 at.1 ∙ e));
          of_opened = λ r q h o. let at = place r h in narrowed (names_in ds (suc k) (alternatives q)) (names_in ds k (alternatives q)) (further k (alternatives q)) (λ e. sym (by_opening k r q o at.0 at.1) ∙ f at.0 (by_opening (suc k) r q o at.0 at.1 ∙ e));
        }
          where
            place : (r : Ref) → Reaches ds root r → (i : ℕ) × (slice_get refs i ≡ Some r)
            place r h = to_place refs r (instances.all r h)

            by_name : (j : ℕ) (r : Ref) → is_group ds (name_of r) ≡ true → (i : ℕ) → slice_get refs i ≡ Some r → have j i ≡ is_some (names_in ds j (group_choices ds r))
            by_name j r g i s = ap (way_of j) s ∙ ap (λ b. way j r b (opened ds r)) g

            by_opening : (j : ℕ) (r : Ref) (q : Group) → opened ds r ≡ Some (opens_group q) → (i : ℕ) → slice_get refs i ≡ Some r → have j i ≡ is_some (names_in ds j (alternatives q))
            by_opening j r q o i s = ap (way_of j) s ∙ ap (λ b. way j r b (opened ds r)) (one_kind r (opens_group q) o) ∙ ap (way j r false) o

        -- After as many names as there are instances nothing new comes.
        pub enough : ((p : ℕ → ℕ → Bool) (count : ℕ) → ((k i : ℕ) → count ≤ i → p k i ≡ true → ⊥) → ((k i : ℕ) → p k i ≡ true → p (suc k) i ≡ true) → ((k : ℕ) → ((i : ℕ) → p (suc k) i ≡ true → p k i ≡ true) → (i : ℕ) → p (suc (suc k)) i ≡ true → p (suc k) i ≡ true) → (m : ℕ) → count ≤ m → (k i : ℕ) → p k i ≡ true → p m i ≡ true) → (m : ℕ) → length refs ≤ m → Carries (names_in ds (suc m)) (names_in ds m)
        enough settle m h = from_sets m (λ i e. settle have (length refs) none_after (λ k i e. to_sets k (suc k) (record { of_name = λ r h i. further k (group_choices ds r); of_opened = λ r g h i. further k (alternatives g) }) i e) (λ k s i e. to_sets (suc (suc k)) (suc k) (one_further (suc k) k (from_sets k s)) i e) m h (suc m) i e)
