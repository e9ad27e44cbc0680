-- To whose group an entry leads.
use Rattle.std.proofs.Common.{◌≡◌, ◌↔◌, ℕ, Bool, true, false, if◌then◌else◌, List, Option, Some, None, refl, sym, ap, subst, ◌∙◌, slice_get}
use Rattle.std.specs.Prelude.{Contains}
use Rattle.lists.proofs.Lemmas.{contains_at}
use Rattle.cddl_language.specs.Terms as L
use Rattle.cddl_language.specs.Terms.{Text, Term, literal, number, text, bytes, named, parens, map_of, array_of, unwrapped, choice_of, choice_of_name, tagged, tagged_by, simple_by, hash, range, control, or, Ref, Group, Entry, typed, keyed, grouped, stripped}
use Rattle.cddl_language.specs.Kinds as K
use Rattle.cddl_language.specs.Kinds.{Opened, opens_group, opens_type, opened, opened_part, part_of, stripped_part, is_group}
use Rattle.cddl_language.specs.MapFaults.{point_in, point_of_part}
use Rattle.check_terms.specs.Table.{Table, Tree, nothing, node, Holds, no_part, part}
use Rattle.check_terms.specs.Trees.{IsEntry, IsRef, IsTerm, term_tree}
use Rattle.check_instances.specs.declared.closed.closed.Closed.{Closed}
use Rattle.check_instances.specs.Closed.Closed.{IsClosed}
use Rattle.check_instances.specs.declared.openings.openings.Part.{Part}
use Rattle.check_instances.specs.Openings.Endings.{AreEndings}
use Rattle.check_instances.specs.Openings.Openings.{IsPart, a_group, a_type, an_opened_group}
use Rattle.check_maps.specs.Spliced.Spliced.{IsTarget, a_name, an_opening, nowhere, somewhere}
use Rattle.check_maps.specs.Spliced.Steps.{led_to, opened_owner as opened_place, opened_at, place_of, there, typed_in}

is_node : Tree → Bool
is_node nothing = false
is_node (node f x a b) = true

not_there : (t : Table) (x : Tree) → Holds t None x → is_node x ≡ true → ⊥
unfolding is_node
not_there t x no_part e = cc

term_is_node : (x : Term) → is_node (term_tree x) ≡ true
unfolding is_node
term_is_node (literal (number n)) = refl
term_is_node (literal (text n)) = refl
term_is_node (literal (bytes n)) = refl
term_is_node (named r) = refl
term_is_node (parens t) = refl
term_is_node (map_of g) = refl
term_is_node (array_of g) = refl
term_is_node (unwrapped r) = refl
term_is_node (choice_of g) = refl
term_is_node (choice_of_name r) = refl
term_is_node (tagged n t) = refl
term_is_node (tagged_by h t) = refl
term_is_node (simple_by h) = refl
term_is_node (hash n) = refl
term_is_node (range a c b) = refl
term_is_node (control a n b) = refl
term_is_node (or t u) = refl

term_there : (t : Table) (i : Option ℕ) (y : Term) → Holds t i (term_tree y) → (m : ℕ) × (i ≡ Some m) × IsTerm t m y
term_there t None y h = absurd (not_there t (term_tree y) h (term_is_node y))
term_there t (Some m) y h = (m, refl, h)

-- The row of the type of an entry without a key.

pub type_there : (t : Table) (n : ℕ) (o : Option Text) (y : Term) → IsEntry t n (typed o y) → (m : ℕ) × (typed_in (slice_get t.rows n) ≡ Some m) × IsTerm t m y
type_there t n o y (part {i = i} h d p q) = let w = term_there t i y p in (w.0, ap typed_in h ∙ w.1, w.2)

pub no_type_there : (t : Table) (n : ℕ) (x : Entry) → typed_in (slice_get t.rows n) ≡ None → IsEntry t n x → (ds : List L.Definition) → point_in ds x ≡ None
no_type_there t n (typed o y) e h ds = let w = type_there t n o y h in absurd (apart (sym e ∙ w.1))
  where
    apart : {m : ℕ} → None ≡ Some m → ⊥
    apart e = cc
no_type_there t n (keyed o k y) e h ds = refl
no_type_there t n (grouped o g) e h ds = refl

pub some_type_there : (t : Table) (n m : ℕ) (x : Entry) → typed_in (slice_get t.rows n) ≡ Some m → IsEntry t n x → (o : Option Text) × (y : Term) × (x ≡ typed o y) × IsTerm t m y
some_type_there t n m (typed o y) e h =
    let w = type_there t n o y h in
    (o, y, refl, subst (λ k. IsTerm t k y) (same w.0 m (sym w.1 ∙ e)) w.2)
  where
    same : (a b : ℕ) → Some a ≡ Some b → a ≡ b
    same a b e = cc
some_type_there t n m (keyed o k y) e (part h d p q) = absurd (apart (sym (ap typed_in h) ∙ e))
  where
    apart : None ≡ Some m → ⊥
    apart e = cc
some_type_there t n m (grouped o g) e (part h d p q) = absurd (apart (sym (ap typed_in h) ∙ e))
  where
    apart : None ≡ Some m → ⊥
    apart e = cc

-- what is opened by an entry is what `~` of its name opens
module _ (xs : List L.Definition) (r : Ref) (g : Group) where
  by_opened : (q : Ref) (o : Option Opened) → opened xs q ≡ o → opened_part q o ≡ K.opens r g → opened xs r ≡ Some (opens_group g)
  by_opened q None f e = cc
  by_opened q (Some (opens_type x)) f e = cc
  by_opened q (Some (opens_group h)) f e =
      let same : q ≡ r = cc in
      let same_group : h ≡ g = cc in
      ap (opened xs) (sym same) ∙ f ∙ ap (λ z. Some (opens_group z)) same_group

  by_kind : (q : Ref) (b : Bool) → (if b then K.names_group q else K.asks_type) ≡ K.opens r g → ⊥
  by_kind q true e = cc
  by_kind q false e = cc

  opened_so : (z : Term) → stripped_part xs z ≡ K.opens r g → opened xs r ≡ Some (opens_group g)
  opened_so (unwrapped q) e = by_opened q (opened xs q) refl e
  opened_so (named q) e = absurd (by_kind q (is_group xs (L.name_of q)) e)
  opened_so (literal v) e = cc
  opened_so (parens t) e = cc
  opened_so (map_of h) e = cc
  opened_so (array_of h) e = cc
  opened_so (choice_of h) e = cc
  opened_so (choice_of_name q) e = cc
  opened_so (tagged n t) e = cc
  opened_so (tagged_by h t) e = cc
  opened_so (simple_by h) e = cc
  opened_so (hash n) e = cc
  opened_so (range a c b) e = cc
  opened_so (control a n b) e = cc
  opened_so (or t u) e = cc

module _ (t : Table) (one_ref : (n m : ℕ) (a b : Ref) → IsRef t n a → IsRef t m b → (n ≡ m) ↔ (a ≡ b)) (xs : List L.Definition) (root : Text) (refs : List Ref) (c : Closed) (is : IsClosed xs root refs t c) where
  -- the row of an instance has the place of the instance
  pub placed : (n : ℕ) (r : Ref) → IsRef t n r → Contains refs r → (k : ℕ) × (place_of c.places.items n ≡ Some k) × (slice_get refs k ≡ Some r)
  placed n r h m =
      let f = is.places.found n r h m in
      let g = is.places.told n f.0 f.1 in
      let same : g.0 ≡ r = (one_ref n n g.0 r g.2 h).0 refl in
      (f.0, ap there f.1, g.1 ∙ ap (λ (s : Ref). Some s) same)

  pub leads : (endings : List (Option ℕ)) → AreEndings xs t refs endings → (y : Term) (p : K.Part) (q : Part) → part_of xs y ≡ p → IsPart t refs p q → IsTarget xs refs (point_of_part xs p) (led_to c.places.items endings q)
  leads endings are y p q e a_type = nowhere
  leads endings are y p q e (a_group h) = somewhere (a_name h)
  leads endings are y p q e (an_opened_group {k = k} {n = n} {r = r} {g = g} h m) =
      let w = are k r (opens_group g) h (opened_so xs r g (stripped y) e) in
      let f = placed w.number w.end w.ref (contains_at refs w.place w.end w.there) in
      let told = ap (λ o. opened_at c.places.items (there o)) w.told ∙ ap opened_place f.1 in
      subst (IsTarget xs refs (point_of_part xs (K.opens r g))) (sym told) (somewhere (an_opening f.2 w.way w.itself w.no_name))
