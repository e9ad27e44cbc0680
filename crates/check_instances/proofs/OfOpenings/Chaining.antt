-- Where chains end: at what is opened.
use Rattle.std.proofs.Common.{◌≡◌, ◌↔◌, ℕ, zero, suc, ◌<◌, ◌+◌, Bool, true, false, if◌then◌else◌, is_some, List, [], ◌∷◌, length, Option, Some, None, refl, sym, ap, subst, ◌∙◌, slice_get, slice_index_or, arith}
use Rattle.lists.proofs.Lemmas.{contains_at, within}
use Rattle.cddl_meaning.specs.Alike.{AlikeAll, none, both}
use Rattle.graphs.specs.declared.chains.Link.{Link}
use Rattle.graphs.specs.declared.chains.Link.TheVariants as LinkV
use Rattle.graphs.specs.Chains.Chains.{AreEnds, end_by, end_within}
use Rattle.cddl_language.specs.Terms as L
use Rattle.cddl_language.specs.Terms.{Text, Term, literal, number, text, bytes, named, parens, map_of, array_of, unwrapped, choice_of, choice_of_name, tagged, tagged_by, simple_by, hash, range, control, or, Ref, call, Group, sole, orelse, stripped}
use Rattle.cddl_language.specs.Environment.{most_names}
use Rattle.cddl_language.specs.Substitution.{type_choices}
use Rattle.cddl_language.specs.Kinds.{Opened, opens_group, opens_type, opened, opened_in}
use Rattle.cddl_language.specs.Reach.{Reaches, points}
use Rattle.check_terms.specs.declared.row.Form.{Form}
use Rattle.check_terms.specs.declared.row.Form.TheVariants as F
use Rattle.check_terms.specs.declared.row.Row.{Row}
use Rattle.check_terms.specs.Table.{Table, Tree, nothing, node, Holds, no_part, part, some_text}
use Rattle.check_terms.specs.Trees.{IsTerm, IsRef, group_tree, ref_tree, term_tree}
use Rattle.check_names.specs.declared.kinds.kinds.Kinds.{Kinds}
use Rattle.check_names.specs.Kinds.Heads.{name_at, text_in}
use Rattle.check_names.specs.Kinds.Kinds.{AreKinds, sort_of}
use Rattle.check_instances.specs.declared.closed.closed.Closed.{Closed}
use Rattle.check_instances.specs.declared.closed.closed.Meaning.{Meaning}
use Rattle.check_instances.specs.Closed.Closed.{AreReached, IsClosed, IsMeaning, TermRow}
use Rattle.check_instances.specs.declared.openings.openings.Opening.{Opening}
use Rattle.check_instances.specs.declared.openings.openings.Opening.TheVariants as OpeningV
use Rattle.check_instances.specs.Openings.Openings.{AreOpenings, IsOpened, IsOpening, nothing, group_opened, type_opened}
use Rattle.check_instances.specs.Openings.Steps.{group_opening, type_opening, link_by, link_from, link_of, link_to, links_of, named_place, opening_at, opening_by, opening_of, openings_of, opens, place_at, place_by, place_in, sole_row, there}
use Rattle.check_instances.proofs.OfOpenings.Joining.{alike_at}
use Rattle.check_instances.proofs.OfOpenings.Leading.{LeadsBy, itself, through, body_reached, held, leads, name_reached, sole_type}

-- Rows of terms.

abbrev is_node : Tree → Bool
is_node nothing = false
is_node (node f x a b) = true

some_there : (t : Table) (i : Option ℕ) (x : Tree) → is_node x ≡ true → Holds t i x → (k : ℕ) × (i ≡ Some k) × Holds t (Some k) x
some_there t None x e h = absurd (not_there x e h)
  where
    not_there : (x : Tree) → is_node x ≡ true → Holds t None x → ⊥
    not_there x e no_part = cc
some_there t (Some k) x e h = (k, refl, h)

term_is_node : (x : Term) → is_node (term_tree x) ≡ true
term_is_node (literal (number n)) = refl
term_is_node (literal (text n)) = refl
term_is_node (literal (bytes n)) = refl
term_is_node (named r) = refl
term_is_node (parens t) = refl
term_is_node (map_of g) = refl
term_is_node (array_of g) = refl
term_is_node (unwrapped r) = refl
term_is_node (choice_of g) = refl
term_is_node (choice_of_name r) = refl
term_is_node (tagged n t) = refl
term_is_node (tagged_by h t) = refl
term_is_node (simple_by h) = refl
term_is_node (hash n) = refl
term_is_node (range a c b) = refl
term_is_node (control a n b) = refl
term_is_node (or t u) = refl

group_is_node : (g : Group) → is_node (group_tree g) ≡ true
group_is_node (sole es) = refl
group_is_node (orelse g es) = refl

ref_is_node : (r : Ref) → is_node (ref_tree r) ≡ true
ref_is_node (call n ts) = refl

-- the row of a name that is used, or of `~` and a name
pub record Refers (t : Table) (n : ℕ) (f : Form) (r : Ref) : Type 0 where
  pub row : Row
  pub at_row : slice_get t.rows n ≡ Some row
  pub form : row.form ≡ f
  pub number : ℕ
  pub first : row.first ≡ Some number
  pub ref : IsRef t number r

pub refers : (t : Table) (n : ℕ) (f : Form) (r : Ref) → Holds t (Some n) (node f None (ref_tree r) nothing) → Refers t n f r
refers t n f r (part {i = i} e h a b) = let k = some_there t i (ref_tree r) (ref_is_node r) a in record { row = _; at_row = e; form = refl; number = k.0; first = k.1; ref = k.2 }

-- the number of a reference's name
pub name_there : (t : Table) (k : ℕ) (r : Ref) → IsRef t k r → (m : ℕ) × (name_at t.rows (Some k) ≡ Some m) × (slice_get t.texts m ≡ Some (L.name_of r))
name_there t k (call n ts) (part e (some_text {n = m} g) a b) = (m, ap text_in e, g)

-- what a row itself opens: it is no name
pub record Holding (t : Table) (places : List (Option ℕ)) (n : ℕ) (o : Opened) : Type 0 where
  pub place : named_place t.rows places n ≡ None
  pub opening : IsOpened t (Some o) (opening_at t.rows (Some n))

module _ (t : Table) (places : List (Option ℕ)) (n : ℕ) where
  holds_group : (g : Group) (o : Opened) (i : Option ℕ) → Some (opens_group g) ≡ Some o → Holds t i (group_tree g) → IsOpened t (Some o) (group_opening i)
  holds_group g o i e h = let k = some_there t i (group_tree g) (group_is_node g) h in subst (λ z. IsOpened t z (group_opening i)) e (subst (λ j. IsOpened t (Some (opens_group g)) (group_opening j)) (sym k.1) (group_opened k.2))

  holds_type : (x : Term) (o : Opened) (i : Option ℕ) → Some (opens_type x) ≡ Some o → Holds t i (term_tree x) → IsOpened t (Some o) (type_opening i)
  holds_type x o i e h = let k = some_there t i (term_tree x) (term_is_node x) h in subst (λ z. IsOpened t z (type_opening i)) e (subst (λ j. IsOpened t (Some (opens_type x)) (type_opening j)) (sym k.1) (type_opened k.2))

  made : (o : Opened) (r : Row) → slice_get t.rows n ≡ Some r → place_in places (Some r) ≡ None → IsOpened t (Some o) (opening_by (Some r)) → Holding t places n o
  made o r e p h = record { place = ap (place_in places) e ∙ p; opening = subst (λ z. IsOpened t (Some o) (opening_by z)) (sym e) h }

  pub holding : (x : Term) (o : Opened) → held x ≡ Some o → IsTerm t n x → Holding t places n o
  holding (map_of g) o e (part {i = i} q h a b) = made o _ q refl (holds_group g o i e a)
  holding (array_of g) o e (part {i = i} q h a b) = made o _ q refl (holds_group g o i e a)
  holding (tagged m x) o e (part {i = i} q h a b) = made o _ q refl (holds_type x o i e a)
  holding (tagged_by z x) o e (part {j = j} q h a b) = made o _ q refl (holds_type x o j e b)
  holding (literal v) o e h = cc
  holding (named r) o e h = cc
  holding (parens x) o e h = cc
  holding (unwrapped r) o e h = cc
  holding (choice_of g) o e h = cc
  holding (choice_of_name r) o e h = cc
  holding (simple_by z) o e h = cc
  holding (hash m) o e h = cc
  holding (range a c b) o e h = cc
  holding (control a m b) o e h = cc
  holding (or x y) o e h = cc

-- Links.

pub link_there : (rows : List Row) (places : List (Option ℕ)) (stripped : List ℕ) (ms : List Meaning) (k : ℕ) (m : Meaning) (l : Link) → slice_get ms k ≡ Some m → slice_index_or (links_of rows places stripped ms) k l ≡ link_of rows places stripped m
link_there rows places stripped [] k m l e = cc
link_there rows places stripped (z ∷ ms) zero m l e = ap (link_of rows places stripped) (same z m e)
  where
    same : (z m : Meaning) → Some z ≡ Some m → z ≡ m
    same z m e = cc
link_there rows places stripped (z ∷ ms) (suc k) m l e = link_there rows places stripped ms k m l e

count_links : (rows : List Row) (places : List (Option ℕ)) (stripped : List ℕ) (ms : List Meaning) → length (links_of rows places stripped ms) ≡ length ms
count_links rows places stripped [] = refl
count_links rows places stripped (m ∷ ms) = ap suc (count_links rows places stripped ms)

one_row : (t : Table) (y : Term) (ns : List ℕ) → AlikeAll (TermRow t) (y ∷ []) ns → (n : ℕ) × (ns ≡ n ∷ []) × IsTerm t n y
one_row t y [] h = elim h [ ]
one_row t y (n ∷ []) (both h hs) = (n, refl, h)
one_row t y (n ∷ m ∷ ns) (both h hs) = elim hs [ ]

module _ (t : Table) (one_ref : (n m : ℕ) (a b : Ref) → IsRef t n a → IsRef t m b → (n ≡ m) ↔ (a ≡ b)) (xs : List L.Definition) (root : Text) (refs : List Ref) (c : Closed) (is : IsClosed xs root refs t c) where
  abbrev places : List (Option ℕ)
  places = c.places.items

  -- the place of an instance, by its row
  pub place_found : (n : ℕ) (r : Ref) → IsRef t n r → Reaches xs root r → (k : ℕ) × (place_at places (Some n) ≡ Some k) × (slice_get refs k ≡ Some r)
  place_found n r h reached =
      let f = is.places.found n r h (is.instances.all r reached) in
      let g = is.places.told n f.0 f.1 in
      let same : g.0 ≡ r = (one_ref n n g.0 r g.2 h).0 refl in
      (f.0, ap there f.1, g.1 ∙ ap (λ (s : Ref). Some s) same)

  pub instance_reached : (k : ℕ) (r : Ref) → slice_get refs k ≡ Some r → Reaches xs root r
  instance_reached k r e = is.instances.only r (contains_at refs k r e)

  module _ (links : List Link) (are : links ≡ links_of t.rows places c.stripped.items c.meanings.items) where
    -- where an instance has one choice, its link goes from the row of this out of its parentheses
    pub record LinksFrom (k : ℕ) (y : Term) : Type 0 where
      pub row : ℕ
      pub term : IsTerm t row (stripped y)
      pub link : slice_index_or links k (LinkV.Next k) ≡ link_from t.rows places row

    pub links_from : (k : ℕ) (r : Ref) (y : Term) → slice_get refs k ≡ Some r → type_choices xs r ≡ y ∷ [] → LinksFrom k y
    links_from k r y e f =
        let m = alike_at (IsMeaning xs t) refs c.meanings.items is.meanings k r e in
        let n = one_row t y m.0.types.items (subst (λ ys. AlikeAll (TermRow t) ys m.0.types.items) f m.2.types) in
        let q = is.stripped.each n.0 y n.2 in
        record {
          row = q.0;
          term = q.2;
          link = ap (λ (ls : List Link). slice_index_or ls k (LinkV.Next k)) are ∙ link_there t.rows places c.stripped.items c.meanings.items k m.0 (LinkV.Next k) m.1 ∙ ap (λ ns. link_by t.rows places (sole_row c.stripped.items ns)) n.1 ∙ ap (link_by t.rows places) q.1;
        }

    EndsWell : ℕ → ℕ → Opened → Type 0
    EndsWell k i o = (n : ℕ) × (end_within links k i ≡ Some n) × IsOpened t (Some o) (opening_at t.rows (Some n))

    at_end : (k i : ℕ) (o : Opened) (y : Term) → LinksFrom i y → held (stripped y) ≡ Some o → EndsWell (suc k) i o
    unfolding EndsWell
    at_end k i o y l e = let h = holding t places l.row (stripped y) o e l.term in (l.row, ap (end_by (λ j. end_within links k j)) (l.link ∙ ap (link_to l.row) h.place), h.opening)

    on_way : (k i : ℕ) (o : Opened) (y : Term) (s : Ref) → LinksFrom i y → stripped y ≡ named s → Reaches xs root s → ((j : ℕ) → slice_get refs j ≡ Some s → EndsWell k j o) → EndsWell (suc k) i o
    unfolding EndsWell
    on_way k i o y s l e reached next =
        let f = refers t l.row F.Named s (subst (IsTerm t l.row) e l.term) in
        let p = place_found f.number s f.ref reached in
        let place : named_place t.rows places l.row ≡ Some p.0 = ap (place_in places) f.at_row ∙ named_first f.row.form f.row.first (Some f.number) f.form f.first ∙ p.1 in
        let n = next p.0 p.2 in
        (n.0, ap (end_by (λ j. end_within links k j)) (l.link ∙ ap (link_to l.row) place) ∙ n.1, n.2)
      where
        named_first : (f : Form) (i j : Option ℕ) → f ≡ F.Named → i ≡ j → place_by places f i ≡ place_at places j
        named_first f i j e g = ap (λ (z : Form). place_by places z i) e ∙ ap (place_at places) g

    ends_well : (k i : ℕ) (r : Ref) (o : Opened) → slice_get refs i ≡ Some r → opened_in k xs r ≡ Some o → EndsWell k i o
    ends_well zero i r o e f = cc
    ends_well (suc k) i r o e f =
        let l = leads k xs r o f in
        by l.body l.way (links_from i r l.body e (sole_type k xs r o l)) (body_reached xs root r l.body l.sole (instance_reached i r e)) (ends_well k)
      where
        by : (y : Term) → LeadsBy (λ s. opened_in k xs s) o y → LinksFrom i y → AreReached xs root (points y) → ((j : ℕ) (s : Ref) (z : Opened) → slice_get refs j ≡ Some s → opened_in k xs s ≡ Some z → EndsWell k j z) → EndsWell (suc k) i o
        by y (itself g) l h next = at_end k i o y l g
        by y (through s g w) l h next = on_way k i o y s l g (name_reached xs root y s g h) (λ j q. next j s o q w)

    module _ (ks : Kinds) (kinds : AreKinds t.texts xs ks) (most : ℕ) (enough : most ≡ most_names xs) (ends : List (Option ℕ)) (are_ends : AreEnds links most ends) where
      opening_right : (i : ℕ) (r : Ref) (m : Meaning) → slice_get refs i ≡ Some r → slice_get c.meanings.items i ≡ Some m → IsRef t m.call r → IsOpened t (opened xs r) (opening_of t.rows ks m.call (there (slice_get ends i)))
      unfolding EndsWell
      opening_right i (call n ts) m e f h =
          let p = name_there t m.call (call n ts) h in
          by (opened xs (call n ts)) refl (opens ks (name_at t.rows (Some m.call))) (ap (opens ks) p.1 ∙ ap is_some (kinds.openings p.0 n ts p.2))
        where
          by : (z : Option Opened) → opened xs (call n ts) ≡ z → (b : Bool) → b ≡ is_some (sort_of (opened xs (call n ts))) → IsOpened t z (if b then opening_at t.rows (there (slice_get ends i)) else OpeningV.Nothing)
          by None g b k = subst (λ (w : Bool). IsOpened t None (if w then opening_at t.rows (there (slice_get ends i)) else OpeningV.Nothing)) (sym (k ∙ ap (λ w. is_some (sort_of w)) g)) nothing
          by (Some o) g b k =
              let w = ends_well most i (call n ts) o e (subst (λ (z : ℕ). opened_in z xs (call n ts) ≡ Some o) (sym enough) g) in
              let l : i < length links = subst (λ z. i < z) (sym (ap length are ∙ count_links t.rows places c.stripped.items c.meanings.items)) (within c.meanings.items i m f) in
              let end : there (slice_get ends i) ≡ Some w.0 = ap there (are_ends.each i l) ∙ w.1 in
              subst (λ (w : Bool). IsOpened t (Some o) (if w then opening_at t.rows (there (slice_get ends i)) else OpeningV.Nothing)) (sym (k ∙ ap (λ w. is_some (sort_of w)) g ∙ sorted o)) (subst (λ (q : Option ℕ). IsOpened t (Some o) (opening_at t.rows q)) (sym end) w.2)
            where
              sorted : (o : Opened) → is_some (sort_of (Some o)) ≡ true
              sorted (opens_group g) = refl
              sorted (opens_type x) = refl

      openings_from : (i : ℕ) (rs : List Ref) (ms : List Meaning) → AlikeAll (IsMeaning xs t) rs ms → ((k : ℕ) (r : Ref) → slice_get rs k ≡ Some r → slice_get refs (i + k) ≡ Some r) → ((k : ℕ) (m : Meaning) → slice_get ms k ≡ Some m → slice_get c.meanings.items (i + k) ≡ Some m) → AlikeAll (IsOpening xs t) rs (openings_of t.rows ks ends i ms)
      openings_from i [] [] none f g = none
      openings_from i [] (m ∷ ms) h f g = elim h [ ]
      openings_from i (r ∷ rs) [] h f g = elim h [ ]
      openings_from i (r ∷ rs) (m ∷ ms) (both h hs) f g = both (opening_right i r m (subst (λ j. slice_get refs j ≡ Some r) (last i) (f 0 r refl)) (subst (λ j. slice_get c.meanings.items j ≡ Some m) (last i) (g 0 m refl)) h.ref) (openings_from (i + 1) rs ms hs (λ k s e. subst (λ j. slice_get refs j ≡ Some s) (further i k) (f (suc k) s e)) (λ k s e. subst (λ j. slice_get c.meanings.items j ≡ Some s) (further i k) (g (suc k) s e)))
        where
          last : (i : ℕ) → i + 0 ≡ i
          last i = omega arith

          further : (i k : ℕ) → i + suc k ≡ (i + 1) + k
          further i k = omega arith

      pub are_openings : (os : List Opening) → os ≡ openings_of t.rows ks ends 0 c.meanings.items → AreOpenings xs t refs os
      are_openings os e = subst (AlikeAll (IsOpening xs t) refs) (sym e) (openings_from 0 refs c.meanings.items is.meanings (λ k r h. subst (λ j. slice_get refs j ≡ Some r) (same k) h) (λ k m h. subst (λ j. slice_get c.meanings.items j ≡ Some m) (same k) h))
        where
          same : (k : ℕ) → k ≡ 0 + k
          same k = omega arith
