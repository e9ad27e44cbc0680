-- What is asked has its node, to which the steps by rows and places lead.
use Rattle.std.proofs.Common.{◌≡◌, ℕ, zero, suc, ◌<◌, ◌⊎◌, inl, inr, Bool, true, false, List, [], ◌∷◌, length, Option, Some, None, refl, sym, ap, subst, ◌∙◌, slice_get, slice_index_or, arith}
use Rattle.cddl_language.specs.Kinds as K
use Rattle.cddl_language.specs.Kinds.{Opened, opens_group, opens_type, opened, is_group, asks_type, names_group, opens, part_of}
use Rattle.cddl_language.specs.Reach.{Point, at_name, at_unwrapping, at_choice, at_chosen_name, at_opened_choice, Reaches, entries_points, entry_points}
use Rattle.cddl_language.specs.Substitution.{type_choices, group_choices}
use Rattle.cddl_language.specs.Terms.{Text, Term, named, parens, array_of, unwrapped, choice_of, choice_of_name, simple_by, control, or, Ref, Group, sole, orelse, Entries, entries, Entry, typed, keyed, grouped, Definition}
use Rattle.check_terms.specs.declared.row.Form.TheVariants as F
use Rattle.check_terms.specs.Table.{Table, Tree, nothing, Holds}
use Rattle.check_terms.specs.Trees.{IsTerm, IsGroup, IsEntries, IsEntry, term_tree, ref_tree, group_tree, entries_tree, entry_tree, key_tree}
use Rattle.check_instances.specs.Closed.Closed.{TermRow}
use Rattle.check_instances.specs.declared.openings.openings.Opening.{Opening}
use Rattle.check_instances.specs.declared.openings.openings.Opening.TheVariants as OpeningV
use Rattle.check_instances.specs.declared.openings.openings.Part.{Part}
use Rattle.check_instances.specs.declared.openings.openings.Part.TheVariants as PartV
use Rattle.check_instances.specs.Openings.Openings.{IsOpened, nothing as opens_nothing, group_opened, type_opened, IsPart, a_type as part_type, a_group as part_group, an_opened_group}
use Rattle.check_recursion.specs.declared.node.Node.{Node}
use Rattle.check_recursion.specs.declared.node.Node.TheVariants as N
use Rattle.check_recursion.specs.Asking as A
use Rattle.check_recursion.specs.Asking.{Asked, a_type, a_group, some_entries, an_entry, chosen_group, chosen_entries, chosen_entry, a_point, Asks, IsReached}
use Rattle.check_recursion.specs.Edges as E
use Rattle.check_recursion.specs.Edges.{Known, Has, Leads, by_row, by_chosen, by_group, by_type, by_opening, by_choice, by_chosen_name, by_opened_choice, row_node, chosen_node, name_node, unwrapping_node, choice_node, place_of, place_in, flagged, if_set, when, asks_here, text_asks, part_node, part_at, part_in, steps_by, chosen_by, row_steps, chosen_steps, is_group_call, text_of, opened_row, opened_group}
use Rattle.check_recursion.specs.Standing.{Stands, type_row, group_row, entries_row, entry_row, chosen_group_row, chosen_entries_row, chosen_entry_row, name_place, unwrapping_place, choice_place, chosen_name_place, opened_choice_place}
use Rattle.check_recursion.proofs.Freely.{in_list, contained}
use Rattle.check_recursion.proofs.Presence.{first, front}
use Rattle.check_recursion.specs.Standing.{IsStep}
use Rattle.check_recursion.proofs.Rows.{IsKnown, table_of}
use Rattle.check_recursion.proofs.Rows as W

at_place : {X : Type 0} (xs : List X) (k : ℕ) (x d : X) → slice_get xs k ≡ Some x → (k < length xs) × (slice_index_or xs k d ≡ x)
at_place [] k x d e = cc
at_place {X = X} (y ∷ xs) zero x d e = (omega arith, same y x e)
  where
    same : (y z : X) → Some y ≡ Some z → y ≡ z
    same y z e = cc
at_place (y ∷ xs) (suc k) x d e = let r = at_place xs k x d e in (omega (arith, r.0), r.1)

pub either_way : (i j : ℕ) → (i < j) ⊎ ((i ≡ j) ⊎ (j < i))
either_way zero zero = inr (inl refl)
either_way zero (suc j) = inl (omega arith)
either_way (suc i) zero = inr (inr (omega arith))
either_way (suc i) (suc j) = by (either_way i j)
  where
    by : (i < j) ⊎ ((i ≡ j) ⊎ (j < i)) → (suc i < suc j) ⊎ ((suc i ≡ suc j) ⊎ (suc j < suc i))
    by (inl h) = inl (omega (arith, h))
    by (inr (inl h)) = inr (inl (ap suc h))
    by (inr (inr h)) = inr (inr (omega (arith, h)))

module _ (xs : List Definition) (root : Text) (refs : List Ref) (b : Known) (is : IsKnown xs root refs b) where
  abbrev t : Table
  t = table_of b

  once : (i j : ℕ) (r : Ref) → slice_get refs i ≡ Some r → slice_get refs j ≡ Some r → i ≡ j
  once i j r e f = by (either_way i j)
    where
      apart : (i j : ℕ) → slice_get refs i ≡ Some r → slice_get refs j ≡ Some r → i < j → ⊥
      apart i j e f h = let p = at_place refs i r r e in let q = at_place refs j r r f in is.instances.once i j r h q.0 (p.1 ∙ sym q.1)

      by : (i < j) ⊎ ((i ≡ j) ⊎ (j < i)) → i ≡ j
      by (inl h) = absurd (apart i j e f h)
      by (inr (inl h)) = h
      by (inr (inr h)) = absurd (apart j i f e h)

  -- the node of what is asked

  type_at : (n : Node) (x : Term) → Stands t refs n (a_type x) → (k : ℕ) × (n ≡ N.Row k) × IsTerm t k x
  type_at n x (type_row {n = k} h) = (k, refl, h)

  of_group : (n : Node) (g : Group) → Stands t refs n (a_group g) → (k : ℕ) × (n ≡ N.Row k) × IsGroup t k g
  of_group n g (group_row {n = k} h) = (k, refl, h)

  of_entries : (n : Node) (es : Entries) → Stands t refs n (some_entries es) → (k : ℕ) × (n ≡ N.Row k) × IsEntries t k es
  of_entries n es (entries_row {n = k} h) = (k, refl, h)

  of_entry : (n : Node) (x : Entry) → Stands t refs n (an_entry x) → (k : ℕ) × (n ≡ N.Row k) × IsEntry t k x
  of_entry n x (entry_row {n = k} h) = (k, refl, h)

  of_chosen_group : (n : Node) (g : Group) → Stands t refs n (chosen_group g) → (k : ℕ) × (n ≡ N.Chosen k) × IsGroup t k g
  of_chosen_group n g (chosen_group_row {n = k} h) = (k, refl, h)

  of_chosen_entries : (n : Node) (es : Entries) → Stands t refs n (chosen_entries es) → (k : ℕ) × (n ≡ N.Chosen k) × IsEntries t k es
  of_chosen_entries n es (chosen_entries_row {n = k} h) = (k, refl, h)

  of_chosen_entry : (n : Node) (x : Entry) → Stands t refs n (chosen_entry x) → (k : ℕ) × (n ≡ N.Chosen k) × IsEntry t k x
  of_chosen_entry n x (chosen_entry_row {n = k} h) = (k, refl, h)

  of_name : (n : Node) (r : Ref) → Stands t refs n (a_point (at_name r)) → (k : ℕ) × (n ≡ N.Name k) × (slice_get refs k ≡ Some r)
  of_name n r (name_place {k = k} h) = (k, refl, h)

  of_unwrapping : (n : Node) (r : Ref) → Stands t refs n (a_point (at_unwrapping r)) → (k : ℕ) × (n ≡ N.Unwrapping k) × (slice_get refs k ≡ Some r)
  of_unwrapping n r (unwrapping_place {k = k} h) = (k, refl, h)

  of_choice : (n : Node) (r : Ref) → Stands t refs n (a_point (at_choice r)) → (k : ℕ) × (n ≡ N.Choice k) × (slice_get refs k ≡ Some r)
  of_choice n r (choice_place {k = k} h) = (k, refl, h)

  of_chosen_name : (n : Node) (r : Ref) → Stands t refs n (a_point (at_chosen_name r)) → (k : ℕ) × (n ≡ N.ChosenName k) × (slice_get refs k ≡ Some r)
  of_chosen_name n r (chosen_name_place {k = k} h) = (k, refl, h)

  of_opened_choice : (n : Node) (r : Ref) → Stands t refs n (a_point (at_opened_choice r)) → (k : ℕ) × (n ≡ N.OpenedChoice k) × (slice_get refs k ≡ Some r)
  of_opened_choice n r (opened_choice_place {k = k} h) = (k, refl, h)

  same_number : (i j : ℕ) → Some i ≡ Some j → i ≡ j
  same_number i j e = cc

  same_rows : (i j : ℕ) (y : Tree) → Holds t (Some i) y → Holds t (Some j) y → i ≡ j
  same_rows i j y h k = same_number i j (is.equal (Some i) (Some j) y h k)

  same_point : (n m : Node) (p : Point) → Stands t refs n (a_point p) → Stands t refs m (a_point p) → n ≡ m
  same_point n m (at_name r) s u = let i = of_name n r s in let j = of_name m r u in i.1 ∙ ap N.Name (once i.0 j.0 r i.2 j.2) ∙ sym j.1
  same_point n m (at_unwrapping r) s u = let i = of_unwrapping n r s in let j = of_unwrapping m r u in i.1 ∙ ap N.Unwrapping (once i.0 j.0 r i.2 j.2) ∙ sym j.1
  same_point n m (at_choice r) s u = let i = of_choice n r s in let j = of_choice m r u in i.1 ∙ ap N.Choice (once i.0 j.0 r i.2 j.2) ∙ sym j.1
  same_point n m (at_chosen_name r) s u = let i = of_chosen_name n r s in let j = of_chosen_name m r u in i.1 ∙ ap N.ChosenName (once i.0 j.0 r i.2 j.2) ∙ sym j.1
  same_point n m (at_opened_choice r) s u = let i = of_opened_choice n r s in let j = of_opened_choice m r u in i.1 ∙ ap N.OpenedChoice (once i.0 j.0 r i.2 j.2) ∙ sym j.1

  pub same_node : (n m : Node) (a : Asked) → Stands t refs n a → Stands t refs m a → n ≡ m
  same_node n m (a_type x) s u = let i = type_at n x s in let j = type_at m x u in i.1 ∙ ap N.Row (same_rows i.0 j.0 (term_tree x) i.2 j.2) ∙ sym j.1
  same_node n m (a_group g) s u = let i = of_group n g s in let j = of_group m g u in i.1 ∙ ap N.Row (same_rows i.0 j.0 (group_tree g) i.2 j.2) ∙ sym j.1
  same_node n m (some_entries es) s u = let i = of_entries n es s in let j = of_entries m es u in i.1 ∙ ap N.Row (same_rows i.0 j.0 (entries_tree es) i.2 j.2) ∙ sym j.1
  same_node n m (an_entry x) s u = let i = of_entry n x s in let j = of_entry m x u in i.1 ∙ ap N.Row (same_rows i.0 j.0 (entry_tree x) i.2 j.2) ∙ sym j.1
  same_node n m (chosen_group g) s u = let i = of_chosen_group n g s in let j = of_chosen_group m g u in i.1 ∙ ap N.Chosen (same_rows i.0 j.0 (group_tree g) i.2 j.2) ∙ sym j.1
  same_node n m (chosen_entries es) s u = let i = of_chosen_entries n es s in let j = of_chosen_entries m es u in i.1 ∙ ap N.Chosen (same_rows i.0 j.0 (entries_tree es) i.2 j.2) ∙ sym j.1
  same_node n m (chosen_entry x) s u = let i = of_chosen_entry n x s in let j = of_chosen_entry m x u in i.1 ∙ ap N.Chosen (same_rows i.0 j.0 (entry_tree x) i.2 j.2) ∙ sym j.1
  same_node n m (a_point p) s u = same_point n m p s u

  pub record Found (n : Node) (next : Asked) : Type 0 where
    pub node : Node
    pub stands : Stands t refs node next
    pub leads : Leads b n node

  found : (n k m : Node) (next : Asked) → n ≡ k → Stands t refs m next → Leads b k m → Found n next
  found n k m next e s l = record { node = m; stands = s; leads = subst (λ z. Leads b z m) (sym e) l }

  part_row : (o : Option ℕ) (y : Tree) → W.is_node y ≡ true → Holds t o y → (m : ℕ) × (row_node o ≡ Some (N.Row m)) × Holds t (Some m) y
  part_row o y e h = let s = W.some_node t o y e h in (s.0, ap row_node s.1, s.2)

  part_chosen : (o : Option ℕ) (y : Tree) → W.is_node y ≡ true → Holds t o y → (m : ℕ) × (chosen_node o ≡ Some (N.Chosen m)) × Holds t (Some m) y
  part_chosen o y e h = let s = W.some_node t o y e h in (s.0, ap chosen_node s.1, s.2)

  place_found : (o : Option ℕ) (r : Ref) → Holds t o (ref_tree r) → Reaches xs root r → (k : ℕ) × (place_of b.places o ≡ Some k) × (slice_get refs k ≡ Some r)
  place_found o r h c =
      let n = W.some_node t o (ref_tree r) (W.ref_is_node r) h in
      let p = is.places.found n.0 r n.2 (is.instances.all r c) in
      let q = is.places.told n.0 p.0 p.1 in
      (p.0, ap (place_of b.places) n.1 ∙ ap place_in p.1, q.1 ∙ ap Some (is.same_ref n.0 q.0 r q.2 n.2))

  -- entries, with a comma or without

  record HasEntries (k : ℕ) (es : Entries) (x : Entry) : Type 0 where
    first : Option ℕ
    second : Option ℕ
    has_first : Holds t first (entries_tree es)
    has_second : Holds t second (entry_tree x)
    leads : (m : Node) → Has (E.both (row_node first) (row_node (E.if_some (flagged b.may_be_empty first) second))) m → Leads b (N.Row k) m
    chooses : (m : Node) → Has (E.both (chosen_node first) (chosen_node second)) m → Leads b (N.Chosen k) m

  has_entries : (k : ℕ) (es : Entries) (x : Entry) (c : Bool) → IsEntries t k (entries es x c) → HasEntries k es x
  has_entries k es x true h = let w = W.row_at b k F.EntriesComma None (entries_tree es) (entry_tree x) h in record { first = w.first; second = w.second; has_first = w.has_first; has_second = w.has_second; leads = λ m l. by_row w.there l; chooses = λ m l. by_chosen w.there l }
  has_entries k es x false h = let w = W.row_at b k F.Entries None (entries_tree es) (entry_tree x) h in record { first = w.first; second = w.second; has_first = w.has_first; has_second = w.has_second; leads = λ m l. by_row w.there l; chooses = λ m l. by_chosen w.there l }

  -- what an entry is told to be

  is_type_part : (p : K.Part) (q : Part) → IsPart t refs p q → p ≡ asks_type → q ≡ PartV.AsksType
  is_type_part p q part_type e = refl
  is_type_part p q (part_group i) e = cc
  is_type_part p q (an_opened_group i h) e = cc

  is_name_part : (p : K.Part) (q : Part) (r : Ref) → IsPart t refs p q → p ≡ names_group r → (k : ℕ) × (q ≡ PartV.NamesGroup k) × (slice_get refs k ≡ Some r)
  is_name_part p q r part_type e = cc
  is_name_part p q r (part_group {k = k} {r = s} i) e = (k, refl, i ∙ ap Some (same e))
    where
      same : names_group s ≡ names_group r → s ≡ r
      same e = cc
  is_name_part p q r (an_opened_group i h) e = cc

  is_opened_part : (p : K.Part) (q : Part) (r : Ref) (g : Group) → IsPart t refs p q → p ≡ opens r g → (k : ℕ) × (n : ℕ) × (q ≡ PartV.Opens k n) × (slice_get refs k ≡ Some r)
  is_opened_part p q r g part_type e = cc
  is_opened_part p q r g (part_group i) e = cc
  is_opened_part p q r g (an_opened_group {k = k} {n = n} {r = s} {g = h} i j) e = (k, n, refl, i ∙ ap Some (same e))
    where
      same : opens s h ≡ opens r g → s ≡ r
      same e = cc

  is_group_opening : (y : Option Opened) (q : Opening) (g : Group) → IsOpened t y q → y ≡ Some (opens_group g) → (n : ℕ) × (q ≡ OpeningV.Group n) × IsGroup t n g
  is_group_opening y q g opens_nothing e = cc
  is_group_opening y q g (group_opened {n = n} {g = h} k) e = (n, refl, subst (λ z. IsGroup t n z) (same e) k)
    where
      same : Some (opens_group h) ≡ Some (opens_group g) → h ≡ g
      same e = cc
  is_group_opening y q g (type_opened k) e = cc

  is_type_opening : (y : Option Opened) (q : Opening) (x : Term) → IsOpened t y q → y ≡ Some (opens_type x) → (n : ℕ) × (q ≡ OpeningV.Type n) × IsTerm t n x
  is_type_opening y q x opens_nothing e = cc
  is_type_opening y q x (group_opened k) e = cc
  is_type_opening y q x (type_opened {n = n} {x = u} k) e = (n, refl, subst (λ z. IsTerm t n z) (same e) k)
    where
      same : Some (opens_type u) ≡ Some (opens_type x) → u ≡ x
      same e = cc

  -- each step

  pub ahead : (n : Node) (a next : Asked) → Asks xs a next → Stands t refs n a → IsReached xs root a → Found n next
  ahead n a next (A.by_name {r = r}) s h =
      let i = type_at n (named r) s in
      let w = W.row_at b i.0 F.Named None (ref_tree r) nothing i.2 in
      let p = place_found w.first r w.has_first (first xs root (at_name r) h) in
      found n (N.Row i.0) (N.Name p.0) (a_point (at_name r)) i.1 (name_place p.2) (by_row w.there (inl (ap name_node p.1)))
  ahead n a next (A.by_unwrapping {r = r}) s h =
      let i = type_at n (unwrapped r) s in
      let w = W.row_at b i.0 F.Unwrapped None (ref_tree r) nothing i.2 in
      let p = place_found w.first r w.has_first (first xs root (at_unwrapping r) h) in
      found n (N.Row i.0) (N.Unwrapping p.0) (a_point (at_unwrapping r)) i.1 (unwrapping_place p.2) (by_row w.there (inl (ap unwrapping_node p.1)))
  ahead n a next (A.by_choice {r = r}) s h =
      let i = type_at n (choice_of_name r) s in
      let w = W.row_at b i.0 F.ChoiceOfName None (ref_tree r) nothing i.2 in
      let p = place_found w.first r w.has_first (first xs root (at_choice r) h) in
      found n (N.Row i.0) (N.Choice p.0) (a_point (at_choice r)) i.1 (choice_place p.2) (by_row w.there (inl (ap choice_node p.1)))
  ahead n a next (A.in_parens {t = y}) s h =
      let i = type_at n (parens y) s in
      let w = W.row_at b i.0 F.Parens None (term_tree y) nothing i.2 in
      let p = part_row w.first (term_tree y) (W.term_is_node y) w.has_first in
      found n (N.Row i.0) (N.Row p.0) (a_type y) i.1 (type_row p.2) (by_row w.there (inl p.1))
  ahead n a next (A.in_first {t = y} {u = z}) s h =
      let i = type_at n (or y z) s in
      let w = W.row_at b i.0 F.Or None (term_tree y) (term_tree z) i.2 in
      let p = part_row w.first (term_tree y) (W.term_is_node y) w.has_first in
      found n (N.Row i.0) (N.Row p.0) (a_type y) i.1 (type_row p.2) (by_row w.there (inl p.1))
  ahead n a next (A.in_second {t = y} {u = z}) s h =
      let i = type_at n (or y z) s in
      let w = W.row_at b i.0 F.Or None (term_tree y) (term_tree z) i.2 in
      let p = part_row w.second (term_tree z) (W.term_is_node z) w.has_second in
      found n (N.Row i.0) (N.Row p.0) (a_type z) i.1 (type_row p.2) (by_row w.there (inr p.1))
  ahead n a next (A.in_array {g = g}) s h =
      let i = type_at n (array_of g) s in
      let w = W.row_at b i.0 F.ArrayOf None (group_tree g) nothing i.2 in
      let p = part_row w.first (group_tree g) (W.group_is_node g) w.has_first in
      found n (N.Row i.0) (N.Row p.0) (a_group g) i.1 (group_row p.2) (by_row w.there (inl p.1))
  ahead n a next (A.in_choice {g = g}) s h =
      let i = type_at n (choice_of g) s in
      let w = W.row_at b i.0 F.ChoiceOf None (group_tree g) nothing i.2 in
      let p = part_chosen w.first (group_tree g) (W.group_is_node g) w.has_first in
      found n (N.Row i.0) (N.Chosen p.0) (chosen_group g) i.1 (chosen_group_row p.2) (by_row w.there (inl p.1))
  ahead n a next (A.in_head {h = y}) s h =
      let i = type_at n (simple_by y) s in
      let w = W.row_at b i.0 F.SimpleBy None (term_tree y) nothing i.2 in
      let p = part_row w.first (term_tree y) (W.term_is_node y) w.has_first in
      found n (N.Row i.0) (N.Row p.0) (a_type y) i.1 (type_row p.2) (by_row w.there (inl p.1))
  ahead n a next (A.in_left {a = y} {b = z} {n = x}) s h =
      let i = type_at n (control y x z) s in
      let w = W.row_at b i.0 F.Control (Some x) (term_tree y) (term_tree z) i.2 in
      let p = part_row w.first (term_tree y) (W.term_is_node y) w.has_first in
      found n (N.Row i.0) (N.Row p.0) (a_type y) i.1 (type_row p.2) (by_row w.there (inl p.1))
  ahead n a next (A.in_controller {a = y} {b = z} {n = x} c) s h =
      let i = type_at n (control y x z) s in
      let w = W.row_at b i.0 F.Control (Some x) (term_tree y) (term_tree z) i.2 in
      let p = part_row w.second (term_tree z) (W.term_is_node z) w.has_second in
      let d = W.text_there b.texts w.name x w.has_name in
      let f : asks_here b.texts w.name ≡ true = ap (asks_here b.texts) d.1 ∙ ap text_asks d.2 ∙ c in
      found n (N.Row i.0) (N.Row p.0) (a_type z) i.1 (type_row p.2) (by_row w.there (inr (ap (λ z. row_node (when z w.second)) f ∙ p.1)))
  ahead n a next (A.sole_entries {es = es}) s h =
      let i = of_group n (sole es) s in
      let w = W.row_at b i.0 F.Sole None (entries_tree es) nothing i.2 in
      let p = part_row w.first (entries_tree es) (W.entries_is_node es) w.has_first in
      found n (N.Row i.0) (N.Row p.0) (some_entries es) i.1 (entries_row p.2) (by_row w.there (inl p.1))
  ahead n a next (A.other_alternatives {g = g} {es = es}) s h =
      let i = of_group n (orelse g es) s in
      let w = W.row_at b i.0 F.OrElse None (group_tree g) (entries_tree es) i.2 in
      let p = part_row w.first (group_tree g) (W.group_is_node g) w.has_first in
      found n (N.Row i.0) (N.Row p.0) (a_group g) i.1 (group_row p.2) (by_row w.there (inl p.1))
  ahead n a next (A.last_alternative {g = g} {es = es}) s h =
      let i = of_group n (orelse g es) s in
      let w = W.row_at b i.0 F.OrElse None (group_tree g) (entries_tree es) i.2 in
      let p = part_row w.second (entries_tree es) (W.entries_is_node es) w.has_second in
      found n (N.Row i.0) (N.Row p.0) (some_entries es) i.1 (entries_row p.2) (by_row w.there (inr p.1))
  ahead n a next (A.earlier_entries {es = es} {e = x} {c = c}) s h =
      let i = of_entries n (entries es x c) s in
      let w = has_entries i.0 es x c i.2 in
      let p = part_row w.first (entries_tree es) (W.entries_is_node es) w.has_first in
      found n (N.Row i.0) (N.Row p.0) (some_entries es) i.1 (entries_row p.2) (w.leads (N.Row p.0) (inl p.1))
  ahead n a next (A.last_entry {es = es} {e = x} {c = c} m) s h =
      let i = of_entries n (entries es x c) s in
      let w = has_entries i.0 es x c i.2 in
      let f = W.some_node t w.first (entries_tree es) (W.entries_is_node es) w.has_first in
      let p = part_row w.second (entry_tree x) (W.entry_is_node x) w.has_second in
      let d = W.flag_set b.may_be_empty w.first f.0 f.1 ((is.empty.entries f.0 es f.2 (front xs root (entries_points es) (entry_points x) h)).1 m) in
      found n (N.Row i.0) (N.Row p.0) (an_entry x) i.1 (entry_row p.2) (w.leads (N.Row p.0) (inr (ap (λ z. row_node (E.if_some z w.second)) d ∙ p.1)))
  ahead n a next (A.group_name {o = o} {t = x} {r = r} e) s h =
      let i = of_entry n (typed o x) s in
      let w = W.row_at b i.0 F.Typed o (term_tree x) nothing i.2 in
      let p = is_name_part (part_of xs x) (part_at b.parts w.first) r (W.part_there xs root refs b is x w.first w.has_first h) e in
      found n (N.Row i.0) (N.Name p.0) (a_point (at_name r)) i.1 (name_place p.2) (by_row w.there (inl (ap part_node p.1)))
  ahead n a next (A.group_opened {o = o} {t = x} {r = r} {g = g} e) s h =
      let i = of_entry n (typed o x) s in
      let w = W.row_at b i.0 F.Typed o (term_tree x) nothing i.2 in
      let p = is_opened_part (part_of xs x) (part_at b.parts w.first) r g (W.part_there xs root refs b is x w.first w.has_first h) e in
      found n (N.Row i.0) (N.Unwrapping p.0) (a_point (at_unwrapping r)) i.1 (unwrapping_place p.3) (by_row w.there (inl (ap part_node p.2)))
  ahead n a next (A.in_group {o = o} {g = g}) s h =
      let i = of_entry n (grouped o g) s in
      let w = W.row_at b i.0 F.Grouped o (group_tree g) nothing i.2 in
      let p = part_row w.first (group_tree g) (W.group_is_node g) w.has_first in
      found n (N.Row i.0) (N.Row p.0) (a_group g) i.1 (group_row p.2) (by_row w.there (inl p.1))
  ahead n a next (A.chosen_sole {es = es}) s h =
      let i = of_chosen_group n (sole es) s in
      let w = W.row_at b i.0 F.Sole None (entries_tree es) nothing i.2 in
      let p = part_chosen w.first (entries_tree es) (W.entries_is_node es) w.has_first in
      found n (N.Chosen i.0) (N.Chosen p.0) (chosen_entries es) i.1 (chosen_entries_row p.2) (by_chosen w.there (inl p.1))
  ahead n a next (A.chosen_others {g = g} {es = es}) s h =
      let i = of_chosen_group n (orelse g es) s in
      let w = W.row_at b i.0 F.OrElse None (group_tree g) (entries_tree es) i.2 in
      let p = part_chosen w.first (group_tree g) (W.group_is_node g) w.has_first in
      found n (N.Chosen i.0) (N.Chosen p.0) (chosen_group g) i.1 (chosen_group_row p.2) (by_chosen w.there (inl p.1))
  ahead n a next (A.chosen_alternative {g = g} {es = es}) s h =
      let i = of_chosen_group n (orelse g es) s in
      let w = W.row_at b i.0 F.OrElse None (group_tree g) (entries_tree es) i.2 in
      let p = part_chosen w.second (entries_tree es) (W.entries_is_node es) w.has_second in
      found n (N.Chosen i.0) (N.Chosen p.0) (chosen_entries es) i.1 (chosen_entries_row p.2) (by_chosen w.there (inr p.1))
  ahead n a next (A.chosen_earlier {es = es} {e = x} {c = c}) s h =
      let i = of_chosen_entries n (entries es x c) s in
      let w = has_entries i.0 es x c i.2 in
      let p = part_chosen w.first (entries_tree es) (W.entries_is_node es) w.has_first in
      found n (N.Chosen i.0) (N.Chosen p.0) (chosen_entries es) i.1 (chosen_entries_row p.2) (w.chooses (N.Chosen p.0) (inl p.1))
  ahead n a next (A.chosen_last {es = es} {e = x} {c = c}) s h =
      let i = of_chosen_entries n (entries es x c) s in
      let w = has_entries i.0 es x c i.2 in
      let p = part_chosen w.second (entry_tree x) (W.entry_is_node x) w.has_second in
      found n (N.Chosen i.0) (N.Chosen p.0) (chosen_entry x) i.1 (chosen_entry_row p.2) (w.chooses (N.Chosen p.0) (inr p.1))
  ahead n a next (A.chosen_type {o = o} {t = x} e) s h =
      let i = of_chosen_entry n (typed o x) s in
      let w = W.row_at b i.0 F.Typed o (term_tree x) nothing i.2 in
      let q = is_type_part (part_of xs x) (part_at b.parts w.first) (W.part_there xs root refs b is x w.first w.has_first h) e in
      let p = part_row w.first (term_tree x) (W.term_is_node x) w.has_first in
      found n (N.Chosen i.0) (N.Row p.0) (a_type x) i.1 (type_row p.2) (by_chosen w.there (inl (ap (E.chosen_part w.first) q ∙ p.1)))
  ahead n a next (A.chosen_name {o = o} {t = x} {r = r} e) s h =
      let i = of_chosen_entry n (typed o x) s in
      let w = W.row_at b i.0 F.Typed o (term_tree x) nothing i.2 in
      let p = is_name_part (part_of xs x) (part_at b.parts w.first) r (W.part_there xs root refs b is x w.first w.has_first h) e in
      found n (N.Chosen i.0) (N.ChosenName p.0) (a_point (at_chosen_name r)) i.1 (chosen_name_place p.2) (by_chosen w.there (inl (ap (E.chosen_part w.first) p.1)))
  ahead n a next (A.chosen_opened {o = o} {t = x} {r = r} {g = g} e) s h =
      let i = of_chosen_entry n (typed o x) s in
      let w = W.row_at b i.0 F.Typed o (term_tree x) nothing i.2 in
      let p = is_opened_part (part_of xs x) (part_at b.parts w.first) r g (W.part_there xs root refs b is x w.first w.has_first h) e in
      found n (N.Chosen i.0) (N.OpenedChoice p.0) (a_point (at_opened_choice r)) i.1 (opened_choice_place p.3) (by_chosen w.there (inl (ap (E.chosen_part w.first) p.2)))
  ahead n a next (A.chosen_keyed {o = o} {k = y} {t = x}) s h =
      let i = of_chosen_entry n (keyed o y x) s in
      let w = W.row_at b i.0 F.Keyed o (key_tree y) (term_tree x) i.2 in
      let p = part_row w.second (term_tree x) (W.term_is_node x) w.has_second in
      found n (N.Chosen i.0) (N.Row p.0) (a_type x) i.1 (type_row p.2) (by_chosen w.there (inl p.1))
  ahead n a next (A.chosen_inner {o = o} {g = g}) s h =
      let i = of_chosen_entry n (grouped o g) s in
      let w = W.row_at b i.0 F.Grouped o (group_tree g) nothing i.2 in
      let p = part_chosen w.first (group_tree g) (W.group_is_node g) w.has_first in
      found n (N.Chosen i.0) (N.Chosen p.0) (chosen_group g) i.1 (chosen_group_row p.2) (by_chosen w.there (inl p.1))
  ahead n a next (A.means_type {r = r} {t = x} e c) s h =
      let i = of_name n r s in
      let v = W.meaning_at xs root refs b is i.0 r i.2 in
      let p = W.alike_left (TermRow t) (type_choices xs r) v.0.types.items v.2.types x (in_list (type_choices xs r) x c) in
      found n (N.Name i.0) (N.Row p.0) (a_type x) i.1 (type_row p.2) (by_type v.1 (W.group_call xs root refs b is r v.0.call v.2.ref ∙ e) (contained v.0.types.items p.0 p.1))
  ahead n a next (A.means_group {r = r} {g = g} e f) s h =
      let i = of_name n r s in
      let v = W.meaning_at xs root refs b is i.0 r i.2 in
      let p = W.row_of_group xs root refs b is (group_choices xs r) v.0.group v.2.group g f in
      found n (N.Name i.0) (N.Row p.0) (a_group g) i.1 (group_row p.2) (by_group v.1 (W.group_call xs root refs b is r v.0.call v.2.ref ∙ e) (ap row_node p.1))
  ahead n a next (A.opens_a_group {r = r} {g = g} e) s h =
      let i = of_unwrapping n r s in
      let w = W.meaning_at xs root refs b is i.0 r i.2 in
      let v = W.opening_at xs root refs b is i.0 r i.2 in
      let p = is_group_opening (opened xs r) v.0 g v.2 e in
      found n (N.Unwrapping i.0) (N.Row p.0) (a_group g) i.1 (group_row p.2) (by_opening w.1 (ap (λ o. row_node (opened_row o)) v.1 ∙ ap (λ z. row_node (opened_row (Some z))) p.1))
  ahead n a next (A.opens_content {r = r} {t = x} e) s h =
      let i = of_unwrapping n r s in
      let w = W.meaning_at xs root refs b is i.0 r i.2 in
      let v = W.opening_at xs root refs b is i.0 r i.2 in
      let p = is_type_opening (opened xs r) v.0 x v.2 e in
      found n (N.Unwrapping i.0) (N.Row p.0) (a_type x) i.1 (type_row p.2) (by_opening w.1 (ap (λ o. row_node (opened_row o)) v.1 ∙ ap (λ z. row_node (opened_row (Some z))) p.1))
  ahead n a next (A.chooses_by_name {r = r}) s h =
      let i = of_choice n r s in
      let v = W.meaning_at xs root refs b is i.0 r i.2 in
      found n (N.Choice i.0) (N.ChosenName i.0) (a_point (at_chosen_name r)) i.1 (chosen_name_place i.2) (by_choice v.1)
  ahead n a next (A.chooses {r = r} {g = g} f c) s h =
      let i = of_chosen_name n r s in
      let v = W.meaning_at xs root refs b is i.0 r i.2 in
      let p = W.row_of_group xs root refs b is (group_choices xs r) v.0.group v.2.group g f in
      found n (N.ChosenName i.0) (N.Chosen p.0) (chosen_group g) i.1 (chosen_group_row p.2) (by_chosen_name v.1 (ap chosen_node (W.flag_set b.choosable v.0.group p.0 p.1 ((is.choosable.groups p.0 g p.2 (is.on.group r g (first xs root (at_chosen_name r) h) f)).1 c))))
  ahead n a next (A.chooses_opened {r = r} {g = g} e c) s h =
      let i = of_opened_choice n r s in
      let w = W.meaning_at xs root refs b is i.0 r i.2 in
      let v = W.opening_at xs root refs b is i.0 r i.2 in
      let p = is_group_opening (opened xs r) v.0 g v.2 e in
      found n (N.OpenedChoice i.0) (N.Chosen p.0) (chosen_group g) i.1 (chosen_group_row p.2) (by_opened_choice w.1 (ap chosen_node (W.flag_set b.choosable (opened_group (slice_get b.openings i.0)) p.0 (ap opened_group v.1 ∙ ap (λ z. opened_group (Some z)) p.1) ((is.choosable.groups p.0 g p.2 (is.on.opened_group r g (first xs root (at_opened_choice r) h) e)).1 c))))

  pub step_leads : (n m : Node) → IsStep xs root refs t n m → Leads b n m
  step_leads n m s = let f = ahead n s.asker s.asked s.asks s.from s.reached in subst (λ z. Leads b n z) (same_node f.node m s.asked f.stands s.to) f.leads
