-- The cycles of the graph are those of references.
use Rattle.std.proofs.Common.{◌*◌, ◌≡◌, ℕ, zero, suc, ◌<◌, ◌+◌, ◌⊎◌, inl, inr, Bool, true, false, ◌||◌, List, [], ◌∷◌, length, Option, Some, None, refl, sym, ap, subst, ◌∙◌, slice_get, arith}
use Rattle.std.specs.Prelude.{IfSome}
use Rattle.std.proofs.lemmas.Option.{slice_get_within}
use Rattle.lists.proofs.Lemmas.{get_front, get_last, push_length as length_more, there as some_at}
use Rattle.graphs.specs.declared.cycles.Edge.{Edge}
use Rattle.graphs.specs.Cycles.Graph as G
use Rattle.graphs.specs.Cycles.Graph.{AreOnCycles, AreRanks, IsEdge, LeadsOn}
use Rattle.cddl_meaning.specs.Alike.{AlikeAll, both}
use Rattle.cddl_language.specs.Reach.{Point, at_name, at_unwrapping, at_choice, at_chosen_name, at_opened_choice, Reaches, ref_at, is_reference}
use Rattle.cddl_language.specs.Free.{IsOnCycle, LeadsBack}
use Rattle.cddl_language.specs.Terms.{Text, Ref, Definition}
use Rattle.check_terms.specs.declared.row.Form.{Form}
use Rattle.check_terms.specs.declared.row.Form.TheVariants as F
use Rattle.check_terms.specs.Table.{Table, Tree, Holds}
use Rattle.check_terms.specs.Trees.{term_tree, group_tree, entries_tree, entry_tree}
use Rattle.check_instances.specs.declared.closed.closed.Meaning.{Meaning}
use Rattle.check_instances.specs.Closed.Closed.{IsMeaning}
use Rattle.check_instances.specs.declared.openings.openings.Part.{Part}
use Rattle.check_instances.specs.declared.openings.openings.Part.TheVariants as PartV
use Rattle.check_recursion.specs.declared.node.Node.{Node}
use Rattle.check_recursion.specs.declared.node.Node.TheVariants as N
use Rattle.check_recursion.specs.Asking as A
use Rattle.check_recursion.specs.Asking.{Asked, a_point, AsksOn, IsReached}
use Rattle.check_recursion.specs.Edges as E
use Rattle.check_recursion.specs.Edges.{Known, Has, Leads, by_row, by_chosen, by_group, by_type, by_opening, by_choice, by_chosen_name, by_opened_choice, row_node, chosen_node, name_node, unwrapping_node, choice_node, place_of, flagged, when, asks_here, part_node, part_at, steps_by, chosen_by, all_edges, flags_below, is_told, has_reference, has_choice, AreFlags, of_references, of_choices, mark_at, mark_in}
use Rattle.check_recursion.specs.Order.{AreCycles, HasNoCycle}
use Rattle.check_recursion.specs.Standing.{IsStep, Stands, type_row, group_row, entries_row, entry_row, chosen_group_row, chosen_entries_row, chosen_entry_row, name_place, unwrapping_place, choice_place, chosen_name_place, opened_choice_place}
use Rattle.check_recursion.proofs.Freely as Fy
use Rattle.check_recursion.proofs.Freely.{In, in_list, contained}
use Rattle.check_recursion.proofs.Presence as P
use Rattle.check_recursion.proofs.Rows as W
use Rattle.check_recursion.proofs.Rows.{IsKnown, table_of}
use Rattle.check_recursion.proofs.Ahead as H
use Rattle.check_recursion.proofs.Numbers as U
use Rattle.check_recursion.proofs.Numbers.{Within, value}

in_slice : {X : Type 0} (xs : List X) (x : X) → In xs x → (k : ℕ) × (slice_get xs k ≡ Some x)
in_slice [] x h = absurd h
in_slice (y ∷ xs) x (inl e) = (0, ap Some e)
in_slice (y ∷ xs) x (inr h) = let r = in_slice xs x h in (suc r.0, r.1)

alike_length : {M L : Type 0} (R : M → L → Type 0) (ms : List M) (ls : List L) → AlikeAll R ms ls → length ms ≡ length ls
alike_length R [] [] h = refl
alike_length R [] (l ∷ ls) h = elim h [ ]
alike_length R (m ∷ ms) [] h = elim h [ ]
alike_length R (m ∷ ms) (l ∷ ls) (both h hs) = ap suc (alike_length R ms ls hs)

-- flags

same_flag : (x y : Bool) → Some x ≡ Some y → x ≡ y
same_flag x y e = cc

mark_true : (marks : List Bool) (o : Option ℕ) → mark_at marks o ≡ true → (i : ℕ) × (o ≡ Some i) × (slice_get marks i ≡ Some true)
mark_true marks None e = cc
mark_true marks (Some i) e = (i, refl, by (slice_get marks i) e)
  where
    by : (m : Option Bool) → mark_in m ≡ true → m ≡ Some true
    by None f = cc
    by (Some x) f = ap Some f

either_true : (x y : Bool) → x || y ≡ true → (x ≡ true) ⊎ (y ≡ true)
either_true true y e = inl refl
either_true false y e = inr e

true_is_false : true ≡ false → ⊥
true_is_false e = cc

or_first : (x y : Bool) → x ≡ true → x || y ≡ true
or_first true y e = refl
or_first false y e = cc

or_later : (x y : Bool) → y ≡ true → x || y ≡ true
or_later true y e = refl
or_later false y e = e

flags_length : (rows places : ℕ) (marks : List Bool) (c : Bool) (m : ℕ) → length (flags_below rows places marks c m) ≡ m
flags_length rows places marks c zero = refl
flags_length rows places marks c (suc m) = length_more (flags_below rows places marks c m) (is_told rows places marks c m) ∙ ap (λ k. k + 1) (flags_length rows places marks c m) ∙ next
  where
    next : m + 1 ≡ suc m
    next = omega arith

flag_at : (rows places : ℕ) (marks : List Bool) (c : Bool) (m k : ℕ) → k < m → slice_get (flags_below rows places marks c m) k ≡ Some (is_told rows places marks c k)
flag_at rows places marks c zero k h = absurd (omega (arith, h))
flag_at rows places marks c (suc m) k h = by (H.either_way k m) (λ g. flag_at rows places marks c m k g)
  where
    by : (k < m) ⊎ ((k ≡ m) ⊎ (m < k)) → (k < m → slice_get (flags_below rows places marks c m) k ≡ Some (is_told rows places marks c k)) → slice_get (flags_below rows places marks c (suc m)) k ≡ Some (is_told rows places marks c k)
    by (inl g) f = get_front (flags_below rows places marks c m) (is_told rows places marks c m ∷ []) k (is_told rows places marks c k) (f g)
    by (inr (inl g)) f = get_last (flags_below rows places marks c m) (is_told rows places marks c m) k (flags_length rows places marks c m ∙ sym g) ∙ ap (λ j. Some (is_told rows places marks c j)) (sym g)
    by (inr (inr g)) f = absurd (omega (arith, g, h))

-- ways over steps by rows and places

data Along (b : Known) : Node → Node → Type 0 where
  at_once : {n m : Node} → Leads b n m → Along b n m
  onwards : {n m c : Node} → Leads b n c → Along b c m → Along b n m

abbrev Star : Known → Node → Node → Type 0
Star b n m = (n ≡ m) ⊎ Along b n m

along_then : (b : Known) (n m c : Node) → Along b n m → Along b m c → Along b n c
along_then b n m c (at_once l) w = onwards l w
along_then b n m c (onwards {c = d} l v) w = onwards l (along_then b d m c v w)

star_last : (b : Known) (n m c : Node) → Along b n m → Star b m c → Along b n c
star_last b n m c w (inl e) = subst (λ x. Along b n x) e w
star_last b n m c w (inr v) = along_then b n m c w v

star_front : (b : Known) (n c m : Node) → Leads b n c → Star b c m → Star b n m
star_front b n c m l (inl e) = inr (subst (λ x. Along b n x) e (at_once l))
star_front b n c m l (inr w) = inr (onwards l w)

abbrev height : Node → ℕ
height (N.Row n) = suc n
height (N.Chosen n) = suc n
height (N.Name k) = 0
height (N.Unwrapping k) = 0
height (N.Choice k) = 0
height (N.ChosenName k) = 0
height (N.OpenedChoice k) = 0

same_node : (n m : Node) → Some n ≡ Some m → n ≡ m
same_node n m e = cc

low_row : (k : ℕ) (o : Option ℕ) (m : Node) → IfSome o (λ i. i < k) → row_node o ≡ Some m → height m < suc k
low_row k None m h e = cc
low_row k (Some i) m h e = subst (λ x. height x < suc k) (same e) (omega (arith, h))
  where
    same : Some (N.Row i) ≡ Some m → N.Row i ≡ m
    same e = cc

low_chosen : (k : ℕ) (o : Option ℕ) (m : Node) → IfSome o (λ i. i < k) → chosen_node o ≡ Some m → height m < suc k
low_chosen k None m h e = cc
low_chosen k (Some i) m h e = subst (λ x. height x < suc k) (same e) (omega (arith, h))
  where
    same : Some (N.Chosen i) ≡ Some m → N.Chosen i ≡ m
    same e = cc

low_name : (k : ℕ) (o : Option ℕ) (m : Node) → name_node o ≡ Some m → height m < suc k
low_name k o m e = subst (λ x. height x < suc k) (sym (W.is_name o m e).2) (omega arith)

low_unwrapping : (k : ℕ) (o : Option ℕ) (m : Node) → unwrapping_node o ≡ Some m → height m < suc k
low_unwrapping k o m e = subst (λ x. height x < suc k) (sym (W.is_unwrapping o m e).2) (omega arith)

low_choice : (k : ℕ) (o : Option ℕ) (m : Node) → choice_node o ≡ Some m → height m < suc k
low_choice k o m e = subst (λ x. height x < suc k) (sym (W.is_choice o m e).2) (omega arith)

low_part : (k : ℕ) (q : Part) (m : Node) → part_node q ≡ Some m → height m < suc k
low_part k PartV.AsksType m e = cc
low_part k (PartV.NamesGroup j) m e = subst (λ x. height x < suc k) (same_node (N.Name j) m e) (omega arith)
low_part k (PartV.Opens j i) m e = subst (λ x. height x < suc k) (same_node (N.Unwrapping j) m e) (omega arith)

low_chosen_part : (k : ℕ) (o : Option ℕ) (q : Part) (m : Node) → IfSome o (λ i. i < k) → E.chosen_part o q ≡ Some m → height m < suc k
low_chosen_part k o PartV.AsksType m h e = low_row k o m h e
low_chosen_part k o (PartV.NamesGroup j) m h e = subst (λ x. height x < suc k) (same_node (N.ChosenName j) m e) (omega arith)
low_chosen_part k o (PartV.Opens j i) m h e = subst (λ x. height x < suc k) (same_node (N.OpenedChoice j) m e) (omega arith)

low_when : (k : ℕ) (c : Bool) (o : Option ℕ) (m : Node) → IfSome o (λ i. i < k) → row_node (when c o) ≡ Some m → height m < suc k
low_when k true o m h e = low_row k o m h e
low_when k false o m h e = cc

low_after : (k : ℕ) (f o : Option ℕ) (m : Node) → IfSome o (λ i. i < k) → row_node (E.if_some f o) ≡ Some m → height m < suc k
low_after k None o m h e = cc
low_after k (Some j) o m h e = low_row k o m h e

two_low : (k : ℕ) (p q : Option Node) (m : Node) → (p ≡ Some m → height m < suc k) → (q ≡ Some m → height m < suc k) → Has (E.both p q) m → height m < suc k
two_low k p q m f g (inl e) = f e
two_low k p q m f g (inr e) = g e

row_low : (b : Known) (f : Form) (x o p : Option ℕ) (m : Node) (k : ℕ) → IfSome o (λ i. i < k) → IfSome p (λ i. i < k) → Has (steps_by b f x o p) m → height m < suc k
row_low b F.Named x o p m k g h l = low_name k (place_of b.places o) m (W.only _ m l)
row_low b F.Unwrapped x o p m k g h l = low_unwrapping k (place_of b.places o) m (W.only _ m l)
row_low b F.ChoiceOfName x o p m k g h l = low_choice k (place_of b.places o) m (W.only _ m l)
row_low b F.ChoiceOf x o p m k g h l = low_chosen k o m g (W.only _ m l)
row_low b F.Parens x o p m k g h l = low_row k o m g (W.only _ m l)
row_low b F.ArrayOf x o p m k g h l = low_row k o m g (W.only _ m l)
row_low b F.SimpleBy x o p m k g h l = low_row k o m g (W.only _ m l)
row_low b F.Sole x o p m k g h l = low_row k o m g (W.only _ m l)
row_low b F.Grouped x o p m k g h l = low_row k o m g (W.only _ m l)
row_low b F.Or x o p m k g h l = two_low k (row_node o) (row_node p) m (low_row k o m g) (low_row k p m h) l
row_low b F.OrElse x o p m k g h l = two_low k (row_node o) (row_node p) m (low_row k o m g) (low_row k p m h) l
row_low b F.Control x o p m k g h l = two_low k (row_node o) (row_node (when (asks_here b.texts x) p)) m (low_row k o m g) (low_when k (asks_here b.texts x) p m h) l
row_low b F.Entries x o p m k g h l = two_low k (row_node o) (row_node (E.if_some (flagged b.may_be_empty o) p)) m (low_row k o m g) (low_after k (flagged b.may_be_empty o) p m h) l
row_low b F.EntriesComma x o p m k g h l = two_low k (row_node o) (row_node (E.if_some (flagged b.may_be_empty o) p)) m (low_row k o m g) (low_after k (flagged b.may_be_empty o) p m h) l
row_low b F.Typed x o p m k g h l = low_part k (part_at b.parts o) m (W.only _ m l)
row_low b _ x o p m k g h l = absurd (W.nowhere m l)

chosen_low : (b : Known) (f : Form) (o p : Option ℕ) (m : Node) (k : ℕ) → IfSome o (λ i. i < k) → IfSome p (λ i. i < k) → Has (chosen_by b f o p) m → height m < suc k
chosen_low b F.Sole o p m k g h l = low_chosen k o m g (W.only _ m l)
chosen_low b F.Grouped o p m k g h l = low_chosen k o m g (W.only _ m l)
chosen_low b F.OrElse o p m k g h l = two_low k (chosen_node o) (chosen_node p) m (low_chosen k o m g) (low_chosen k p m h) l
chosen_low b F.Entries o p m k g h l = two_low k (chosen_node o) (chosen_node p) m (low_chosen k o m g) (low_chosen k p m h) l
chosen_low b F.EntriesComma o p m k g h l = two_low k (chosen_node o) (chosen_node p) m (low_chosen k o m g) (low_chosen k p m h) l
chosen_low b F.Typed o p m k g h l = low_chosen_part k o (part_at b.parts o) m g (W.only _ m l)
chosen_low b F.Keyed o p m k g h l = low_row k p m h (W.only _ m l)
chosen_low b _ o p m k g h l = absurd (W.nowhere m l)

abbrev pub RanksOrCycles : Type 0
RanksOrCycles = (nodes : ℕ) (edges : List Edge) (ranks : List ℕ) → AreRanks nodes edges ranks → (i : ℕ) → LeadsOn nodes edges i i → ⊥

module _ (xs : List Definition) (root : Text) (refs : List Ref) (b : Known) (is : IsKnown xs root refs b) (rows places : ℕ) (rows_all : rows ≡ length b.rows) (places_all : places ≡ length b.meanings) where
  abbrev t : Table
  t = table_of b

  abbrev edges : List Edge
  edges = all_edges rows places b

  abbrev nodes : ℕ
  nodes = 2 * rows + 5 * places

  all_refs : places ≡ length refs
  all_refs = places_all ∙ sym (alike_length (IsMeaning xs t) refs b.meanings is.meanings)

  row_within : (n : ℕ) (y : Tree) → Holds t (Some n) y → n < rows
  row_within n y h = subst (λ z. n < z) (sym rows_all) (W.holds_within t n y h)

  place_within : (k : ℕ) (r : Ref) → slice_get refs k ≡ Some r → k < places
  place_within k r e = subst (λ z. k < z) (sym all_refs) (slice_get_within refs k r e)

  pub stands_within : (n : Node) (a : Asked) → Stands t refs n a → Within rows places n
  stands_within n a (type_row {n = k} {x = x} h) = row_within k (term_tree x) h
  stands_within n a (group_row {n = k} {g = g} h) = row_within k (group_tree g) h
  stands_within n a (entries_row {n = k} {es = es} h) = row_within k (entries_tree es) h
  stands_within n a (entry_row {n = k} {e = x} h) = row_within k (entry_tree x) h
  stands_within n a (chosen_group_row {n = k} {g = g} h) = row_within k (group_tree g) h
  stands_within n a (chosen_entries_row {n = k} {es = es} h) = row_within k (entries_tree es) h
  stands_within n a (chosen_entry_row {n = k} {e = x} h) = row_within k (entry_tree x) h
  stands_within n a (name_place {k = k} {r = r} e) = place_within k r e
  stands_within n a (unwrapping_place {k = k} {r = r} e) = place_within k r e
  stands_within n a (choice_place {k = k} {r = r} e) = place_within k r e
  stands_within n a (chosen_name_place {k = k} {r = r} e) = place_within k r e
  stands_within n a (opened_choice_place {k = k} {r = r} e) = place_within k r e

  edge_there : (n m : Node) → Leads b n m → Within rows places n → Within rows places m → IsEdge nodes edges (value rows places n) (value rows places m)
  edge_there n m l h g =
      let i = U.is_made rows places b n m (value rows places n) (value rows places m) l (U.is_number rows places n h) (U.is_number rows places m g) in
      let p = in_slice edges (record { from = value rows places n; to = value rows places m }) i in
      record { place = p.0; there = p.1; begins = U.below rows places n h; ends = U.below rows places m g }

  up : (a c : Asked) → AsksOn xs a c → (n : Node) → Stands t refs n a → IsReached xs root a → (m : Node) × (Stands t refs m c) × LeadsOn nodes edges (value rows places n) (value rows places m)
  up a c (A.at_once s) n h d =
      let f = H.ahead xs root refs b is n a c s h d in
      (f.node, f.stands, G.at_once (edge_there n f.node f.leads (stands_within n a h) (stands_within f.node c f.stands)))
  up a c (A.onwards {b = y} s w) n h d =
      let f = H.ahead xs root refs b is n a y s h d in
      let r = up y c w f.node f.stands (P.reached xs root is.on a y s d) in
      (r.0, r.1, G.onwards (edge_there n f.node f.leads (stands_within n a h) (stands_within f.node y f.stands)) r.2)

  abbrev point_node : Point → ℕ → Node
  point_node (at_name r) k = N.Name k
  point_node (at_unwrapping r) k = N.Unwrapping k
  point_node (at_choice r) k = N.Choice k
  point_node (at_chosen_name r) k = N.ChosenName k
  point_node (at_opened_choice r) k = N.OpenedChoice k

  stands_point : (p : Point) (k : ℕ) → slice_get refs k ≡ Some (ref_at p) → Stands t refs (point_node p k) (a_point p)
  stands_point (at_name r) k e = name_place e
  stands_point (at_unwrapping r) k e = unwrapping_place e
  stands_point (at_choice r) k e = choice_place e
  stands_point (at_chosen_name r) k e = chosen_name_place e
  stands_point (at_opened_choice r) k e = opened_choice_place e

  abbrev Comes : Node → Type 0
  Comes n = LeadsOn nodes edges (value rows places n) (value rows places n)

  cycle_up : (p : Point) → LeadsBack xs root p → (k : ℕ) → slice_get refs k ≡ Some (ref_at p) → Comes (point_node p k)
  cycle_up p c k e =
      let n = point_node p k in
      let r = up (a_point p) (a_point p) (Fy.leads_on_asks xs p p c.way) n (stands_point p k e) (P.lone xs root p c.instance) in
      subst (λ m. LeadsOn nodes edges (value rows places n) (value rows places m)) (H.same_node xs root refs b is r.0 n (a_point p) r.1 (stands_point p k e)) r.2

  -- the place of a point that leads back
  place_of_point : (p : Point) → LeadsBack xs root p → (k : ℕ) × (slice_get refs k ≡ Some (ref_at p))
  place_of_point p c = in_slice refs (ref_at p) (in_list refs (ref_at p) (is.instances.all (ref_at p) c.instance))

  down : (i j : ℕ) → LeadsOn nodes edges i j → (n : Node) → E.number rows places n ≡ Some i → (m : Node) × (Along b n m) × (E.number rows places m ≡ Some j)
  down i j (G.at_once e) n h =
      let d = U.made rows places b (record { from = i; to = j }) (W.slice_in edges e.place (record { from = i; to = j }) e.there) in
      (d.to, at_once (subst (λ x. Leads b x d.to) (U.same_number rows places d.from n i d.from_is h) d.leads), d.to_is)
  down i j (G.onwards {b = k} e w) n h =
      let d = U.made rows places b (record { from = i; to = k }) (W.slice_in edges e.place (record { from = i; to = k }) e.there) in
      let r = down k j w d.to d.to_is in
      (r.0, onwards (subst (λ x. Leads b x d.to) (U.same_number rows places d.from n i d.from_is h) d.leads) r.1, r.2)

  along_asks : (n m : Node) → Along b n m → (a : Asked) → Stands t refs n a → IsReached xs root a → (c : Asked) × (AsksOn xs a c) × (Stands t refs m c)
  along_asks n m (at_once l) a h d =
      let x = W.sound xs root refs b is n m a h d l in
      (x.next, A.at_once x.asks, x.stands)
  along_asks n m (onwards {c = y} l w) a h d =
      let x = W.sound xs root refs b is n y a h d l in
      let r = along_asks y m w x.next x.stands (P.reached xs root is.on a x.next x.asks d) in
      (r.0, A.onwards x.asks r.1, r.2)

  same_ref_at : (k : ℕ) (r s : Ref) → slice_get refs k ≡ Some r → slice_get refs k ≡ Some s → s ≡ r
  same_ref_at k r s e f = cc

  name_asked : (k : ℕ) (r : Ref) (c : Asked) → slice_get refs k ≡ Some r → Stands t refs (N.Name k) c → c ≡ a_point (at_name r)
  name_asked k r c e (name_place {r = s} f) = ap (λ x. a_point (at_name x)) (same_ref_at k r s e f)

  unwrapping_asked : (k : ℕ) (r : Ref) (c : Asked) → slice_get refs k ≡ Some r → Stands t refs (N.Unwrapping k) c → c ≡ a_point (at_unwrapping r)
  unwrapping_asked k r c e (unwrapping_place {r = s} f) = ap (λ x. a_point (at_unwrapping x)) (same_ref_at k r s e f)

  choice_asked : (k : ℕ) (r : Ref) (c : Asked) → slice_get refs k ≡ Some r → Stands t refs (N.Choice k) c → c ≡ a_point (at_choice r)
  choice_asked k r c e (choice_place {r = s} f) = ap (λ x. a_point (at_choice x)) (same_ref_at k r s e f)

  chosen_name_asked : (k : ℕ) (r : Ref) (c : Asked) → slice_get refs k ≡ Some r → Stands t refs (N.ChosenName k) c → c ≡ a_point (at_chosen_name r)
  chosen_name_asked k r c e (chosen_name_place {r = s} f) = ap (λ x. a_point (at_chosen_name x)) (same_ref_at k r s e f)

  opened_choice_asked : (k : ℕ) (r : Ref) (c : Asked) → slice_get refs k ≡ Some r → Stands t refs (N.OpenedChoice k) c → c ≡ a_point (at_opened_choice r)
  opened_choice_asked k r c e (opened_choice_place {r = s} f) = ap (λ x. a_point (at_opened_choice x)) (same_ref_at k r s e f)

  point_asked : (p : Point) (k : ℕ) (c : Asked) → slice_get refs k ≡ Some (ref_at p) → Stands t refs (point_node p k) c → c ≡ a_point p
  point_asked (at_name r) k c e h = name_asked k r c e h
  point_asked (at_unwrapping r) k c e h = unwrapping_asked k r c e h
  point_asked (at_choice r) k c e h = choice_asked k r c e h
  point_asked (at_chosen_name r) k c e h = chosen_name_asked k r c e h
  point_asked (at_opened_choice r) k c e h = opened_choice_asked k r c e h

  instance_reached : (k : ℕ) (r : Ref) → slice_get refs k ≡ Some r → Reaches xs root r
  instance_reached k r e = is.instances.only r (contained refs r (W.slice_in refs k r e))

  comes_back : (p : Point) (k : ℕ) → slice_get refs k ≡ Some (ref_at p) → (m : Node) → Along b (point_node p k) m → m ≡ point_node p k → LeadsBack xs root p
  comes_back p k e m v f =
      let h = instance_reached k (ref_at p) e in
      let r = along_asks (point_node p k) m v (a_point p) (stands_point p k e) (P.lone xs root p h) in
      let same = point_asked p k r.0 e (subst (λ x. Stands t refs x r.0) f r.2) in
      record { instance = h; way = Fy.asks_leads_on xs p p (subst (λ x. AsksOn xs (a_point p) x) same r.1) }

  cycle_down : (p : Point) (k : ℕ) → slice_get refs k ≡ Some (ref_at p) → Comes (point_node p k) → LeadsBack xs root p
  cycle_down p k e w =
      let i : E.number rows places (point_node p k) ≡ Some (value rows places (point_node p k)) = U.is_number rows places (point_node p k) (stands_within (point_node p k) (a_point p) (stands_point p k e)) in
      let d = down (value rows places (point_node p k)) (value rows places (point_node p k)) w (point_node p k) i in
      comes_back p k e d.0 d.1 (U.same_number rows places d.0 (point_node p k) (value rows places (point_node p k)) d.2 i)

  -- flags of the instances

  module _ (marks : List Bool) (are : AreOnCycles nodes edges marks) where
    abbrev mark : Node → Bool
    mark n = mark_at marks (E.number rows places n)

    is_comes : (n : Node) (i : ℕ) → E.number rows places n ≡ Some i → slice_get marks i ≡ Some true → Comes n
    is_comes n i e f = let v = (U.number_is rows places n i e).1 in subst (λ j. LeadsOn nodes edges j j) (sym v) ((are.each i).0 f)

    -- the mark of a point's node tells whether the point leads back
    marked_back : (p : Point) (k : ℕ) → slice_get refs k ≡ Some (ref_at p) → mark (point_node p k) ≡ true → LeadsBack xs root p
    marked_back p k e f =
        let m = mark_true marks (E.number rows places (point_node p k)) f in
        cycle_down p k e (is_comes (point_node p k) m.0 m.1 m.2)

    back_marked : (p : Point) (k : ℕ) → slice_get refs k ≡ Some (ref_at p) → LeadsBack xs root p → mark (point_node p k) ≡ true
    back_marked p k e c =
        let n = point_node p k in
        let i = U.is_number rows places n (stands_within n (a_point p) (stands_point p k e)) in
        let f = (are.each (value rows places n)).1 (cycle_up p c k e) in
        ap (mark_at marks) i ∙ ap mark_in f

    -- a point with this reference leads back: one of the references or not
    abbrev Found : Bool → Ref → Type 0
    Found c r = (p : Point) × (ref_at p ≡ r) × (is_reference p ≡ c) × LeadsBack xs root p

    reference_found : (k : ℕ) (r : Ref) → slice_get refs k ≡ Some r → has_reference rows places marks k ≡ true → Found true r
    reference_found k r e f = by (either_true (mark (N.Name k)) (mark (N.Unwrapping k) || mark (N.Choice k)) f)
      where
        later : (mark (N.Unwrapping k) ≡ true) ⊎ (mark (N.Choice k) ≡ true) → Found true r
        later (inl g) = (at_unwrapping r, refl, refl, marked_back (at_unwrapping r) k e g)
        later (inr g) = (at_choice r, refl, refl, marked_back (at_choice r) k e g)

        by : (mark (N.Name k) ≡ true) ⊎ (mark (N.Unwrapping k) || mark (N.Choice k) ≡ true) → Found true r
        by (inl g) = (at_name r, refl, refl, marked_back (at_name r) k e g)
        by (inr g) = later (either_true (mark (N.Unwrapping k)) (mark (N.Choice k)) g)

    choice_found : (k : ℕ) (r : Ref) → slice_get refs k ≡ Some r → has_choice rows places marks k ≡ true → Found false r
    choice_found k r e f = by (either_true (mark (N.ChosenName k)) (mark (N.OpenedChoice k)) f)
      where
        by : (mark (N.ChosenName k) ≡ true) ⊎ (mark (N.OpenedChoice k) ≡ true) → Found false r
        by (inl g) = (at_chosen_name r, refl, refl, marked_back (at_chosen_name r) k e g)
        by (inr g) = (at_opened_choice r, refl, refl, marked_back (at_opened_choice r) k e g)

    -- whether a point of this sort at the place has a mark
    point_told : (p : Point) (k : ℕ) → mark (point_node p k) ≡ true → is_told rows places marks (is_reference p) k ≡ true
    point_told (at_name r) k e = or_first (mark (N.Name k)) (mark (N.Unwrapping k) || mark (N.Choice k)) e
    point_told (at_unwrapping r) k e = or_later (mark (N.Name k)) (mark (N.Unwrapping k) || mark (N.Choice k)) (or_first (mark (N.Unwrapping k)) (mark (N.Choice k)) e)
    point_told (at_choice r) k e = or_later (mark (N.Name k)) (mark (N.Unwrapping k) || mark (N.Choice k)) (or_later (mark (N.Unwrapping k)) (mark (N.Choice k)) e)
    point_told (at_chosen_name r) k e = or_first (mark (N.ChosenName k)) (mark (N.OpenedChoice k)) e
    point_told (at_opened_choice r) k e = or_later (mark (N.ChosenName k)) (mark (N.OpenedChoice k)) e

    back_told : (p : Point) (k : ℕ) → slice_get refs k ≡ Some (ref_at p) → LeadsBack xs root p → is_told rows places marks (is_reference p) k ≡ true
    back_told p k e c = point_told p k (back_marked p k e c)

    -- flags of points of one sort
    module _ (c : Bool) where
      abbrev flags : List Bool
      flags = flags_below rows places marks c places

      flag_there : (k : ℕ) (r : Ref) → slice_get refs k ≡ Some r → slice_get flags k ≡ Some (is_told rows places marks c k)
      flag_there k r e = flag_at rows places marks c places k (place_within k r e)

      flag_told : (k : ℕ) (r : Ref) → slice_get refs k ≡ Some r → slice_get flags k ≡ Some true → is_told rows places marks c k ≡ true
      flag_told k r e f = same_flag (is_told rows places marks c k) true (sym (flag_there k r e) ∙ f)

      back_flagged : (p : Point) (k : ℕ) → slice_get refs k ≡ Some (ref_at p) → is_reference p ≡ c → LeadsBack xs root p → slice_get flags k ≡ Some true
      back_flagged p k e f b = flag_there k (ref_at p) e ∙ ap Some (subst (λ x. is_told rows places marks x k ≡ true) f (back_told p k e b))

      flags_all : length flags ≡ length refs
      flags_all = flags_length rows places marks c places ∙ all_refs

    abbrev Told : Ref → Type 0
    Told r = (p : Point) × (ref_at p ≡ r) × IsOnCycle xs root p

    place_there : (k : ℕ) → k < places → (r : Ref) × (slice_get refs k ≡ Some r)
    place_there k h = some_at refs k (subst (λ n. k < n) all_refs h)

    -- where a reference leads back
    module _ (j : ℕ) (within : j < places) (some : has_reference rows places marks j ≡ true) where
      counted : (r : Ref) → Found true r → Told r
      counted r f = (f.0, f.1, record { back = f.3; counts = inl f.2 })

      a_reference : (r : Ref) × Found true r
      a_reference = let r = place_there j within in (r.0, reference_found j r.0 r.1 some)

      is_counted : (p : Point) → IsOnCycle xs root p → is_reference p ≡ true
      is_counted p c = by c.counts
        where
          by : (is_reference p ≡ true) ⊎ ((q : Point) → is_reference q ≡ true → LeadsBack xs root q → ⊥) → is_reference p ≡ true
          by (inl e) = e
          by (inr none) = let f = a_reference.1 in absurd (none f.0 f.2 f.3)

      references_cycles : AreCycles xs root refs (flags_below rows places marks true places)
      references_cycles = record {
        all = flags_all true;
        each = λ k r e. (λ f. counted r (reference_found k r e (flag_told true k r e f)), λ c. back_flagged true c.0 k (e ∙ ap Some (sym c.1)) (is_counted c.0 c.2) c.2.back);
        one = let c = counted a_reference.0 a_reference.1 in (c.0, c.2);
      }

    -- where none does
    module _ (none : (k : ℕ) → k < places → has_reference rows places marks k ≡ false) (some : (p : Point) × LeadsBack xs root p) where
      no_reference : (q : Point) → is_reference q ≡ true → LeadsBack xs root q → ⊥
      no_reference q e b =
          let k = place_of_point q b in
          true_is_false (sym (subst (λ x. is_told rows places marks x k.0 ≡ true) e (back_told q k.0 k.1 b)) ∙ none k.0 (place_within k.0 (ref_at q) k.1))

      is_choice : (p : Point) → LeadsBack xs root p → is_reference p ≡ false
      is_choice p b = by (is_reference p) refl
        where
          by : (c : Bool) → is_reference p ≡ c → c ≡ false
          by true e = absurd (no_reference p e b)
          by false e = refl

      counted_choice : (r : Ref) → Found false r → Told r
      counted_choice r f = (f.0, f.1, record { back = f.3; counts = inr no_reference })

      choices_cycles : AreCycles xs root refs (flags_below rows places marks false places)
      choices_cycles = record {
        all = flags_all false;
        each = λ k r e. (λ f. counted_choice r (choice_found k r e (flag_told false k r e f)), λ c. back_flagged false c.0 k (e ∙ ap Some (sym c.1)) (is_choice c.0 c.2.back) c.2.back);
        one = (some.0, record { back = some.1; counts = inr no_reference });
      }

    flags_are : (some : (p : Point) × LeadsBack xs root p) (told : List Bool) → AreFlags rows places marks told → AreCycles xs root refs told
    flags_are some told (of_references {k = k} h f e) = subst (AreCycles xs root refs) (sym e) (references_cycles k h f)
    flags_are some told (of_choices none e) = subst (AreCycles xs root refs) (sym e) (choices_cycles none some)

  -- ranks

  pub ranked_no_cycle : RanksOrCycles → (ranks : List ℕ) → AreRanks nodes edges ranks → HasNoCycle xs root refs
  ranked_no_cycle law ranks are p c = let k = place_of_point p c in law nodes edges ranks are (value rows places (point_node p k.0)) (cycle_up p c k.0 k.1)

  pub step_edge : (n m : Node) → IsStep xs root refs t n m → IsEdge nodes edges (value rows places n) (value rows places m)
  step_edge n m s = edge_there n m (H.step_leads xs root refs b is n m s) (stands_within n s.asker s.from) (stands_within m s.asked s.to)

  -- Each cycle goes through the node of a reference: from a row the steps go to smaller rows or to references.

  record IsPoint (n : Node) : Type 0 where
    point : Point
    place : ℕ
    there : slice_get refs place ≡ Some (ref_at point)
    node : n ≡ point_node point place

  instance_at : (k : ℕ) (w : Meaning) → slice_get b.meanings k ≡ Some w → (r : Ref) × (slice_get refs k ≡ Some r) × IsMeaning xs t r w
  instance_at k w e = W.alike_there (IsMeaning xs t) refs b.meanings is.meanings k w e

  sort : (n m : Node) → Leads b n m → IsPoint n ⊎ (height m < height n)
  sort n m (by_row {n = k} {r = r} e h) = let i = is.table.earlier k r e in inr (row_low b r.form r.text r.first r.second m k i.1 i.2 h)
  sort n m (by_chosen {n = k} {r = r} e h) = let i = is.table.earlier k r e in inr (chosen_low b r.form r.first r.second m k i.1 i.2 h)
  sort n m (by_group {k = k} {w = w} e c h) = let r = instance_at k w e in inl (record { point = at_name r.0; place = k; there = r.1; node = refl })
  sort n m (by_type {k = k} {w = w} e c h) = let r = instance_at k w e in inl (record { point = at_name r.0; place = k; there = r.1; node = refl })
  sort n m (by_opening {k = k} {w = w} e h) = let r = instance_at k w e in inl (record { point = at_unwrapping r.0; place = k; there = r.1; node = refl })
  sort n m (by_choice {k = k} {w = w} e) = let r = instance_at k w e in inl (record { point = at_choice r.0; place = k; there = r.1; node = refl })
  sort n m (by_chosen_name {k = k} {w = w} e h) = let r = instance_at k w e in inl (record { point = at_chosen_name r.0; place = k; there = r.1; node = refl })
  sort n m (by_opened_choice {k = k} {w = w} e h) = let r = instance_at k w e in inl (record { point = at_opened_choice r.0; place = k; there = r.1; node = refl })

  abbrev Through : Node → Node → Type 0
  Through n m = (c : Node) × (IsPoint c) × (Star b n c) × (Along b c m)

  through : (n m : Node) → Along b n m → Through n m ⊎ (height m < height n)
  through n m (at_once l) = by (sort n m l)
    where
      by : IsPoint n ⊎ (height m < height n) → Through n m ⊎ (height m < height n)
      by (inl h) = inl (n, h, inl refl, at_once l)
      by (inr h) = inr h
  through n m (onwards {c = y} l w) = by (sort n y l) (through y m w)
    where
      by : IsPoint n ⊎ (height y < height n) → Through y m ⊎ (height m < height y) → Through n m ⊎ (height m < height n)
      by (inl h) g = inl (n, h, inl refl, onwards l w)
      by (inr h) (inl g) = inl (g.0, g.1, star_front b n y g.0 l g.2, g.3)
      by (inr h) (inr g) = inr (omega (arith, h, g))

  point_comes_back : (n : Node) → Along b n n → (p : Point) × LeadsBack xs root p
  point_comes_back n w = by (through n n w)
    where
      by : Through n n ⊎ (height n < height n) → (p : Point) × LeadsBack xs root p
      by (inl (c, h, f, g)) = (h.point, comes_back h.point h.place h.there c (subst (λ x. Along b x c) h.node (star_last b c n c g f)) h.node)
      by (inr h) = absurd (omega (arith, h))

  from_edge : (i j : ℕ) → LeadsOn nodes edges i j → (n : Node) × (E.number rows places n ≡ Some i)
  from_edge i j (G.at_once e) = let d = U.made rows places b (record { from = i; to = j }) (W.slice_in edges e.place (record { from = i; to = j }) e.there) in (d.from, d.from_is)
  from_edge i j (G.onwards {b = k} e w) = let d = U.made rows places b (record { from = i; to = k }) (W.slice_in edges e.place (record { from = i; to = k }) e.there) in (d.from, d.from_is)

  node_comes_back : (i : ℕ) → LeadsOn nodes edges i i → (p : Point) × LeadsBack xs root p
  node_comes_back i w =
      let n = from_edge i i w in
      let d = down i i w n.0 n.1 in
      point_comes_back n.0 (subst (λ m. Along b n.0 m) (U.same_number rows places d.0 n.0 i d.2 n.1) d.1)

  pub flags_cycles : (marks : List Bool) → AreOnCycles nodes edges marks → (flags : List Bool) → AreFlags rows places marks flags → AreCycles xs root refs flags
  flags_cycles marks are flags told = flags_are marks are (node_comes_back are.one.0 ((are.each are.one.0).0 are.one.1)) flags told
