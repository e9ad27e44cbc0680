-- The order of the graph is that of the specification.
use Rattle.std.proofs.Common.{◌≡◌, ℕ, ◌<◌, ◌≤◌, Bool, List, length, Option, Some, None, refl, sym, ap, subst, ◌∙◌, slice_get, arith}
use Rattle.std.specs.Prelude.{◌↔◌, Result, Ok, Err, IfOk}
use Rattle.lists.proofs.Lemmas.{there as some_at}
use Rattle.graphs.specs.declared.cycles.Edge.{Edge}
use Rattle.cddl_language.specs.Terms.{Definition, Ref, Text}
use Rattle.check_terms.specs.Table.{Holds, Table, Tree}
use Rattle.check_terms.specs.Trees.{IsRef, term_tree}
use Rattle.check_names.specs.declared.kinds.kinds.Kinds.{Kinds}
use Rattle.check_names.specs.Kinds.Kinds.{AreKinds}
use Rattle.check_instances.specs.declared.closed.closed.Closed.{Closed}
use Rattle.check_instances.specs.Closed.Closed.{IsClosed}
use Rattle.check_instances.specs.declared.openings.openings.Opening.{Opening}
use Rattle.check_instances.specs.declared.openings.openings.Part.{Part}
use Rattle.check_instances.specs.Openings.Openings.{AreOpenings}
use Rattle.check_groups.specs.Choosing.Choosing.{AreChoosable}
use Rattle.check_groups.specs.Empty.Empty.{AreEmpty}
use Rattle.check_recursion.specs.declared.graph.Order.{Order}
use Rattle.check_recursion.specs.declared.graph.Order.TheVariants as OrderV
use Rattle.check_recursion.specs.declared.graph.Ranks.{Ranks}
use Rattle.check_recursion.specs.declared.node.Layout.{Layout}
use Rattle.check_recursion.specs.declared.node.Node.{Node}
use Rattle.check_recursion.specs.Edges.{Known, all_edges, number}
use Rattle.check_recursion.specs.Order.{AreRanked, AreRanksOf, AreParts, IsOrder, IsOrdered, nodes_of, rank, rank_at, rank_in}
use Rattle.check_recursion.specs.Standing.{IsStep}
use Rattle.check_recursion.proofs.Presence.{AreInstancesOn}
use Rattle.check_recursion.proofs.Rows.{IsKnown, holds_within, table_of}
use Rattle.check_recursion.proofs.Numbers.{is_number, value}
use Rattle.check_recursion.proofs.Cycling.{RanksOrCycles, flags_cycles, ranked_no_cycle, stands_within, step_edge}

pub if_ok : {A E : Type 0} (r : Result A E) (P Q : A → Type 0) → ((x : A) → P x → Q x) → IfOk r P → IfOk r Q
if_ok (Ok x) P Q f h = f x h
if_ok (Err e) P Q f h = h

low_rank : (ranks : List ℕ) (most : ℕ) → ((i r : ℕ) → slice_get ranks i ≡ Some r → r < most) → (o : Option ℕ) → rank_at ranks o ≤ most
low_rank ranks most below None = omega arith
low_rank ranks most below (Some i) = by (slice_get ranks i) refl
  where
    by : (r : Option ℕ) → slice_get ranks i ≡ r → rank_in r ≤ most
    by None e = omega arith
    by (Some r) e = let h = below i r e in omega (arith, h)

module _ (xs : List Definition) (root : Text) (refs : List Ref) (b : Known) (is : IsKnown xs root refs b) (l : Layout) (rows_all : l.rows ≡ length b.rows) (places_all : l.places ≡ length b.meanings) (law : RanksOrCycles) where
  abbrev edges : List Edge
  edges = all_edges l.rows l.places b

  module _ (r : Ranks) (of : AreRanksOf l edges r) where
    there : (n : Node) (i : ℕ) → i < nodes_of l → number l.rows l.places n ≡ Some i → (v : ℕ) × (slice_get r.ranks.items i ≡ Some v) × (rank r n ≡ v)
    there n i h e =
        let v = some_at r.ranks.items i (subst (λ k. i < k) (sym of.ranks.all) h) in
        (v.0, v.1, ap (λ (k : Layout). rank_at r.ranks.items (number k.rows k.places n)) of.layout ∙ ap (rank_at r.ranks.items) e ∙ ap rank_in v.1)

    goes_down : (n m : Node) → IsStep xs root refs (table_of b) n m → rank r m < rank r n
    goes_down n m s =
        let e = step_edge xs root refs b is l.rows l.places rows_all places_all n m s in
        let v = there n (value l.rows l.places n) e.begins (is_number l.rows l.places n (stands_within xs root refs b is l.rows l.places rows_all places_all n s.asker s.from)) in
        let w = there m (value l.rows l.places m) e.ends (is_number l.rows l.places m (stands_within xs root refs b is l.rows l.places rows_all places_all m s.asked s.to)) in
        subst (λ x. x < rank r n) (sym w.2) (subst (λ x. w.0 < x) (sym v.2) (of.ranks.down (value l.rows l.places n) (value l.rows l.places m) v.0 w.0 e v.1 w.1))

    are_ranked : AreRanked xs root refs (table_of b) r
    are_ranked = record {
      no_cycle = ranked_no_cycle xs root refs b is l.rows l.places rows_all places_all law r.ranks.items of.ranks;
      down = goes_down;
      most = λ n. low_rank r.ranks.items (length r.ranks.items) (λ i v e. subst (λ k. v < k) (sym of.ranks.all) (of.ranks.below i v e)) (number r.layout.rows r.layout.places n);
    }

  pub order_is : (o : Order) → IsOrdered l edges o → IsOrder xs root refs (table_of b) o
  order_is (OrderV.Ranks r) h = are_ranked r h
  order_is (OrderV.Cycles v) h = flags_cycles xs root refs b is l.rows l.places rows_all places_all h.marks h.are_marks v.items h.are_flags

abbrev pub known_of : Table → Closed → Kinds → List Opening → List Part → List Bool → List Bool → Known
known_of t closed kinds openings parts choosable empty = record { texts = t.texts; rows = t.rows; kinds = kinds; places = closed.places.items; meanings = closed.meanings.items; openings = openings; parts = parts; choosable = choosable; may_be_empty = empty }

module _ (t : Table) (equal : (n m : Option ℕ) (x : Tree) → Holds t n x → Holds t m x → n ≡ m) (reference : (n m : ℕ) (r s : Ref) → IsRef t n r → IsRef t m s → (n ≡ m) ↔ (r ≡ s)) (law : RanksOrCycles) (on : (xs : List Definition) (root : Text) → AreInstancesOn xs root) (l : Layout) (closed : Closed) (kinds : Kinds) (openings : List Opening) (choosable empty : List Bool) (parts items : List Part) (same : parts ≡ items) (rows_all : l.rows ≡ length t.rows) (places_all : l.places ≡ length closed.meanings.items) (told : (xs : List Definition) (root : Text) (refs : List Ref) → IsClosed xs root refs t closed → AreKinds t.texts xs kinds → AreOpenings xs t refs openings → AreParts xs root refs t l.rows items) where
  pub find_order_is : (given : List Edge) → given ≡ all_edges l.rows l.places (known_of t closed kinds openings parts choosable empty) → (o : Order) → IsOrdered l given o → (xs : List Definition) (root : Text) (refs : List Ref) → IsClosed xs root refs t closed → AreKinds t.texts xs kinds → AreOpenings xs t refs openings → AreChoosable xs root t choosable → AreEmpty xs root t empty → IsOrder xs root refs t o
  find_order_is given e o h xs root refs cl ki op ch em = order_is xs root refs (known_of t closed kinds openings parts choosable empty) known l rows_all places_all law o (subst (λ es. IsOrdered l es o) e h)
    where
      known : IsKnown xs root refs (known_of t closed kinds openings parts choosable empty)
      known = record {
        table = cl.table;
        instances = cl.instances;
        meanings = cl.meanings;
        places = cl.places;
        kinds = ki;
        openings = op;
        parts = λ n x i r. subst (λ ps. AreParts xs root refs t l.rows ps) (sym same) (told xs root refs cl ki op) n x (subst (λ k. n < k) (sym rows_all) (holds_within t n (term_tree x) i)) i r;
        choosable = ch;
        empty = em;
        on = on xs root;
        equal = equal;
        same_ref = λ n r s h g. (reference n n r s h g).0 refl;
      }
