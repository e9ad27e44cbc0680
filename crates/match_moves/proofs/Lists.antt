-- The members of an array as a list, the pairs of a map, and counts.
use Rattle.std.proofs.Common.{◌≡◌, ℕ, zero, suc, ◌+◌, ◌-◌, ◌<◌, ◌≤◌, ◌++◌, length, take, drop, replicate, slice_index_or, slice_set, List, [], ◌∷◌, Some, Bool, true, false, ◌&&◌, nat_eq, nat_le, refl, sym, ap, ◌∙◌, arith}
use Rattle.std.proofs.lemmas.Bool.Decides.{nat_tests}
use Rattle.std.proofs.lemmas.List.{drop-map, length-map, take-map}
use Rattle.std.proofs.Math.Seq.{take-nil}
use Rattle.cbor_data.specs.Value.{Value, array, values_of}
use Rattle.item_nodes.specs.View.{pairs_view, view}
use Rattle.item_nodes.specs.declared.item.Item.{Item}
use Rattle.item_nodes.specs.declared.item.Item.TheVariants.{Array, Map}
use Rattle.item_nodes.proofs.Lemmas.{view-Array, view-Map}
use Rattle.std.specs.declared.vec.Vec.{Vec}
use Rattle.std.specs.declared.alloc.Global.{Global}
use Rattle.match_moves.specs.Views.{values}
use Rattle.cddl_meaning.specs.Forms.{list_of, members_in, pairs_in}
use Rattle.cddl_meaning.specs.Forms as F
use Rattle.cddl_meaning.specs.Judges.{is_up_to_most}
use Rattle.cddl_meaning.specs.Moves.{plus, counted, enough_of, no_counts}
use Rattle.table_nodes.specs.declared.nodes.TypeId.{TypeId}
use Rattle.table_nodes.specs.Nodes.{entries_view, entry_view}
use Rattle.table_nodes.specs.declared.nodes.MapEntry.{MapEntry}

pub list_of_values : (xs : List Value) → list_of (values_of xs) ≡ xs
list_of_values [] = refl
list_of_values (x ∷ xs) = ap (λ ys. x ∷ ys) (list_of_values xs)

pub members_of_values : (xs : List Value) → members_in (array (values_of xs)) ≡ Some xs
members_of_values xs = ap Some (list_of_values xs)

pub members_of_array : (v : Vec Item Global) → members_in (view (Array v)) ≡ Some (values v.items)
members_of_array v = ap members_in (view-Array v) ∙ members_of_values (values v.items)

pub pairs_of_map : (v : Vec (Item × Item) Global) → pairs_in (view (Map v)) ≡ Some (pairs_view v.items)
pairs_of_map v = ap pairs_in (view-Map v)

-- counts of pairs

pub counted_none : (m : ℕ) (ns : List ℕ) → length ns ≤ m → ns ≡ counted m ns
counted_none m [] h = refl
counted_none m (n ∷ ns) h = rw (other m (length ns) (omega (arith, h))) (ap (λ ms. n ∷ ms) (counted_none m ns (omega (arith, h))))
  where
    other : (m k : ℕ) → k < m → nat_eq m k ≡ false
    other m k h = grind (arith, nat_tests)

pub counted_written : (ns : List ℕ) (k m : ℕ) → k + suc m ≡ length ns → slice_set ns k (plus (slice_index_or ns k 0) 1) ≡ counted m ns
counted_written [] k m h = absurd (omega (arith, h))
counted_written (n ∷ ns) zero m h = rw (same m (length ns) (omega (arith, h))) refl
  where
    same : (m k : ℕ) → m ≡ k → nat_eq m k ≡ true
    same m k h = grind (arith, nat_tests)
counted_written (n ∷ ns) (suc k) m h = rw (other m (length ns) (omega (arith, h))) (ap (λ ms. n ∷ ms) (counted_written ns k m (omega (arith, h))))
  where
    other : (m k : ℕ) → m < k → nat_eq m k ≡ false
    other m k h = grind (arith, nat_tests)

pub none_counted : (es : List MapEntry) → replicate (length es) 0 ≡ no_counts (entries_view es)
none_counted [] = refl
none_counted (e ∷ es) = ap (λ ns. 0 ∷ ns) (none_counted es)

pub none_begun : (n : ℕ) (old new : List ℕ) (m : ℕ) → old ≡ [] → m ≡ 0 → new ≡ take n old ++ replicate (n - m) 0 → new ≡ replicate n 0
none_begun n old new m e i j = j ∙ by old m e i
  where
    by : (old : List ℕ) (m : ℕ) → old ≡ [] → m ≡ 0 → take n old ++ replicate (n - m) 0 ≡ replicate n 0
    by old m e i = let k : n - m ≡ n = omega (arith, i) in rw (e, k, take-nil) refl

pub as_many_entries : (es : List MapEntry) → length (entries_view es) ≡ length es
as_many_entries es = length-map es entry_view

-- Entries, of which those behind so many of the first have no pair.
pub enough_in_front : (es : List (F.MapEntry TypeId)) (cs : List ℕ) (told : ℕ) → told ≤ length es → told ≤ length cs → enough_of es (take told cs ++ no_counts (drop told es)) ≡ (enough_of (take told es) (take told cs) && enough_of (drop told es) (no_counts (drop told es)))
enough_in_front es cs zero h i = refl
enough_in_front [] cs (suc told) h i = absurd (omega (arith, h))
enough_in_front (e ∷ es) [] (suc told) h i = absurd (omega (arith, i))
enough_in_front (e ∷ es) (c ∷ cs) (suc told) h i = rw (enough_in_front es cs told (omega (arith, h)) (omega (arith, i))) (both (nat_le e.least c && is_up_to_most c e.most) (enough_of (take told es) (take told cs)) (enough_of (drop told es) (no_counts (drop told es))))
  where
    both : (a b c : Bool) → (a && (b && c)) ≡ ((a && b) && c)
    both true b c = refl
    both false b c = refl

pub front_is_enough : (es first others : List MapEntry) (cs : List ℕ) (told : ℕ) → told ≤ length es → told ≤ length cs → first ≡ take told es → others ≡ drop told es → (enough_of (entries_view first) (take told cs) && enough_of (entries_view others) (no_counts (entries_view others))) ≡ enough_of (entries_view es) (take told cs ++ no_counts (drop told (entries_view es)))
front_is_enough es first others cs told h i e f = rw (e, f, sym (take-map entry_view told es), sym (drop-map entry_view told es)) (sym (enough_in_front (entries_view es) cs told (omega (arith, h, as_many_entries es)) i))

pub enough_of_none : (es : List (F.MapEntry TypeId)) (ns : List ℕ) → ns ≡ [] → true ≡ enough_of es ns
enough_of_none [] ns e = refl
enough_of_none (x ∷ es) ns e = rw e refl
