-- What is the same as a sound item is sound, and its preferred bytes are as many.
use Rattle.std.proofs.Common.{◌≡◌, ℕ, suc, ◌≤◌, List, [], ◌++◌, length, max, refl, sym, ap, ap₂, subst, arith, length-append}
use Rattle.cbor_data.specs.Value.{Value, Values, Pairs, pairs_len, values_len, depth_of, values_depth, pairs_depth}
use Rattle.cbor_data.specs.Equivalence.{IsAdded, first, later, IsSame, same_uint, same_nint, same_bytes, same_text, same_array, same_map, same_tag, same_simple, same_float, AreSame, no_members, member, ArePairsSame, no_more, one_more}
use Rattle.cbor_data.specs.Deterministic.{ordered, deterministic}
use Rattle.cbor_data.specs.Forms.{Spells}
use Rattle.cbor_data.specs.Preferred.{preferred, values_preferred, pairs_preferred, shortest_head}
use Rattle.cbor_data.specs.Sound.{IsSound}
use Rattle.cbor_data.specs.Writable.{IsWritable}
use Rattle.cbor_data.proofs.Apart.{same_valid, valid_apart}
use Rattle.cbor_data.proofs.ByDeterministic.{deterministic_spelled}
use Rattle.cbor_data.proofs.EquivalenceLaws.{back}
use Rattle.cbor_data.proofs.Falls.{one_order}
use Rattle.cbor_data.proofs.Keeps.{as_many_members, as_many_pairs, same_writable}
use Rattle.cbor_data.proofs.PreferredSpells.{counts_of}
use Rattle.cbor_data.proofs.Reorders.{same_ordered}
use Rattle.cbor_data.proofs.SameSpelling.{same_short}
use Rattle.cbor_data.proofs.Unique.{unique}

pub sound_writable : (x : Value) → IsSound x → IsWritable x
sound_writable x s = record { in_range = s.in_range; fitting = s.fitting; assignable = s.assignable; counts = counts_of x s.short }

added_depth : {k v : Value} {ps qs : Pairs} → IsAdded k v ps qs → pairs_depth qs ≡ max (max (depth_of k) (depth_of v)) (pairs_depth ps)
added_depth first = refl
added_depth (later a) = omega (arith, added_depth a)

mutual
  same_depth : {x y : Value} → IsSame x y → depth_of x ≡ depth_of y
  same_depth same_uint = refl
  same_depth same_nint = refl
  same_depth same_bytes = refl
  same_depth same_text = refl
  same_depth (same_array d) = ap suc (all_same_depth d)
  same_depth (same_map d) = ap suc (pairs_same_depth d)
  same_depth (same_tag d) = ap suc (same_depth d)
  same_depth same_simple = refl
  same_depth same_float = refl

  all_same_depth : {xs ys : Values} → AreSame xs ys → values_depth xs ≡ values_depth ys
  all_same_depth no_members = refl
  all_same_depth (member d e) = ap₂ max (same_depth d) (all_same_depth e)

  pairs_same_depth : {ps qs : Pairs} → ArePairsSame ps qs → pairs_depth ps ≡ pairs_depth qs
  pairs_same_depth no_more = refl
  pairs_same_depth (one_more d e a r) = omega (arith, same_depth d, same_depth e, pairs_same_depth r, added_depth a)

pub same_sound : (x y : Value) → IsSame x y → IsSound x → IsSound y
same_sound x y d s =
    let w = same_writable d (sound_writable x s) in
    record {
      in_range = w.in_range;
      shallow = subst (λ n. n ≤ 256) (same_depth d) s.shallow;
      assignable = w.assignable;
      fitting = w.fitting;
      short = same_short d s.short;
      valid = same_valid x y d s.valid;
    }

-- what is read of the deterministic bytes is the item in order
pub read_back : (x y : Value) → IsSound x → Spells y (deterministic x) → y ≡ ordered x
read_back x y s h = (unique (deterministic x) [] (deterministic x) [] h (deterministic_spelled x (sound_writable x s)) refl).1

pub read_back_same : (x y : Value) → IsSound x → Spells y (deterministic x) → IsSame x y
read_back_same x y s h = subst (IsSame x) (sym (read_back x y s h)) (same_ordered x)

pub read_back_again : (x y : Value) → IsSound x → Spells y (deterministic x) → deterministic y ≡ deterministic x
read_back_again x y s h = ap preferred (one_order (back (read_back_same x y s h)) (sound_writable x s) (valid_apart x s.valid))

added_length : {k v : Value} {ps qs : Pairs} → IsAdded k v ps qs → length (pairs_preferred qs) ≡ length (preferred k ++ (preferred v ++ pairs_preferred ps))
added_length first = refl
added_length {k = k} {v = v} (later {l = l} {w = w} {ps = ps} {qs = qs} a) = omega (
  arith,
  added_length a,
  length-append (preferred k) (preferred v ++ pairs_preferred ps),
  length-append (preferred v) (pairs_preferred ps),
  length-append (preferred l) (preferred w ++ pairs_preferred qs),
  length-append (preferred w) (pairs_preferred qs),
  length-append (preferred l) (preferred w ++ pairs_preferred ps),
  length-append (preferred w) (pairs_preferred ps),
  length-append (preferred k) (preferred v ++ (preferred l ++ (preferred w ++ pairs_preferred ps))),
  length-append (preferred v) (preferred l ++ (preferred w ++ pairs_preferred ps)),
)

-- a head of the same count, and then as many bytes
headed : (m i j : ℕ) (b c : List ℕ) → i ≡ j → length b ≡ length c → length (shortest_head m i ++ b) ≡ length (shortest_head m j ++ c)
headed m i j b c e f = omega (arith, f, ap (λ n. length (shortest_head m n)) e, length-append (shortest_head m i) b, length-append (shortest_head m j) c)

mutual
  pub same_length : {x y : Value} → IsSame x y → length (preferred x) ≡ length (preferred y)
  same_length same_uint = refl
  same_length same_nint = refl
  same_length same_bytes = refl
  same_length same_text = refl
  same_length (same_array {xs = xs} {ys = ys} d) = headed 4 (values_len xs) (values_len ys) (values_preferred xs) (values_preferred ys) (as_many_members d) (all_same_length d)
  same_length (same_map {ps = ps} {qs = qs} d) = headed 5 (pairs_len ps) (pairs_len qs) (pairs_preferred ps) (pairs_preferred qs) (as_many_pairs d) (pairs_same_length d)
  same_length (same_tag {n = n} {x = x} {y = y} d) = headed 6 n n (preferred x) (preferred y) refl (same_length d)
  same_length same_simple = refl
  same_length same_float = refl

  all_same_length : {xs ys : Values} → AreSame xs ys → length (values_preferred xs) ≡ length (values_preferred ys)
  all_same_length no_members = refl
  all_same_length (member {x = x} {y = y} {xs = xs} {ys = ys} d e) =
      omega (arith, same_length d, all_same_length e, length-append (preferred x) (values_preferred xs), length-append (preferred y) (values_preferred ys))

  pairs_same_length : {ps qs : Pairs} → ArePairsSame ps qs → length (pairs_preferred ps) ≡ length (pairs_preferred qs)
  pairs_same_length no_more = refl
  pairs_same_length (one_more {k = k} {v = v} {l = l} {w = w} {ps = ps} {qs = qs} d e a r) = omega (
    arith,
    same_length d,
    same_length e,
    pairs_same_length r,
    added_length a,
    length-append (preferred k) (preferred v ++ pairs_preferred ps),
    length-append (preferred v) (pairs_preferred ps),
    length-append (preferred l) (preferred w ++ pairs_preferred qs),
    length-append (preferred w) (pairs_preferred qs),
  )
