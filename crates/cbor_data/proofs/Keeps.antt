-- What can be written stays so when the pairs of its maps are put in another order.
use Rattle.std.proofs.Common.{◌≡◌, ℕ, suc, ◌<◌, ◌^◌, refl, ap, ◌∙◌, subst}
use Rattle.cbor_data.specs.Value.{Value, array, pairs, tag, Values, value, Pairs, pair, values_len, pairs_len, AreInRange, ArePairsInRange, AreValuesFitting, ArePairsFitting, AreValuesAssignable, ArePairsAssignable}
use Rattle.cbor_data.specs.Preferred.{AreValueCountsShort, ArePairCountsShort}
use Rattle.cbor_data.specs.Equivalence.{IsAdded, first, later, IsSame, same_uint, same_nint, same_bytes, same_text, same_array, same_map, same_tag, same_simple, same_float, AreSame, no_members, member, ArePairsSame, no_more, one_more}
use Rattle.cbor_data.specs.Writable.{IsWritable}

pub record AreWritable (xs : Values) : Type 0 where
  pub in_range : AreInRange xs
  pub fitting : AreValuesFitting xs
  pub assignable : AreValuesAssignable xs
  pub counts : AreValueCountsShort xs

pub record ArePairsWritable (ps : Pairs) : Type 0 where
  pub in_range : ArePairsInRange ps
  pub fitting : ArePairsFitting ps
  pub assignable : ArePairsAssignable ps
  pub counts : ArePairCountsShort ps

pub map_parts : {ps : Pairs} → IsWritable (pairs ps) → ArePairsWritable ps
map_parts w = record { in_range = w.in_range; fitting = w.fitting; assignable = w.assignable; counts = w.counts.1 }

pub array_parts : {xs : Values} → IsWritable (array xs) → AreWritable xs
array_parts w = record { in_range = w.in_range; fitting = w.fitting; assignable = w.assignable; counts = w.counts.1 }

pub tag_part : {n : ℕ} {x : Value} → IsWritable (tag n x) → IsWritable x
tag_part w = record { in_range = w.in_range.1; fitting = w.fitting; assignable = w.assignable; counts = w.counts }

pub member_part : {x : Value} {xs : Values} → AreWritable (value x xs) → IsWritable x
member_part w = record { in_range = w.in_range.0; fitting = w.fitting.0; assignable = w.assignable.0; counts = w.counts.0 }

pub members_part : {x : Value} {xs : Values} → AreWritable (value x xs) → AreWritable xs
members_part w = record { in_range = w.in_range.1; fitting = w.fitting.1; assignable = w.assignable.1; counts = w.counts.1 }

pub key_part : {k v : Value} {ps : Pairs} → ArePairsWritable (pair k v ps) → IsWritable k
key_part w = record { in_range = w.in_range.0; fitting = w.fitting.0; assignable = w.assignable.0; counts = w.counts.0 }

pub held_part : {k v : Value} {ps : Pairs} → ArePairsWritable (pair k v ps) → IsWritable v
held_part w = record { in_range = w.in_range.1; fitting = w.fitting.1; assignable = w.assignable.1; counts = w.counts.1 }

pub rest_part : {k v : Value} {ps : Pairs} → ArePairsWritable (pair k v ps) → ArePairsWritable ps
rest_part w = record { in_range = w.in_range.2; fitting = w.fitting.2; assignable = w.assignable.2; counts = w.counts.2 }

with_member : {x : Value} {xs : Values} → IsWritable x → AreWritable xs → AreWritable (value x xs)
with_member x xs = record { in_range = (x.in_range, xs.in_range); fitting = (x.fitting, xs.fitting); assignable = (x.assignable, xs.assignable); counts = (x.counts, xs.counts) }

with_pair : {k v : Value} {ps : Pairs} → IsWritable k → IsWritable v → ArePairsWritable ps → ArePairsWritable (pair k v ps)
with_pair k v ps = record { in_range = (k.in_range, v.in_range, ps.in_range); fitting = (k.fitting, v.fitting, ps.fitting); assignable = (k.assignable, v.assignable, ps.assignable); counts = (k.counts, v.counts, ps.counts) }

with_added : {k v : Value} {ps qs : Pairs} → IsAdded k v ps qs → IsWritable k → IsWritable v → ArePairsWritable ps → ArePairsWritable qs
with_added first k v ps = with_pair k v ps
with_added (later a) k v ps = with_pair (key_part ps) (held_part ps) (with_added a k v (rest_part ps))

-- the added pair, and the pairs without it
pub record AddedTo (k v : Value) (ps : Pairs) : Type 0 where
  pub key : IsWritable k
  pub held : IsWritable v
  pub rest : ArePairsWritable ps

pub added_to : {k v : Value} {ps qs : Pairs} → IsAdded k v ps qs → ArePairsWritable qs → AddedTo k v ps
added_to first w = record { key = key_part w; held = held_part w; rest = rest_part w }
added_to (later a) w = let t = added_to a (rest_part w) in record { key = t.key; held = t.held; rest = with_pair (key_part w) (held_part w) t.rest }

pub as_many_members : {xs ys : Values} → AreSame xs ys → values_len xs ≡ values_len ys
as_many_members no_members = refl
as_many_members (member d e) = ap suc (as_many_members e)

one_longer : {k v : Value} {ps qs : Pairs} → IsAdded k v ps qs → suc (pairs_len ps) ≡ pairs_len qs
one_longer first = refl
one_longer (later a) = ap suc (one_longer a)

pub as_many_pairs : {ps qs : Pairs} → ArePairsSame ps qs → pairs_len ps ≡ pairs_len qs
as_many_pairs no_more = refl
as_many_pairs (one_more d e a r) = ap suc (as_many_pairs r) ∙ one_longer a

mutual
  pub same_writable : {x y : Value} → IsSame x y → IsWritable x → IsWritable y
  same_writable same_uint w = w
  same_writable same_nint w = w
  same_writable same_bytes w = w
  same_writable same_text w = w
  same_writable (same_array d) w =
      let t = all_writable d (array_parts w) in
      record { in_range = t.in_range; fitting = t.fitting; assignable = t.assignable; counts = (subst (λ n. n < 2 ^ 64) (as_many_members d) w.counts.0, t.counts) }
  same_writable (same_map d) w =
      let t = pairs_writable d (map_parts w) in
      record { in_range = t.in_range; fitting = t.fitting; assignable = t.assignable; counts = (subst (λ n. n < 2 ^ 64) (as_many_pairs d) w.counts.0, t.counts) }
  same_writable (same_tag d) w =
      let t = same_writable d (tag_part w) in
      record { in_range = (w.in_range.0, t.in_range); fitting = t.fitting; assignable = t.assignable; counts = t.counts }
  same_writable same_simple w = w
  same_writable same_float w = w

  pub all_writable : {xs ys : Values} → AreSame xs ys → AreWritable xs → AreWritable ys
  all_writable no_members w = w
  all_writable (member d e) w = with_member (same_writable d (member_part w)) (all_writable e (members_part w))

  pub pairs_writable : {ps qs : Pairs} → ArePairsSame ps qs → ArePairsWritable ps → ArePairsWritable qs
  pairs_writable no_more w = w
  pairs_writable (one_more d e a r) w = with_added a (same_writable d (key_part w)) (same_writable e (held_part w)) (pairs_writable r (rest_part w))
