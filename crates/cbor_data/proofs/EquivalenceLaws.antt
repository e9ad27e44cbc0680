-- To be the same is an equivalence.
use Rattle.cbor_data.specs.Value.{Value, uint, nint, bytes, text, array, pairs, tag, simple, float, Values, no_values, value, Pairs, no_pairs, pair}
use Rattle.cbor_data.specs.Equivalence.{IsAdded, first, later, IsSame, same_uint, same_nint, same_bytes, same_text, same_array, same_map, same_tag, same_simple, same_float, AreSame, no_members, member, ArePairsSame, no_more, one_more}

mutual
  pub itself : (x : Value) → IsSame x x
  itself (uint n) = same_uint
  itself (nint n) = same_nint
  itself (bytes b) = same_bytes
  itself (text b) = same_text
  itself (array xs) = same_array (all_itself xs)
  itself (pairs ps) = same_map (pairs_itself ps)
  itself (tag n x) = same_tag (itself x)
  itself (simple n) = same_simple
  itself (float w n) = same_float

  pub all_itself : (xs : Values) → AreSame xs xs
  all_itself no_values = no_members
  all_itself (value x xs) = member (itself x) (all_itself xs)

  pub pairs_itself : (ps : Pairs) → ArePairsSame ps ps
  pairs_itself no_pairs = no_more
  pairs_itself (pair k v ps) = one_more (itself k) (itself v) first (pairs_itself ps)

-- what is left when two pairs are taken off in the other order
pub record Past (l w m u : Value) (rest others : Pairs) : Type 0 where
  pub left : Pairs
  pub one : IsAdded l w rest left
  pub other : IsAdded m u left others

pub past : {l w m u : Value} {rest qs others : Pairs} → IsAdded l w qs others → IsAdded m u rest qs → Past l w m u rest others
past {l = l} {w = w} {rest = rest} first c = record { left = pair l w rest; one = first; other = later c }
past (later {qs = others} b) first = record { left = others; one = b; other = first }
past (later b) (later {l = x} {w = y} c) = let p = past b c in record { left = pair x y p.left; one = later p.one; other = later p.other }

-- where pairs are the same, they stay so with a pair added to each
pub added_same : {k v l w : Value} {ps qs more others : Pairs} → IsSame k l → IsSame v w → IsAdded k v ps more → IsAdded l w qs others → ArePairsSame ps qs → ArePairsSame more others
added_same s t first b d = one_more s t b d
added_same s t (later a) b (one_more e f c d) = let p = past b c in one_more e f p.other (added_same s t a p.one d)

mutual
  pub back : {x y : Value} → IsSame x y → IsSame y x
  back same_uint = same_uint
  back same_nint = same_nint
  back same_bytes = same_bytes
  back same_text = same_text
  back (same_array d) = same_array (all_back d)
  back (same_map d) = same_map (pairs_back d)
  back (same_tag d) = same_tag (back d)
  back same_simple = same_simple
  back same_float = same_float

  pub all_back : {xs ys : Values} → AreSame xs ys → AreSame ys xs
  all_back no_members = no_members
  all_back (member d e) = member (back d) (all_back e)

  pub pairs_back : {ps qs : Pairs} → ArePairsSame ps qs → ArePairsSame qs ps
  pairs_back no_more = no_more
  pairs_back (one_more d e a r) = added_same (back d) (back e) a first (pairs_back r)

-- pairs that are the same as others are so without one of these, but for one of theirs
pub record Without (k v : Value) (ps others : Pairs) : Type 0 where
  pub key : Value
  pub held : Value
  pub left : Pairs
  pub keys : IsSame k key
  pub values : IsSame v held
  pub added : IsAdded key held left others
  pub rest : ArePairsSame ps left

pub without : {k v : Value} {ps more others : Pairs} → IsAdded k v ps more → ArePairsSame more others → Without k v ps others
without first (one_more {l = l} {w = w} {qs = qs} e f a d) = record { key = l; held = w; left = qs; keys = e; values = f; added = a; rest = d }
without (later b) (one_more e f a d) =
    let w = without b d in
    let p = past a w.added in
    record { key = w.key; held = w.held; left = p.left; keys = w.keys; values = w.values; added = p.other; rest = one_more e f p.one w.rest }

mutual
  pub onward : {x y z : Value} → IsSame x y → IsSame y z → IsSame x z
  onward same_uint e = e
  onward same_nint e = e
  onward same_bytes e = e
  onward same_text e = e
  onward (same_array d) (same_array e) = same_array (all_onward d e)
  onward (same_map d) (same_map e) = same_map (pairs_onward d e)
  onward (same_tag d) (same_tag e) = same_tag (onward d e)
  onward same_simple e = e
  onward same_float e = e

  pub all_onward : {xs ys zs : Values} → AreSame xs ys → AreSame ys zs → AreSame xs zs
  all_onward no_members no_members = no_members
  all_onward (member d e) (member f g) = member (onward d f) (all_onward e g)

  pub pairs_onward : {ps qs rs : Pairs} → ArePairsSame ps qs → ArePairsSame qs rs → ArePairsSame ps rs
  pairs_onward no_more no_more = no_more
  pairs_onward (one_more d e a r) f =
      let w = without a f in
      one_more (onward d w.keys) (onward e w.values) w.added (pairs_onward r w.rest)
