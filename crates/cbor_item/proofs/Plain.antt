-- What is plain has plain parts, and its preferred bytes spell it.
use Rattle.std.proofs.Common.{ℕ, ◌+◌, ◌<◌, ◌≤◌, ◌^◌, ◌++◌, length, arith, length-append}
use Rattle.cbor_data.specs.Forms.{Spells}
use Rattle.cbor_data.specs.Preferred.{shortest_head, preferred, values_preferred, pairs_preferred, AreCountsShort, AreValueCountsShort, ArePairCountsShort}
use Rattle.cbor_data.specs.Value.{depth_of, IsInRange, AreSimplesAssignable, AreBitsFitting, Value, uint, nint, bytes, text, array, pairs, tag, simple, float, Values, no_values, value, Pairs, no_pairs, pair, values_len, pairs_len, place_count, values_place_count, pairs_place_count}
use Rattle.cbor_data.proofs.Lemmas.{counts_of, float_some, preferred_len, shortest_head_some, simple_some, spelled_assignable, spelled_fitting, spelled_in_range, spelled_places, spells_preferred}
use Rattle.cbor_data.specs.Sound.{IsSound, HasShortSpelling}
use Rattle.cbor_data.specs.Validity.{IsValid}
use Rattle.cbor_item.specs.Unsound.{IsFirstUnsoundness, IsRepeat}
use Rattle.cbor_item.specs.Walk.{IsPlain, ArePlain, ArePairsPlain}
use Rattle.cbor_item.specs.declared.sound.Unsound.{Unsound}
use Rattle.cbor_item.specs.declared.sound.Unsound.TheVariants.{TooDeep, BadSimple, BadBits, TooBig, Duplicate, Memory}

-- no item has more places than preferred bytes
mutual
  pub places_within : (x : Value) → place_count x ≤ length (preferred x)
  places_within (uint n) = shortest_head_some 0 n
  places_within (nint n) = shortest_head_some 1 n
  places_within (bytes bs) = omega (arith, shortest_head_some 2 (length bs), length-append (shortest_head 2 (length bs)) bs)
  places_within (text bs) = omega (arith, shortest_head_some 3 (length bs), length-append (shortest_head 3 (length bs)) bs)
  places_within (array xs) = omega (arith, shortest_head_some 4 (values_len xs), length-append (shortest_head 4 (values_len xs)) (values_preferred xs), value_places_within xs)
  places_within (pairs ps) = omega (arith, shortest_head_some 5 (pairs_len ps), length-append (shortest_head 5 (pairs_len ps)) (pairs_preferred ps), pair_places_within ps)
  places_within (tag n x) = omega (arith, shortest_head_some 6 n, length-append (shortest_head 6 n) (preferred x), places_within x)
  places_within (simple n) = simple_some n
  places_within (float w n) = float_some w n

  pub value_places_within : (xs : Values) → values_place_count xs ≤ length (values_preferred xs)
  value_places_within no_values = omega arith
  value_places_within (value x xs) = omega (arith, places_within x, value_places_within xs, length-append (preferred x) (values_preferred xs))

  pub pair_places_within : (ps : Pairs) → pairs_place_count ps ≤ length (pairs_preferred ps)
  pair_places_within no_pairs = omega arith
  pair_places_within (pair k v ps) =
      omega (arith, places_within k, places_within v, pair_places_within ps, length-append (preferred k) (preferred v ++ pairs_preferred ps), length-append (preferred v) (pairs_preferred ps))

-- no item has no place
pub place_some : (x : Value) → 1 ≤ place_count x
place_some (uint n) = omega arith
place_some (nint n) = omega arith
place_some (bytes bs) = omega arith
place_some (text bs) = omega arith
place_some (array xs) = omega arith
place_some (pairs ps) = omega arith
place_some (tag n x) = omega arith
place_some (simple n) = omega arith
place_some (float w n) = omega arith

-- there are no more members than bytes
members_within : (xs : Values) → values_len xs ≤ length (values_preferred xs)
members_within no_values = omega arith
members_within (value x xs) = omega (arith, place_some x, places_within x, members_within xs, length-append (preferred x) (values_preferred xs))

pairs_within : (ps : Pairs) → pairs_len ps ≤ length (pairs_preferred ps)
pairs_within no_pairs = omega arith
pairs_within (pair k v ps) =
    omega (arith, place_some k, places_within k, pairs_within ps, length-append (preferred k) (preferred v ++ pairs_preferred ps), length-append (preferred v) (pairs_preferred ps))

mutual
  counts_short : (x : Value) → length (preferred x) < 2 ^ 64 → AreCountsShort x
  counts_short (uint n) h = tt
  counts_short (nint n) h = tt
  counts_short (bytes bs) h = omega (arith, length-append (shortest_head 2 (length bs)) bs)
  counts_short (text bs) h = omega (arith, length-append (shortest_head 3 (length bs)) bs)
  counts_short (array xs) h =
      let short : length (values_preferred xs) < 2 ^ 64 = omega (arith, length-append (shortest_head 4 (values_len xs)) (values_preferred xs)) in
      (omega (arith, members_within xs), value_counts_short xs short)
  counts_short (pairs ps) h =
      let short : length (pairs_preferred ps) < 2 ^ 64 = omega (arith, length-append (shortest_head 5 (pairs_len ps)) (pairs_preferred ps)) in
      (omega (arith, pairs_within ps), pair_counts_short ps short)
  counts_short (tag n x) h = counts_short x (omega (arith, length-append (shortest_head 6 n) (preferred x)))
  counts_short (simple n) h = tt
  counts_short (float w n) h = tt

  value_counts_short : (xs : Values) → length (values_preferred xs) < 2 ^ 64 → AreValueCountsShort xs
  value_counts_short no_values h = tt
  value_counts_short (value x xs) h =
      (counts_short x (omega (arith, length-append (preferred x) (values_preferred xs))), value_counts_short xs (omega (arith, length-append (preferred x) (values_preferred xs))))

  pair_counts_short : (ps : Pairs) → length (pairs_preferred ps) < 2 ^ 64 → ArePairCountsShort ps
  pair_counts_short no_pairs h = tt
  pair_counts_short (pair k v ps) h =
      let whole = length-append (preferred k) (preferred v ++ pairs_preferred ps) in
      let rest = length-append (preferred v) (pairs_preferred ps) in
      (counts_short k (omega (arith, whole)), counts_short v (omega (arith, whole, rest)), pair_counts_short ps (omega (arith, whole, rest)))

-- what is in range, with each simple value assignable, each float's bits fitting and few preferred bytes, has a short spelling
pub short_spelling : (x : Value) → IsInRange x → AreSimplesAssignable x → AreBitsFitting x → length (preferred x) < 2 ^ 64 → HasShortSpelling x
short_spelling x r a f h = record { spelling = preferred x; spells = spells_preferred x r f a (counts_short x h); short = h }

-- what has a short spelling is plain
pub plain_spelled : (x : Value) → HasShortSpelling x → IsPlain x
plain_spelled x h = record {
  in_range = spelled_in_range x h.spelling h.spells;
  assignable = spelled_assignable x h.spelling h.spells;
  fitting = spelled_fitting x h.spelling h.spells;
  counts = counts_of x h;
  short = omega (arith, preferred_len x h.spelling h.spells, h.short);
}

-- and there are numbers for its places
pub few_places : (x : Value) → HasShortSpelling x → 0 + place_count x < 2 ^ 64
few_places x h = omega (arith, spelled_places x h.spelling h.spells, h.short)

pub plain_spells : (x : Value) → IsPlain x → Spells x (preferred x)
plain_spells x h = spells_preferred x h.in_range h.fitting h.assignable h.counts

pub plain_members : (xs : Values) → IsPlain (array xs) → ArePlain xs
plain_members xs h = record {
  in_range = h.in_range;
  assignable = h.assignable;
  fitting = h.fitting;
  counts = h.counts.1;
  short = omega (arith, h.short, length-append (shortest_head 4 (values_len xs)) (values_preferred xs));
}

pub plain_pairs : (ps : Pairs) → IsPlain (pairs ps) → ArePairsPlain ps
plain_pairs ps h = record {
  in_range = h.in_range;
  assignable = h.assignable;
  fitting = h.fitting;
  counts = h.counts.1;
  short = omega (arith, h.short, length-append (shortest_head 5 (pairs_len ps)) (pairs_preferred ps));
}

pub plain_content : (n : ℕ) (x : Value) → IsPlain (tag n x) → IsPlain x
plain_content n x h = record {
  in_range = h.in_range.1;
  assignable = h.assignable;
  fitting = h.fitting;
  counts = h.counts;
  short = omega (arith, h.short, length-append (shortest_head 6 n) (preferred x));
}

pub plain_first : (x : Value) (xs : Values) → ArePlain (value x xs) → IsPlain x × ArePlain xs
plain_first x xs h = (
  record {
    in_range = h.in_range.0;
    assignable = h.assignable.0;
    fitting = h.fitting.0;
    counts = h.counts.0;
    short = omega (arith, h.short, length-append (preferred x) (values_preferred xs));
  },
  record {
    in_range = h.in_range.1;
    assignable = h.assignable.1;
    fitting = h.fitting.1;
    counts = h.counts.1;
    short = omega (arith, h.short, length-append (preferred x) (values_preferred xs));
  },
)

pub plain_pair : (k v : Value) (ps : Pairs) → ArePairsPlain (pair k v ps) → IsPlain k × IsPlain v × ArePairsPlain ps
plain_pair k v ps h =
    let whole = length-append (preferred k) (preferred v ++ pairs_preferred ps) in
    let rest = length-append (preferred v) (pairs_preferred ps) in (
      record {
        in_range = h.in_range.0;
        assignable = h.assignable.0;
        fitting = h.fitting.0;
        counts = h.counts.0;
        short = omega (arith, h.short, whole);
      },
      record {
        in_range = h.in_range.1;
        assignable = h.assignable.1;
        fitting = h.fitting.1;
        counts = h.counts.1;
        short = omega (arith, h.short, whole, rest);
      },
      record {
        in_range = h.in_range.2;
        assignable = h.assignable.2;
        fitting = h.fitting.2;
        counts = h.counts.2;
        short = omega (arith, h.short, whole, rest);
      },
    )

-- what has a short spelling, is not too deep and is valid is sound
pub spelled_sound : (x : Value) → HasShortSpelling x → depth_of x ≤ 256 → IsValid x → IsSound x
spelled_sound x h d v =
    let p = plain_spelled x h in record { in_range = p.in_range; shallow = d; assignable = p.assignable; fitting = p.fitting; short = h; valid = v }

-- of what has a short spelling and is not too deep, a repeated key is the first unsoundness
pub repeat_first : (x : Value) (e : Unsound) → HasShortSpelling x → depth_of x ≤ 256 → IsRepeat x e → IsFirstUnsoundness x e
repeat_first x TooDeep h d r = absurd r
repeat_first x BadSimple h d r = absurd r
repeat_first x BadBits h d r = absurd r
repeat_first x TooBig h d r = absurd r
repeat_first x (Duplicate place) h d r = let p = plain_spelled x h in (d, p.assignable, p.fitting, h, r)
repeat_first x Memory h d r = let p = plain_spelled x h in (d, p.assignable, p.fitting)
