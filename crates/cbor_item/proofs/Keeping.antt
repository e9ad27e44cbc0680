-- What the walk over the pairs of a map keeps: the set has the deterministic bytes of the keys before, which are valid.
use Rattle.std.proofs.Common.{◌≡◌, ℕ, ◌+◌, ◌<◌, ◌^◌, List, [], ◌∷◌, Bool, true, false, ◌||◌, refl, sym, ap, ◌∙◌, arith, Result, Ok, Err}
use Rattle.std.specs.Prelude.{not}
use Rattle.std.specs.BTreeSet.{BTreeSet}
use Rattle.std.specs.Str.{bytes_eq}
use Rattle.std.specs.declared.vec.Vec.{Vec}
use Rattle.std.specs.declared.alloc.Global.{Global}
use Rattle.cbor_data.specs.Deterministic.{deterministic}
use Rattle.cbor_data.specs.Validity.{IsOneOf}
use Rattle.cbor_data.specs.Value.{Value, Pairs, pair, pairs_place_count}
use Rattle.cbor_item.specs.Walk.{ArePairsPlain, Walks, WalksAfter, has}
use Rattle.cbor_item.specs.declared.sound.Unsound.{Unsound}
use Rattle.cbor_item.specs.declared.sound.Unsound.TheVariants.{Duplicate}
use Rattle.cbor_item.proofs.Keys.{among, AllWritable, found_among, missed_among}
use Rattle.cbor_item.proofs.Laying.{writable}
use Rattle.cbor_item.proofs.Plain.{plain_pair}
use Rattle.cbor_item.proofs.Walking.{AreValid, after_more, after_key, after_value, after_repeat}

-- of the pairs `all`, the first of which is at `start`, those before `next` are walked, and these are left
pub record KnowsKeys (keys : BTreeSet (Vec ℕ Global)) (left : Pairs) (next : ℕ) (all : Pairs) (start : ℕ) : Type 0 where
  pub plain : ArePairsPlain left
  pub room : next + pairs_place_count left < 2 ^ 64
  pub earlier : List Value
  pub writable : AllWritable earlier
  pub valid : AreValid earlier
  pub has_them : (part : List ℕ) → has keys part ≡ among earlier part
  pub follows : (r : Result ℕ Unsound) → WalksAfter earlier left next r → WalksAfter [] all start r

pub knows_no_key : (keys : BTreeSet (Vec ℕ Global)) (all : Pairs) (start : ℕ) → ArePairsPlain all → start + pairs_place_count all < 2 ^ 64 → ((part : List ℕ) → has keys part ≡ false) → KnowsKeys keys all start all start
knows_no_key keys all start p r h = record { plain = p; room = r; earlier = []; writable = tt; valid = tt; has_them = h; follows = λ s c. c }

from_not : (b : Bool) → true ≡ not b → b ≡ false
from_not true e = cc
from_not false e = refl

from_not_false : (b : Bool) → false ≡ not b → b ≡ true
from_not_false true e = refl
from_not_false false e = cc

new_key : (keys : BTreeSet (Vec ℕ Global)) (k v : Value) (ps : Pairs) (next : ℕ) (all : Pairs) (start : ℕ) (h : KnowsKeys keys (pair k v ps) next all start) → true ≡ not (has keys (deterministic k)) → IsOneOf h.earlier k → ⊥
new_key keys k v ps next all start h e = missed_among h.earlier k h.writable h.valid (sym (h.has_them (deterministic k)) ∙ from_not (has keys (deterministic k)) e)

pub knows_key : (keys more : BTreeSet (Vec ℕ Global)) (k v : Value) (ps : Pairs) (next mid last : ℕ) (all : Pairs) (start : ℕ) → KnowsKeys keys (pair k v ps) next all start → true ≡ not (has keys (deterministic k)) →
    ((part : List ℕ) → has more part ≡ (bytes_eq part (deterministic k) || has keys part)) → Walks k next (Ok mid) → Walks v mid (Ok last) → KnowsKeys more ps last all start
knows_key keys more k v ps next mid last all start h e f wk wv = record {
  plain = (plain_pair k v ps h.plain).2;
  room = omega (arith, h.room, wk.1, wv.1);
  earlier = k ∷ h.earlier;
  writable = (writable k (plain_pair k v ps h.plain).0, h.writable);
  valid = (wk.0, h.valid);
  has_them = λ part. f part ∙ ap (λ b. bytes_eq part (deterministic k) || b) (h.has_them part);
  follows = λ r c. h.follows r (after_more h.earlier k v ps next mid last r (new_key keys k v ps next all start h e) wk wv c);
}

pub key_repeats : (keys : BTreeSet (Vec ℕ Global)) (k v : Value) (ps : Pairs) (next : ℕ) (all : Pairs) (start : ℕ) → KnowsKeys keys (pair k v ps) next all start → false ≡ not (has keys (deterministic k)) → WalksAfter [] all start (Err (Duplicate next))
key_repeats keys k v ps next all start h e =
    h.follows (Err (Duplicate next)) (after_repeat h.earlier k v ps next (found_among h.earlier k h.writable (writable k (plain_pair k v ps h.plain).0) (sym (h.has_them (deterministic k)) ∙ from_not_false (has keys (deterministic k)) e)))

pub key_ends : (keys : BTreeSet (Vec ℕ Global)) (k v : Value) (ps : Pairs) (next : ℕ) (all : Pairs) (start : ℕ) (e : Unsound) → KnowsKeys keys (pair k v ps) next all start → Walks k next (Err e) → WalksAfter [] all start (Err e)
key_ends keys k v ps next all start e h w = h.follows (Err e) (after_key h.earlier k v ps next e h.valid w)

pub value_ends : (keys : BTreeSet (Vec ℕ Global)) (k v : Value) (ps : Pairs) (next mid : ℕ) (all : Pairs) (start : ℕ) (e : Unsound) → KnowsKeys keys (pair k v ps) next all start → true ≡ not (has keys (deterministic k)) → Walks k next (Ok mid) → Walks v mid (Err e) → WalksAfter [] all start (Err e)
value_ends keys k v ps next mid all start e h new wk wv = h.follows (Err e) (after_value h.earlier k v ps next mid e (new_key keys k v ps next all start h new) wk wv)
