-- Laying out the deterministic bytes of an item in parts.
use Rattle.std.proofs.Common.{◌≡◌, ℕ, suc, ◌+◌, ◌<◌, ◌^◌, List, [], ◌∷◌, ◌++◌, Bool, true, false, ◌||◌, cond, refl, sym, ap, ◌∙◌, arith, Result, Ok, Err, append_assoc, append-nil}
use Rattle.std.specs.Str.{bytes_eq}
use Rattle.std.specs.BTreeMap.{insert_entry}
use Rattle.std.specs.Cmp.Lexicographic.{slice_cmp}
use Rattle.std.specs.Ordering.{nat_cmp, is_lt, match_ordering}
use Rattle.std.specs.declared.cmp.Ordering.{Ordering}
use Rattle.std.specs.declared.cmp.Ordering.TheVariants.{Less, Equal, Greater}
use Rattle.std.proofs.lemmas.Map.Lookups.{exact_bytes}
use Rattle.std.proofs.lemmas.Slice.Eq.{bytes_eq-Decides}
use Rattle.lists.proofs.Lemmas.{neither}
use Rattle.cbor_data.specs.Deterministic.{comes_before, put, ordered, values_ordered, pairs_ordered, deterministic}
use Rattle.cbor_data.specs.Preferred.{shortest_head, preferred, values_preferred, pairs_preferred}
use Rattle.cbor_data.specs.Validity.{IsOneOf}
use Rattle.cbor_data.specs.Value.{Value, array, pairs, tag, Values, no_values, value, Pairs, no_pairs, pair, values_len, pairs_len, pairs_place_count}
use Rattle.cbor_data.specs.Writable.{IsWritable}
use Rattle.cbor_data.proofs.Lemmas.{ArePairsWritable, as_many_pairs, gathered, gathered_all, pairs_same_ordered, valid_apart}
use Rattle.cbor_item.specs.Laying.{Lays, LaysAmong, LaysPairs, has_key, joined}
use Rattle.cbor_item.specs.Walk.{IsPlain, ArePairsPlain, Walks, WalksAfter}
use Rattle.cbor_item.specs.declared.sound.Unsound.{Unsound}
use Rattle.cbor_item.specs.declared.sound.Unsound.TheVariants.{Duplicate}
use Rattle.cbor_item.proofs.Keys.{among, AllWritable, found_among, missed_among, or_swap}
use Rattle.cbor_item.proofs.Plain.{plain_pair}
use Rattle.cbor_item.proofs.Walking.{AreValid, among_more, among_stop, among_none, after_more, after_key, after_value, after_repeat, after_none, walks_array, walks_pairs, walks_tag}

pub as_long : (xs : Values) → values_len (values_ordered xs) ≡ values_len xs
as_long no_values = refl
as_long (value x xs) = ap suc (as_long xs)

pub joined_on : (old mid new a b : List ℕ) → mid ≡ old ++ a → new ≡ mid ++ b → new ≡ old ++ (a ++ b)
joined_on old mid new a b e f = f ∙ ap (λ c. c ++ b) e ∙ append_assoc old a b

pub lays_more : (x : Value) (xs : Values) (place next : ℕ) (old mid new : List ℕ) (r : Result ℕ Unsound) → Lays x place old mid (Ok next) → LaysAmong xs next mid new r → LaysAmong (value x xs) place old new r
lays_more x xs place next old mid new (Ok last) h k = (among_more x xs place next (Ok last) h.0 k.0, joined_on old mid new (deterministic x) (values_preferred (values_ordered xs)) h.1 k.1)
lays_more x xs place next old mid new (Err e) h k = among_more x xs place next (Err e) h.0 k

pub lays_stop : (x : Value) (xs : Values) (place : ℕ) (old new : List ℕ) (e : Unsound) → Lays x place old new (Err e) → LaysAmong (value x xs) place old new (Err e)
lays_stop x xs place old new e h = among_stop x xs place e h

pub lays_none : (place : ℕ) (old : List ℕ) → LaysAmong no_values place old old (Ok place)
lays_none place old = (among_none place, sym (append-nil old))

pub lays_array : (xs : Values) (place : ℕ) (old mid new : List ℕ) (r : Result ℕ Unsound) → mid ≡ old ++ shortest_head 4 (values_len xs) → LaysAmong xs (place + 1) mid new r → Lays (array xs) place old new r
lays_array xs place old mid new (Ok next) e h = (
  walks_array xs place (Ok next) h.0,
  joined_on old mid new (shortest_head 4 (values_len xs)) (values_preferred (values_ordered xs)) e h.1 ∙ ap (λ n. old ++ (shortest_head 4 n ++ values_preferred (values_ordered xs))) (sym (as_long xs)),
)
lays_array xs place old mid new (Err f) e h = walks_array xs place (Err f) h

pub lays_map : (ps : Pairs) (place : ℕ) (old mid new : List ℕ) (r : Result ℕ Unsound) → mid ≡ old ++ shortest_head 5 (pairs_len ps) → LaysPairs ps (place + 1) mid new r → Lays (pairs ps) place old new r
lays_map ps place old mid new (Ok next) e h = (
  walks_pairs ps place (Ok next) h.0,
  joined_on old mid new (shortest_head 5 (pairs_len ps)) (pairs_preferred (pairs_ordered ps)) e h.1 ∙ ap (λ n. old ++ (shortest_head 5 n ++ pairs_preferred (pairs_ordered ps))) (as_many_pairs (pairs_same_ordered ps)),
)
lays_map ps place old mid new (Err f) e h = walks_pairs ps place (Err f) h

pub lays_tag : (n : ℕ) (x : Value) (place : ℕ) (old mid new : List ℕ) (r : Result ℕ Unsound) → mid ≡ old ++ shortest_head 6 n → Lays x (place + 1) mid new r → Lays (tag n x) place old new r
lays_tag n x place old mid new (Ok next) e h = (walks_tag n x place (Ok next) h.0, joined_on old mid new (shortest_head 6 n) (deterministic x) e h.1)
lays_tag n x place old mid new (Err f) e h = walks_tag n x place (Err f) h

-- ---- pairs in order as bytes

abbrev pub byte_pairs : Pairs → List (List ℕ × List ℕ)
byte_pairs no_pairs = []
byte_pairs (pair k v ps) = (preferred k, preferred v) ∷ byte_pairs ps

pub joined_pairs : (ps : Pairs) → joined (byte_pairs ps) ≡ pairs_preferred ps
joined_pairs no_pairs = refl
joined_pairs (pair k v ps) = ap (λ b. preferred k ++ (preferred v ++ b)) (joined_pairs ps)

insert_at : (o : Ordering) (k v l w : Value) (ps : Pairs) → o ≡ slice_cmp nat_cmp (preferred k) (preferred l) → bytes_eq (preferred k) (preferred l) ≡ false →
    insert_entry (slice_cmp nat_cmp) (byte_pairs ps) (preferred k) (preferred v) ≡ byte_pairs (put k v ps) →
    match_ordering o ((preferred k, preferred v) ∷ byte_pairs (pair l w ps)) ((preferred l, preferred v) ∷ byte_pairs ps) ((preferred l, preferred w) ∷ insert_entry (slice_cmp nat_cmp) (byte_pairs ps) (preferred k) (preferred v))
    ≡ byte_pairs (cond (is_lt o) (pair k v (pair l w ps)) (pair l w (put k v ps)))
insert_at Less k v l w ps e n rest = refl
insert_at Equal k v l w ps e n rest =
    let same : preferred k ≡ preferred l = exact_bytes (preferred k) (preferred l) (sym e) in
    let yes : bytes_eq (preferred k) (preferred l) ≡ true = (bytes_eq-Decides (preferred k) (preferred l)).1 same in
    let no : true ≡ false = sym yes ∙ n in absurd (cc)
insert_at Greater k v l w ps e n rest = ap (λ es. (preferred l, preferred w) ∷ es) rest

insert_put : (k v : Value) (ps : Pairs) → has_key (preferred k) (byte_pairs ps) ≡ false → insert_entry (slice_cmp nat_cmp) (byte_pairs ps) (preferred k) (preferred v) ≡ byte_pairs (put k v ps)
insert_put k v no_pairs e = refl
insert_put k v (pair l w ps) e =
    let n = neither (bytes_eq (preferred k) (preferred l)) (has_key (preferred k) (byte_pairs ps)) e in
    insert_at (slice_cmp nat_cmp (preferred k) (preferred l)) k v l w ps refl n.0 (insert_put k v ps n.1)

has_either : (b : Bool) (part : List ℕ) (k v l w : Value) (ps : Pairs) → has_key part (byte_pairs (put k v ps)) ≡ (bytes_eq part (preferred k) || has_key part (byte_pairs ps)) →
    has_key part (byte_pairs (cond b (pair k v (pair l w ps)) (pair l w (put k v ps)))) ≡ (bytes_eq part (preferred k) || has_key part (byte_pairs (pair l w ps)))
has_either true part k v l w ps e = refl
has_either false part k v l w ps e = ap (λ b. bytes_eq part (preferred l) || b) e ∙ or_swap (bytes_eq part (preferred l)) (bytes_eq part (preferred k)) (has_key part (byte_pairs ps))

has_put : (part : List ℕ) (k v : Value) (ps : Pairs) → has_key part (byte_pairs (put k v ps)) ≡ (bytes_eq part (preferred k) || has_key part (byte_pairs ps))
has_put part k v no_pairs = refl
has_put part k v (pair l w ps) = has_either (comes_before k l) part k v l w ps (has_put part k v ps)

-- ---- the walk over the pairs of a map

pub writable : (x : Value) → IsPlain x → IsWritable x
writable x p = record { in_range = p.in_range; fitting = p.fitting; assignable = p.assignable; counts = p.counts }

-- of the pairs `all`, the first of which is at `start`, those before `next` are walked and noted in order, and these are left
pub record KnowsPairs (es : List (List ℕ × List ℕ)) (left : Pairs) (next : ℕ) (all : Pairs) (start : ℕ) : Type 0 where
  pub plain : ArePairsPlain left
  pub room : next + pairs_place_count left < 2 ^ 64
  pub earlier : List Value
  pub writable : AllWritable earlier
  pub valid : AreValid earlier
  pub sofar : Pairs
  pub bytes : es ≡ byte_pairs sofar
  pub has_them : (part : List ℕ) → has_key part (byte_pairs sofar) ≡ among earlier part
  pub gathers : gathered left sofar ≡ gathered all no_pairs
  pub follows : (r : Result ℕ Unsound) → WalksAfter earlier left next r → WalksAfter [] all start r

pub knows_none : (all : Pairs) (start : ℕ) → ArePairsPlain all → start + pairs_place_count all < 2 ^ 64 → KnowsPairs [] all start all start
knows_none all start p r = record { plain = p; room = r; earlier = []; writable = tt; valid = tt; sofar = no_pairs; bytes = refl; has_them = λ part. refl; gathers = refl; follows = λ s h. h }

has_it : (es : List (List ℕ × List ℕ)) (k v : Value) (ps : Pairs) (next : ℕ) (all : Pairs) (start : ℕ) (h : KnowsPairs es (pair k v ps) next all start) (b : Bool) → has_key (deterministic k) es ≡ b → among h.earlier (deterministic k) ≡ b
has_it es k v ps next all start h b e = sym (h.has_them (deterministic k)) ∙ (ap (has_key (deterministic k)) (sym h.bytes) ∙ e)

pub new_key : (es : List (List ℕ × List ℕ)) (k v : Value) (ps : Pairs) (next : ℕ) (all : Pairs) (start : ℕ) (h : KnowsPairs es (pair k v ps) next all start) → has_key (deterministic k) es ≡ false → IsOneOf h.earlier k → ⊥
new_key es k v ps next all start h e = missed_among h.earlier k h.writable h.valid (has_it es k v ps next all start h false e)

pub knows_more : (es : List (List ℕ × List ℕ)) (k v : Value) (ps : Pairs) (next mid last : ℕ) (all : Pairs) (start : ℕ) → KnowsPairs es (pair k v ps) next all start → has_key (deterministic k) es ≡ false → Walks k next (Ok mid) → Walks v mid (Ok last) →
    KnowsPairs (insert_entry (slice_cmp nat_cmp) es (deterministic k) (deterministic v)) ps last all start
knows_more es k v ps next mid last all start h e wk wv = record {
  plain = (plain_pair k v ps h.plain).2;
  room = omega (arith, h.room, wk.1, wv.1);
  earlier = k ∷ h.earlier;
  writable = (writable k (plain_pair k v ps h.plain).0, h.writable);
  valid = (wk.0, h.valid);
  sofar = put (ordered k) (ordered v) h.sofar;
  bytes = ap (λ fs. insert_entry (slice_cmp nat_cmp) fs (deterministic k) (deterministic v)) h.bytes ∙ insert_put (ordered k) (ordered v) h.sofar (ap (has_key (deterministic k)) (sym h.bytes) ∙ e);
  has_them = λ part. has_put part (ordered k) (ordered v) h.sofar ∙ ap (λ b. bytes_eq part (deterministic k) || b) (h.has_them part);
  gathers = h.gathers;
  follows = λ r c. h.follows r (after_more h.earlier k v ps next mid last r (new_key es k v ps next all start h e) wk wv c);
}

pub ends_repeated : (es : List (List ℕ × List ℕ)) (k v : Value) (ps : Pairs) (next : ℕ) (all : Pairs) (start : ℕ) → KnowsPairs es (pair k v ps) next all start → has_key (deterministic k) es ≡ true → WalksAfter [] all start (Err (Duplicate next))
ends_repeated es k v ps next all start h e =
    h.follows (Err (Duplicate next)) (after_repeat h.earlier k v ps next (found_among h.earlier k h.writable (writable k (plain_pair k v ps h.plain).0) (has_it es k v ps next all start h true e)))

pub ends_in_key : (es : List (List ℕ × List ℕ)) (k v : Value) (ps : Pairs) (next : ℕ) (all : Pairs) (start : ℕ) (e : Unsound) → KnowsPairs es (pair k v ps) next all start → Walks k next (Err e) → WalksAfter [] all start (Err e)
ends_in_key es k v ps next all start e h w = h.follows (Err e) (after_key h.earlier k v ps next e h.valid w)

pub ends_in_value : (es : List (List ℕ × List ℕ)) (k v : Value) (ps : Pairs) (next mid : ℕ) (all : Pairs) (start : ℕ) (e : Unsound) → KnowsPairs es (pair k v ps) next all start → has_key (deterministic k) es ≡ false → Walks k next (Ok mid) → Walks v mid (Err e) → WalksAfter [] all start (Err e)
ends_in_value es k v ps next mid all start e h new wk wv = h.follows (Err e) (after_value h.earlier k v ps next mid e (new_key es k v ps next all start h new) wk wv)

pub all_known : (es : List (List ℕ × List ℕ)) (next : ℕ) (all : Pairs) (start : ℕ) (old new : List ℕ) → KnowsPairs es no_pairs next all start → ArePairsPlain all → new ≡ old ++ joined es → LaysPairs all start old new (Ok next)
all_known es next all start old new h p e =
    let w : WalksAfter [] all start (Ok next) = h.follows (Ok next) (after_none h.earlier next) in
    let ws : ArePairsWritable all = record { in_range = p.in_range; fitting = p.fitting; assignable = p.assignable; counts = p.counts } in
    let order : h.sofar ≡ pairs_ordered all = h.gathers ∙ gathered_all all ws (valid_apart (pairs all) (λ i r. w.0 r.0 r.2)) in
    (w, e ∙ ap (λ b. old ++ b) (ap joined h.bytes ∙ joined_pairs h.sofar ∙ ap pairs_preferred order))
