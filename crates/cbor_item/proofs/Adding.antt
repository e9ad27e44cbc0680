-- Adding the deterministic bytes of an item in parts.
use Rattle.std.proofs.Common.{◌≡◌, ℕ, List, [], ◌++◌, sym, ap, ◌∙◌, subst, Result, Ok, Err, OnOk, append_assoc, append-nil, Vec, Box, Global}
use Rattle.cbor_data.specs.Deterministic.{values_ordered, pairs_ordered, deterministic}
use Rattle.cbor_data.specs.Preferred.{shortest_head, values_preferred, pairs_preferred}
use Rattle.cbor_data.specs.Validity.{IsValid}
use Rattle.cbor_data.specs.Value.{Value, array, pairs, tag, values_len, pairs_len}
use Rattle.cbor_data.proofs.Lemmas.{apart_valid, as_many_pairs, pairs_same_ordered, valid_apart}
use Rattle.item_nodes.specs.View.{view, values_view, pairs_view}
use Rattle.cbor_item.specs.Walk.{IsPlain}
use Rattle.item_nodes.specs.declared.item.Item.{Item, Array, Map, Tag}
use Rattle.cbor_item.proofs.Laying.{as_long, joined_on}
use Rattle.cbor_item.proofs.Plain.{plain_content}
use Rattle.item_nodes.proofs.Lemmas.{view-Array, view-Map, view-Tag}

pub ok_then : {T E : Type 0} {P Q : Type 0} (r : Result T E) → (P → Q) → OnOk r P → OnOk r Q
ok_then (Ok x) f h = f h
ok_then (Err e) f h = h

-- what is known of an item and of its parts
pub record IsKnown (x : Value) : Type 0 where
  pub plain : IsPlain x
  pub valid : IsValid x

at_view : {i j : Item} {x : Value} → i ≡ j → view j ≡ x → IsPlain (view i) → IsValid (view i) → IsKnown x
at_view {x = x} is seen p v = record { plain = subst IsPlain (ap view is ∙ seen) p; valid = subst IsValid (ap view is ∙ seen) v }

pub array_known : (i : Item) (v : Vec Item Global) → i ≡ Array v → IsPlain (view i) → IsValid (view i) → IsKnown (array (values_view v.items))
array_known i v is p h = at_view is (view-Array v) p h

pub map_known : (i : Item) (v : Vec (Item × Item) Global) → i ≡ Map v → IsPlain (view i) → IsValid (view i) → IsKnown (pairs (pairs_view v.items))
map_known i v is p h = at_view is (view-Map v) p h

pub tag_known : (i : Item) (n : ℕ) (x : Box Item Global) → i ≡ Tag n x → IsPlain (view i) → IsValid (view i) → IsKnown (view x.value)
tag_known i n x is p h =
    let k = at_view is (view-Tag n x) p h in record { plain = plain_content n (view x.value) k.plain; valid = apart_valid (view x.value) (valid_apart (tag n (view x.value)) k.valid) }

pub added_array : (i : Item) (v : Vec Item Global) (old mid new : List ℕ) → i ≡ Array v → mid ≡ old ++ shortest_head 4 (values_len (values_view v.items)) → new ≡ mid ++ values_preferred (values_ordered (values_view v.items)) → new ≡ old ++ deterministic (view i)
added_array i v old mid new is e h =
    let xs = values_view v.items in
    joined_on old mid new (shortest_head 4 (values_len xs)) (values_preferred (values_ordered xs)) e h
    ∙ (ap (λ n. old ++ (shortest_head 4 n ++ values_preferred (values_ordered xs))) (sym (as_long xs)) ∙ ap (λ x. old ++ deterministic x) (sym (ap view is ∙ view-Array v)))

pub added_map : (i : Item) (v : Vec (Item × Item) Global) (old mid new : List ℕ) → i ≡ Map v → mid ≡ old ++ shortest_head 5 (pairs_len (pairs_view v.items)) → new ≡ mid ++ pairs_preferred (pairs_ordered (pairs_view v.items)) → new ≡ old ++ deterministic (view i)
added_map i v old mid new is e h =
    let ps = pairs_view v.items in
    joined_on old mid new (shortest_head 5 (pairs_len ps)) (pairs_preferred (pairs_ordered ps)) e h
    ∙ (ap (λ n. old ++ (shortest_head 5 n ++ pairs_preferred (pairs_ordered ps))) (as_many_pairs (pairs_same_ordered ps)) ∙ ap (λ x. old ++ deterministic x) (sym (ap view is ∙ view-Map v)))

pub added_tag : (i : Item) (n : ℕ) (x : Box Item Global) (old mid new : List ℕ) → i ≡ Tag n x → mid ≡ old ++ shortest_head 6 n → new ≡ mid ++ deterministic (view x.value) → new ≡ old ++ deterministic (view i)
added_tag i n x old mid new is e h = joined_on old mid new (shortest_head 6 n) (deterministic (view x.value)) e h ∙ ap (λ y. old ++ deterministic y) (sym (ap view is ∙ view-Tag n x))

-- so far and with a part more
pub more_added : (here mid part rest whole : List ℕ) → mid ≡ here ++ part → here ++ (part ++ rest) ≡ whole → mid ++ rest ≡ whole
more_added here mid part rest whole e h = ap (λ b. b ++ rest) e ∙ (append_assoc here part rest ∙ h)

pub pair_added : (here mid new key held rest whole : List ℕ) → mid ≡ here ++ key → new ≡ mid ++ held → here ++ (key ++ (held ++ rest)) ≡ whole → new ++ rest ≡ whole
pair_added here mid new key held rest whole e f h = more_added mid new held rest whole f (more_added here mid key (held ++ rest) whole e h)

pub all_added : (here rest whole : List ℕ) → rest ≡ [] → here ++ rest ≡ whole → here ≡ whole
all_added here rest whole e h = sym (append-nil here) ∙ (ap (λ b. here ++ b) (sym e) ∙ h)
