-- What a byte string holds.
use Rattle.std.proofs.Common.{◌≡◌, ℕ, zero, suc, ◌-◌, ◌/◌, ◌<◌, List, [], ◌∷◌, ◌++◌, length, map, drop, get_or, slice_index, sym, ap, subst, refl, ◌∙◌, append_assoc, length-drop, arith}
use Rattle.std.proofs.lemmas.List.{append-nil, map-append}
use Rattle.item_nodes.specs.View.{view}
use Rattle.item_nodes.specs.declared.item.Item.{Item}
use Rattle.cbor_data.specs.Forms.{FitsSize, bytes_form, head_in}
use Rattle.cbor_data.specs.Value.{Value, array, bytes, AreBytes, Values, no_values, value, values_of}
use Rattle.cbor_data.specs.Embedded.{Embeds, EmbedsAll, none, one_more}
use Rattle.read_items.specs.Whole.Parts.{IsArgumentAt}
use Rattle.cddl_meaning.specs.Forms.{Content, one_item, sequence_of_items}
use Rattle.cddl_meaning.specs.Held.{Holds, item, items}

as_list : {b : List ℕ} {x : Value} → Embeds b x → EmbedsAll b (value x no_values)
as_list {b = b} {x = x} h = subst (λ c. EmbedsAll c (value x no_values)) (append-nil b) (one_more h none)

pub holds_none : (c : Content) (b : List ℕ) → ((xs : Values) → EmbedsAll b xs → ⊥) → (y : Value) → Holds c b y → ⊥
holds_none c b n y (item h) = n (value y no_values) (as_list h)
holds_none c b n y (items {xs = xs} h) = n xs h

pub not_held : (b : List ℕ) → ((x : Value) → Embeds b x → ⊥) → (y : Value) → Holds one_item b y → ⊥
not_held b n y (item h) = n y h

pub holds_list : (b : List ℕ) (xs ys : List Value) → ys ≡ xs → EmbedsAll b (values_of xs) → Holds sequence_of_items b (array (values_of ys))
holds_list b xs ys i e = items (subst (λ zs. EmbedsAll b (values_of zs)) (sym i) e)

bytes_behind : (b : List ℕ) (k : ℕ) → ((i : ℕ) → get_or b i 0 < 256) → AreBytes (drop k b)
bytes_behind [] zero small = tt
bytes_behind [] (suc k) small = tt
bytes_behind (x ∷ b) zero small = (small 0, bytes_behind b zero (λ i. small (suc i)))
bytes_behind (x ∷ b) (suc k) small = bytes_behind b k (λ i. small (suc i))

-- A head of a byte string, and the content behind it, which is all that is left.
pub string_held : (b : List ℕ) (n start : ℕ) → ((i : ℕ) → get_or b i 0 < 256) → slice_index b 0 / 32 ≡ 2 → IsArgumentAt b 0 n start → n ≡ length b - start → Holds one_item b (bytes (drop start b))
string_held b n start small major h many =
    let len : length (drop start b) ≡ n = length-drop start b ∙ sym many in
    item (record {
      spells = record {
        written = bytes_form h.size (drop start b);
        ok = (subst (FitsSize h.size) (sym len) h.fits, bytes_behind b start small);
        text = tt;
        is = h.is ∙ ap (λ m. head_in h.size m n ++ drop start b) major ∙ ap (λ k. head_in h.size 2 k ++ drop start b) (sym len);
        meant = refl;
      };
      valid = λ i e. e;
      shallow = omega arith;
    })

-- items that were sound, one by one
pub one_more_plain : (xs ys : List Item) (i : Item) (x : Value) (old rest all : List Value) → ys ≡ xs ++ i ∷ [] → view i ≡ x → old ≡ x ∷ rest → map view xs ++ old ≡ all → map view ys ++ rest ≡ all
one_more_plain xs ys i x old rest all e v o h = rw (e, map-append view xs (i ∷ []), append_assoc (map view xs) (view i ∷ []) rest, v, sym o) h

pub all_plain : (xs : List Item) (rest all : List Value) → length rest ≡ 0 → map view xs ++ rest ≡ all → map view xs ≡ all
all_plain xs [] all e h = sym (append-nil (map view xs)) ∙ h
all_plain xs (x ∷ rest) all e h = absurd (omega (arith, e))
