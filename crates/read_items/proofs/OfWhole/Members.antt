-- The members and the pairs that were read so far.
use Rattle.std.proofs.Common.{◌≡◌, ℕ, ◌+◌, ◌-◌, ◌<◌, ◌≤◌, Option, List, [], ◌∷◌, ◌++◌, length, drop, refl, sym, ap, ◌∙◌, subst, arith, append_assoc, length-append}
use Rattle.cbor_data.specs.Value.{Value, array, pairs, depth_of}
use Rattle.cbor_data.specs.Forms.{Forms, no_forms, PairForms, no_pair_forms, forms_len, pair_forms_len, flat, forms_flat, pair_forms_flat, meaning, meanings, pair_meanings}
use Rattle.item_nodes.specs.View.{view, values_view, pairs_view}
use Rattle.item_nodes.specs.declared.item.Item.{Item}
use Rattle.read_items.specs.Whole.Parts.{IsItemAt, AreFormsAt, ArePairsAt, IsEnd, end_length, IsArrayAt, IsMapAt}
use Rattle.read_items.proofs.OfWhole.Joined.{with_form, forms_len-with, forms_flat-with, ok-with, text-with, depth-with, values-with, with_pair_form, pair_forms_len-with, pair_forms_flat-with, pairs_ok-with, pairs_text-with, pairs_depth-with, pair_values-with}

-- an item with the depth of its form
form_depth : (d : ℕ) (b : List ℕ) (at end : ℕ) (x : Value) (h : IsItemAt d b at x end) → depth_of (meaning h.written) ≤ d
form_depth d b at end x h = subst (λ y. depth_of y ≤ d) h.meant h.shallow

-- forms, and the form of an item behind them
pub one_form_more : (depth : ℕ) (b : List ℕ) (start at end : ℕ) (x : Value) (fs : Forms) → AreFormsAt depth b start fs at → (h : IsItemAt depth b at x end) → AreFormsAt depth b start (with_form fs h.written) end
one_form_more depth b start at end x fs t h =
    let g = h.written in
    record {
      ok = ok-with fs g t.ok h.ok;
      text = text-with fs g t.text h.text;
      shallow = depth-with depth fs g t.shallow (form_depth depth b at end x h);
      placed = omega (arith, h.placed, t.placed, ap length (forms_flat-with fs g), length-append (forms_flat fs) (flat g));
      is = t.is ∙ (ap (λ r. forms_flat fs ++ r) h.is ∙ (sym (append_assoc (forms_flat fs) (flat g) (drop end b)) ∙ ap (λ r. r ++ drop end b) (sym (forms_flat-with fs g))));
    }

-- members are in b from `start` to `at`, and these are their items
pub record AreRead (depth : ℕ) (b : List ℕ) (start at : ℕ) (items : List Item) : Type 0 where
  pub written : Forms
  pub counted : forms_len written ≡ length items
  pub there : AreFormsAt depth b start written at
  pub values : values_view items ≡ meanings written

pub none_read : (depth : ℕ) (b : List ℕ) (start : ℕ) (items : List Item) → items ≡ [] → AreRead depth b start start items
none_read depth b start items none = record {
  written = no_forms;
  counted = sym (ap length none);
  there = record { ok = tt; text = tt; shallow = omega arith; placed = omega arith; is = refl };
  values = ap values_view none;
}

pub one_more : (depth : ℕ) (b : List ℕ) (start at end : ℕ) (items : List Item) (x : Item) → AreRead depth b start at items → IsItemAt depth b at (view x) end → AreRead depth b start end (items ++ x ∷ [])
one_more depth b start at end items x s h =
    let fs = s.written in
    let g = h.written in
    record {
      written = with_form fs g;
      counted = omega (arith, forms_len-with fs g, s.counted, length-append items (x ∷ []));
      there = one_form_more depth b start at end (view x) fs s.there h;
      values = values-with items x fs g s.values h.meant;
    }

-- the array of the members that were read, where it ends
pub array_read : (depth : ℕ) (count : Option ℕ) (b : List ℕ) (start at read n : ℕ) (items kept : List Item) (x : Value) → 0 < depth → AreRead (depth - 1) b start at items → IsEnd count read b at → read ≡ length items → n ≡ end_length count →
    kept ≡ items → x ≡ array (values_view kept) → IsArrayAt depth count b start x (at + n)
array_read depth count b start at read n items kept x some s ends all e same is = record {
  written = s.written;
  stop = at;
  some = some;
  there = s.there;
  ends = subst (λ k. IsEnd count k b at) (all ∙ sym s.counted) ends;
  placed = ap (λ k. at + k) e;
  meant = is ∙ (ap (λ xs. array (values_view xs)) same ∙ ap array s.values);
}

-- the same for pairs
pub record ArePairsRead (depth : ℕ) (b : List ℕ) (start at : ℕ) (items : List (Item × Item)) : Type 0 where
  pub written : PairForms
  pub counted : pair_forms_len written ≡ length items
  pub there : ArePairsAt depth b start written at
  pub values : pairs_view items ≡ pair_meanings written

pub no_pairs_read : (depth : ℕ) (b : List ℕ) (start : ℕ) (items : List (Item × Item)) → items ≡ [] → ArePairsRead depth b start start items
no_pairs_read depth b start items none = record {
  written = no_pair_forms;
  counted = sym (ap length none);
  there = record { ok = tt; text = tt; shallow = omega arith; placed = omega arith; is = refl };
  values = ap pairs_view none;
}

-- forms of pairs, and those of a key and a value behind them
pub one_pair_form_more : (depth : ℕ) (b : List ℕ) (start at between end : ℕ) (x y : Value) (ps : PairForms) → ArePairsAt depth b start ps at → (h : IsItemAt depth b at x between) → (i : IsItemAt depth b between y end) → ArePairsAt depth b start (with_pair_form ps h.written i.written) end
one_pair_form_more depth b start at between end x y ps t h i =
    let k = h.written in
    let v = i.written in
    let front = pair_forms_flat ps in
    let both : drop at b ≡ (flat k ++ flat v) ++ drop end b = h.is ∙ (ap (λ r. flat k ++ r) i.is ∙ sym (append_assoc (flat k) (flat v) (drop end b))) in
    record {
      ok = pairs_ok-with ps k v t.ok h.ok i.ok;
      text = pairs_text-with ps k v t.text h.text i.text;
      shallow = pairs_depth-with depth ps k v t.shallow (form_depth depth b at between x h) (form_depth depth b between end y i);
      placed = omega (arith, h.placed, i.placed, t.placed, ap length (pair_forms_flat-with ps k v), length-append front (flat k ++ flat v), length-append (flat k) (flat v));
      is = t.is ∙ (ap (λ r. front ++ r) both ∙ (sym (append_assoc front (flat k ++ flat v) (drop end b)) ∙ ap (λ r. r ++ drop end b) (sym (pair_forms_flat-with ps k v))));
    }

pub one_pair_more : (depth : ℕ) (b : List ℕ) (start at between end : ℕ) (items : List (Item × Item)) (p : Item × Item) → ArePairsRead depth b start at items → IsItemAt depth b at (view p.0) between → IsItemAt depth b between (view p.1) end → ArePairsRead depth b start end (items ++ p ∷ [])
one_pair_more depth b start at between end items p s h i =
    let ps = s.written in
    let k = h.written in
    let v = i.written in
    record {
      written = with_pair_form ps k v;
      counted = omega (arith, pair_forms_len-with ps k v, s.counted, length-append items (p ∷ []));
      there = one_pair_form_more depth b start at between end (view p.0) (view p.1) ps s.there h i;
      values = pair_values-with items p ps k v s.values h.meant i.meant;
    }

pub map_read : (depth : ℕ) (count : Option ℕ) (b : List ℕ) (start at read n : ℕ) (items kept : List (Item × Item)) (x : Value) → 0 < depth → ArePairsRead (depth - 1) b start at items → IsEnd count read b at → read ≡ length items → n ≡ end_length count →
    kept ≡ items → x ≡ pairs (pairs_view kept) → IsMapAt depth count b start x (at + n)
map_read depth count b start at read n items kept x some s ends all e same is = record {
  written = s.written;
  stop = at;
  some = some;
  there = s.there;
  ends = subst (λ k. IsEnd count k b at) (all ∙ sym s.counted) ends;
  placed = ap (λ k. at + k) e;
  meant = is ∙ (ap (λ ps. pairs (pairs_view ps)) same ∙ ap pairs s.values);
}
