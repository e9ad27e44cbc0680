-- Keys by their marks.
use Rattle.std.proofs.Common.{◌≡◌, ℕ, zero, suc, ◌+◌, ◌/◌, ◌%◌, ◌==◌, ◌<◌, ◌≤◌, Bool, true, false, if◌then◌else◌, List, [], ◌∷◌, ◌++◌, length, take, drop, get_or, Some, None, refl, sym, ap, ap₂, ◌∙◌, subst, arith}
use Rattle.std.specs.Cmp.Lexicographic.{slice_cmp}
use Rattle.std.specs.List.{AllByRecursion}
use Rattle.std.specs.Ordering.{is_gt, nat_cmp, ordering_reverse, ordering_then}
use Rattle.std.specs.declared.cmp.Ordering.{Ordering}
use Rattle.std.specs.declared.cmp.Ordering.TheVariants.{Less, Equal, Greater}
use Rattle.std.proofs.lemmas.Cmp.{nat_list_cmp_total, tied_itself, upto}
use Rattle.cbor_data.specs.declared.Width.TheVariants.{W16, W32, W64}
use Rattle.cbor_data.specs.Value.{Value, array, tag, simple, float, Values, value, Pairs, values_len, AreBytes}
use Rattle.cbor_data.specs.Equivalence.{AreSame, no_members, member, IsSame, same_uint, same_nint, same_bytes, same_text, same_array, same_map, same_tag, same_simple, same_float}
use Rattle.cbor_data.specs.Forms.{head_in, FitsSize, uint_form, nint_form, bytes_form, text_form, flat, meaning, Spells}
use Rattle.cbor_data.proofs.Lemmas.{as_many_pairs, one_form}
use Rattle.item_nodes.specs.Apart.{has_parts}
use Rattle.read_items.specs.Whole.Parts.{IsArgumentAt, IsItemAt}
use Rattle.read_items.proofs.OfWhole.Lemmas.{content_len, last_item, string_lies}
use Rattle.cbor_tape.specs.declared.entry.Entry.{Entry}
use Rattle.cbor_tape.specs.declared.keys.Key.{Key}
use Rattle.cbor_tape.specs.Keys.{mark, marks, mark_of, key_marks, AreOther, ArePairsOn, IsAbove, IsKeyAt, IsLastKind, IsPlainAt, IsWithKey}
use Rattle.cbor_tape.proofs.Leaves.{last_plain, last_value}

-- keys that are the same have one mark
mutual
  pub same_mark : (k l : Value) → IsSame k l → mark k ≡ mark l
  same_mark _ _ same_uint = refl
  same_mark _ _ same_nint = refl
  same_mark _ _ same_bytes = refl
  same_mark _ _ same_text = refl
  same_mark (array xs) (array ys) (same_array d) = let both = same_marks xs ys d in ap₂ (λ (n : ℕ) (ms : List ℕ). 4 ∷ n ∷ ms) both.0 both.1
  same_mark _ _ (same_map d) = ap (λ n. 5 ∷ n ∷ []) (as_many_pairs d)
  same_mark (tag n x) (tag _ y) (same_tag d) = ap (λ ms. 6 ∷ n ∷ ms) (same_mark x y d)
  same_mark _ _ same_simple = refl
  same_mark _ _ same_float = refl

  same_marks : (xs ys : Values) → AreSame xs ys → (values_len xs ≡ values_len ys) × (marks xs ≡ marks ys)
  same_marks _ _ no_members = (refl, refl)
  same_marks (value x xs) (value y ys) (member d e) = let rest = same_marks xs ys e in (ap suc rest.0, ap₂ (λ (m ms : List ℕ). m ++ ms) (same_mark x y d) rest.1)

-- whatever is spelled where a key is has its mark
pub spelled_mark : (b : List ℕ) (at : ℕ) (m : List ℕ) (x : Value) (spelling after : List ℕ) → IsKeyAt b at m → Spells x spelling → drop at b ≡ spelling ++ after → mark x ≡ m
spelled_mark b at m x spelling after k s is =
    let same = one_form s.written k.written after k.after s.ok k.ok (ap (λ r. r ++ after) (sym s.is) ∙ (sym is ∙ k.is)) in
    ap mark (s.meant ∙ ap meaning same.0) ∙ k.marked

pub item_mark : (d : ℕ) (b : List ℕ) (at end : ℕ) (m : List ℕ) (x : Value) → IsKeyAt b at m → IsItemAt d b at x end → mark x ≡ m
item_mark d b at end m x k h = spelled_mark b at m x (flat h.written) (drop end b) k (record { written = h.written; ok = h.ok; text = h.text; is = refl; meant = h.meant }) h.is

pub one_mark : (b : List ℕ) (at : ℕ) (m n : List ℕ) → IsKeyAt b at m → IsKeyAt b at n → m ≡ n
one_mark b at m n k l =
    let same = one_form k.written l.written k.after l.after k.ok l.ok (sym k.is ∙ l.is) in
    sym k.marked ∙ (ap (λ f. mark (meaning f)) same.0 ∙ l.marked)

-- the item at an offset is a key there
pub item_key : (d : ℕ) (b : List ℕ) (at end : ℕ) (x : Value) → IsItemAt d b at x end → IsKeyAt b at (mark x)
item_key d b at end x h = record { written = h.written; ok = h.ok; after = drop end b; is = h.is; marked = ap mark (sym h.meant) }

pub spelled_key : (b : List ℕ) (at : ℕ) (x : Value) (spelling after : List ℕ) → Spells x spelling → drop at b ≡ spelling ++ after → IsKeyAt b at (mark x)
spelled_key b at x spelling after s is = record { written = s.written; ok = s.ok; after = after; is = is ∙ ap (λ r. r ++ after) s.is; marked = ap mark (sym s.meant) }

pub plain_key : (b : List ℕ) (at end : ℕ) (m : List ℕ) → IsPlainAt b at m end → IsKeyAt b at m
plain_key b at end m k = record { written = k.written; ok = k.ok; after = drop end b; is = k.is; marked = k.marked }

-- a key that is no string
pub bare_key : (b : List ℕ) (at end : ℕ) (key : Key) (k n : ℕ) → key.kind ≡ k → key.argument ≡ n → key.string.now ≡ [] → IsPlainAt b at (k ∷ n ∷ []) end → IsPlainAt b at (mark_of key) end
bare_key b at end key k n kind argument empty h =
    let same : mark_of key ≡ k ∷ n ∷ [] = ap₂ (λ (i j : ℕ). i ∷ j ∷ key.string.now) kind argument ∙ ap (λ l. k ∷ n ∷ l) empty in
    subst (λ m. IsPlainAt b at m end) (sym same) h

-- a key from its head

pub integer_key : (b : List ℕ) (at n start m : ℕ) (h : IsArgumentAt b at n start) → m ≡ get_or b at 0 / 32 → m < 2 → IsPlainAt b at (m ∷ n ∷ []) start
integer_key b at n start m h e few = by m (subst (λ k. drop at b ≡ head_in h.size k n ++ drop start b) (sym e) h.is) few
  where
    by : (m : ℕ) → drop at b ≡ head_in h.size m n ++ drop start b → m < 2 → IsPlainAt b at (m ∷ n ∷ []) start
    by zero is few = record { written = uint_form h.size n; ok = h.fits; is = is; plain = refl; marked = refl }
    by (suc zero) is few = record { written = nint_form h.size n; ok = h.fits; is = is; plain = refl; marked = refl }
    by (suc (suc m)) is few = absurd (omega arith)

pub string_key : (b : List ℕ) (at n start m : ℕ) (s : List ℕ) (h : IsArgumentAt b at n start) → m ≡ get_or b at 0 / 32 → 2 ≤ m → m < 4 → start + n ≤ length b → s ≡ take n (drop start b) → AreBytes (take n (drop start b)) → IsPlainAt b at (m ∷ n ∷ s) (start + n)
string_key b at n start m s h e least few within is small =
    subst (λ r. IsPlainAt b at (m ∷ n ∷ r) (start + n)) (sym is) (by m (string_lies b at n start (start + n) m h (sym e) within refl).is least few)
  where
    content : List ℕ
    content = take n (drop start b)

    len : length content ≡ n
    len = content_len b start n within

    fits : FitsSize h.size (length content)
    fits = subst (FitsSize h.size) (sym len) h.fits

    by : (m : ℕ) → drop at b ≡ (head_in h.size m (length content) ++ content) ++ drop (start + n) b → 2 ≤ m → m < 4 → IsPlainAt b at (m ∷ n ∷ content) (start + n)
    by zero is least few = absurd (omega arith)
    by (suc zero) is least few = absurd (omega arith)
    by (suc (suc zero)) is least few = record { written = bytes_form h.size content; ok = (fits, small); is = is; plain = refl; marked = ap (λ k. 2 ∷ k ∷ content) len }
    by (suc (suc (suc zero))) is least few = record { written = text_form h.size content; ok = (fits, small); is = is; plain = refl; marked = ap (λ k. 3 ∷ k ∷ content) len }
    by (suc (suc (suc (suc m)))) is least few = absurd (omega arith)

last_mark : (a c e : Bool) (n : ℕ) → mark (if a then float W16 n else (if c then float W32 n else (if e then float W64 n else simple n))) ≡ (if a then 8 else (if c then 9 else (if e then 10 else 7))) ∷ n ∷ []
last_mark true c e n = refl
last_mark false true e n = refl
last_mark false false true n = refl
last_mark false false false n = refl

pub last_key : (b : List ℕ) (at n start kind : ℕ) → IsArgumentAt b at n start → IsLastKind (get_or b at 0) n kind → IsPlainAt b at (kind ∷ n ∷ []) start
last_key b at n start kind h k =
    let info = get_or b at 0 % 32 in
    let there : IsItemAt 0 b at (last_value info n) start = last_item 0 b at n start (last_value info n) h k.0 (record { is = refl; assignable = k.1 }) in
    record {
      written = there.written;
      ok = there.ok;
      is = there.is;
      plain = ap has_parts (sym there.meant) ∙ last_plain (info == 25) (info == 26) (info == 27) n;
      marked = ap mark (sym there.meant) ∙ (last_mark (info == 25) (info == 26) (info == 27) n ∙ ap (λ m. m ∷ n ∷ []) (sym k.2));
    }

-- the highest mark

all_map : {A : Type 0} (P Q : A → Type 0) (xs : List A) → ((x : A) → P x → Q x) → AllByRecursion P xs → AllByRecursion Q xs
all_map P Q [] f h = tt
all_map P Q (x ∷ xs) f h = (f x h.0, all_map P Q xs f h.1)

all_with : {A : Type 0} (P : A → Type 0) (xs : List A) (x : A) → AllByRecursion P xs → P x → AllByRecursion P (xs ++ x ∷ [])
all_with P [] x h p = (p, tt)
all_with P (y ∷ xs) x h p = (h.0, all_with P xs x h.1 p)

abbrev IsUpTo : List ℕ → List ℕ → Type 0
IsUpTo m n = is_gt (slice_cmp nat_cmp n m) ≡ false

-- the first key
pub first_above : (b : List ℕ) (at : ℕ) (m : List ℕ) → IsKeyAt b at m → IsAbove b None at m
first_above b at m k = record {
  other = λ ms none. subst (AreOther m) (sym none) tt;
  highest = λ ms none. (m, k, subst (λ ns. AllByRecursion (IsUpTo m) (ns ++ m ∷ [])) (sym none) (ap is_gt (tied_itself nat_list_cmp_total m), tt));
}

pub with_first : (b : List ℕ) (t : List Entry) (first last at : ℕ) (m : List ℕ) → IsKeyAt b at m → IsWithKey b t first last None at m
unfolding first_above
with_first b t first last at m k = record {
  new = λ ps on none. (first_above b at m k).other (key_marks ps) none;
  highest = (first_above b at m k).highest;
}

-- a key above the highest
pub higher_above : (b : List ℕ) (before at : ℕ) (m : List ℕ) → IsKeyAt b at m → ((top : List ℕ) → IsKeyAt b before top → slice_cmp nat_cmp top m ≡ Less) → IsAbove b (Some before) at m
higher_above b before at m k below = record {
  other = λ ms high.
      let top = high.0 in
      let turned : slice_cmp nat_cmp m top ≡ Greater = nat_list_cmp_total.antisymm m top ∙ ap ordering_reverse (below top high.1) in
      all_map (IsUpTo top) (λ n. n ≡ m → ⊥) ms (λ n up is.
      let not_above : is_gt (slice_cmp nat_cmp m top) ≡ false = subst (λ r. is_gt (slice_cmp nat_cmp r top) ≡ false) is up in
      let above : is_gt (slice_cmp nat_cmp m top) ≡ true = ap is_gt turned in
      let no : true ≡ false = sym above ∙ not_above in cc)
      high.2;
  highest = λ ms high.
      let top = high.0 in (
        m,
        k,
        all_with (IsUpTo m) ms m
            (all_map (IsUpTo top) (IsUpTo m) ms (λ n up. upto nat_list_cmp_total n top m up (ap is_gt (below top high.1))) high.2)
            (ap is_gt (tied_itself nat_list_cmp_total m)),
      );
}

-- what is found by the keys' own heads holds of whatever marks they have
below_by : (b : List ℕ) (before at : ℕ) (top m own : List ℕ) → IsKeyAt b before top → IsKeyAt b at m → IsKeyAt b at own → slice_cmp nat_cmp top m ≡ Less → (high : List ℕ) → IsKeyAt b before high → slice_cmp nat_cmp high own ≡ Less
below_by b before at top m own h k l less high there = ap₂ (slice_cmp nat_cmp) (one_mark b before high top there h) (one_mark b at own m l k) ∙ less

pub with_higher : (b : List ℕ) (t : List Entry) (first last before at : ℕ) (top m : List ℕ) → IsKeyAt b before top → IsKeyAt b at m → slice_cmp nat_cmp top m ≡ Less → (own : List ℕ) → IsKeyAt b at own → IsWithKey b t first last (Some before) at own
unfolding higher_above
with_higher b t first last before at top m h k less own l =
    let above = higher_above b before at own l (below_by b before at top m own h k l less) in
    record { new = λ ps on high. above.other (key_marks ps) high; highest = above.highest }

-- another key that is none of them
pub with_other : (b : List ℕ) (t : List Entry) (first last before at : ℕ) (top m : List ℕ) → IsKeyAt b before top → IsKeyAt b at m → slice_cmp nat_cmp top m ≡ Greater → ((ps : Pairs) → ArePairsOn b t first last ps → AreOther m (key_marks ps)) → (own : List ℕ) → IsKeyAt b at own → IsWithKey b t first last (Some before) before own
with_other b t first last before at top m h k more new own l =
    let one : m ≡ own = one_mark b at m own k l in
    let turned : slice_cmp nat_cmp m top ≡ Less = nat_list_cmp_total.antisymm m top ∙ ap ordering_reverse more in
    record {
      new = λ ps on high. subst (λ r. AreOther r (key_marks ps)) one (new ps on);
      highest = λ ms high.
          let same : high.0 ≡ top = one_mark b before high.0 top high.1 h in
          (top, h, subst (λ r. AllByRecursion (IsUpTo top) (ms ++ r ∷ [])) one (all_with (IsUpTo top) ms m (subst (λ r. AllByRecursion (IsUpTo r) ms) same high.2) (ap is_gt turned)));
    }

-- heads decide how marks compare, and where they are equal the strings do

pub by_heads : (m n s h : Ordering) → h ≡ ordering_then m n → (h ≡ Equal → ⊥) → h ≡ ordering_then m (ordering_then n s)
by_heads Less n s h is differ = is
by_heads Greater n s h is differ = is
by_heads Equal Less s h is differ = is
by_heads Equal Greater s h is differ = is
by_heads Equal Equal s h is differ = absurd (differ is)

pub by_strings : (m n s : Ordering) → ordering_then m n ≡ Equal → s ≡ ordering_then m (ordering_then n s)
by_strings Equal Equal s is = refl
by_strings Equal Less s is = absurd (cc)
by_strings Equal Greater s is = absurd (cc)
by_strings Less n s is = absurd (cc)
by_strings Greater n s is = absurd (cc)

-- marks that do not compare as equal differ
pub differing : (m n : List ℕ) → (slice_cmp nat_cmp m n ≡ Equal → ⊥) → n ≡ m → ⊥
differing m n h is = h (subst (λ r. slice_cmp nat_cmp m r ≡ Equal) (sym is) (tied_itself nat_list_cmp_total m))
