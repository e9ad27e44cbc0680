-- What is the same of items that are: how tests see them, and what their parts are.
use Rattle.std.proofs.Common.{◌≡◌, ℕ, suc, length, List, [], ◌∷◌, Some, None, true, false, nat_eq, refl, ap, ap₂, subst}
use Rattle.std.specs.Prelude.{not, ◌&&◌}
use Rattle.lists.proofs.Lemmas.{same_some as some_same}
use Rattle.cbor_data.specs.declared.Width.{Width}
use Rattle.cbor_data.specs.declared.Width.TheVariants.{W16}
use Rattle.cbor_data.specs.Same.{same_value}
use Rattle.cbor_data.specs.Value.{Value, uint, nint, array, pairs, tag, Values, Pairs}
use Rattle.cbor_data.specs.Equivalence.{IsSame, same_uint, same_nint, same_bytes, same_text, same_array, same_map, same_tag, same_simple, same_float, AreSame, no_members, member, ArePairsSame}
use Rattle.cddl_meaning.specs.Forms.{Test, anything, of_major, simple_value, float_of, equals, between, differs_from, less_than, at_most_number, greater_than, at_least_number, sized, bits_among, passes, bits_set, are_bits_among, major_of, is_below, is_up_to, is_simple, is_float, has_size, list_of, members_in, pairs_in, bytes_in, tag_in, simple_in}
use Rattle.cddl_meaning.specs.Literals.{HasNoParts, IsPlainTest}

-- as many items, the same one by one
pub data AllSame : List Value → List Value → Type 0 where
  none : AllSame [] []
  both : {x y : Value} {xs ys : List Value} → IsSame x y → AllSame xs ys → AllSame (x ∷ xs) (y ∷ ys)

pub as_lists : {xs ys : Values} → AreSame xs ys → AllSame (list_of xs) (list_of ys)
as_lists no_members = none
as_lists (member d e) = both d (as_lists e)

pub as_long : {xs ys : List Value} → AllSame xs ys → length xs ≡ length ys
as_long none = refl
as_long (both d e) = ap suc (as_long e)

-- a literal without parts is equal to both or to neither
literal : (v x y : Value) → HasNoParts v → IsSame x y → same_value x v ≡ same_value y v
literal v _ _ h same_uint = refl
literal v _ _ h same_nint = refl
literal v _ _ h same_bytes = refl
literal v _ _ h same_text = refl
literal v _ _ h same_simple = refl
literal v _ _ h same_float = refl
literal (array zs) _ _ h (same_array d) = absurd h
literal _ _ _ h (same_array d) = refl
literal (pairs zs) _ _ h (same_map d) = absurd h
literal _ _ _ h (same_map d) = refl
literal (tag n z) _ _ h (same_tag d) = absurd h
literal _ _ _ h (same_tag d) = refl

up_to_same : (v : Value) {x y : Value} → IsSame x y → (is_up_to v x ≡ is_up_to v y) × (is_up_to x v ≡ is_up_to y v) × (is_below x v ≡ is_below y v) × (is_below v x ≡ is_below v y)
up_to_same v same_uint = (refl, refl, refl, refl)
up_to_same v same_nint = (refl, refl, refl, refl)
up_to_same v same_bytes = (refl, refl, refl, refl)
up_to_same v same_text = (refl, refl, refl, refl)
up_to_same v same_simple = (refl, refl, refl, refl)
up_to_same v same_float = (refl, refl, refl, refl)
up_to_same (uint n) (same_array d) = (refl, refl, refl, refl)
up_to_same (nint n) (same_array d) = (refl, refl, refl, refl)
up_to_same _ (same_array d) = (refl, refl, refl, refl)
up_to_same (uint n) (same_map d) = (refl, refl, refl, refl)
up_to_same (nint n) (same_map d) = (refl, refl, refl, refl)
up_to_same _ (same_map d) = (refl, refl, refl, refl)
up_to_same (uint n) (same_tag d) = (refl, refl, refl, refl)
up_to_same (nint n) (same_tag d) = (refl, refl, refl, refl)
up_to_same _ (same_tag d) = (refl, refl, refl, refl)

major_same : {x y : Value} → IsSame x y → major_of x ≡ major_of y
major_same same_uint = refl
major_same same_nint = refl
major_same same_bytes = refl
major_same same_text = refl
major_same (same_array d) = refl
major_same (same_map d) = refl
major_same (same_tag d) = refl
major_same same_simple = refl
major_same same_float = refl

leaf_same : (n : ℕ) (w : Width) (rs : List (ℕ × ℕ)) {x y : Value} → IsSame x y → (is_simple n x ≡ is_simple n y) × (is_float w x ≡ is_float w y) × (has_size rs x ≡ has_size rs y)
leaf_same n w rs same_uint = (refl, refl, refl)
leaf_same n w rs same_nint = (refl, refl, refl)
leaf_same n w rs same_bytes = (refl, refl, refl)
leaf_same n w rs same_text = (refl, refl, refl)
leaf_same n w rs (same_array d) = (refl, refl, refl)
leaf_same n w rs (same_map d) = (refl, refl, refl)
leaf_same n w rs (same_tag d) = (refl, refl, refl)
leaf_same n w rs same_simple = (refl, refl, refl)
leaf_same n w rs same_float = (refl, refl, refl)

bits_same : {x y : Value} → IsSame x y → bits_set x ≡ bits_set y
unfolding bits_set
bits_same same_uint = refl
bits_same same_nint = refl
bits_same same_bytes = refl
bits_same same_text = refl
bits_same (same_array d) = refl
bits_same (same_map d) = refl
bits_same (same_tag d) = refl
bits_same same_simple = refl
bits_same same_float = refl

pub test_same : (t : Test) {x y : Value} → IsPlainTest t → IsSame x y → passes t x ≡ passes t y
test_same anything h d = refl
test_same (of_major m) h d = ap (λ n. nat_eq n m) (major_same d)
test_same (simple_value n) h d = (leaf_same n W16 [] d).0
test_same (float_of w) h d = (leaf_same 0 w [] d).1
test_same (equals v) {x = x} {y = y} h d = literal v x y h d
test_same (between least last true) h d = ap₂ (λ a b. a && b) (up_to_same least d).0 (up_to_same last d).1
test_same (between least last false) h d = ap₂ (λ a b. a && b) (up_to_same least d).0 (up_to_same last d).2
test_same (differs_from v) {x = x} {y = y} h d = ap not (literal v x y h d)
test_same (less_than v) h d = (up_to_same v d).2
test_same (at_most_number v) h d = (up_to_same v d).1
test_same (greater_than v) h d = (up_to_same v d).3
test_same (at_least_number v) h d = (up_to_same v d).0
test_same (sized rs) h d = (leaf_same 0 W16 rs d).2
test_same (bits_among rs) h d = ap (are_bits_among rs) (bits_same d)

-- what an item has, the other has too
pub record HasMembers (xs : List Value) (y : Value) : Type 0 where
  pub members : List Value
  pub are : members_in y ≡ Some members
  pub same : AllSame xs members

pub record HasPairs (ps : Pairs) (y : Value) : Type 0 where
  pub held : Pairs
  pub are : pairs_in y ≡ Some held
  pub same : ArePairsSame ps held

pub record HasContent (n : ℕ) (x y : Value) : Type 0 where
  pub content : Value
  pub is : tag_in y ≡ Some (n, content)
  pub same : IsSame x content

pub members_same : {x y : Value} {xs : List Value} → IsSame x y → members_in x ≡ Some xs → HasMembers xs y
members_same (same_array {xs = us} {ys = ys} d) e = record { members = list_of ys; are = refl; same = subst (λ zs. AllSame zs (list_of ys)) (some_same e) (as_lists d) }
members_same same_uint e = absurd (cc)
members_same same_nint e = absurd (cc)
members_same same_bytes e = absurd (cc)
members_same same_text e = absurd (cc)
members_same (same_map d) e = absurd (cc)
members_same (same_tag d) e = absurd (cc)
members_same same_simple e = absurd (cc)
members_same same_float e = absurd (cc)

pub pairs_same : {x y : Value} {ps : Pairs} → IsSame x y → pairs_in x ≡ Some ps → HasPairs ps y
pairs_same (same_map {qs = qs} d) e = record { held = qs; are = refl; same = subst (λ rs. ArePairsSame rs qs) (some_same e) d }
pairs_same same_uint e = absurd (cc)
pairs_same same_nint e = absurd (cc)
pairs_same same_bytes e = absurd (cc)
pairs_same same_text e = absurd (cc)
pairs_same (same_array d) e = absurd (cc)
pairs_same (same_tag d) e = absurd (cc)
pairs_same same_simple e = absurd (cc)
pairs_same same_float e = absurd (cc)

pub content_same : {x y z : Value} {n : ℕ} → IsSame x y → tag_in x ≡ Some (n, z) → HasContent n z y
content_same {z = z} {n = n} (same_tag {n = m} {x = u} {y = y} d) e =
    let both : (m, u) ≡ (n, z) = some_same e in
    record { content = y; is = ap (λ k. Some (k, y)) (ap (λ b. b.0) both); same = subst (λ c. IsSame c y) (ap (λ b. b.1) both) d }
content_same same_uint e = absurd (cc)
content_same same_nint e = absurd (cc)
content_same same_bytes e = absurd (cc)
content_same same_text e = absurd (cc)
content_same (same_array d) e = absurd (cc)
content_same (same_map d) e = absurd (cc)
content_same same_simple e = absurd (cc)
content_same same_float e = absurd (cc)

-- what the one does not have, the other does not
pub no_members_same : {x y : Value} → IsSame x y → members_in x ≡ None → members_in y ≡ None
no_members_same same_uint e = refl
no_members_same same_nint e = refl
no_members_same same_bytes e = refl
no_members_same same_text e = refl
no_members_same (same_array d) e = absurd (cc)
no_members_same (same_map d) e = refl
no_members_same (same_tag d) e = refl
no_members_same same_simple e = refl
no_members_same same_float e = refl

pub no_pairs_same : {x y : Value} → IsSame x y → pairs_in x ≡ None → pairs_in y ≡ None
no_pairs_same same_uint e = refl
no_pairs_same same_nint e = refl
no_pairs_same same_bytes e = refl
no_pairs_same same_text e = refl
no_pairs_same (same_array d) e = refl
no_pairs_same (same_map d) e = absurd (cc)
no_pairs_same (same_tag d) e = refl
no_pairs_same same_simple e = refl
no_pairs_same same_float e = refl

pub no_content_same : {x y : Value} → IsSame x y → tag_in x ≡ None → tag_in y ≡ None
no_content_same same_uint e = refl
no_content_same same_nint e = refl
no_content_same same_bytes e = refl
no_content_same same_text e = refl
no_content_same (same_array d) e = refl
no_content_same (same_map d) e = refl
no_content_same (same_tag d) e = absurd (cc)
no_content_same same_simple e = refl
no_content_same same_float e = refl

-- strings and the numbers of simple values are equal
pub bytes_same : {x y : Value} → IsSame x y → bytes_in x ≡ bytes_in y
bytes_same same_uint = refl
bytes_same same_nint = refl
bytes_same same_bytes = refl
bytes_same same_text = refl
bytes_same (same_array d) = refl
bytes_same (same_map d) = refl
bytes_same (same_tag d) = refl
bytes_same same_simple = refl
bytes_same same_float = refl

pub number_same : {x y : Value} → IsSame x y → simple_in x ≡ simple_in y
number_same same_uint = refl
number_same same_nint = refl
number_same same_bytes = refl
number_same same_text = refl
number_same (same_array d) = refl
number_same (same_map d) = refl
number_same (same_tag d) = refl
number_same same_simple = refl
number_same same_float = refl
