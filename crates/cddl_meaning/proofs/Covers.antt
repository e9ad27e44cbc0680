-- What a group takes ends where it says, and what it leaves is no larger.
use Rattle.std.proofs.Common.{◌≡◌, ℕ, suc, ◌+◌, ◌≤◌, List, [], ◌∷◌, refl, sym, ap, arith}
use Rattle.cbor_data.specs.Value.{Value, uint, nint, bytes, text, array, pairs, tag, simple, float, Values, no_values, value, Pairs, place_count, values_place_count, pairs_place_count}
use Rattle.cddl_meaning.specs.Forms.{list_of, members_in, pairs_in, tag_in, simple_in, Group, Most, Language}
use Rattle.cddl_meaning.specs.Judges.{Takes, Does, matches, group_ref, sequence, alternatives, repeat, DoesEach, all_done, and_then, DoesFirst, one_takes, or_else, Repeats, full, enough, empty_round, round}
use Rattle.cddl_meaning.specs.Size.{list_size}
use Rattle.cddl_meaning.proofs.Sizes.{few_places}
use Rattle.std.specs.Prelude.{Option, Some, None}

-- how many places items have together
abbrev pub places_of : List Value → ℕ
places_of [] = 0
places_of (x ∷ xs) = place_count x + places_of xs

pub places_of_members : (xs : Values) → places_of (list_of xs) ≡ values_place_count xs
places_of_members no_values = refl
places_of_members (value x xs) = omega (arith, places_of_members xs)

pub array_places : (x : Value) (xs : List Value) → members_in x ≡ Some xs → place_count x ≡ suc (places_of xs)
array_places (array ys) xs e =
    let h : list_of ys ≡ xs = cc e in
    rw (sym h) (omega (arith, places_of_members ys))
array_places _ xs e = cc e

abbrev content_or : Value → Option (ℕ × Value) → Value
content_or z None = z
content_or z (Some q) = q.1

pub any_places : (x : Value) → 1 ≤ place_count x
any_places (uint n) = omega arith
any_places (nint n) = omega arith
any_places (bytes b) = omega arith
any_places (text b) = omega arith
any_places (array xs) = omega arith
any_places (pairs ps) = omega arith
any_places (tag n x) = omega arith
any_places (simple n) = omega arith
any_places (float w n) = omega arith

pub tag_places : (x y : Value) (n : ℕ) → tag_in x ≡ Some (n, y) → place_count x ≡ suc (place_count y)
tag_places (tag m z) y n e =
    let h : z ≡ y = ap (content_or z) e in
    rw h refl
tag_places _ y n e = cc e

pub map_places : (x : Value) (ps : Pairs) → pairs_in x ≡ Some ps → place_count x ≡ suc (pairs_place_count ps)
map_places (pairs qs) ps e =
    let h : qs ≡ ps = cc e in
    rw h refl
map_places _ ps e = cc e

pub simple_places : (x : Value) (n : ℕ) → simple_in x ≡ Some n → place_count x ≡ 1
simple_places (array xs) n e = cc e
simple_places (pairs ps) n e = cc e
simple_places (tag m x) n e = cc e
simple_places _ n e = refl

module _ {N G : Type 0} (l : Language N G) where
  mutual
    pub covers : {f : Group N G} {p q b far w : ℕ} {xs left : List Value} → Does l f p q xs (Takes left b far) w → b + places_of left ≡ q + places_of xs
    covers (matches d) = omega arith
    covers (group_ref d) = covers d
    covers (sequence d) = covers_each d
    covers (alternatives d) = covers_first d
    covers (repeat d) = covers_rounds d

    covers_each : {gs : List G} {p q far b later w : ℕ} {xs left : List Value} → DoesEach l gs p q xs far (Takes left b later) w → b + places_of left ≡ q + places_of xs
    covers_each all_done = refl
    covers_each (and_then d e) = omega (arith, covers d, covers_each e)

    covers_first : {gs : List G} {p q far b later w : ℕ} {xs left : List Value} → DoesFirst l gs p q xs far (Takes left b later) w → b + places_of left ≡ q + places_of xs
    covers_first (one_takes d) = covers d
    covers_first (or_else d e) = covers_first e

    covers_rounds : {least : ℕ} {most : Most} {g : G} {p q far b later w : ℕ} {xs left : List Value} → Repeats l least most g p q xs far (Takes left b later) w → b + places_of left ≡ q + places_of xs
    covers_rounds (full i) = refl
    covers_rounds (enough i d) = refl
    covers_rounds (empty_round i d e) = refl
    covers_rounds (round i d n e) = omega (arith, covers d, covers_rounds e)

  -- how far the places of what is left may go
  mutual
    pub leaves : {f : Group N G} {p q b far w : ℕ} {xs left : List Value} → Does l f p q xs (Takes left b far) w → b + list_size left ≤ q + list_size xs
    leaves (matches {x = x} d) = omega (arith, few_places x)
    leaves (group_ref d) = leaves d
    leaves (sequence d) = leaves_each d
    leaves (alternatives d) = leaves_first d
    leaves (repeat d) = leaves_rounds d

    leaves_each : {gs : List G} {p q far b later w : ℕ} {xs left : List Value} → DoesEach l gs p q xs far (Takes left b later) w → b + list_size left ≤ q + list_size xs
    leaves_each all_done = omega arith
    leaves_each (and_then d e) = omega (arith, leaves d, leaves_each e)

    leaves_first : {gs : List G} {p q far b later w : ℕ} {xs left : List Value} → DoesFirst l gs p q xs far (Takes left b later) w → b + list_size left ≤ q + list_size xs
    leaves_first (one_takes d) = leaves d
    leaves_first (or_else d e) = leaves_first e

    leaves_rounds : {least : ℕ} {most : Most} {g : G} {p q far b later w : ℕ} {xs left : List Value} → Repeats l least most g p q xs far (Takes left b later) w → b + list_size left ≤ q + list_size xs
    leaves_rounds (full i) = omega arith
    leaves_rounds (enough i d) = omega arith
    leaves_rounds (empty_round i d e) = omega arith
    leaves_rounds (round i d n e) = omega (arith, leaves d, leaves_rounds e)
