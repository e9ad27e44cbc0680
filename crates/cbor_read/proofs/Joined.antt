-- What bytes hold, item by item.
use Rattle.std.proofs.Common.{◌≡◌, ◌≢◌, ℕ, ◌+◌, ◌-◌, ◌<◌, ◌≤◌, List, [], ◌∷◌, ◌++◌, length, take, drop, refl, sym, ap, subst, arith, append_assoc, append-nil, length-drop}
use Rattle.std.proofs.lemmas.List.{take-append-drop, take_all}
use Rattle.std.proofs.Math.Seq.{take-add}
use Rattle.cbor_data.specs.Value.{Value, Values, no_values, value, values_of}
use Rattle.cbor_data.specs.Embedded.{Embeds, EmbedsAll, none, one_more}
use Rattle.cbor_data.proofs.Lemmas.{embedded_after, one_embedded}
use Rattle.cbor_read.specs.Firsts.{BeginsNone, IsFirstItem}

-- one item more
with_last : {a : List ℕ} {us : Values} (xs : List Value) (c : List ℕ) (x : Value) → EmbedsAll a us → us ≡ values_of xs → Embeds c x → EmbedsAll (a ++ c) (values_of (xs ++ x ∷ []))
with_last [] c x none e h = subst (λ b. EmbedsAll b (value x no_values)) (append-nil c) (one_more h none)
with_last (y ∷ xs) c x none e h = absurd (cc)
with_last [] c x (one_more k t) e h = absurd (cc)
with_last (y ∷ xs) c x (one_more {b = b} {c = d} {x = z} k t) e h =
    let first : z ≡ y = cc in
    subst (λ w. EmbedsAll w (value y (values_of (xs ++ x ∷ [])))) (sym (append_assoc b d c))
    (one_more (subst (Embeds b) first k) (with_last xs c x t (cc) h))

pub more_held : (b : List ℕ) (start n : ℕ) (xs : List Value) (x : Value) → EmbedsAll (take start b) (values_of xs) → IsFirstItem (drop start b) n x → EmbedsAll (take (start + n) b) (values_of (xs ++ x ∷ []))
more_held b start n xs x held first =
    subst (λ c. EmbedsAll c (values_of (xs ++ x ∷ []))) (sym (take-add start n b)) (with_last xs (take n (drop start b)) x held refl first.item)

pub all_held : (b : List ℕ) (start : ℕ) (xs : List Value) → length b ≤ start → EmbedsAll (take start b) (values_of xs) → EmbedsAll b (values_of xs)
all_held b start xs past held = subst (λ c. EmbedsAll c (values_of xs)) (take_all start b past) held

pub rest_is : (b : List ℕ) (start : ℕ) → take (length b - start) (drop start b) ≡ drop start b
rest_is b start = take_all (length b - start) (drop start b) (omega (arith, length-drop start b))

begun_with_none : (r : List ℕ) (ys : Values) → r ≢ [] → BeginsNone r → EmbedsAll r ys → ⊥
begun_with_none r ys some not none = some refl
begun_with_none r ys some not (one_more {b = b} {c = c} {x = x} h t) = not x b c refl h

-- what is left begins with no item
pub none_held : (b : List ℕ) (start : ℕ) (us : Values) → start < length b → EmbedsAll (take start b) us → BeginsNone (drop start b) → (xs : Values) → EmbedsAll b xs → ⊥
none_held b start us within held not = λ xs h.
    let rest = embedded_after (take start b) (drop start b) us xs held (subst (λ c. EmbedsAll c xs) (sym (take-append-drop start b)) h) in
    let some : drop start b ≢ [] = λ e. omega (arith, ap length e, length-drop start b, within) in
    begun_with_none (drop start b) rest.0 some not rest.1

alone : {b : List ℕ} {x : Value} → Embeds b x → EmbedsAll b (value x no_values)
alone {b = b} {x = x} h = subst (λ c. EmbedsAll c (value x no_values)) (append-nil b) (one_more h none)

-- no items have no bytes
no_bytes : {r : List ℕ} {ys : Values} → EmbedsAll r ys → ys ≡ no_values → r ≡ []
no_bytes none e = refl
no_bytes (one_more h t) e = absurd (cc)

-- The first of the items that bytes hold is all of them where they are of one item.
pub whole_first : (b : List ℕ) (n : ℕ) (x y : Value) → IsFirstItem b n x → Embeds b y → n ≡ length b
whole_first b n x y first h =
    let both = subst (λ c. EmbedsAll c (value y no_values)) (sym (take-append-drop n b)) (alone h) in
    let rest = embedded_after (take n b) (drop n b) (value x no_values) (value y no_values) (alone first.item) both in
    let same : value x rest.0 ≡ value y no_values = one_embedded (take n b ++ drop n b) (value x rest.0) (value y no_values) (one_more first.item rest.1) both in
    let none_left : drop n b ≡ [] = no_bytes rest.1 (cc same) in
    omega (arith, ap length none_left, length-drop n b, first.within)

pub first_alone : (b : List ℕ) (n : ℕ) (x : Value) → n ≡ length b → IsFirstItem b n x → Embeds b x
first_alone b n x e first = subst (λ c. Embeds c x) (take_all n b (omega (arith, e))) first.item

pub none_first : (b : List ℕ) → BeginsNone b → (y : Value) → Embeds b y → ⊥
none_first b not y h = not y b [] (sym (append-nil b)) h
