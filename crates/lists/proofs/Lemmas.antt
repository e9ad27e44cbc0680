-- What is so of all lists, options, results and truth values, for the proofs of all crates.
use Rattle.std.proofs.Common.{Bool, Err, IfOk, List, None, Ok, OnOk, Option, Result, Some, [], ap, arith, drop, false, get_or, inl, inr, length, ltb, nat_eq, nat_le, nat_lt, refl, replicate, rules, set, slice_get, slice_index_or, subst, suc, sym, take, tests, true, zero, ℕ, ◌&&◌, ◌++◌, ◌+◌, ◌<◌, ◌||◌, ◌∙◌, ◌∷◌, ◌≡◌, ◌≢◌, ◌≤◌, ◌⊎◌}
use Rattle.std.proofs.lemmas.Bool.{eqb-true}
use Rattle.std.proofs.lemmas.Bool.Decides.{nat_tests}
use Rattle.std.proofs.lemmas.List.{drop_more}
use Rattle.std.proofs.lemmas.List.Elements.{Contains-append_cases}
use Rattle.std.proofs.lemmas.Option.{get_or_from_slice_get, slice_get_read, slice_get_within}
use Rattle.std.specs.List.{Contains}
use Rattle.std.specs.Prelude.{flat_map, min}
use Rattle.lists.specs.Least.{IsLeast, lesser_of}
use Rattle.std.proofs.lemmas.Bool.{cases_lt}

pub within : {A : Type 0} (xs : List A) (k : ℕ) (x : A) → slice_get xs k ≡ Some x → k < length xs
within [] k x e = cc
within (y ∷ ys) zero x e = omega arith
within (y ∷ ys) (suc k) x e = let h = within ys k x e in omega (arith, h)

pub there : {A : Type 0} (xs : List A) (k : ℕ) → k < length xs → (x : A) × (slice_get xs k ≡ Some x)
there [] k h = absurd (omega (arith, h))
there (x ∷ xs) zero h = (x, refl)
there (x ∷ xs) (suc k) h = there xs k (omega (arith, h))

pub push_length : {A : Type 0} (xs : List A) (v : A) → length (xs ++ v ∷ []) ≡ length xs + 1
push_length [] v = refl
push_length (y ∷ xs) v = let h = push_length xs v in omega (arith, h)

pub is_equal : (n k : ℕ) → nat_eq n k ≡ true → n ≡ k
is_equal n k h = eqb-true n k h

pub ok_then : {X E : Type 0} (r : Result X E) (P Q : X → Type 0) → ((x : X) → P x → Q x) → IfOk r P → IfOk r Q
ok_then (Ok x) P Q f p = f x p
ok_then (Err e) P Q f p = p

pub same_some : {A : Type 0} {x y : A} → Some x ≡ Some y → x ≡ y
same_some e = cc

-- what is at a place of a list that grew by one
pub after_push : {A : Type 0} (xs : List A) (v : A) (k : ℕ) (x : A) → slice_get (xs ++ v ∷ []) k ≡ Some x → ((length xs ≡ k) × (v ≡ x)) ⊎ (slice_get xs k ≡ Some x)
after_push [] v zero x e = inl (refl, cc)
after_push [] v (suc k) x e = cc
after_push (y ∷ xs) v zero x e = inr e
after_push (y ∷ xs) v (suc k) x e = elim (after_push xs v k x e) [ inl h ↦ inl (ap suc h.0, h.1) | inr h ↦ inr h ]

pub at_head : {A : Type 0} (x : A) (xs : List A) → Contains (x ∷ xs) x
at_head x xs = (0, omega arith, refl)

pub push_there : {A : Type 0} (xs : List A) (v : A) → slice_get (xs ++ v ∷ []) (length xs) ≡ Some v
push_there [] v = refl
push_there (y ∷ xs) v = push_there xs v

pub both : (a b : Bool) → (a && b) ≡ true → (a ≡ true) × (b ≡ true)
both true b e = (refl, e)
both false b e = cc

pub no_some : {A : Type 0} {x : A} → None ≡ Some x → ⊥
no_some e = cc

abbrev pub IsIn : {A : Type 0} → A → List A → Type 0
IsIn x [] = ⊥
IsIn x (y ∷ ys) = (x ≡ y) ⊎ IsIn x ys

pub in_right : {A : Type 0} (xs ys : List A) (x : A) → IsIn x ys → IsIn x (xs ++ ys)
in_right [] ys x h = h
in_right (z ∷ xs) ys x h = inr (in_right xs ys x h)

pub in_left : {A : Type 0} (xs ys : List A) (x : A) → IsIn x xs → IsIn x (xs ++ ys)
in_left [] ys x h = absurd h
in_left (z ∷ xs) ys x (inl e) = inl e
in_left (z ∷ xs) ys x (inr h) = inr (in_left xs ys x h)

pub in_cases : {A : Type 0} (xs ys : List A) (x : A) → IsIn x (xs ++ ys) → IsIn x xs ⊎ IsIn x ys
in_cases [] ys x h = inr h
in_cases (z ∷ xs) ys x (inl e) = inl (inl e)
in_cases (z ∷ xs) ys x (inr h) = by (in_cases xs ys x h)
  where
    by : IsIn x xs ⊎ IsIn x ys → IsIn x (z ∷ xs) ⊎ IsIn x ys
    by (inl g) = inl (inr g)
    by (inr g) = inr g

pub never_some : {A : Type 0} (o : A) → None ≡ Some o → ⊥
never_some o e = cc

pub later : {X : Type 0} (x : X) (xs : List X) (y : X) → Contains xs y → Contains (x ∷ xs) y
later x xs y (k, h, e) = (suc k, omega arith, e)

pub none_more : {A : Type 0} (xs : List A) → xs ++ [] ≡ xs
none_more [] = refl
none_more (x ∷ xs) = ap (λ zs. x ∷ zs) (none_more xs)

pub from_get : {A : Type 0} (xs : List A) (k : ℕ) (x : A) → slice_get xs k ≡ Some x → IsIn x xs
from_get [] k x e = cc
from_get (y ∷ ys) zero x e = inl same
  where
    same : x ≡ y
    same = cc
from_get (y ∷ ys) (suc k) x e = inr (from_get ys k x e)

pub contains_at : {A : Type 0} (xs : List A) (k : ℕ) (x : A) → slice_get xs k ≡ Some x → Contains xs x
contains_at xs k x e = (k, slice_get_within xs k x e, get_or_from_slice_get xs k x x e)

pub set_there : {A : Type 0} (xs : List A) (i : ℕ) (v : A) → i < length xs → slice_get (set xs i v) i ≡ Some v
set_there [] i v l = absurd (omega (arith, l))
set_there (y ∷ xs) zero v l = refl
set_there (y ∷ xs) (suc i) v l = set_there xs i v (omega (arith, l))

pub to_contains : {A : Type 0} (xs : List A) (x : A) → IsIn x xs → Contains xs x
to_contains [] x h = absurd h
to_contains (y ∷ ys) x (inl e) = (0, omega arith, sym e)
to_contains (y ∷ ys) x (inr h) = let c = to_contains ys x h in (suc c.0, omega (arith, c.1), c.2)

pub to_get : {A : Type 0} (xs : List A) (x : A) → IsIn x xs → (k : ℕ) × (slice_get xs k ≡ Some x)
to_get [] x h = absurd h
to_get (y ∷ ys) x (inl e) = (0, ap Some (sym e))
to_get (y ∷ ys) x (inr h) = let r = to_get ys x h in (suc r.0, r.1)

pub from_place : {A : Type 0} (xs : List A) (x : A) (k : ℕ) → k < length xs → get_or xs k x ≡ x → IsIn x xs
from_place [] x k l e = absurd (omega (arith, l))
from_place (y ∷ ys) x zero l e = inl (sym e)
from_place (y ∷ ys) x (suc k) l e = inr (from_place ys x k (omega (arith, l)) e)

pub from_contains : {A : Type 0} (xs : List A) (x : A) → Contains xs x → IsIn x xs
from_contains xs x c = from_place xs x c.0 c.1 c.2

pub test_equal : (x c : ℕ) → x ≡ c → nat_eq x c ≡ true
test_equal x c h = grind (arith, nat_tests)

pub get_front : {A : Type 0} (xs ys : List A) (k : ℕ) (x : A) → slice_get xs k ≡ Some x → slice_get (xs ++ ys) k ≡ Some x
get_front [] ys k x e = cc
get_front (y ∷ xs) ys zero x e = e
get_front (y ∷ xs) ys (suc k) x e = get_front xs ys k x e

pub replicate_length : {A : Type 0} (n : ℕ) (v : A) → length (replicate n v) ≡ n
replicate_length zero v = refl
replicate_length (suc n) v = ap suc (replicate_length n v)

pub one_of : {X : Type 0} (o : Option X) (x y : X) → o ≡ Some x → o ≡ Some y → x ≡ y
one_of o x y e f = cc

pub set_length : {A : Type 0} (xs : List A) (i : ℕ) (v : A) → length (set xs i v) ≡ length xs
set_length [] i v = refl
set_length (y ∷ xs) zero v = refl
set_length (y ∷ xs) (suc i) v = ap suc (set_length xs i v)

pub test_at_most : (a d : ℕ) → a ≤ d → nat_le a d ≡ true
test_at_most a d h = grind (arith, nat_tests)

pub either_true : (a b : Bool) → (a || b) ≡ true → (a ≡ true) ⊎ (b ≡ true)
either_true true b e = inl refl
either_true false b e = inr e

pub beyond_zero : (k : ℕ) → k < 0 → ⊥
beyond_zero k l = omega arith

pub tested : (b : Bool) → (b ≡ true) ⊎ (b ≡ false)
tested true = inl refl
tested false = inr refl

pub and_false : (a : Bool) → (a && false) ≡ false
and_false true = refl
and_false false = refl

pub either : {A B C : Type 0} → A ⊎ B → (A → C) → (B → C) → C
either (inl a) f g = f a
either (inr b) f g = g b

pub from_flat : {A B : Type 0} (f : A → List B) (xs : List A) (y : B) → IsIn y (flat_map f xs) → (x : A) × IsIn x xs × IsIn y (f x)
from_flat f [] y h = absurd h
from_flat {A = A} f (x ∷ xs) y h = by (in_cases (f x) (flat_map f xs) y h) (from_flat f xs y)
  where
    by : IsIn y (f x) ⊎ IsIn y (flat_map f xs) → (IsIn y (flat_map f xs) → (z : A) × IsIn z xs × IsIn y (f z)) → (z : A) × IsIn z (x ∷ xs) × IsIn y (f z)
    by (inl g) r = (x, inl refl, g)
    by (inr g) r = let q = r g in (q.0, inr q.1, q.2)

pub to_flat : {A B : Type 0} (f : A → List B) (xs : List A) (x : A) (y : B) → IsIn x xs → IsIn y (f x) → IsIn y (flat_map f xs)
to_flat f [] x y h g = absurd h
to_flat f (z ∷ xs) x y (inl e) g = in_left (f z) (flat_map f xs) y (subst (λ w. IsIn y (f w)) e g)
to_flat f (z ∷ xs) x y (inr h) g = in_right (f z) (flat_map f xs) y (to_flat f xs x y h g)

pub same_some_there : {A : Type 0} (x y : A) → Some x ≡ Some y → x ≡ y
same_some_there x y e = cc

pub replicate_at : {A : Type 0} (n : ℕ) (v : A) (i : ℕ) (x : A) → slice_get (replicate n v) i ≡ Some x → v ≡ x
replicate_at zero v i x e = absurd (never_some x e)
replicate_at (suc n) v zero x e = same_some_there v x e
replicate_at (suc n) v (suc i) x e = replicate_at n v i x e

pub none_in : {A : Type 0} (x : A) → Contains [] x → ⊥
none_in x h = absurd (omega (arith, h.1))

pub none_left : {A : Type 0} (xs : List A) → length xs ≡ 0 → xs ≡ []
none_left [] e = refl
none_left (x ∷ xs) e = absurd (omega (arith, e))

-- what is at a place of a list that was written at one
pub after_set : {A : Type 0} (xs : List A) (i j : ℕ) (v x : A) → slice_get (set xs i v) j ≡ Some x → ((i ≡ j) × (v ≡ x)) ⊎ ((i ≡ j → ⊥) × (slice_get xs j ≡ Some x))
after_set [] i j v x e = absurd (never_some x e)
after_set (y ∷ xs) zero zero v x e = inl (refl, same_some_there v x e)
after_set (y ∷ xs) zero (suc j) v x e = inr ((λ h. omega (arith, h)), e)
after_set (y ∷ xs) (suc i) zero v x e = inr ((λ h. omega (arith, h)), e)
after_set (y ∷ xs) (suc i) (suc j) v x e = elim (after_set xs i j v x e) [ inl h ↦ inl (ap suc h.0, h.1) | inr h ↦ inr ((λ k. h.0 (omega (arith, k))), h.1) ]

pub beyond_all : {A : Type 0} (xs : List A) (k : ℕ) → length xs ≤ k → slice_get xs k ≡ None
beyond_all [] k h = refl
beyond_all (x ∷ xs) zero h = absurd (omega (arith, h))
beyond_all (x ∷ xs) (suc k) h = beyond_all xs k (omega (arith, h))

-- what is left of a list, as one more and what is left then
pub next_drop : {A : Type 0} (xs : List A) (i : ℕ) (x : A) → i < length xs → x ≡ get_or xs i x → drop i xs ≡ x ∷ drop (i + 1) xs
next_drop xs i x h is = drop_more xs i x h ∙ ap (λ y. y ∷ drop (i + 1) xs) (sym is)

pub place_of : {X : Type 0} (xs : List X) (x : X) → Contains xs x → (k : ℕ) × (slice_get xs k ≡ Some x)
place_of xs x h = (h.0, slice_get_read xs (length xs) h.0 x refl h.1 (sym h.2))

pub get_last : {A : Type 0} (xs : List A) (x : A) (n : ℕ) → length xs ≡ n → slice_get (xs ++ x ∷ []) n ≡ Some x
get_last [] x zero e = refl
get_last [] x (suc n) e = absurd (omega (arith, e))
get_last (z ∷ xs) x zero e = absurd (omega (arith, e))
get_last (z ∷ xs) x (suc n) e = get_last xs x n (omega (arith, e))

pub push_before : {A : Type 0} (xs : List A) (v : A) (i : ℕ) (x : A) → slice_get xs i ≡ Some x → slice_get (xs ++ v ∷ []) i ≡ Some x
push_before [] v i x e = absurd (never_some x e)
push_before (y ∷ xs) v zero x e = e
push_before (y ∷ xs) v (suc i) x e = push_before xs v i x e

pub false_true : false ≡ true → ⊥
false_true e = cc

pub test_not_less : (m n : ℕ) → n ≤ m → nat_lt m n ≡ false
test_not_less m n h = search (rules, tests)

pub test_greater : (a b : ℕ) → b < a → nat_le a b ≡ false
test_greater a b h = grind (arith, nat_tests)

pub unequal_number : (x c : ℕ) → x ≢ c → nat_eq x c ≡ false
unequal_number x c h = grind (arith, nat_tests)

pub same_or_not : (i j : ℕ) → (i ≡ j) ⊎ (i ≡ j → ⊥)
same_or_not zero zero = inl refl
same_or_not zero (suc j) = inr (λ e. omega (arith, e))
same_or_not (suc i) zero = inr (λ e. omega (arith, e))
same_or_not (suc i) (suc j) = elim (same_or_not i j) [ inl e ↦ inl (ap suc e) | inr h ↦ inr (λ e. h (omega (arith, e))) ]

pub not_both : (b : Bool) → b ≡ true → b ≡ false → ⊥
not_both b e f = cc

pub or_true : (b : Bool) → (b || true) ≡ true
or_true true = refl
or_true false = refl

pub on_both : {X C : Type 0} (xs ys : List X) (y : X) → Contains (xs ++ ys) y → (Contains xs y → C) → (Contains ys y → C) → C
on_both xs ys y c f g = either (Contains-append_cases xs ys y c) f g

pub on_ok : {X E : Type 0} (r : Result X E) (P Q : Type 0) → (P → Q) → OnOk r P → OnOk r Q
on_ok (Ok x) P Q f p = f p
on_ok (Err e) P Q f p = p

pub some_none : {A : Type 0} {x : A} → Some x ≡ None → ⊥
some_none e = cc

pub later_in : {A : Type 0} (x y : A) (xs : List A) → Contains xs y → Contains (x ∷ xs) y
later_in x y xs c = (suc c.0, (let l = c.1 in omega (arith, l)), c.2)

pub take_length : {A : Type 0} (n : ℕ) (xs : List A) → n ≤ length xs → length (take n xs) ≡ n
take_length zero xs h = refl
take_length (suc n) [] h = absurd (omega (arith, h))
take_length (suc n) (y ∷ xs) h = ap suc (take_length n xs (omega (arith, h)))

pub first_or_later : {X : Type 0} (x : X) (xs : List X) (y : X) → Contains (x ∷ xs) y → (x ≡ y) ⊎ Contains xs y
first_or_later x xs y (zero, lt, e) = inl e
first_or_later x xs y (suc n, lt, e) = inr (n, omega arith, e)

pub set_elsewhere : {X : Type 0} (xs : List X) (i j : ℕ) (x : X) → j ≢ i → slice_get (set xs i x) j ≡ slice_get xs j
set_elsewhere [] i j x h = refl
set_elsewhere (y ∷ ys) zero zero x h = absurd (h refl)
set_elsewhere (y ∷ ys) zero (suc j) x h = refl
set_elsewhere (y ∷ ys) (suc i) zero x h = refl
set_elsewhere (y ∷ ys) (suc i) (suc j) x h = set_elsewhere ys i j x (λ e. h (ap suc e))

pub set_other : {A : Type 0} (xs : List A) (i j : ℕ) (v : A) → (i ≡ j → ⊥) → slice_get (set xs i v) j ≡ slice_get xs j
set_other [] i j v h = refl
set_other (y ∷ xs) zero zero v h = absurd (h refl)
set_other (y ∷ xs) zero (suc j) v h = refl
set_other (y ∷ xs) (suc i) zero v h = refl
set_other (y ∷ xs) (suc i) (suc j) v h = set_other xs i j v (λ e. h (ap suc e))

pub indexed : {A : Type 0} (xs : List A) (k : ℕ) (x d : A) → slice_get xs k ≡ Some x → slice_index_or xs k d ≡ x
indexed [] k x d e = cc
indexed (y ∷ ys) zero x d e = cc
indexed (y ∷ ys) (suc k) x d e = indexed ys k x d e

pub length_push : {A : Type 0} (xs : List A) (x : A) → length (xs ++ x ∷ []) ≡ suc (length xs)
length_push [] x = refl
length_push (y ∷ xs) x = ap suc (length_push xs x)

pub get_cases : {A : Type 0} (xs : List A) (y : A) (i : ℕ) (x : A) → slice_get (xs ++ y ∷ []) i ≡ Some x → (slice_get xs i ≡ Some x) ⊎ ((i ≡ length xs) × (x ≡ y))
get_cases [] y zero x e = inr (refl, cc)
get_cases [] y (suc i) x e = cc
get_cases (z ∷ xs) y zero x e = inl e
get_cases (z ∷ xs) y (suc i) x e = elim (get_cases xs y i x e) [ inl h ↦ inl h | inr h ↦ inr (ap suc h.0, h.1) ]

pub less : (a b : ℕ) → nat_lt a b ≡ true → a < b
less a b e = grind (arith, nat_tests)

pub not_below : (m n : ℕ) → nat_lt m n ≡ false → n ≤ m
not_below m n h = grind (arith, nat_tests)

pub is_unequal : (m n : ℕ) → nat_eq m n ≡ false → m ≡ n → ⊥
is_unequal m n h e = grind (arith, nat_tests)

pub is_below : (q p : ℕ) → ltb q p ≡ true → q < p
is_below q p h = grind (arith, nat_tests)

pub is_from : (q p : ℕ) → ltb q p ≡ false → p ≤ q
is_from q p h = grind (arith, nat_tests)

pub test_less : (m n : ℕ) → m < n → nat_lt m n ≡ true
test_less m n h = search (rules, tests)

pub last_or_below : (n k : ℕ) → n < k + 1 → (n < k) ⊎ (n ≡ k)
last_or_below zero zero h = inr refl
last_or_below zero (suc k) h = inl (omega arith)
last_or_below (suc n) zero h = absurd (omega (arith, h))
last_or_below (suc n) (suc k) h = next (last_or_below n k (omega (arith, h)))
  where
    next : (n < k) ⊎ (n ≡ k) → (suc n < suc k) ⊎ (suc n ≡ suc k)
    next (inl g) = inl (omega (arith, g))
    next (inr g) = inr (ap suc g)

pub ordered : (k j : ℕ) → (k ≡ j) ⊎ ((k < j) ⊎ (j < k))
ordered zero zero = inl refl
ordered zero (suc j) = inr (inl (omega arith))
ordered (suc k) zero = inr (inr (omega arith))
ordered (suc k) (suc j) = by (ordered k j)
  where
    by : (k ≡ j) ⊎ ((k < j) ⊎ (j < k)) → (suc k ≡ suc j) ⊎ ((suc k < suc j) ⊎ (suc j < suc k))
    by (inl e) = inl (ap suc e)
    by (inr (inl h)) = inr (inl (omega (arith, h)))
    by (inr (inr h)) = inr (inr (omega (arith, h)))

pub before_or_not : (a b : ℕ) → (a < b) ⊎ (b ≤ a)
before_or_not a zero = inr (omega arith)
before_or_not zero (suc b) = inl (omega arith)
before_or_not (suc a) (suc b) = elim (before_or_not a b) [ inl h ↦ inl (omega (arith, h)) | inr h ↦ inr (omega (arith, h)) ]

pub or_right : (t u : Bool) → u ≡ true → (t || u) ≡ true
or_right true u e = refl
or_right false u e = e

pub from_true : (a b : Bool) → (a ≡ true → b ≡ true) → (b ≡ true → a ≡ true) → a ≡ b
from_true true b h k = sym (h refl)
from_true false true h k = k refl
from_true false false h k = refl

pub neither : (a b : Bool) → (a || b) ≡ false → (a ≡ false) × (b ≡ false)
neither true b e = absurd (cc)
neither false b e = (refl, e)

pub test_same : (a : ℕ) → nat_eq a a ≡ true
test_same a = grind (arith, nat_tests)

pub and_true : (a : Bool) → (a && true) ≡ a
and_true true = refl
and_true false = refl

-- Of two things, the lesser of the least offsets at which one stands is the least at which lesser_least does.
pub lesser_least : (P Q : ℕ → Type 0) (a b : Option ℕ) → IsLeast P a → IsLeast Q b → IsLeast (λ at. P at ⊎ Q at) (lesser_of a b)
lesser_least P Q None None h k = neither
  where
    neither : (p : ℕ) → P p ⊎ Q p → ⊥
    neither p (inl e) = h p e
    neither p (inr e) = k p e
lesser_least P Q None (Some q) h k = (inr k.0, least)
  where
    least : (p : ℕ) → P p ⊎ Q p → q ≤ p
    least p (inl e) = absurd (h p e)
    least p (inr e) = k.1 p e
lesser_least P Q (Some a) None h k = (inl h.0, least)
  where
    least : (p : ℕ) → P p ⊎ Q p → a ≤ p
    least p (inl e) = h.1 p e
    least p (inr e) = absurd (k p e)
lesser_least P Q (Some a) (Some b) h k = (found (lower (cases_lt a b)), least)
  where
    lower : (a < b) ⊎ (b ≤ a) → (min a b ≡ a) ⊎ (min a b ≡ b)
    lower (inl l) = inl (omega (arith, l))
    lower (inr l) = inr (omega (arith, l))

    found : (min a b ≡ a) ⊎ (min a b ≡ b) → P (min a b) ⊎ Q (min a b)
    found (inl e) = inl (subst P (sym e) h.0)
    found (inr e) = inr (subst Q (sym e) k.0)

    least : (p : ℕ) → P p ⊎ Q p → min a b ≤ p
    least p (inl e) = let l = h.1 p e in omega (arith, l)
    least p (inr e) = let l = k.1 p e in omega (arith, l)

-- What stands for the same reasons has the same least offset.
pub same_least : (P Q : ℕ → Type 0) → ((p : ℕ) → P p → Q p) → ((p : ℕ) → Q p → P p) → (a : Option ℕ) → IsLeast P a → IsLeast Q a
same_least P Q f g None h = λ p k. h p (g p k)
same_least P Q f g (Some a) h = (f a h.0, λ p k. h.1 p (g p k))
