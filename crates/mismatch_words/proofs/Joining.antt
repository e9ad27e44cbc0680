-- The text of many lines.
use Rattle.std.proofs.Common.{◌≡◌, ℕ, zero, suc, ◌+◌, ◌-◌, Bool, true, false, nat_eq, ◌||◌, if◌then◌else◌, List, [], ◌∷◌, ◌++◌, drop, flat_map, length, length-drop, map, min, take, ap, refl, sym, ◌∙◌, arith}
use Rattle.std.proofs.lemmas.List.{length-map, map-append, take_min}
use Rattle.std.specs.Cmp.Lexicographic.{pointwise}
use Rattle.std.specs.List.{list_any}
use Rattle.mismatch_words.specs.Lines.{has_line, told_lines, with_line}
use Rattle.mismatch_words.specs.Reasons.{more_line}

-- a line among those of which each is seen as its bytes
pub any_as : {A B : Type 0} (f : A → B) (p : B → Bool) (xs : List A) → list_any p (map f xs) ≡ list_any (λ x. p (f x)) xs
any_as f p [] = refl
any_as f p (x ∷ xs) = ap (λ rest. p (f x) || rest) (any_as f p xs)

pub has_as : {A : Type 0} (f : A → List ℕ) (xs given : List A) (x : A) (line : List ℕ) (has : Bool) → has ≡ list_any (λ told. pointwise nat_eq (f told) line) given → given ≡ xs → line ≡ f x → has_line (map f xs) (f x) ≡ has
has_as f xs given x line has e same shown =
    any_as f (λ told. pointwise nat_eq told (f x)) xs
    ∙ ap (λ l. list_any (λ told. pointwise nat_eq (f told) l) xs) (sym shown)
    ∙ ap (λ ys. list_any (λ told. pointwise nat_eq (f told) line) ys) (sym same)
    ∙ sym e

-- a line that is not among others is put behind them, and one that is there already is not
pub line_put : {A : Type 0} (f : A → List ℕ) (xs ys : List A) (x : A) → has_line (map f xs) (f x) ≡ false → ys ≡ xs ++ x ∷ [] → map f ys ≡ with_line (map f xs) (f x)
line_put f xs ys x absent e = ap (λ zs. map f zs) e ∙ (map-append f xs (x ∷ []) ∙ ap (λ b. if b then map f xs else map f xs ++ f x ∷ []) (sym absent))

pub line_there : {A : Type 0} (f : A → List ℕ) (xs : List A) (x : A) → has_line (map f xs) (f x) ≡ true → map f xs ≡ with_line (map f xs) (f x)
line_there f xs x present = ap (λ b. if b then map f xs else map f xs ++ f x ∷ []) (sym present)

taken_as : {A : Type 0} (f : A → List ℕ) (n : ℕ) (xs : List A) → flat_map f (take n xs) ≡ flat_map (λ l. l) (take n (map f xs))
taken_as f zero xs = refl
taken_as f (suc n) [] = refl
taken_as f (suc n) (x ∷ xs) = ap (λ rest. f x ++ rest) (taken_as f n xs)

left_as : {A : Type 0} (f : A → List ℕ) (n : ℕ) (xs : List A) → length (drop n (map f xs)) ≡ length xs - n
left_as f n xs = omega (arith, length-drop n (map f xs), length-map xs f)

pub told_same : {A : Type 0} (f : A → List ℕ) (xs : List A) (count others : ℕ) (front more all : List ℕ) → count ≡ min 10 (length xs) → front ≡ flat_map f (take count xs) → more ≡ more_line ((length xs - count) + others) →
    all ≡ front ++ more → all ≡ told_lines (map f xs) others
told_same f xs count others front more all few e1 e2 e =
    let first : front ≡ flat_map (λ l. l) (take 10 (map f xs)) = e1 ∙ (ap (λ n. flat_map f (take n xs)) few ∙ (ap (λ ys. flat_map f ys) (take_min 10 xs) ∙ taken_as f 10 xs)) in
    let left : (length xs - count) + others ≡ length (drop 10 (map f xs)) + others = omega (arith, few, left_as f 10 xs) in
    e ∙ (ap (λ s. s ++ more) first ∙ ap (λ s. flat_map (λ l. l) (take 10 (map f xs)) ++ s) (e2 ∙ ap more_line left))
