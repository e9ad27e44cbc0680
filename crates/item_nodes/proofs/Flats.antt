-- A loop that pushes the image of one front after the other.
use Rattle.std.proofs.Common.{◌≡◌, ℕ, ◌+◌, ◌/◌, ◌%◌, List, [], ◌∷◌, ◌++◌, take, drop, refl, sym, ap, ◌∙◌, append_assoc}
use Rattle.std.proofs.Math.Seq.{take-add}
use Rattle.std.proofs.lemmas.List.{take-append-drop}
use Rattle.std.specs.Prelude.{slice_index}
use Rattle.hex.specs.Hex.{encode_with, encode_lower, lower_digits}

-- an image of lists that goes part by part
pub pushed_more : (image : List ℕ → List ℕ) → ((xs ys : List ℕ) → image (xs ++ ys) ≡ image xs ++ image ys) →
    (bs before : List ℕ) {mid new : List ℕ} (at n : ℕ) → mid ≡ before ++ image (take at bs) →
    new ≡ mid ++ image (take n (drop at bs)) → new ≡ before ++ image (take (at + n) bs)
pushed_more image splits bs before at n e f =
    f ∙ ap (λ m. m ++ image (take n (drop at bs))) e ∙ append_assoc before (image (take at bs)) (image (take n (drop at bs)))
    ∙ ap (λ r. before ++ r) (sym (splits (take at bs) (take n (drop at bs)))) ∙ ap (λ r. before ++ image r) (sym (take-add at n bs))

-- the last part
pub pushed_rest : (image : List ℕ → List ℕ) → ((xs ys : List ℕ) → image (xs ++ ys) ≡ image xs ++ image ys) →
    (bs before : List ℕ) {mid new : List ℕ} (at : ℕ) → mid ≡ before ++ image (take at bs) →
    new ≡ mid ++ image (drop at bs) → new ≡ before ++ image bs
pushed_rest image splits bs before at e f =
    f ∙ ap (λ m. m ++ image (drop at bs)) e ∙ append_assoc before (image (take at bs)) (image (drop at bs))
    ∙ ap (λ r. before ++ r) (sym (splits (take at bs) (drop at bs))) ∙ ap (λ r. before ++ image r) (take-append-drop at bs)

pub encode_lower-nil : encode_lower [] ≡ []
unfolding encode_with
encode_lower-nil = refl

pub encode_lower-append : (xs ys : List ℕ) → encode_lower (xs ++ ys) ≡ encode_lower xs ++ encode_lower ys
unfolding encode_with
encode_lower-append [] ys = refl
encode_lower-append (x ∷ xs) ys = ap (λ r. slice_index lower_digits (x / 16) ∷ (slice_index lower_digits (x % 16) ∷ r)) (encode_lower-append xs ys)
