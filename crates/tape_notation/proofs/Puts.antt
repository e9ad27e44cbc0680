-- Texts that are put one after the other.
use Rattle.std.proofs.Common.{◌≡◌, ℕ, ◌+◌, ◌/◌, ◌%◌, ◌<◌, ◌≤◌, List, [], ◌∷◌, ◌++◌, length, take, drop, get_or, refl, sym, ap, ◌∙◌, subst, arith, length-append}
use Rattle.std.proofs.lemmas.List.{take_more, take-append-drop}
use Rattle.std.proofs.Math.Seq.{take-add}
use Rattle.std.specs.Prelude.{slice_index}
use Rattle.hex.specs.Hex.{encode_with, encode_lower, lower_digits}
use Rattle.cbor_data.specs.Forms.{Form, meaning}
use Rattle.cbor_data.specs.Notation.{notation}
use Rattle.tape_notation.specs.Heads.{IsFormAt}
use Rattle.tape_notation.specs.Put.{IsPut}
pub use Rattle.tape_notation.proofs.Lemmas.{more_put, none_put, same_put}

-- three texts, one after the other
pub three_put : {o0 o1 o2 o3 : List ℕ} {at second third end : ℕ} (s t u : List ℕ) → IsPut o0 o1 at s second → IsPut o1 o2 second t third → IsPut o2 o3 third u end → IsPut o0 o3 at (s ++ (t ++ u)) end
three_put {o0} {o1} {o2} {o3} {at} {second} {third} {end} s t u h k l = more_put o0 o1 o3 at second end s (t ++ u) h (more_put o1 o2 o3 second third end t u k l)

-- what is left of room after the front of a text
pub room_left : {old new : List ℕ} {at end : ℕ} (s t : List ℕ) → at + length (s ++ t) ≤ length old → IsPut old new at s end → end + length t ≤ length new
room_left {old} {new} {at} {end} s t room h = omega (arith, room, h.placed, h.long, length-append s t)

-- room for a text is room for its front
pub room_front : (at len : ℕ) (s t : List ℕ) → at + length (s ++ t) ≤ len → at + length s ≤ len
room_front at len s t room = omega (arith, room, length-append s t)

pub room_for : (at len : ℕ) (s t : List ℕ) → s ≡ t → at + length s ≤ len → at + length t ≤ len
room_for at len s t same room = subst (λ r. at + length r ≤ len) same room

-- Images of bytes, each of which is that of the front and that of the rest.
abbrev pub Splits : (List ℕ → List ℕ) → Type 0
Splits image = (xs ys : List ℕ) → image (xs ++ ys) ≡ image xs ++ image ys

image_halves : (image : List ℕ → List ℕ) → Splits image → (n : ℕ) (bs : List ℕ) → image bs ≡ image (take n bs) ++ image (drop n bs)
image_halves image splits n bs = ap image (sym (take-append-drop n bs)) ∙ splits (take n bs) (drop n bs)

pub front_room : (image : List ℕ → List ℕ) → Splits image → (at len n : ℕ) (bs : List ℕ) → at + length (image bs) ≤ len → at + length (image (take n bs)) ≤ len
front_room image splits at len n bs room = room_front at len (image (take n bs)) (image (drop n bs)) (room_for at len (image bs) (image (take n bs) ++ image (drop n bs)) (image_halves image splits n bs) room)

pub rest_room : (image : List ℕ → List ℕ) → Splits image → (old new : List ℕ) (at n end : ℕ) (bs : List ℕ) → at + length (image bs) ≤ length old → IsPut old new at (image (take n bs)) end → end + length (image (drop n bs)) ≤ length new
rest_room image splits old new at n end bs room put = room_left (image (take n bs)) (image (drop n bs)) (room_for at (length old) (image bs) (image (take n bs) ++ image (drop n bs)) (image_halves image splits n bs) room) put

-- the front, and the rest
pub front_rest : (image : List ℕ → List ℕ) → Splits image → (old mid new : List ℕ) (at n end after : ℕ) (bs : List ℕ) → IsPut old mid at (image (take n bs)) end → IsPut mid new end (image (drop n bs)) after → IsPut old new at (image bs) after
front_rest image splits old mid new at n end after bs h k = same_put (image (take n bs) ++ image (drop n bs)) (image bs) (sym (image_halves image splits n bs)) (more_put old mid new at end after (image (take n bs)) (image (drop n bs)) h k)

-- so many bytes more
pub run_more : (image : List ℕ → List ℕ) → Splits image → (old mid new : List ℕ) (at read n end after : ℕ) (bs : List ℕ) → IsPut old mid at (image (take read bs)) end → IsPut mid new end (image (take n (drop read bs))) after → IsPut old new at (image (take (read + n) bs)) after
run_more image splits old mid new at read n end after bs h k =
    same_put (image (take read bs) ++ image (take n (drop read bs))) (image (take (read + n) bs)) (sym (ap image (take-add read n bs) ∙ splits (take read bs) (take n (drop read bs))))
    (more_put old mid new at end after (image (take read bs)) (image (take n (drop read bs))) h k)

-- one byte more
pub byte_more : (image : List ℕ → List ℕ) → Splits image → (old mid new : List ℕ) (at i end after : ℕ) (bs : List ℕ) → i < length bs → IsPut old mid at (image (take i bs)) end → IsPut mid new end (image (get_or bs i 0 ∷ [])) after → IsPut old new at (image (take (i + 1) bs)) after
byte_more image splits old mid new at i end after bs within h k =
    same_put (image (take i bs) ++ image (get_or bs i 0 ∷ [])) (image (take (i + 1) bs)) (sym (ap image (take_more bs i 0 within) ∙ splits (take i bs) (get_or bs i 0 ∷ [])))
    (more_put old mid new at end after (image (take i bs)) (image (get_or bs i 0 ∷ [])) h k)

pub byte_room : (image : List ℕ → List ℕ) → Splits image → (old new : List ℕ) (at i end : ℕ) (bs : List ℕ) → at + length (image bs) ≤ length old → i < length bs → IsPut old new at (image (take i bs)) end → end + length (image (get_or bs i 0 ∷ [])) ≤ length new
byte_room image splits old new at i end bs room within put =
    let front = front_room image splits at (length old) (i + 1) bs room in
    room_left (image (take i bs)) (image (get_or bs i 0 ∷ [])) (room_for at (length old) (image (take (i + 1) bs)) (image (take i bs) ++ image (get_or bs i 0 ∷ [])) (ap image (take_more bs i 0 within) ∙ splits (take i bs) (get_or bs i 0 ∷ [])) front) put

pub encode_lower-nil : encode_lower [] ≡ []
unfolding encode_with
encode_lower-nil = refl

pub encode_lower-append : Splits encode_lower
unfolding encode_with
encode_lower-append [] ys = refl
encode_lower-append (x ∷ xs) ys = ap (λ r. slice_index lower_digits (x / 16) ∷ (slice_index lower_digits (x % 16) ∷ r)) (encode_lower-append xs ys)

-- what is put is the notation of each form that is there
pub forms_put : (b : List ℕ) (head : ℕ) (old new : List ℕ) (at end : ℕ) (s : List ℕ) → ((f : Form) → IsFormAt b head f → s ≡ notation (meaning f)) → IsPut old new at s end → (f : Form) → IsFormAt b head f → IsPut old new at (notation (meaning f)) end
forms_put b head old new at end s same put f h = same_put s (notation (meaning f)) (same f h) put
