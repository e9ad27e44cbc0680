-- An unsigned integer of one byte.
use Rattle.std.proofs.Common.{◌≡◌, ℕ, ◌+◌, ◌*◌, ◌<◌, ◌≤◌, ◌^◌, ◌==◌, List, [], ◌∷◌, length, take, slice_index_or, Option, Some, None, Bool, true, false, is_some, refl, sym, ap, ◌∙◌, subst, arith}
use Rattle.std.proofs.lemmas.Bool.Decides.{nat_tests}
use Rattle.cbor_data.specs.Value.{uint}
use Rattle.cbor_data.specs.Forms.{inside, uint_form, Spells}
use Rattle.cbor_data.specs.Faults.{Bounds, IsItem}
use Rattle.cbor_read.specs.Reading.{Reading}
use Rattle.cbor_read.specs.Answers.{IsSmallTaken}
use Rattle.cbor_read.specs.declared.fault.Stop.{Stop}
use Rattle.cbor_read.proofs.Turned.{reading}

pub small_spells : (n : ℕ) → n < 24 → Spells (uint n) (n ∷ [])
small_spells n h = record { written = uint_form inside n; ok = h; is = ap (λ (m : ℕ). m ∷ []) (let e : n ≡ 32 * 0 + n = omega arith in e); text = tt; meant = refl }

small_item : (l : Bounds) (o n : ℕ) (b : List ℕ) → n < 24 → b ≡ n ∷ [] → 1 ≤ l.item_bytes → o + 1 < 2 ^ 64 → IsItem l o (uint n) b
small_item l o n b h e few placed = rw e (record { spells = small_spells n h; valid = λ i r. r; shallow = omega arith; short = omega arith; placed = omega arith })

first_taken : (piece : List ℕ) → 0 < length piece → take 1 piece ≡ slice_index_or piece 0 0 ∷ []
first_taken [] some = absurd (omega arith)
first_taken (x ∷ xs) some = refl

pub small_taken : (l : Bounds) (o : ℕ) (fed piece : List ℕ) (stopped : Option Stop) (old : Reading) → reading l o fed stopped ≡ old → stopped ≡ None → fed ≡ [] → 0 < length piece →
    slice_index_or piece 0 0 < 24 → 1 ≤ l.item_bytes → o + 1 < 2 ^ 64 → IsSmallTaken old piece (slice_index_or piece 0 0) (reading l (o + 1) fed stopped)
small_taken l o fed piece stopped old was live nothing some h few placed =
    let n = slice_index_or piece 0 0 in
    let first = first_taken piece some in
    let old_is : reading l o [] None ≡ old = ap (λ f. reading l o f None) (sym nothing) ∙ (ap (λ (s : Option Stop). reading l o fed s) (sym live) ∙ was) in
    subst (λ r. IsSmallTaken r piece n (reading l (o + 1) fed stopped)) old_is (rw (live, nothing) (record {
      small = h;
      going = refl;
      first = first;
      taken = record { some = omega arith; within = omega arith; item = small_item l o n (take 1 piece) h first few placed; next = rw first refl };
    }))

pub none_is : (s : Option Stop) (r : Bool) → r ≡ is_some s → r ≡ false → s ≡ None
none_is None r e f = refl
none_is (Some s) r e f = absurd (cc)

zero_is : (n : ℕ) (r : Bool) → r ≡ (n == 0) → r ≡ true → n ≡ 0
zero_is n r e f = let g : (n == 0) ≡ true = sym e ∙ f in grind (arith, nat_tests)

pub some_is : (xs : List ℕ) (r : Bool) → r ≡ (length xs == 0) → r ≡ false → 0 < length xs
some_is [] r e f = absurd (cc)
some_is (x ∷ xs) r e f = omega arith
