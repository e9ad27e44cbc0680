-- Heads of simple values and floats that are all there.
use Rattle.std.proofs.Common.{◌≡◌, ℕ, ◌/◌, ◌%◌, ◌<◌, ◌≤◌, ◌==◌, List, drop, get_or, nat_lt, false, Some, refl, sym, ap, ◌∙◌, subst, arith}
use Rattle.std.proofs.lemmas.Nat.{from_be_bytes-to_be_bytes_2, from_be_bytes-to_be_bytes_4, from_be_bytes-to_be_bytes_8}
use Rattle.std.proofs.lemmas.Bool.Decides.{nat_tests}
use Rattle.cbor_data.specs.declared.Width.TheVariants.{W16, W32, W64}
use Rattle.cbor_data.specs.Value.{Value, simple, float}
use Rattle.cbor_data.specs.Preferred.{initial}
use Rattle.cbor_data.specs.Forms.{ArgumentSize, inside, one, two, four, eight, head_in, FitsSize}
use Rattle.cbor_data.proofs.Lemmas.{head_some}
use Rattle.cbor_data.specs.Machine.Machine.{info_of}
use Rattle.read_items.specs.Whole.Parts.{IsArgumentAt, IsSimpleOrFloat}
use Rattle.read_building.specs.Building.{Frame, State, item, give, start, step, step_in, Text, steps_in}
use Rattle.read_building.specs.Turns.{HasRoom, IsOn}
use Rattle.read_building.proofs.WholeHeads.{Heads, heads, head_taken, first_info, first_info_small, first_of, info_of-given, info_of_byte, major_of_byte}

-- the item of major type 7 with an argument n of this size
abbrev last_value : ArgumentSize → ℕ → Value
last_value inside n = simple n
last_value one n = simple n
last_value two n = float W16 n
last_value four n = float W32 n
last_value eight n = float W64 n

simple_is : (n : ℕ) (x : Value) → n < 24 → IsSimpleOrFloat n n x → x ≡ simple n
simple_is n x small s =
    let a : (n == 25) ≡ false = grind (arith, nat_tests) in
    let c : (n == 26) ≡ false = grind (arith, nat_tests) in
    let e : (n == 27) ≡ false = grind (arith, nat_tests) in
    rw (a, c, e) at s.is

last_is : (p : ArgumentSize) (n : ℕ) (x : Value) → FitsSize p n → IsSimpleOrFloat (first_info p n) n x → x ≡ last_value p n
last_is inside n x fits s = simple_is n x fits s
last_is one n x fits s = s.is
last_is two n x fits s = s.is
last_is four n x fits s = s.is
last_is eight n x fits s = s.is

last_runs : (d : ℕ) (p : ArgumentSize) (at n : ℕ) (x : Value) (T : List Text) (K : List Frame) → FitsSize p n → IsSimpleOrFloat (first_info p n) n x → step_in d at (item K) (initial 7 (first_info p n)) ≡ start at 7 (info_of (first_info p n)) K →
    steps_in d at T (item K) (head_in p 7 n) ≡ Some (T, give (last_value p n) K)
last_runs d inside at n x T K h s f = rw (f, info_of-given n h) refl
last_runs d one at n x T K h s f =
    let some : 32 ≤ n = s.assignable refl in
    let same : n % 256 ≡ n = omega arith in
    let large : nat_lt (n % 256) 32 ≡ false = grind (arith, nat_tests) in
    rw large (ap (λ a. Some (T, give (simple a) K)) same)
last_runs d two at n x T K h s f = (ap (λ a. Some (T, give (float W16 a) K)) (omega (arith, from_be_bytes-to_be_bytes_2 n h)))
last_runs d four at n x T K h s f = (ap (λ a. Some (T, give (float W32 a) K)) (omega (arith, from_be_bytes-to_be_bytes_4 n h)))
last_runs d eight at n x T K h s f = (ap (λ a. Some (T, give (float W64 a) K)) (omega (arith, from_be_bytes-to_be_bytes_8 n h)))

pub last_on : (d at n end : ℕ) (x : Value) (K : List Frame) (b : List ℕ) (t : State) → get_or b 0 0 / 32 ≡ 7 → IsArgumentAt b 0 n end → IsSimpleOrFloat (get_or b 0 0 % 32) n x → HasRoom d at K (get_or b 0 0) → t ≡ give x K → IsOn d at (item K) b end t
last_on d at n end x K b t major argument s room e =
    let h : Heads b 7 n end = heads b 7 n end major argument in
    let i = first_info h.size n in
    let few : i < 32 = first_info_small h.size n h.fits in
    let byte : get_or b 0 0 ≡ initial 7 i = first_of h.size 7 n b (drop end b) h.is in
    let f : step_in d at (item K) (initial 7 i) ≡ start at 7 (info_of i) K =
    ap (step_in d at (item K)) (sym byte) ∙ (room ∙ (ap (step at (item K)) byte ∙ (ap (λ a. start at a (info_of (initial 7 i % 32)) K) (major_of_byte 7 i few) ∙ ap (λ a. start at 7 (info_of a) K) (info_of_byte 7 i few)))) in
    let known : IsSimpleOrFloat i n x = subst (λ a. IsSimpleOrFloat a n x) (ap (λ a. a % 32) byte ∙ info_of_byte 7 i few) s in
    record {
      some = omega (arith, h.placed, head_some h.size 7 n);
      within = h.within;
      run = λ T g. record {
        told = T;
        is = ap (steps_in d at T (item K)) (head_taken b 7 n end h) ∙ (last_runs d h.size at n x T K h.fits known f ∙ (ap (λ y. Some (T, give y K)) (sym (last_is h.size n x h.fits known)) ∙ ap (λ u. Some (T, u)) (sym e)));
        utf8 = g;
      };
    }
