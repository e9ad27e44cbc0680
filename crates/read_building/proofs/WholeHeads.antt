-- Heads that are all there, and strings that are.
use Rattle.std.proofs.Common.{◌≡◌, ℕ, ◌+◌, ◌/◌, ◌%◌, ◌<◌, ◌≤◌, ◌⊎◌, inr, List, [], ◌∷◌, ◌++◌, length, take, drop, get_or, Bool, true, false, Some, refl, sym, ap, ap₂, ◌∙◌, arith, append-nil, length-take, length-drop}
use Rattle.std.specs.Str.{IsUtf8}
use Rattle.std.proofs.lemmas.Str.{IsUtf8-nil}
use Rattle.std.proofs.lemmas.Nat.{from_be_bytes-to_be_bytes_2, from_be_bytes-to_be_bytes_4, from_be_bytes-to_be_bytes_8}
use Rattle.std.proofs.lemmas.Bool.Decides.{nat_tests}
use Rattle.std.proofs.lemmas.List.{get_or-drop}
use Rattle.std.proofs.Math.Seq.{take-append_seam, take-add}
use Rattle.cbor_data.specs.Preferred.{initial}
use Rattle.cbor_data.specs.Forms.{ArgumentSize, inside, one, two, four, eight, head_in, FitsSize}
use Rattle.cbor_data.proofs.Lemmas.{head_some}
use Rattle.cbor_data.specs.Machine.Machine.{given, info_of}
use Rattle.read_building.specs.Building.{Frame, State, item, give, string_of, after, await_string, start, step, step_in, Text, text_ended, steps_in}
use Rattle.read_building.specs.Texts.{AreTexts}
use Rattle.read_building.proofs.Forward.{wide_is}
use Rattle.read_building.proofs.Forms.{form_of-give}
use Rattle.read_items.specs.Whole.Parts.{IsArgumentAt}
use Rattle.read_building.specs.Stages.{string_major, major_of}
use Rattle.read_building.specs.declared.kind.Kind.{Kind}
use Rattle.read_building.specs.declared.kind.Kind.TheVariants as kinds
use Rattle.read_building.specs.Turns.{HasRoom, IsOn, IsBadOn}
use Rattle.read_building.proofs.Runs.{string_whole, text_ended_good}
use Rattle.read_building.proofs.Holding.{string_kind}

-- the additional information of the initial byte
abbrev pub first_info : ArgumentSize → ℕ → ℕ
first_info inside n = n
first_info one n = 24
first_info two n = 25
first_info four n = 26
first_info eight n = 27

pub first_info_small : (p : ArgumentSize) (n : ℕ) → FitsSize p n → first_info p n < 32
first_info_small inside n h = omega arith
first_info_small one n h = omega arith
first_info_small two n h = omega arith
first_info_small four n h = omega arith
first_info_small eight n h = omega arith

pub info_of-given : (n : ℕ) → n < 24 → info_of n ≡ given n
info_of-given n h = grind (arith, nat_tests)

pub major_of_byte : (m i : ℕ) → i < 32 → initial m i / 32 ≡ m
major_of_byte m i h = omega arith

pub info_of_byte : (m i : ℕ) → i < 32 → initial m i % 32 ≡ i
info_of_byte m i h = omega arith

-- a head that the first step lets pass
passed : (d : ℕ) (p : ArgumentSize) (at m n : ℕ) (T : List Text) (K : List Frame) (r : List ℕ) → m < 7 → FitsSize p n → step_in d at (item K) (initial m (first_info p n)) ≡ start at m (info_of (first_info p n)) K →
    steps_in d at T (item K) (head_in p m n ++ r) ≡ steps_in d (at + length (head_in p m n)) T (after at m n K) r
passed d inside at m n T K r small h f = rw (f, info_of-given n h) (ap (λ i. steps_in d i T (after at m n K) r) (omega arith))
passed d one at m n T K r small h f = rw (f, wide_is at m 0 K small) (ap₂ (λ i a. steps_in d i T (after at m a K) r) (omega arith) (omega arith))
passed d two at m n T K r small h f = rw (f, wide_is at m 1 K small) (ap₂ (λ i a. steps_in d i T (after at m a K) r) (omega arith) (omega (arith, from_be_bytes-to_be_bytes_2 n h)))
passed d four at m n T K r small h f = rw (f, wide_is at m 3 K small) (ap₂ (λ i a. steps_in d i T (after at m a K) r) (omega arith) (omega (arith, from_be_bytes-to_be_bytes_4 n h)))
passed d eight at m n T K r small h f = rw (f, wide_is at m 7 K small) (ap₂ (λ i a. steps_in d i T (after at m a K) r) (omega arith) (omega (arith, from_be_bytes-to_be_bytes_8 n h)))

byte_at : (b : List ℕ) (at x : ℕ) (ys : List ℕ) → drop at b ≡ x ∷ ys → get_or b at 0 ≡ x
byte_at b at x ys is =
    let same : at ≡ at + 0 = omega arith in
    ap (λ n. get_or b n 0) same ∙ (sym (get_or-drop at b 0 0) ∙ ap (λ l. get_or l 0 0) is)

pub first_of : (p : ArgumentSize) (m n : ℕ) (b r : List ℕ) → drop 0 b ≡ head_in p m n ++ r → get_or b 0 0 ≡ initial m (first_info p n)
first_of inside m n b r e = byte_at b 0 _ _ e
first_of one m n b r e = byte_at b 0 _ _ e
first_of two m n b r e = byte_at b 0 _ _ e
first_of four m n b r e = byte_at b 0 _ _ e
first_of eight m n b r e = byte_at b 0 _ _ e

-- the head of the major type m
pub record Heads (b : List ℕ) (m n end : ℕ) : Type 0 where
  pub size : ArgumentSize
  pub fits : FitsSize size n
  pub placed : end ≡ length (head_in size m n)
  pub within : end ≤ length b
  pub is : drop 0 b ≡ head_in size m n ++ drop end b

pub heads : (b : List ℕ) (m n end : ℕ) → get_or b 0 0 / 32 ≡ m → IsArgumentAt b 0 n end → Heads b m n end
heads b m n end e h = record {
  size = h.size;
  fits = h.fits;
  placed = h.placed ∙ (omega arith ∙ ap (λ k. length (head_in h.size k n)) e);
  within = h.within;
  is = h.is ∙ ap (λ k. head_in h.size k n ++ drop end b) e;
}

head_runs : (d at m n end : ℕ) (T : List Text) (K : List Frame) (b r : List ℕ) (h : Heads b m n end) → m < 7 → HasRoom d at K (get_or b 0 0) → steps_in d at T (item K) (head_in h.size m n ++ r) ≡ steps_in d (at + end) T (after at m n K) r
head_runs d at m n end T K b r h small room =
    let i = first_info h.size n in
    let few : i < 32 = first_info_small h.size n h.fits in
    let byte : get_or b 0 0 ≡ initial m i = first_of h.size m n b (drop end b) h.is in
    let f : step_in d at (item K) (initial m i) ≡ start at m (info_of i) K =
    ap (step_in d at (item K)) (sym byte) ∙ (room ∙ (ap (step at (item K)) byte ∙ (ap (λ a. start at a (info_of (initial m i % 32)) K) (major_of_byte m i few) ∙ ap (λ a. start at m (info_of a) K) (info_of_byte m i few)))) in
    passed d h.size at m n T K r small h.fits f ∙ ap (λ k. steps_in d (at + k) T (after at m n K) r) (sym h.placed)

pub head_taken : (b : List ℕ) (m n end : ℕ) (h : Heads b m n end) → take end b ≡ head_in h.size m n
head_taken b m n end h =
    ap₂ (λ k c. take k c) h.placed (drop_none b) ∙ (ap (take (length (head_in h.size m n))) h.is ∙ take-append_seam (head_in h.size m n) (drop end b))
  where
    drop_none : (b : List ℕ) → b ≡ drop 0 b
    drop_none b = refl

pub head_on : (d at m n end : ℕ) (K : List Frame) (b : List ℕ) (t : State) → Heads b m n end → m < 7 → HasRoom d at K (get_or b 0 0) → t ≡ after at m n K → IsOn d at (item K) b end t
head_on d at m n end K b t h small room e = record {
  some = omega (arith, h.placed, head_some h.size m n);
  within = h.within;
  run = λ T g. record {
    told = T;
    is = ap (steps_in d at T (item K)) (head_taken b m n end h ∙ sym (append-nil (head_in h.size m n))) ∙ (head_runs d at m n end T K b [] h small room ∙ ap (λ u. Some (T, u)) (sym e));
    utf8 = g;
  };
}

-- the content is all there

abbrev told : ℕ → ℕ → List ℕ → List Text → List Text
told m from [] T = T
told m from (b ∷ c) T = text_ended m from (b ∷ c) T

string_all : (d at from m : ℕ) (c : List ℕ) (T : List Text) (K : List Frame) → steps_in d at T (await_string from m (length c) K) c ≡ Some (told m from c T, give (string_of m c) K)
string_all d at from m [] T K = refl
string_all d at from m (b ∷ c) T K = string_whole d (b ∷ c) at from m (length c) [] T K (omega arith)

told_good : (m from : ℕ) (c : List ℕ) (T : List Text) → (m ≡ 3 → IsUtf8 c) → (m ≡ 2) ⊎ (m ≡ 3) → AreTexts T → AreTexts (told m from c T)
told_good m from [] T good kind h = h
told_good m from (b ∷ c) T good kind h = text_ended_good m from (b ∷ c) T good kind h

pub after_string : (t : Bool) (at n : ℕ) (K : List Frame) → after at (string_major t) n K ≡ await_string at (string_major t) n K
after_string true at n K = refl
after_string false at n K = refl

pub string_small : (t : Bool) → string_major t < 7
string_small true = omega arith
string_small false = omega arith

string_runs : (d at n end : ℕ) (t : Bool) (T : List Text) (K : List Frame) (b : List ℕ) → Heads b (string_major t) n end → HasRoom d at K (get_or b 0 0) → end + n ≤ length b →
    steps_in d at T (item K) (take (end + n) b) ≡ Some (told (string_major t) at (take n (drop end b)) T, give (string_of (string_major t) (take n (drop end b))) K)
string_runs d at n end t T K b h room within =
    let m = string_major t in
    let c = take n (drop end b) in
    let len : length c ≡ n = omega (arith, length-take n (drop end b), length-drop end b) in
    ap (steps_in d at T (item K)) (take-add end n b ∙ ap (λ r. r ++ c) (head_taken b m n end h))
    ∙ (head_runs d at m n end T K b c h (string_small t) room ∙ (ap (λ s. steps_in d (at + end) T s c) (after_string t at n K ∙ ap (λ k. await_string at m k K) (sym len)) ∙ string_all d (at + end) at m c T K))

pub string_head_on : (d at n end : ℕ) (t : Bool) (K : List Frame) (b : List ℕ) (u : State) → Heads b (string_major t) n end → HasRoom d at K (get_or b 0 0) → end + n ≤ length b → (string_major t ≡ 3 → IsUtf8 (take n (drop end b))) → u ≡ give (string_of (string_major t) (take n (drop end b))) K →
    IsOn d at (item K) b (end + n) u
string_head_on d at n end t K b u h room within good e = record {
  some = omega (arith, h.placed, head_some h.size (string_major t) n);
  within = within;
  run = λ T g. record {
    told = told (string_major t) at (take n (drop end b)) T;
    is = string_runs d at n end t T K b h room within ∙ ap (λ s. Some (told (string_major t) at (take n (drop end b)) T, s)) (sym e);
    utf8 = told_good (string_major t) at (take n (drop end b)) T good (string_kind t) g;
  };
}

told_some : (m from : ℕ) (c : List ℕ) (T : List Text) → (IsUtf8 c → ⊥) → told m from c T ≡ text_ended m from c T
told_some m from [] T bad = absurd (bad IsUtf8-nil)
told_some m from (b ∷ c) T bad = refl

pub string_head_bad : (d at n end : ℕ) (K : List Frame) (b : List ℕ) → Heads b 3 n end → HasRoom d at K (get_or b 0 0) → end + n ≤ length b → (IsUtf8 (take n (drop end b)) → ⊥) → IsBadOn d at (item K) b (end + n) at false K
string_head_bad d at n end K b h room within bad =
    let c = take n (drop end b) in
    record {
      some = omega (arith, h.placed, head_some h.size 3 n);
      within = within;
      state = give (string_of 3 c) K;
      run = λ T g. record {
        told = text_ended 3 at c T;
        is = string_runs d at n end true T K b h room within ∙ ap (λ U. Some (U, give (string_of 3 c) K)) (told_some 3 at c T bad);
        bad = inr (g, bad, refl);
      };
      form = form_of-give (string_of 3 c) K;
    }

pub kind_small : (k : Kind) → major_of k < 7
kind_small kinds.Uint = omega arith
kind_small kinds.Nint = omega arith
kind_small kinds.Bytes = omega arith
kind_small kinds.Text = omega arith
kind_small kinds.Array = omega arith
kind_small kinds.Map = omega arith
kind_small kinds.Tag = omega arith
