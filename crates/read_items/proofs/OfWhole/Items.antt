-- An item from its head and what is after it.
use Rattle.std.proofs.Common.{◌≡◌, ℕ, ◌+◌, ◌-◌, ◌/◌, ◌%◌, ◌==◌, ◌<◌, ◌≤◌, ◌⊎◌, inl, inr, Bool, true, false, nat_lt, List, [], ◌∷◌, ◌++◌, length, take, drop, get_or, refl, sym, ap, ◌∙◌, subst, arith, append_assoc, length-append, length-drop, length-take, Option, Some, None, Result, Ok, Err, IfOk, IfSome}
use Rattle.std.specs.declared.alloc.AllocError.{AllocError}
use Rattle.std.proofs.Math.Seq.{take-append_seam}
use Rattle.std.proofs.lemmas.List.{take-append-drop, drop-drop}
use Rattle.std.proofs.lemmas.Bool.Decides.{nat_tests}
use Rattle.cbor_data.specs.declared.Width.TheVariants.{W16, W32, W64}
use Rattle.cbor_data.specs.Preferred.{initial}
use Rattle.cbor_data.specs.Value.{Value, uint, nint, tag, simple, depth_of, values_depth, pairs_depth, AreBytes}
use Rattle.cbor_data.specs.Forms.{ArgumentSize, inside, one, two, four, eight, head_in, FitsSize, Form, uint_form, nint_form, bytes_form, text_form, array_form, pairs_form, tag_form, simple_inside, simple_next, float_form, forms_len, pair_forms_len, flat, forms_flat, pair_forms_flat, IsOk, HasText, meaning, meanings, pair_meanings}
use Rattle.cbor_data.proofs.Lemmas.{form_some}
use Rattle.item_nodes.specs.declared.item.Item.{Item}
use Rattle.read_items.specs.Whole.Parts.{IsArgumentAt, IsBytesAt, IsTextAt, IsInfo, IsSimpleOrFloat, IsItemAt, IsArrayAt, IsMapAt, IsTagAt}
use Rattle.read_items.specs.Whole.Whole.{IsWholeItem}
use Rattle.read_items.proofs.OfWhole.Arguments.{byte_at}

-- what is found is what was found, seen otherwise
pub found_so : (P Q : Item × ℕ → Type 0) (r : Result (Option (Item × ℕ)) AllocError) → ((x : Item × ℕ) → P x → Q x) → IfOk r (λ f. IfSome f P) → IfOk r (λ f. IfSome f Q)
found_so P Q (Ok (Some x)) h k = h x k
found_so P Q (Ok None) h k = tt
found_so P Q (Err e) h k = tt

-- what is in b from `at` up to `end`
pub record Lies (b : List ℕ) (at end : ℕ) (xs : List ℕ) : Type 0 where
  pub placed : end ≡ at + length xs
  pub is : drop at b ≡ xs ++ drop end b

pub then : (b : List ℕ) (at start end : ℕ) (xs ys : List ℕ) → Lies b at start xs → Lies b start end ys → Lies b at end (xs ++ ys)
then b at start end xs ys h k = record {
  placed = omega (arith, h.placed, k.placed, length-append xs ys);
  is = h.is ∙ (ap (λ r. xs ++ r) k.is ∙ sym (append_assoc xs ys (drop end b)));
}

head_lies : (b : List ℕ) (at n start m : ℕ) (h : IsArgumentAt b at n start) → get_or b at 0 / 32 ≡ m → Lies b at start (head_in h.size m n)
head_lies b at n start m h e = subst (λ k. Lies b at start (head_in h.size k n)) e (record { placed = h.placed; is = h.is })

pub item_of : (d : ℕ) (b : List ℕ) (at end : ℕ) (x : Value) (f : Form) → IsOk f → HasText f → x ≡ meaning f → depth_of (meaning f) ≤ d → Lies b at end (flat f) → IsItemAt d b at x end
item_of d b at end x f ok utf8 is shallow l = record { written = f; ok = ok; text = utf8; meant = is; shallow = subst (λ y. depth_of y ≤ d) (sym is) shallow; placed = l.placed; is = l.is }

-- numbers

pub uint_item : (d : ℕ) (b : List ℕ) (at n end : ℕ) (x : Value) → IsArgumentAt b at n end → get_or b at 0 / 32 ≡ 0 → x ≡ uint n → IsItemAt d b at x end
uint_item d b at n end x h m is = item_of d b at end x (uint_form h.size n) h.fits tt is (omega arith) (head_lies b at n end 0 h m)

pub nint_item : (d : ℕ) (b : List ℕ) (at n end : ℕ) (x : Value) → IsArgumentAt b at n end → get_or b at 0 / 32 ≡ 1 → x ≡ nint n → IsItemAt d b at x end
nint_item d b at n end x h m is = item_of d b at end x (nint_form h.size n) h.fits tt is (omega arith) (head_lies b at n end 1 h m)

pub integer_item : (d : ℕ) (b : List ℕ) (at n end : ℕ) (x : Value) → IsArgumentAt b at n end → get_or b at 0 < 64 → (get_or b at 0 / 32 ≡ 0 → x ≡ uint n) → (get_or b at 0 / 32 ≡ 1 → x ≡ nint n) → IsItemAt d b at x end
integer_item d b at n end x h few u v =
    let c : ℕ = get_or b at 0 in
    elim (either c few) [
      | inl m ↦ uint_item d b at n end x h m (u m)
      | inr m ↦ nint_item d b at n end x h m (v m)
    ]
  where
    settled : (t : Bool) → (t ≡ true) ⊎ (t ≡ false)
    settled true = inl refl
    settled false = inr refl

    either : (c : ℕ) → c < 64 → (c / 32 ≡ 0) ⊎ (c / 32 ≡ 1)
    either c few = elim (settled (nat_lt c 32)) [ inl t ↦ inl (grind (arith, nat_tests)) | inr t ↦ inr (grind (arith, nat_tests)) ]

-- strings

pub content_len : (b : List ℕ) (start len : ℕ) → start + len ≤ length b → length (take len (drop start b)) ≡ len
content_len b start len within = omega (arith, length-take len (drop start b), length-drop start b)

content_lies : (b : List ℕ) (start len end : ℕ) → start + len ≤ length b → end ≡ start + len → Lies b start end (take len (drop start b))
content_lies b start len end within e =
    let same : drop len (drop start b) ≡ drop end b = drop-drop len start b ∙ ap (λ n. drop n b) (sym e) in
    record {
      placed = omega (arith, content_len b start len within);
      is = sym (take-append-drop len (drop start b)) ∙ ap (λ r. take len (drop start b) ++ r) same;
    }

pub string_lies : (b : List ℕ) (at n start end m : ℕ) (h : IsArgumentAt b at n start) → get_or b at 0 / 32 ≡ m → start + n ≤ length b → end ≡ start + n → Lies b at end (head_in h.size m (length (take n (drop start b))) ++ take n (drop start b))
string_lies b at n start end m h e within placed =
    subst (λ k. Lies b at end (head_in h.size m k ++ take n (drop start b))) (sym (content_len b start n within))
    (then b at start end (head_in h.size m n) (take n (drop start b)) (head_lies b at n start m h e) (content_lies b start n end within placed))

pub bytes_item : (d : ℕ) (b : List ℕ) (at n start end : ℕ) (x : Value) → ((k : ℕ) → AreBytes (take k (drop start b))) → IsArgumentAt b at n start → get_or b at 0 / 32 ≡ 2 → IsBytesAt b start n x end → IsItemAt d b at x end
bytes_item d b at n start end x all h m s =
    item_of d b at end x (bytes_form h.size (take n (drop start b))) (subst (FitsSize h.size) (sym (content_len b start n s.within)) h.fits, all n) tt s.is (omega arith) (string_lies b at n start end 2 h m s.within s.placed)

pub text_item : (d : ℕ) (b : List ℕ) (at n start end : ℕ) (x : Value) → ((k : ℕ) → AreBytes (take k (drop start b))) → IsArgumentAt b at n start → get_or b at 0 / 32 ≡ 3 → IsTextAt b start n x end → IsItemAt d b at x end
text_item d b at n start end x all h m s =
    item_of d b at end x (text_form h.size (take n (drop start b))) (subst (FitsSize h.size) (sym (content_len b start n s.within)) h.fits, all n) s.text s.is (omega arith) (string_lies b at n start end 3 h m s.within s.placed)

-- containers

pub array_item : (d : ℕ) (b : List ℕ) (at n start end : ℕ) (x : Value) → IsArgumentAt b at n start → get_or b at 0 / 32 ≡ 4 → IsArrayAt d (Some n) b start x end → IsItemAt d b at x end
array_item d b at n start end x h m s =
    let fs = s.written in
    let count : n ≡ forms_len fs = sym s.ends in
    let stop : s.stop ≡ end = omega (arith, s.placed) in
    let shallow : values_depth (meanings fs) ≤ d - 1 = s.there.shallow in
    let some : 0 < d = s.some in
    item_of d b at end x (array_form h.size fs) (subst (FitsSize h.size) count h.fits, s.there.ok) s.there.text s.meant (omega arith)
    (then b at start end (head_in h.size 4 (forms_len fs)) (forms_flat fs) (subst (λ k. Lies b at start (head_in h.size 4 k)) count (head_lies b at n start 4 h m)) (subst (λ e. Lies b start e (forms_flat fs)) stop (record { placed = s.there.placed; is = s.there.is })))

pub map_item : (d : ℕ) (b : List ℕ) (at n start end : ℕ) (x : Value) → IsArgumentAt b at n start → get_or b at 0 / 32 ≡ 5 → IsMapAt d (Some n) b start x end → IsItemAt d b at x end
map_item d b at n start end x h m s =
    let ps = s.written in
    let count : n ≡ pair_forms_len ps = sym s.ends in
    let stop : s.stop ≡ end = omega (arith, s.placed) in
    let shallow : pairs_depth (pair_meanings ps) ≤ d - 1 = s.there.shallow in
    let some : 0 < d = s.some in
    item_of d b at end x (pairs_form h.size ps) (subst (FitsSize h.size) count h.fits, s.there.ok) s.there.text s.meant (omega arith)
    (then b at start end (head_in h.size 5 (pair_forms_len ps)) (pair_forms_flat ps) (subst (λ k. Lies b at start (head_in h.size 5 k)) count (head_lies b at n start 5 h m)) (subst (λ e. Lies b start e (pair_forms_flat ps)) stop (record { placed = s.there.placed; is = s.there.is })))

pub tag_item : (d : ℕ) (b : List ℕ) (at n start end : ℕ) (x : Value) → IsArgumentAt b at n start → get_or b at 0 / 32 ≡ 6 → IsTagAt d n b start x end → IsItemAt d b at x end
tag_item d b at n start end x h m s =
    let f = s.there.written in
    let inner : depth_of (meaning f) ≤ d - 1 = subst (λ y. depth_of y ≤ d - 1) s.there.meant s.there.shallow in
    let some : 0 < d = s.some in
    item_of d b at end x (tag_form h.size n f) (h.fits, s.there.ok) s.there.text (s.meant ∙ ap (tag n) s.there.meant) (omega arith)
    (then b at start end (head_in h.size 6 n) (flat f) (head_lies b at n start 6 h m) (record { placed = s.there.placed; is = s.there.is }))

-- simple values and floats

-- the additional information that announces an argument of this size
abbrev info_of : ArgumentSize → ℕ → ℕ
info_of inside n = n
info_of one n = 24
info_of two n = 25
info_of four n = 26
info_of eight n = 27

first_info : (b : List ℕ) (at m n : ℕ) (p : ArgumentSize) (rest : List ℕ) → FitsSize p n → drop at b ≡ head_in p m n ++ rest → get_or b at 0 % 32 ≡ info_of p n
first_info b at m n inside rest fits is = let first : get_or b at 0 ≡ initial m n = byte_at b at (initial m n) rest is in omega arith
first_info b at m n one rest fits is = let first : get_or b at 0 ≡ initial m 24 = byte_at b at (initial m 24) _ is in omega arith
first_info b at m n two rest fits is = let first : get_or b at 0 ≡ initial m 25 = byte_at b at (initial m 25) _ is in omega arith
first_info b at m n four rest fits is = let first : get_or b at 0 ≡ initial m 26 = byte_at b at (initial m 26) _ is in omega arith
first_info b at m n eight rest fits is = let first : get_or b at 0 ≡ initial m 27 = byte_at b at (initial m 27) _ is in omega arith

sized_info : (p : ArgumentSize) (n : ℕ) → FitsSize p n → IsInfo (info_of p n) n
sized_info inside n h = (omega arith, λ small. omega arith)
sized_info one n h = (omega arith, λ small. omega arith)
sized_info two n h = (omega arith, λ small. absurd (omega arith))
sized_info four n h = (omega arith, λ small. absurd (omega arith))
sized_info eight n h = (omega arith, λ small. absurd (omega arith))

pub is_info : (b : List ℕ) (at n end : ℕ) → IsArgumentAt b at n end → IsInfo (get_or b at 0 % 32) n
is_info b at n end h = subst (λ i. IsInfo i n) (sym (first_info b at (get_or b at 0 / 32) n h.size (drop end b) h.fits h.is)) (sized_info h.size n h.fits)

simple_is : (n : ℕ) (x : Value) → n < 24 → IsSimpleOrFloat n n x → x ≡ simple n
simple_is n x small s =
    let a : (n == 25) ≡ false = grind (arith, nat_tests) in
    let c : (n == 26) ≡ false = grind (arith, nat_tests) in
    let e : (n == 27) ≡ false = grind (arith, nat_tests) in
    rw (a, c, e) at s.is

next_bytes : (n : ℕ) → n < 256 → head_in one 7 n ≡ initial 7 24 ∷ n ∷ []
next_bytes n h = ap (λ y. initial 7 24 ∷ y ∷ []) (let same : n % 256 ≡ n = omega arith in same)

last_of : (d : ℕ) (b : List ℕ) (at n end : ℕ) (x : Value) (p : ArgumentSize) → FitsSize p n → Lies b at end (head_in p 7 n) → IsSimpleOrFloat (info_of p n) n x → IsItemAt d b at x end
last_of d b at n end x inside fits l s = item_of d b at end x (simple_inside n) fits tt (simple_is n x fits s) (omega arith) l
last_of d b at n end x one fits l s = item_of d b at end x (simple_next n) (s.assignable refl, fits) tt s.is (omega arith) (subst (Lies b at end) (next_bytes n fits) l)
last_of d b at n end x two fits l s = item_of d b at end x (float_form W16 n) fits tt s.is (omega arith) l
last_of d b at n end x four fits l s = item_of d b at end x (float_form W32 n) fits tt s.is (omega arith) l
last_of d b at n end x eight fits l s = item_of d b at end x (float_form W64 n) fits tt s.is (omega arith) l

pub last_item : (d : ℕ) (b : List ℕ) (at n end : ℕ) (x : Value) → IsArgumentAt b at n end → get_or b at 0 / 32 ≡ 7 → IsSimpleOrFloat (get_or b at 0 % 32) n x → IsItemAt d b at x end
last_item d b at n end x h m s =
    last_of d b at n end x h.size h.fits (head_lies b at n end 7 h m) (subst (λ i. IsSimpleOrFloat i n x) (first_info b at (get_or b at 0 / 32) n h.size (drop end b) h.fits h.is) s)

-- what has bytes takes some of those that are left
pub moves : (b : List ℕ) (at end : ℕ) (xs : List ℕ) → Lies b at end xs → 0 < length xs → length b - end < length b - at
moves b at end xs h some = omega (arith, ap length h.is, length-append xs (drop end b), length-drop at b, length-drop end b)

pub item_moves : (d : ℕ) (b : List ℕ) (at end : ℕ) (x : Value) → IsItemAt d b at x end → length b - end < length b - at
item_moves d b at end x h = moves b at end (flat h.written) (record { placed = h.placed; is = h.is }) (form_some h.written)

-- the front of bytes

pub whole_front : (d : ℕ) (b : List ℕ) (x : Value) (end : ℕ) → IsItemAt d b 0 x end → IsWholeItem d b x end
whole_front d b x end h =
    let f = h.written in
    let placed : end ≡ length (flat f) = omega (arith, h.placed) in
    let some : 0 < length (flat f) = form_some f in
    record {
      some = omega arith;
      within = omega (arith, ap length h.is, length-append (flat f) (drop end b));
      spells = record { written = f; ok = h.ok; text = h.text; is = ap (take end) h.is ∙ (ap (λ k. take k (flat f ++ drop end b)) placed ∙ take-append_seam (flat f) (drop end b)); meant = h.meant };
      shallow = h.shallow;
    }

-- what is no deeper than the one is no deeper than the other
pub deeper_front : (d e : ℕ) (b : List ℕ) (x : Value) (n : ℕ) → d ≤ e → IsWholeItem d b x n → IsWholeItem e b x n
deeper_front d e b x n less h = record {
  some = h.some;
  within = h.within;
  spells = h.spells;
  shallow = omega (arith, h.shallow, less);
}
