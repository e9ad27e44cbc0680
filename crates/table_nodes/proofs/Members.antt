-- Ranges with the same numbers are the same test, whatever their order.
use Rattle.std.proofs.Common.{◌≡◌, ℕ, ◌≤◌, List, [], ◌∷◌, length, Bool, true, false, Option, Some, None, refl, sym, ap, ap₂, ◌∙◌, arith}
use Rattle.std.specs.Prelude.{nat_le, nat_lt, ◌^◌, ◌&&◌, ◌||◌}
use Rattle.std.specs.List.{list_any}
use Rattle.std.proofs.Math.Nat.{pow-le-pow_right}
use Rattle.std.proofs.lemmas.Bool.Decides.{nat_tests}
use Rattle.lists.proofs.Lemmas.{from_true as same_bools, or_right}
use Rattle.cbor_data.specs.Value as V
use Rattle.cddl_meaning.specs.Alike.{SameTest}
use Rattle.cddl_meaning.specs.Forms.{are_bits_among, are_members, bits_among, bits_set, fits_in, is_member, sized}
use Rattle.table_nodes.specs.declared.sizes.NumberRange.{NumberRange}
use Rattle.table_nodes.specs.Sizes.{sizes_view}

abbrev pub has : ℕ → NumberRange → Bool
has n r = nat_le r.least n && nat_le n r.last

pub any_has : (n : ℕ) (rs : List NumberRange) → is_member n (sizes_view rs) ≡ list_any (has n) rs
any_has n [] = refl
any_has n (r ∷ rs) = ap (λ (b : Bool). has n r || b) (any_has n rs)

-- a member that can hold a number
record HasHolder (n : ℕ) (rs : List (ℕ × ℕ)) : Type 0 where
  pub size : ℕ
  pub member : is_member size rs ≡ true
  pub holds : nat_lt n (256 ^ size) ≡ true

last_is_member : (a b : ℕ) (t u : Bool) → (nat_le a b && t) ≡ true → ((nat_le a b && nat_le b b) || u) ≡ true
last_is_member a b t u e = grind (arith, nat_tests)

and_right : (t u : Bool) → (t && u) ≡ true → u ≡ true
and_right true u e = e
and_right false true e = refl
and_right false false e = e

holder_in : (n : ℕ) (r : ℕ × ℕ) (rs : List (ℕ × ℕ)) (b : Bool) → (nat_le r.0 r.1 && nat_lt n (256 ^ r.1)) ≡ b → (b || fits_in n rs) ≡ true → (fits_in n rs ≡ true → HasHolder n rs) → HasHolder n (r ∷ rs)
holder_in n r rs true e f later = record {
  size = r.1;
  member = last_is_member r.0 r.1 (nat_lt n (256 ^ r.1)) (is_member r.1 rs) e;
  holds = and_right (nat_le r.0 r.1) (nat_lt n (256 ^ r.1)) e;
}
holder_in n r rs false e f later =
    let h = later f in
    record {
      size = h.size;
      member = or_right (nat_le r.0 h.size && nat_le h.size r.1) (is_member h.size rs) h.member;
      holds = h.holds;
    }

holder : (n : ℕ) (rs : List (ℕ × ℕ)) → fits_in n rs ≡ true → HasHolder n rs
holder n [] e = cc
holder n (r ∷ rs) e = holder_in n r rs (nat_le r.0 r.1 && nat_lt n (256 ^ r.1)) refl e (holder n rs)

fits_below : (n x y a b m : ℕ) (u : Bool) → (nat_le a m && nat_le m b) ≡ true → nat_lt n x ≡ true → (m ≤ b → x ≤ y) → ((nat_le a b && nat_lt n y) || u) ≡ true
fits_below n x y a b m u e f g = grind (arith, nat_tests)

holds : (n : ℕ) (rs : List (ℕ × ℕ)) (m : ℕ) → is_member m rs ≡ true → nat_lt n (256 ^ m) ≡ true → fits_in n rs ≡ true
holds n [] m e f = cc
holds n (r ∷ rs) m e f = holds_in (nat_le r.0 m && nat_le m r.1) refl e (λ h. holds n rs m h f)
  where
    holds_in : (b : Bool) → (nat_le r.0 m && nat_le m r.1) ≡ b → (b || is_member m rs) ≡ true → (is_member m rs ≡ true → fits_in n rs ≡ true) → fits_in n (r ∷ rs) ≡ true
    holds_in true e h later = fits_below n (256 ^ m) (256 ^ r.1) r.0 r.1 m (fits_in n rs) e f (λ l. pow-le-pow_right {n = 256} (omega arith) l)
    holds_in false e h later = or_right (nat_le r.0 r.1 && nat_lt n (256 ^ r.1)) (fits_in n rs) (later h)

fits_more : (n : ℕ) (rs ss : List (ℕ × ℕ)) → ((m : ℕ) → is_member m rs ≡ is_member m ss) → fits_in n rs ≡ true → fits_in n ss ≡ true
fits_more n rs ss h e = let k = holder n rs e in holds n ss k.size (sym (h k.size) ∙ k.member) k.holds

pub same_test : (rs ss : List (ℕ × ℕ)) → ((n : ℕ) → is_member n rs ≡ is_member n ss) → SameTest (sized rs) (sized ss)
same_test rs ss h (V.uint n) = same_bools (fits_in n rs) (fits_in n ss) (fits_more n rs ss h) (fits_more n ss rs (λ m. sym (h m)))
same_test rs ss h (V.nint n) = refl
same_test rs ss h (V.bytes b) = h (length b)
same_test rs ss h (V.text b) = h (length b)
same_test rs ss h (V.array xs) = refl
same_test rs ss h (V.pairs ps) = refl
same_test rs ss h (V.tag n x) = refl
same_test rs ss h (V.simple n) = refl
same_test rs ss h (V.float w n) = refl

members_same : (ns : List ℕ) (rs ss : List (ℕ × ℕ)) → ((n : ℕ) → is_member n rs ≡ is_member n ss) → are_members ns rs ≡ are_members ns ss
members_same [] rs ss h = refl
members_same (n ∷ ns) rs ss h = ap₂ (λ a b. a && b) (h n) (members_same ns rs ss h)

bits_same : (o : Option (List ℕ)) (rs ss : List (ℕ × ℕ)) → ((n : ℕ) → is_member n rs ≡ is_member n ss) → are_bits_among rs o ≡ are_bits_among ss o
bits_same None rs ss h = refl
bits_same (Some ns) rs ss h = members_same ns rs ss h

pub same_bits_test : (rs ss : List (ℕ × ℕ)) → ((n : ℕ) → is_member n rs ≡ is_member n ss) → SameTest (bits_among rs) (bits_among ss)
same_bits_test rs ss h x = bits_same (bits_set x) rs ss h
