-- A code of the items' values, by which a struct may be seen as one.
use Rattle.std.specs.Prelude.{◌≡◌, ℕ, zero, suc, List, [], ◌∷◌, refl}
use Rattle.std.specs.Coded.{Coded}
use Rattle.std.proofs.Common.{sym, ap, ap₂, ◌∙◌}
use base.Stored.{Gv, gnum, gnil, gcons}
use Rattle.cbor_data.specs.declared.Width.{Width}
use Rattle.cbor_data.specs.declared.Width.TheVariants.{W16, W32, W64}
use Rattle.cbor_data.specs.Value.{Value, uint, nint, bytes, text, array, pairs, tag, simple, float, Values, no_values, value, Pairs, no_pairs, pair}

abbrev numbers_code : List ℕ → Gv
numbers_code [] = gnil
numbers_code (n ∷ ns) = gcons (gnum n) (numbers_code ns)

abbrev number_from : Gv → ℕ
number_from (gnum n) = n
number_from _ = 0

abbrev numbers_from : Gv → List ℕ
numbers_from (gcons g gs) = number_from g ∷ numbers_from gs
numbers_from _ = []

numbers_from-code : (ns : List ℕ) → numbers_from (numbers_code ns) ≡ ns
numbers_from-code [] = refl
numbers_from-code (n ∷ ns) = ap (λ ms. n ∷ ms) (numbers_from-code ns)

abbrev width_code : Width → ℕ
width_code W16 = 0
width_code W32 = 1
width_code W64 = 2

abbrev width_from : ℕ → Width
width_from zero = W16
width_from (suc zero) = W32
width_from (suc (suc n)) = W64

width_from-code : (w : Width) → width_from (width_code w) ≡ w
width_from-code W16 = refl
width_from-code W32 = refl
width_from-code W64 = refl

abbrev mutual
  value_code : Value → Gv
  value_code (uint n) = gcons (gnum 0) (gnum n)
  value_code (nint n) = gcons (gnum 1) (gnum n)
  value_code (bytes bs) = gcons (gnum 2) (numbers_code bs)
  value_code (text bs) = gcons (gnum 3) (numbers_code bs)
  value_code (array xs) = gcons (gnum 4) (values_code xs)
  value_code (pairs ps) = gcons (gnum 5) (pairs_code ps)
  value_code (tag n x) = gcons (gnum 6) (gcons (gnum n) (value_code x))
  value_code (simple n) = gcons (gnum 7) (gnum n)
  value_code (float w n) = gcons (gnum 8) (gcons (gnum (width_code w)) (gnum n))

  values_code : Values → Gv
  values_code no_values = gnil
  values_code (value x xs) = gcons (value_code x) (values_code xs)

  pairs_code : Pairs → Gv
  pairs_code no_pairs = gnil
  pairs_code (pair k v ps) = gcons (value_code k) (gcons (value_code v) (pairs_code ps))

abbrev mutual
  value_from : Gv → Value
  value_from (gcons (gnum zero) g) = uint (number_from g)
  value_from (gcons (gnum (suc zero)) g) = nint (number_from g)
  value_from (gcons (gnum (suc (suc zero))) g) = bytes (numbers_from g)
  value_from (gcons (gnum (suc (suc (suc zero)))) g) = text (numbers_from g)
  value_from (gcons (gnum (suc (suc (suc (suc zero))))) g) = array (values_from g)
  value_from (gcons (gnum (suc (suc (suc (suc (suc zero)))))) g) = pairs (pairs_from g)
  value_from (gcons (gnum (suc (suc (suc (suc (suc (suc zero))))))) (gcons g h)) = tag (number_from g) (value_from h)
  value_from (gcons (gnum (suc (suc (suc (suc (suc (suc (suc zero)))))))) g) = simple (number_from g)
  value_from (gcons (gnum (suc (suc (suc (suc (suc (suc (suc (suc n))))))))) (gcons g h)) = float (width_from (number_from g)) (number_from h)
  value_from _ = uint 0

  values_from : Gv → Values
  values_from (gcons g h) = value (value_from g) (values_from h)
  values_from _ = no_values

  pairs_from : Gv → Pairs
  pairs_from (gcons g (gcons h r)) = pair (value_from g) (value_from h) (pairs_from r)
  pairs_from _ = no_pairs

mutual
  pub value_from-code : (x : Value) → value_from (value_code x) ≡ x
  value_from-code (uint n) = refl
  value_from-code (nint n) = refl
  value_from-code (bytes bs) = ap bytes (numbers_from-code bs)
  value_from-code (text bs) = ap text (numbers_from-code bs)
  value_from-code (array xs) = ap array (values_from-code xs)
  value_from-code (pairs ps) = ap pairs (pairs_from-code ps)
  value_from-code (tag n x) = ap (tag n) (value_from-code x)
  value_from-code (simple n) = refl
  value_from-code (float w n) = ap (λ v. float v n) (width_from-code w)

  pub values_from-code : (xs : Values) → values_from (values_code xs) ≡ xs
  values_from-code no_values = refl
  values_from-code (value x xs) = ap₂ value (value_from-code x) (values_from-code xs)

  pub pairs_from-code : (ps : Pairs) → pairs_from (pairs_code ps) ≡ ps
  pairs_from-code no_pairs = refl
  pairs_from-code (pair k v ps) = ap₂ (λ a b. pair a b (pairs_from (pairs_code ps))) (value_from-code k) (value_from-code v) ∙ ap (pair k v) (pairs_from-code ps)

abbrev pub coded_value : Coded Value
coded_value = record { code = value_code; inj = λ x y p. sym (value_from-code x) ∙ ap value_from p ∙ value_from-code y }

abbrev pub coded_values : Coded Values
coded_values = record { code = values_code; inj = λ x y p. sym (values_from-code x) ∙ ap values_from p ∙ values_from-code y }

abbrev pub coded_pairs : Coded Pairs
coded_pairs = record { code = pairs_code; inj = λ x y p. sym (pairs_from-code x) ∙ ap pairs_from p ∙ pairs_from-code y }
