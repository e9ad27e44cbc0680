-- How many alternatives and members there are.
use Rattle.std.proofs.Common.{◌≡◌, ◌≤◌, ℕ, zero, suc, ◌+◌, ◌*◌, List, [], ◌∷◌, ◌++◌, map, length, ◌⊎◌, inl, inr, refl, sym, ap, ◌∙◌, nat_lt, arith}
use Rattle.std.proofs.lemmas.List.{length-append}
use Rattle.std.proofs.Math.Nat.{mul-le-mul_left}
use Rattle.std.proofs.lemmas.Bool.Decides.{nat_tests}
use Rattle.alternatives.specs.declared.Member.{Member}
use Rattle.alternatives.specs.Splices.{Alternatives, members, behind, ways, from, each_needed}
use Rattle.alternatives.specs.Summaries.{capped}
use Rattle.alternatives.proofs.Marks.{members_append, some}

pub cap_sum : (a b : ℕ) → capped (capped a + capped b) ≡ capped (a + b)
cap_sum a b = omega arith

product_below : (a b : ℕ) → 16385 ≤ a → 1 ≤ b → 16385 ≤ a * b
product_below a b h k = omega (arith, mul-le-mul_left a k)

cap_large : (a b : ℕ) → 16385 ≤ a → 1 ≤ b → capped (capped a * capped b) ≡ capped (a * b)
cap_large a b h k =
    let p = product_below a b h k in
    let q = product_below (capped a) (capped b) (omega arith) (omega arith) in
    omega (arith, p, q)

le_or : (a b : ℕ) → (a ≤ b) ⊎ (b ≤ a)
le_or zero b = inl (omega arith)
le_or (suc a) zero = inr (omega arith)
le_or (suc a) (suc b) = elim (le_or a b) [ inl h ↦ inl (omega (arith, h)) | inr h ↦ inr (omega (arith, h)) ]

same_product : (a b c d : ℕ) → a ≡ c → b ≡ d → capped (a * b) ≡ capped (c * d)
same_product a b c d p q = cc

cap_some : (a b : ℕ) → 1 ≤ a → 1 ≤ b → capped (capped a * capped b) ≡ capped (a * b)
cap_some a b h k = elim (le_or a 16385) [
  | inl l ↦ elim (le_or b 16385) [
    | inl m ↦ same_product (capped a) (capped b) a b (omega arith) (omega arith)
    | inr m ↦ (let p = cap_large b a m h in omega (arith, p))
  ]
  | inr l ↦ cap_large a b l k
]

pub cap_product : (a b : ℕ) → capped (capped a * capped b) ≡ capped (a * b)
cap_product zero b = omega arith
cap_product (suc a) zero = omega arith
cap_product (suc a) (suc b) = cap_some (suc a) (suc b) (omega arith) (omega arith)

pub some_is : (mss : Alternatives) → nat_lt 0 (capped (length mss)) ≡ some mss
some_is [] = refl
some_is (ms ∷ mss) = grind (arith, nat_tests)

pub length_behind : (ms : List Member) (nss : Alternatives) → length (behind ms nss) ≡ length nss
length_behind ms [] = refl
length_behind ms (ns ∷ nss) = ap suc (length_behind ms nss)

pub length_ways : (mss nss : Alternatives) → length (ways mss nss) ≡ length mss * length nss
length_ways [] nss = omega arith
length_ways (ms ∷ mss) nss = let h = length_ways mss nss in let k = length_behind ms nss in omega (arith, h, k, length-append (behind ms nss) (ways mss nss))

members_behind : (ms : List Member) (nss : Alternatives) → length (members (behind ms nss)) ≡ length ms * length nss + length (members nss)
members_behind ms [] = omega arith
members_behind ms (ns ∷ nss) =
    let h = members_behind ms nss in
    omega (arith, h, length-append (ms ++ ns) (members (behind ms nss)), length-append ms ns, length-append ns (members nss))

pub members_both : (mss nss : Alternatives) → length (members (mss ++ nss)) ≡ length (members mss) + length (members nss)
members_both mss nss = ap length (members_append mss nss) ∙ length-append (members mss) (members nss)

pub members_ways : (mss nss : Alternatives) → length (members (ways mss nss)) ≡ length (members mss) * length nss + length mss * length (members nss)
members_ways [] nss = omega arith
members_ways (ms ∷ mss) nss =
    let h = members_ways mss nss in
    let k : length (members (ways (ms ∷ mss) nss)) ≡ (length ms * length nss + length (members nss)) + (length (members mss) * length nss + length mss * length (members nss)) = omega (arith, h, members_both (behind ms nss) (ways mss nss), members_behind ms nss) in
    k ∙ (more (length ms) (length nss) (length (members nss)) (length (members mss)) (length mss) ∙ ap (λ n. n * length nss + suc (length mss) * length (members nss)) (sym (length-append ms (members mss))))
  where
    more : (m n k p l : ℕ) → (m * n + k) + (p * n + l * k) ≡ (m + p) * n + suc l * k
    more m n k p l = omega arith

pub length_from : (k : ℕ) (ms : List Member) → length (map (from k) ms) ≡ length ms
length_from k [] = refl
length_from k (m ∷ ms) = ap suc (length_from k ms)

pub length_needed : (before ms : List Member) → length (each_needed before ms) ≡ length ms
length_needed before [] = refl
length_needed before (m ∷ ms) = ap suc (length_needed (before ++ from 0 m ∷ []) ms)

pub members_needed : (before ms : List Member) → length (members (each_needed before ms)) ≡ length ms * (length before + length ms)
members_needed before [] = omega arith
members_needed before (m ∷ ms) =
    let b = length before in
    let l = length ms in
    let h : length (members (each_needed (before ++ from 0 m ∷ []) ms)) ≡ l * ((b + 1) + l) = members_needed (before ++ from 0 m ∷ []) ms ∙ ap (λ n. l * (n + l)) (length-append before (from 0 m ∷ [])) in
    let k : length (members (each_needed before (m ∷ ms))) ≡ (b + suc l) + l * ((b + 1) + l) = omega (arith, h, length-append (before ++ from 1 m ∷ map (from 0) ms) (members (each_needed (before ++ from 0 m ∷ []) ms)), length-append before (from 1 m ∷ map (from 0) ms), length_from 0 ms) in
    k ∙ more b l
  where
    more : (b l : ℕ) → (b + suc l) + l * ((b + 1) + l) ≡ suc l * (b + suc l)
    more b l = omega arith
