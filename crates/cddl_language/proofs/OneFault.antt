-- A specification has one fault at most that is told.
use Rattle.std.specs.Prelude.{◌≡◌, ℕ, zero, suc, ◌<◌, ◌≤◌, nat_eq, if◌then◌else◌}
use Rattle.std.proofs.Common.{refl, sym, ap, ◌∙◌, subst, arith, inl, inr}
use Rattle.std.proofs.lemmas.Bool.{cases_lt}
use Rattle.cddl_token.specs.declared.Code.{Code}
use Rattle.cddl_token.specs.declared.Code.TheVariants.{Duplicate, KindClash, Undefined, Arity, NoRoot, BadRoot, GroupAsType, HashForm, UnknownControl, TooManyInstances, NotUnwrappable, Recursion, NotLiteral, BadRange, BadController, NoKey, MapShape, TooManyAlternatives}
use Rattle.cddl_language.specs.Literals.{Values}
use Rattle.cddl_language.specs.Faults.{Specification, IsFaultAt, number_of, IsRefused, IsAccepted}

-- the code of a number
abbrev coded : ℕ → Code
coded n = if nat_eq n 1 then Duplicate else (if nat_eq n 2 then KindClash else (if nat_eq n 3 then Undefined else (if nat_eq n 4 then Arity else (if nat_eq n 5 then NoRoot else (if nat_eq n 6 then BadRoot else (if nat_eq n 7 then GroupAsType else (if nat_eq n 8 then HashForm else (if nat_eq n 9 then UnknownControl else (if nat_eq n 10 then TooManyInstances else (if nat_eq n 11 then NotUnwrappable else (if nat_eq n 12 then Recursion else (if nat_eq n 13 then NotLiteral else (if nat_eq n 14 then BadRange else (if nat_eq n 15 then BadController else (if nat_eq n 16 then NoKey else (if nat_eq n 17 then MapShape else TooManyAlternatives))))))))))))))))

-- a code of which faults stand is that of its number
coded_number : (s : Specification) (worth : Values) (c : Code) (at : ℕ) → IsFaultAt s worth c at → coded (number_of c) ≡ c
coded_number s worth Duplicate at f = refl
coded_number s worth KindClash at f = refl
coded_number s worth Undefined at f = refl
coded_number s worth Arity at f = refl
coded_number s worth NoRoot at f = refl
coded_number s worth BadRoot at f = refl
coded_number s worth GroupAsType at f = refl
coded_number s worth HashForm at f = refl
coded_number s worth UnknownControl at f = refl
coded_number s worth TooManyInstances at f = refl
coded_number s worth NotUnwrappable at f = refl
coded_number s worth Recursion at f = refl
coded_number s worth NotLiteral at f = refl
coded_number s worth BadRange at f = refl
coded_number s worth BadController at f = refl
coded_number s worth NoKey at f = refl
coded_number s worth MapShape at f = refl
coded_number s worth TooManyAlternatives at f = refl
coded_number s worth _ at f = absurd f

same_number : (m n : ℕ) → m ≤ n → n ≤ m → n ≡ m
same_number m n g h = omega arith

pub one_code : (s : Specification) (worth : Values) (c d : Code) (p q : ℕ) → IsRefused s worth c p → IsRefused s worth d q → d ≡ c
one_code s worth c d p q f g = sym (coded_number s worth d q g.present) ∙ ap coded (same_number (number_of c) (number_of d) (f.lowest d q g.present) (g.lowest c p f.present)) ∙ coded_number s worth c p f.present

one_site : (s : Specification) (worth : Values) (c d : Code) (p q : ℕ) → c ≡ d → IsRefused s worth c p → IsRefused s worth d q → q ≡ p
one_site s worth c d p q e f g = same_number p q (f.least q (subst (λ x. IsFaultAt s worth x q) (sym e) g.present)) (g.least p (subst (λ x. IsFaultAt s worth x p) e f.present))

pub one_fault : (s : Specification) (worth : Values) (c d : Code) (p q : ℕ) → IsRefused s worth c p → IsRefused s worth d q → (d ≡ c) × (q ≡ p)
one_fault s worth c d p q f g = let e : d ≡ c = one_code s worth c d p q f g in (e, one_site s worth c d p q (sym e) f g)

pub apart : (s : Specification) (worth : Values) (c : Code) (p : ℕ) → IsAccepted s worth → IsRefused s worth c p → ⊥
apart s worth c p accepted f = accepted c p f.present

-- Where no fault is told, none stands: the lowest code of which one does would be told, at the least byte.
module _ (s : Specification) (worth : Values) (none : (c : Code) (p : ℕ) → IsRefused s worth c p → ⊥) where
  -- no fault of a code below this number stands
  abbrev AreNone : ℕ → Type 0
  AreNone n = (d : Code) (q : ℕ) → IsFaultAt s worth d q → number_of d < n → ⊥

  none_lower : (c d : Code) (q : ℕ) → AreNone (number_of c) → IsFaultAt s worth d q → number_of c ≤ number_of d
  none_lower c d q lower f = elim (cases_lt (number_of d) (number_of c)) [ inl h ↦ absurd (lower d q f h) | inr h ↦ h ]

  none_before : (c : Code) → AreNone (number_of c) → (n q : ℕ) → q < n → IsFaultAt s worth c q → ⊥
  none_before c lower zero q h f = absurd (omega (arith, h))
  none_before c lower (suc n) q h f = none c q (record {
    present = f;
    lowest = λ d p g. none_lower c d p lower g;
    least = λ p g. elim (cases_lt p q) [ inl i ↦ absurd (none_before c lower n p (omega (arith, h, i)) g) | inr i ↦ i ];
  })

  none_below : (n : ℕ) → AreNone n
  none_below zero d q f h = absurd (omega (arith, h))
  none_below (suc n) d q f h = none_before d (λ c p g i. none_below n c p g (omega (arith, h, i))) (suc q) q (omega arith) f

  pub some : IsAccepted s worth
  some c p f = none_below (suc (number_of c)) c p f (omega arith)
