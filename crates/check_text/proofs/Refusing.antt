-- The first fault of all codes is the one that is told; and where there is none, the specification is accepted.
use Rattle.std.proofs.Common.{inl, inr, ℕ, ◌≤◌, List, [], ◌∷◌, Some, None, sym, subst, le_refl, arith}
use Rattle.cddl_token.specs.declared.Code.{Code}
use Rattle.cddl_token.specs.declared.Code.TheVariants as C
use Rattle.lists.specs.Least.{IsLeast}
use Rattle.cddl_language.specs.Faults.{IsAccepted, IsFaultAt, IsRefused, Specification, number_of}
use Rattle.cddl_language.specs.Literals.{Values}
use Rattle.check_text.specs.Codes.{all_codes}
use Rattle.check_text.specs.First.{IsFirst}
use Rattle.check_text.specs.declared.fault.Fault.{Fault}

data IsAmong (d : Code) : List Code → Type 0 where
  here : {cs : List Code} → IsAmong d (d ∷ cs)
  later : {c : Code} {cs : List Code} → IsAmong d cs → IsAmong d (c ∷ cs)

-- the numbers of the codes go up, from this one
abbrev Ascends : ℕ → List Code → Type 0
Ascends m [] = Unit {0}
Ascends m (c ∷ cs) = (m ≤ number_of c) × Ascends (number_of c) cs

above : (m : ℕ) (cs : List Code) (d : Code) → Ascends m cs → IsAmong d cs → m ≤ number_of d
above m [] d h x = elim x [ ]
above m (c ∷ cs) d h here = h.0
above m (c ∷ cs) d h (later i) = let a : m ≤ number_of c = h.0 in let b : number_of c ≤ number_of d = above (number_of c) cs d h.1 i in omega arith

module _ (P : Code → ℕ → Type 0) where
  lowest : (cs : List Code) (m : ℕ) (f : Fault) (d : Code) (p : ℕ) → Ascends m cs → IsFirst P cs (Some f) → IsAmong d cs → P d p → number_of f.code ≤ number_of d
  lowest [] m f d p a h x k = elim x [ ]
  lowest (c ∷ cs) m f d p a (inl h) here k = subst (λ x. number_of x ≤ number_of c) (sym h.0) (le_refl (number_of c))
  lowest (c ∷ cs) m f d p a (inl h) (later i) k = subst (λ x. number_of x ≤ number_of d) (sym h.0) (above (number_of c) cs d a.1 i)
  lowest (c ∷ cs) m f d p a (inr h) here k = absurd (h.0 p k)
  lowest (c ∷ cs) m f d p a (inr h) (later i) k = lowest cs (number_of c) f d p a.1 h.1 i k

  stands : (cs : List Code) (f : Fault) → IsFirst P cs (Some f) → IsLeast (P f.code) (Some f.at)
  stands [] f h = absurd h
  stands (c ∷ cs) f (inl h) = subst (λ x. IsLeast (P x) (Some f.at)) (sym h.0) h.1
  stands (c ∷ cs) f (inr h) = stands cs f h.1

  nowhere : (cs : List Code) (d : Code) (p : ℕ) → IsFirst P cs None → IsAmong d cs → P d p → ⊥
  nowhere [] d p h x k = elim x [ ]
  nowhere (c ∷ cs) d p h here k = h.0 p k
  nowhere (c ∷ cs) d p h (later i) k = nowhere cs d p h.1 i k

ascending : Ascends 0 all_codes
ascending = (omega arith, (omega arith, (omega arith, (omega arith, (omega arith, (omega arith, (omega arith, (omega arith, (omega arith, (omega arith, (omega arith, (omega arith, (omega arith, (omega arith, (omega arith, (omega arith, (omega arith, (omega arith, tt))))))))))))))))))

-- a code that stands somewhere is one of them
among : (s : Specification) (worth : Values) (d : Code) (p : ℕ) → IsFaultAt s worth d p → IsAmong d all_codes
among s worth C.Duplicate p h = here
among s worth C.KindClash p h = later here
among s worth C.Undefined p h = later (later here)
among s worth C.Arity p h = later (later (later here))
among s worth C.NoRoot p h = later (later (later (later here)))
among s worth C.BadRoot p h = later (later (later (later (later here))))
among s worth C.GroupAsType p h = later (later (later (later (later (later here)))))
among s worth C.HashForm p h = later (later (later (later (later (later (later here))))))
among s worth C.UnknownControl p h = later (later (later (later (later (later (later (later here)))))))
among s worth C.TooManyInstances p h = later (later (later (later (later (later (later (later (later here))))))))
among s worth C.NotUnwrappable p h = later (later (later (later (later (later (later (later (later (later here)))))))))
among s worth C.Recursion p h = later (later (later (later (later (later (later (later (later (later (later here))))))))))
among s worth C.NotLiteral p h = later (later (later (later (later (later (later (later (later (later (later (later here)))))))))))
among s worth C.BadRange p h = later (later (later (later (later (later (later (later (later (later (later (later (later here))))))))))))
among s worth C.BadController p h = later (later (later (later (later (later (later (later (later (later (later (later (later (later here)))))))))))))
among s worth C.NoKey p h = later (later (later (later (later (later (later (later (later (later (later (later (later (later (later here))))))))))))))
among s worth C.MapShape p h = later (later (later (later (later (later (later (later (later (later (later (later (later (later (later (later here)))))))))))))))
among s worth C.TooManyAlternatives p h = later (later (later (later (later (later (later (later (later (later (later (later (later (later (later (later (later here))))))))))))))))
among s worth C.NotUtf8 p h = absurd h
among s worth C.BadCharacter p h = absurd h
among s worth C.Unclosed p h = absurd h
among s worth C.BadEscape p h = absurd h
among s worth C.BadNumber p h = absurd h
among s worth C.FloatLiteral p h = absurd h
among s worth C.NumberTooLarge p h = absurd h
among s worth C.BadBytes p h = absurd h
among s worth C.SourceTooLong p h = absurd h
among s worth C.Unexpected p h = absurd h
among s worth C.TooNested p h = absurd h

module _ (s : Specification) (worth : Values) where
  pub accepted : IsFirst (IsFaultAt s worth) all_codes None → IsAccepted s worth
  accepted h = λ c p k. nowhere (IsFaultAt s worth) all_codes c p h (among s worth c p k) k

  pub refused : (f : Fault) → IsFirst (IsFaultAt s worth) all_codes (Some f) → IsRefused s worth f.code f.at
  refused f h =
      let it = stands (IsFaultAt s worth) all_codes f h in
      record {
        present = it.0;
        lowest = λ d p k. lowest (IsFaultAt s worth) all_codes 0 f d p ascending h (among s worth d p k) k;
        least = it.1;
      }
