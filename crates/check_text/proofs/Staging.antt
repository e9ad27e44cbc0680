-- The first fault of the text is the one that is told; and where the text has none, the first of what the root reaches.
use Rattle.std.proofs.Common.{◌≡◌, ℕ, inl, inr, List, [], ◌∷◌, Option, Some, None, refl, sym, subst}
use Rattle.cddl_token.specs.declared.Code.TheVariants as C
use Rattle.lists.specs.Least.{IsLeast}
use Rattle.cddl_language.specs.Faults.{HasBadController, HasBadRange, HasNotLiteral, HasNotUnwrappable, HasRecursion, HasTooManyInstances, IsAccepted, IsFaultAt, IsRefused, OfRoot, Specification, root_of, rules}
use Rattle.cddl_language.specs.Literals.{Values}
use Rattle.cddl_language.specs.MapFaults.{HasMapShape, HasNoKey, HasTooManyAlternatives}
use Rattle.cddl_language.specs.Terms.{Text}
use Rattle.check_text.specs.Codes.{root_codes, text_codes}
use Rattle.cddl_token.specs.declared.Code.{Code}
use Rattle.check_text.specs.First.{IsFirst}
use Rattle.check_text.specs.declared.fault.Fault.{Fault}
use Rattle.check_text.proofs.Firsts.{joined_none, joined_some}
use Rattle.check_text.proofs.Refusing.{accepted, refused}

pub text_told : (s : Specification) (worth : Values) (f : Fault) → IsFirst (IsFaultAt s worth) text_codes (Some f) → IsRefused s worth f.code f.at
text_told s worth f h = refused s worth f (joined_some (IsFaultAt s worth) text_codes root_codes f h)

-- those of numbers, and then those of maps, which go last
abbrev value_codes : List Code
value_codes = C.BadRange ∷ C.BadController ∷ C.NoKey ∷ C.MapShape ∷ C.TooManyAlternatives ∷ []

abbrev map_codes : List Code
map_codes = C.NoKey ∷ C.MapShape ∷ C.TooManyAlternatives ∷ []

module _ (s : Specification) (worth : Values) (root : Text) (rooted : root_of s ≡ Some root) (clear : IsFirst (IsFaultAt s worth) text_codes None) where
  -- with the root, which there is
  of_root : (P : Text → ℕ → Type 0) (o : Option ℕ) → IsLeast (P root) o → IsLeast (λ at. OfRoot (root_of s) (λ n. P n at)) o
  of_root P o h = subst (λ r. IsLeast (λ at. OfRoot r (λ n. P n at)) o) (sym rooted) h

  told : (f : Fault) → IsFirst (IsFaultAt s worth) root_codes (Some f) → IsRefused s worth f.code f.at
  told f h = refused s worth f (joined_none (IsFaultAt s worth) text_codes root_codes (Some f) clear h)

  pub too_many_told : (at : ℕ) → IsLeast (HasTooManyInstances s root) (Some at) → IsRefused s worth C.TooManyInstances at
  too_many_told at h = told (record { code = C.TooManyInstances; at = at }) (inl (refl, of_root (HasTooManyInstances s) (Some at) h))

  module _ (few : IsLeast (HasTooManyInstances s root) None) where
    pub unwrapping_told : (at : ℕ) → IsLeast (HasNotUnwrappable s root) (Some at) → IsRefused s worth C.NotUnwrappable at
    unwrapping_told at h = told (record { code = C.NotUnwrappable; at = at }) (inr (of_root (HasTooManyInstances s) None few, inl (refl, of_root (HasNotUnwrappable s) (Some at) h)))

    module _ (opens : IsLeast (HasNotUnwrappable s root) None) where
      pub recursion_told : (at : ℕ) → IsLeast (HasRecursion s root) (Some at) → IsRefused s worth C.Recursion at
      recursion_told at h = told (record { code = C.Recursion; at = at }) (inr (of_root (HasTooManyInstances s) None few, inr (of_root (HasNotUnwrappable s) None opens, inl (refl, of_root (HasRecursion s) (Some at) h))))

      module _ (ends : IsLeast (HasRecursion s root) None) where
        pub literal_told : (at : ℕ) → IsLeast (HasNotLiteral s worth root) (Some at) → IsRefused s worth C.NotLiteral at
        literal_told at h = told (record { code = C.NotLiteral; at = at }) (inr (of_root (HasTooManyInstances s) None few, inr (of_root (HasNotUnwrappable s) None opens, inr (of_root (HasRecursion s) None ends, inl (refl, of_root (HasNotLiteral s worth) (Some at) h)))))

        module _ (literals : IsLeast (HasNotLiteral s worth root) None) where
          -- what goes before the faults of values
          before_values : (f : Option Fault) → IsFirst (IsFaultAt s worth) value_codes f → IsFirst (IsFaultAt s worth) root_codes f
          before_values None h = (of_root (HasTooManyInstances s) None few, (of_root (HasNotUnwrappable s) None opens, (of_root (HasRecursion s) None ends, (of_root (HasNotLiteral s worth) None literals, h))))
          before_values (Some f) h = inr (of_root (HasTooManyInstances s) None few, inr (of_root (HasNotUnwrappable s) None opens, inr (of_root (HasRecursion s) None ends, inr (of_root (HasNotLiteral s worth) None literals, h))))

          pub range_told : (at : ℕ) → IsLeast (HasBadRange s worth root) (Some at) → IsRefused s worth C.BadRange at
          range_told at h = let f : Fault = record { code = C.BadRange; at = at } in told f (before_values (Some f) (inl (refl, of_root (HasBadRange s worth) (Some at) h)))

          module _ (ranges : IsLeast (HasBadRange s worth root) None) where
            pub controller_told : (at : ℕ) → IsLeast (HasBadController s worth root) (Some at) → IsRefused s worth C.BadController at
            controller_told at h = let f : Fault = record { code = C.BadController; at = at } in told f (before_values (Some f) (inr (of_root (HasBadRange s worth) None ranges, inl (refl, of_root (HasBadController s worth) (Some at) h))))

            module _ (controllers : IsLeast (HasBadController s worth root) None) where
              -- what goes before the faults of maps
              before : (f : Option Fault) → IsFirst (IsFaultAt s worth) map_codes f → IsFirst (IsFaultAt s worth) root_codes f
              before None h = before_values None (of_root (HasBadRange s worth) None ranges, (of_root (HasBadController s worth) None controllers, h))
              before (Some f) h = before_values (Some f) (inr (of_root (HasBadRange s worth) None ranges, inr (of_root (HasBadController s worth) None controllers, h)))

              pub key_told : (at : ℕ) → IsLeast (HasNoKey (rules s) root) (Some at) → IsRefused s worth C.NoKey at
              key_told at h = let f : Fault = record { code = C.NoKey; at = at } in told f (before (Some f) (inl (refl, of_root (HasNoKey (rules s)) (Some at) h)))

              module _ (keys : IsLeast (HasNoKey (rules s) root) None) where
                pub shape_told : (at : ℕ) → IsLeast (HasMapShape (rules s) root) (Some at) → IsRefused s worth C.MapShape at
                shape_told at h = let f : Fault = record { code = C.MapShape; at = at } in told f (before (Some f) (inr (of_root (HasNoKey (rules s)) None keys, inl (refl, of_root (HasMapShape (rules s)) (Some at) h))))

                module _ (shapes : IsLeast (HasMapShape (rules s) root) None) where
                  pub alternatives_told : (at : ℕ) → IsLeast (HasTooManyAlternatives (rules s) root) (Some at) → IsRefused s worth C.TooManyAlternatives at
                  alternatives_told at h = let f : Fault = record { code = C.TooManyAlternatives; at = at } in told f (before (Some f) (inr (of_root (HasNoKey (rules s)) None keys, inr (of_root (HasMapShape (rules s)) None shapes, inl (refl, of_root (HasTooManyAlternatives (rules s)) (Some at) h)))))

                  pub none_told : IsLeast (HasTooManyAlternatives (rules s) root) None → IsAccepted s worth
                  none_told h = accepted s worth (joined_none (IsFaultAt s worth) text_codes root_codes None clear (before None (of_root (HasNoKey (rules s)) None keys, (of_root (HasMapShape (rules s)) None shapes, (of_root (HasTooManyAlternatives (rules s)) None h, tt)))))
