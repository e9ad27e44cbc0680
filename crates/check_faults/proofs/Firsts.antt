-- The first fault that is listed.
use Rattle.std.proofs.Common.{◌≡◌, ℕ, zero, suc, ◌<◌, ◌≤◌, List, [], ◌∷◌, length, take, get_or, Option, Some, slice_get, refl, sym, ap, subst, ◌∙◌, arith}
use Rattle.std.specs.List.{Contains}
use Rattle.std.proofs.lemmas.List.Elements.{Contains-append_cases, Contains-get_or, Contains-push_cases}
use Rattle.std.proofs.lemmas.Map.Keys.{below_from_sorted, sorted_from_strictly_increasing}
use Rattle.cddl_language.specs.Faults.{IsFaultAt, IsRefused, Specification, number_of}
use Rattle.cddl_language.specs.Literals.{AreRight, Values}
use Rattle.cddl_language.specs.Terms.{Text}
use Rattle.cddl_token.specs.declared.Code.{Code}
use Rattle.tree_nodes.specs.Syntax.Syntax.{Cddl}
use Rattle.cddl_check.specs.Outcome.{specification}
use Rattle.all_offsets.specs.Offsets.{AreOffsets}
use Rattle.lists.proofs.Lemmas.{at_head, either, none_in}
use Rattle.check_faults.specs.Listed.{AreFirst, AreListed, AreOfRoot, AreOfSpecification, no_code, further_code, reached, unreached}
use Rattle.check_faults.specs.declared.listing.Listed.{Listed}

-- what is said of each code is said of each in the list
pub each_is : (P : Code → ℕ → Type 0) (most : ℕ) {cs : List Code} {ls : List Listed} → AreListed P most cs ls → (l : Listed) → Contains ls l → AreFirst (P l.code) most l
each_is P most no_code l there = absurd (none_in l there)
each_is P most (further_code {ls = ls} h c m is first) l there = either (Contains-push_cases ls m l there) (each_is P most h l) (λ e. subst (λ x. AreFirst (P x.code) most x) e (subst (λ d. AreFirst (P d) most m) (sym is) first))

nothing : (most : ℕ) (all : List ℕ) → ((p : ℕ) → Contains all p → ⊥) → take most all ≡ []
nothing zero [] h = refl
nothing (suc most) [] h = refl
nothing most (x ∷ xs) h = absurd (h x (at_head x xs))

taken_first : (most : ℕ) (all : List ℕ) (at : ℕ) → 0 < most → 0 < length all → get_or all 0 at ≡ at → slice_get (take most all) 0 ≡ Some at
taken_first zero all at some more e = absurd (omega (arith, some))
taken_first (suc most) [] at some more e = absurd (omega (arith, more))
taken_first (suc most) (x ∷ xs) at some more e = ap Some e

-- the least is the first
least_first : (P : ℕ → Type 0) (all : List ℕ) (at : ℕ) → AreOffsets P all → P at → ((p : ℕ) → P p → at ≤ p) → (0 < length all) × (get_or all 0 at ≡ at)
least_first P all at are here least = by ((are.exactly at).1 here)
  where
    front : (k : ℕ) → k < length all → get_or all k at ≡ at → (0 < length all) × (get_or all 0 at ≡ at)
    front zero l e = (l, e)
    front (suc k) l e =
        let some : 0 < length all = omega (arith, l) in
        let below = below_from_sorted all 0 (suc k) at (sorted_from_strictly_increasing all are.rising) (omega arith) l in
        let bound = least (get_or all 0 at) ((are.exactly (get_or all 0 at)).0 (Contains-get_or all 0 at some)) in
        absurd (omega (arith, below, bound, e))

    by : Contains all at → (0 < length all) × (get_or all 0 at ≡ at)
    by h = front h.0 h.1 h.2

module _ (s : Specification) (worth : Values) (most : ℕ) (code : Code) (at : ℕ) (refused : IsRefused s worth code at) (l : Listed) (is : AreFirst (IsFaultAt s worth l.code) most l) where
  pub none_lower : number_of l.code < number_of code → l.offsets.items ≡ []
  none_lower low = is.first ∙ nothing most is.all (λ p k. let bound = refused.lowest l.code p ((is.are_all.exactly p).0 k) in omega (arith, bound, low))

  pub first_at : 0 < most → l.code ≡ code → slice_get l.offsets.items 0 ≡ Some at
  first_at some same =
      let are = subst (λ c. AreOffsets (IsFaultAt s worth c) is.all) same is.are_all in
      let front = least_first (IsFaultAt s worth code) is.all at are refused.present refused.least in
      ap (λ xs. slice_get xs 0) is.first ∙ taken_first most is.all at some front.0 front.1

-- the same of all that is listed of a specification

of_root_is : (s : Specification) (worth : Values) (most : ℕ) (ls : List Listed) → AreOfRoot s worth most ls → (l : Listed) → Contains ls l → AreFirst (IsFaultAt s worth l.code) most l
of_root_is s worth most ls (unreached u none) l there = absurd (none_in l (subst (λ xs. Contains xs l) none there))
of_root_is s worth most ls (reached u h) l there = each_is (IsFaultAt s worth) most h l there

pub each_of_all : (x : Cddl) (root : Option Text) (worth : Values) (most : ℕ) (ls : List Listed) → AreOfSpecification x root most ls → AreRight x worth → (l : Listed) → Contains ls l → AreFirst (IsFaultAt (specification x root) worth l.code) most l
each_of_all x root worth most ls h right l there =
    let s = specification x root in
    either (Contains-append_cases h.whole h.rest l (subst (λ xs. Contains xs l) h.is there)) (each_is (IsFaultAt s worth) most (h.of_text worth) l) (of_root_is s worth most h.rest (h.of_root worth right) l)
