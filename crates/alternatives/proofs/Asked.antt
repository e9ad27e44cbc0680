-- What summaries tell: how groups occur, and how much there is.
use Rattle.std.proofs.Common.{◌≡◌, ◌⊎◌, ◌↔◌, ◌<◌, ◌≤◌, ℕ, zero, suc, List, [], length, true, false, is_none, Option, Some, None, inl, inr, slice_get, refl, sym, subst, ◌∙◌, arith}
use Rattle.lists.proofs.Lemmas.{before_or_not as less_or, never_some, there as there_is, within}
use Rattle.alternatives.specs.declared.Bounds.{Bounds}
use Rattle.alternatives.specs.declared.Part.{Part}
use Rattle.alternatives.specs.declared.Part.TheVariants.{Refused, Entry, Empty, Nothing, Same, Both, Either, Occurs}
use Rattle.alternatives.specs.declared.summary.Summary.{Summary}
use Rattle.alternatives.specs.Splices.{Alternatives, occurring, HasAlternatives, stands}
use Rattle.alternatives.specs.Summaries.{Describes, IsSummary, AreSummaries, AreTooMany, OccursBadly, never, not_so}
use Rattle.alternatives.specs.Search.{at, bad, no_summary, occurring_summary, refuses}
use Rattle.alternatives.proofs.Once.{same_some, once}
use Rattle.alternatives.proofs.Lists.{read_there, read_past, true_false}
use Rattle.alternatives.proofs.Summing.{of_nothing, of_occurring, Agree}

-- where the one is refused, the other is

none_there : (o : Option Alternatives) (p : Option Summary) → Agree o p → is_none p ≡ true → o ≡ None
none_there None p h e = refl
none_there (Some mss) None h e = absurd h
none_there (Some mss) (Some s) h e = true_false (sym e)

none_told : (o : Option Alternatives) (p : Option Summary) → Agree o p → o ≡ None → is_none p ≡ true
none_told o None h e = refl
none_told None (Some s) h e = absurd h
none_told (Some mss) (Some s) h e = absurd (never_some mss (sym e))

-- what a group of no alternative may not have, no group may have
never_by : (least : ℕ) (most : Option ℕ) → is_none (occurring_summary least most no_summary) ≡ true → (mss : Alternatives) → occurring least most mss ≡ None
never_by (suc zero) (Some (suc zero)) e mss = true_false (sym e)
never_by zero (Some (suc zero)) e mss = true_false (sym e)
never_by zero None e mss = true_false (sym e)
never_by (suc zero) None e mss = true_false (sym e)
never_by zero (Some zero) e mss = refl
never_by zero (Some (suc (suc n))) e mss = refl
never_by (suc zero) (Some zero) e mss = refl
never_by (suc zero) (Some (suc (suc n))) e mss = refl
never_by (suc (suc n)) most e mss = refl

module _ (parts : List Part) (ss : List (Option Summary)) (are : AreSummaries parts ss) where
  -- what is known at any number
  pub at_is : (a : ℕ) → IsSummary parts a (at ss a)
  at_is a = elim (less_or a (length ss)) [
    | inl l ↦ (let o = there_is ss a l in subst (IsSummary parts a) (sym (read_there ss a None o.0 o.1)) (are.each a o.0 o.1))
    | inr l ↦ subst (IsSummary parts a) (sym (read_past ss a None l)) (past a l)
  ]
    where
      past : (a : ℕ) → length ss ≤ a → (mss : Alternatives) → HasAlternatives parts a mss → ⊥
      past a l mss (stands {p = p} e d) = let k = within parts a p e in let all = are.all in omega (arith, l, k, all)

  module _ (n : ℕ) (b : Bounds) (a : ℕ) (there : slice_get parts n ≡ Some (Occurs b a)) where
    badly : (o : Option Summary) → IsSummary parts a o → refuses b o ≡ true → OccursBadly parts n
    badly (Some s) h e = not_so b a h.alternatives there h.stands_for (none_there _ _ (of_occurring b.least b.most h.alternatives s h.described) e)
    badly None h e = never b a there (never_by b.least b.most e)

    none_for : (mss : Alternatives) (s : Summary) → Describes mss s → occurring b.least b.most mss ≡ None → is_none (occurring_summary b.least b.most s) ≡ true
    none_for mss s d e = none_told _ _ (of_occurring b.least b.most mss s d) e

    one_occurs : (c : Bounds) (d : ℕ) → slice_get parts n ≡ Some (Occurs c d) → Occurs c d ≡ Occurs b a
    one_occurs c d e = same_some _ _ (sym e ∙ there)

    refused : (o : Option Summary) → IsSummary parts a o → OccursBadly parts n → refuses b o ≡ true
    refused (Some s) h (never c d e f) = none_for h.alternatives s h.described (subst (λ (k : Bounds). occurring k.least k.most h.alternatives ≡ None) (cc (one_occurs c d e)) (f h.alternatives))
    refused None h (never c d e f) = none_for [] no_summary of_nothing (subst (λ (k : Bounds). occurring k.least k.most [] ≡ None) (cc (one_occurs c d e)) (f []))
    refused (Some s) h (not_so c d mss e k f) =
        let c_is : c ≡ b = cc (one_occurs c d e) in
        let d_is : d ≡ a = cc (one_occurs c d e) in
        let same : mss ≡ h.alternatives = once parts (subst (λ m. HasAlternatives parts m mss) d_is k) h.stands_for in
        none_for h.alternatives s h.described (subst (λ ks. occurring b.least b.most ks ≡ None) same (subst (λ (k : Bounds). occurring k.least k.most mss ≡ None) c_is f))
    refused None h (not_so c d mss e k f) =
        let d_is : d ≡ a = cc (one_occurs c d e) in
        absurd (h mss (subst (λ m. HasAlternatives parts m mss) d_is k))

    pub is_refused : (refuses b (at ss a) ≡ true) ↔ OccursBadly parts n
    is_refused = (badly (at ss a) (at_is a), refused (at ss a) (at_is a))

  pub described : (n : ℕ) (mss : Alternatives) → HasAlternatives parts n mss → (s : Summary) × (slice_get ss n ≡ Some (Some s)) × Describes mss s
  described n mss (stands {p = p} e d) =
      let all = are.all in
      let o = there_is ss n (let l = within parts n p e in omega (arith, l, all)) in
      by o.0 o.1 (are.each n o.0 o.1)
    where
      by : (o : Option Summary) → slice_get ss n ≡ Some o → IsSummary parts n o → (s : Summary) × (slice_get ss n ≡ Some (Some s)) × Describes mss s
      by (Some s) f h = (s, f, subst (λ ks. Describes ks s) (once parts h.stands_for (stands e d)) h.described)
      by None f h = absurd (h mss (stands e d))

  no_occurrence : (n : ℕ) → ((b : Bounds) (a : ℕ) → slice_get parts n ≡ Some (Occurs b a) → ⊥) → OccursBadly parts n → false ≡ true
  no_occurrence n h (never b a e f) = absurd (h b a e)
  no_occurrence n h (not_so b a mss e d f) = absurd (h b a e)

  pub is_bad : (n : ℕ) (p : Part) → slice_get parts n ≡ Some p → (bad ss p ≡ true) ↔ OccursBadly parts n
  is_bad n (Occurs b a) e = is_refused n b a e
  is_bad n Refused e = (λ h. true_false (sym h), no_occurrence n (λ b a f. cc (same_some _ _ (sym e ∙ f))))
  is_bad n (Entry o) e = (λ h. true_false (sym h), no_occurrence n (λ b a f. cc (same_some _ _ (sym e ∙ f))))
  is_bad n Empty e = (λ h. true_false (sym h), no_occurrence n (λ b a f. cc (same_some _ _ (sym e ∙ f))))
  is_bad n Nothing e = (λ h. true_false (sym h), no_occurrence n (λ b a f. cc (same_some _ _ (sym e ∙ f))))
  is_bad n (Same c) e = (λ h. true_false (sym h), no_occurrence n (λ b a f. cc (same_some _ _ (sym e ∙ f))))
  is_bad n (Both c d) e = (λ h. true_false (sym h), no_occurrence n (λ b a f. cc (same_some _ _ (sym e ∙ f))))
  is_bad n (Either c d) e = (λ h. true_false (sym h), no_occurrence n (λ b a f. cc (same_some _ _ (sym e ∙ f))))

  pub none_bad : (n : ℕ) → length parts ≤ n → (false ≡ true) ↔ OccursBadly parts n
  none_bad n l = (λ h. true_false (sym h), no_occurrence n (λ b a f. let k = within parts n (Occurs b a) f in omega (arith, k, l)))

pub too_many : (mss : Alternatives) (s : Summary) → Describes mss s → ((512 < s.alternatives) ⊎ (16384 < s.members)) ↔ AreTooMany mss
too_many mss s d = let p = d.alternatives in let q = d.members in (λ h. elim h [ inl k ↦ inl (omega (arith, k, p)) | inr k ↦ inr (omega (arith, k, q)) ], λ h. elim h [ inl k ↦ inl (omega (arith, k, p)) | inr k ↦ inr (omega (arith, k, q)) ])
