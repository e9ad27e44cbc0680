-- The first task of a list, and the list that is left.
use Rattle.std.proofs.Common.{◌≡◌, ℕ, List, [], ◌∷◌, ◌++◌, length, map, reverse, true, false, is_some, Option, Some, None, IfSome, refl, sym, ap, subst, ◌∙◌}
use Rattle.std.specs.Prelude.{option_to_list}
use Rattle.std.proofs.lemmas.List.{reverse-append, length-reverse}
use Rattle.alternatives.specs.declared.Part.{Part}
use Rattle.alternatives.specs.declared.summary.Summary.{Summary}
use Rattle.alternatives.specs.declared.build.Task.{Task}
use Rattle.alternatives.specs.declared.build.Task.TheVariants.{Make}
use Rattle.alternatives.specs.Splices.{Alternatives, HasAlternatives}
use Rattle.alternatives.specs.Summaries.{IsSummary, IsSmall}
use Rattle.alternatives.specs.Building.{AreReady, Yields}
use Rattle.alternatives.proofs.Lists.{true_false}
use Rattle.alternatives.proofs.Making.{map_push, length_map}
use Rattle.alternatives.proofs.Depth.{all_end}

pub top_first : {A : Type 0} (xs ys : List A) (x : A) → xs ≡ ys ++ x ∷ [] → reverse xs ≡ x ∷ reverse ys
top_first xs ys x e = ap reverse e ∙ reverse-append ys (x ∷ [])

pub one_list : {X : Type 0} (f : X → Alternatives) (xs : List X) (all : Alternatives) → reverse (map f xs) ≡ all ∷ [] → length xs ≡ 1
one_list f xs all e = sym (length_map f xs) ∙ (sym (length-reverse (map f xs)) ∙ ap length e)

same_first : (mss nss : Alternatives) (us : List Alternatives) → mss ∷ us ≡ nss ∷ [] → mss ≡ nss
same_first mss nss us e = cc

module _ (parts : List Part) (n : ℕ) where
  pub right_list : {X : Type 0} (f : X → Alternatives) (xs ys : List X) (o : Option X) (all : Alternatives) → HasAlternatives parts n all → xs ≡ ys ++ option_to_list o → reverse (map f xs) ≡ all ∷ [] → IfSome o (λ v. HasAlternatives parts n (f v))
  right_list f xs ys None all d e g = tt
  right_list f xs ys (Some v) all d e g = subst (HasAlternatives parts n) (sym (same_first (f v) all (reverse (map f ys)) (sym (top_first (map f xs) (map f ys) (f v) (ap (map f) e ∙ map_push f ys v)) ∙ g))) d

  pub record Stands : Type 0 where
    pub alternatives : Alternatives
    pub stands_for : HasAlternatives parts n alternatives

  pub stands_by : (o : Option Summary) → IsSummary parts n o → is_some o ≡ true → Stands
  stands_by (Some s) h e = record { alternatives = h.alternatives; stands_for = h.stands_for }
  stands_by None h e = true_false (sym e)

  pub none_by : (o : Option Summary) (mss : Alternatives) → IsSummary parts n o → is_some o ≡ false → HasAlternatives parts n mss → ⊥
  none_by (Some s) mss h e d = true_false e
  none_by None mss h e d = h mss d

  pub first_yields : (k : ℕ) (ts : List Task) (vs : List Alternatives) (all : Alternatives) → ts ≡ Make n k ∷ [] → vs ≡ [] → HasAlternatives parts n all → Yields parts ts vs all
  first_yields k ts vs all e f d = subst (λ us. Yields parts us vs all) (sym e) (subst (λ us. Yields parts (Make n k ∷ []) us all) (sym f) (all, d, refl))

  pub first_ready : (ts : List Task) → ts ≡ Make n (length parts) ∷ [] → IsSmall parts n → AreReady parts ts
  first_ready ts e h = subst (AreReady parts) (sym e) (record { small = h; ends = all_end parts n h.alternatives h.stands_for }, tt)
