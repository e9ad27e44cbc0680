-- A part stands for one list of alternatives at most, and for none where it comes back to itself.
use Rattle.std.proofs.Common.{◌≡◌, ℕ, List, ◌++◌, Some, refl, sym, ap, subst, ◌∙◌, slice_get}
use Rattle.alternatives.specs.declared.Part.{Part}
use Rattle.alternatives.specs.Splices.{Alternatives, ways, occurring, HasAlternatives, stands, Splices, entry, empty, nothing, same, both, either, occurs, Has, has_same, has_first, has_second, has_one, has_other, has_group, LeadsTo}
use Rattle.alternatives.specs.Search.{LeadsOn, leads, leads_on}

pub same_some : {A : Type 0} (x y : A) → Some x ≡ Some y → x ≡ y
same_some x y e = cc

same_both : {a b c d : Alternatives} (f : Alternatives → Alternatives → Alternatives) → a ≡ b → c ≡ d → f a c ≡ f b d
same_both f e g = cc

module _ (parts : List Part) where
  mutual
    pub once : {n : ℕ} {mss nss : Alternatives} → HasAlternatives parts n mss → HasAlternatives parts n nss → mss ≡ nss
    once {n = n} {nss = nss} (stands {p = p} e d) (stands {p = q} f g) = once_part d (subst (λ r. Splices parts n r nss) (same_some q p (sym f ∙ e)) g)

    once_part : {n : ℕ} {p : Part} {mss nss : Alternatives} → Splices parts n p mss → Splices parts n p nss → mss ≡ nss
    once_part entry entry = refl
    once_part empty empty = refl
    once_part nothing nothing = refl
    once_part (same d) (same e) = once d e
    once_part (both d f) (both e g) = same_both ways (once d e) (once f g)
    once_part (either d f) (either e g) = same_both (λ u v. u ++ v) (once d e) (once f g)
    once_part (occurs {b = b} {mss = mss} {nss = nss} d h) (occurs {nss = kss} e i) = same_some nss kss (sym h ∙ (ap (occurring b.least b.most) (once d e) ∙ i))

  pub splices_at : {n : ℕ} {mss : Alternatives} (p : Part) → HasAlternatives parts n mss → slice_get parts n ≡ Some p → Splices parts n p mss
  splices_at {n = n} {mss = mss} p (stands {p = q} e d) f = subst (λ r. Splices parts n r mss) (same_some q p (sym e ∙ f)) d

  pub join_to : {x y z : ℕ} → LeadsOn parts x y → LeadsTo parts y z → LeadsOn parts x z
  join_to (leads t) u = leads_on t (leads u)
  join_to (leads_on t k) u = leads_on t (join_to k u)

  -- the next part on the way round comes back to itself too
  pub record GoesRound (p : Part) : Type 0 where
    pub next : ℕ
    pub has : Has p next
    pub round : LeadsOn parts next next

  goes_round : {n : ℕ} (p : Part) → slice_get parts n ≡ Some p → LeadsOn parts n n → GoesRound p
  goes_round {n = n} p e (leads t) = record { next = n; has = subst (λ r. Has r n) (same_some t.part p (sym t.there ∙ e)) t.has; round = leads t }
  goes_round p e (leads_on {y = y} t k) = record { next = y; has = subst (λ r. Has r y) (same_some t.part p (sym t.there ∙ e)) t.has; round = join_to k t }

  mutual
    pub no_round : {n : ℕ} {mss : Alternatives} → HasAlternatives parts n mss → LeadsOn parts n n → ⊥
    no_round (stands {p = p} e d) l = let g = goes_round p e l in no_round_part d g.next g.has g.round

    no_round_part : {n : ℕ} {p : Part} {mss : Alternatives} → Splices parts n p mss → (c : ℕ) → Has p c → LeadsOn parts c c → ⊥
    no_round_part entry c h l = elim h [ ]
    no_round_part empty c h l = elim h [ ]
    no_round_part nothing c h l = elim h [ ]
    no_round_part (same d) c has_same l = no_round d l
    no_round_part (both d e) c has_first l = no_round d l
    no_round_part (both d e) c has_second l = no_round e l
    no_round_part (either d e) c has_one l = no_round d l
    no_round_part (either d e) c has_other l = no_round e l
    no_round_part (occurs d h) c has_group l = no_round d l
