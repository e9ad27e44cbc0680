-- Alternatives that are the same are as many, and have as many members.
use Rattle.std.proofs.Common.{◌≡◌, ◌↔◌, ◌+◌, ◌<◌, inl, inr, suc, List, length, refl, sym, ap, subst, ◌∙◌, length-append}
use Rattle.cddl_meaning.specs.Alike as A
use Rattle.cddl_meaning.specs.Alike.{AlikeAll}
use Rattle.cddl_language.specs.Maps as M
use Rattle.cddl_language.specs.MapFaults as F
use Rattle.check_terms.specs.Table.{Table}
use Rattle.alternatives.specs.Splices as S
use Rattle.alternatives.specs.Summaries.{AreTooMany}
use Rattle.check_groups.specs.Splices.Maps.{AreAlternatives}

as_many : {N O : Type 0} {R : N → O → Type 0} {xs : List N} {ys : List O} → AlikeAll R xs ys → length xs ≡ length ys
as_many A.none = refl
as_many (A.both {ns = ns} {ms = ms} h hs) = ap suc (as_many hs)

module _ (t : Table) where
  as_many_members : {mss : M.Alternatives} {nss : S.Alternatives} → AreAlternatives t mss nss → length (M.members mss) ≡ length (S.members nss)
  as_many_members A.none = refl
  as_many_members (A.both {n = ms} {m = ns} {ns = mss} {ms = nss} h hs) = length-append ms (M.members mss) ∙ (ap (λ n. n + length (M.members mss)) (as_many h) ∙ (ap (λ n. length ns + n) (as_many_members hs) ∙ sym (length-append ns (S.members nss))))

  pub too_many : (mss : M.Alternatives) (nss : S.Alternatives) → AreAlternatives t mss nss → F.AreTooMany mss ↔ AreTooMany nss
  too_many mss nss h = (to, from)
    where
      to : F.AreTooMany mss → AreTooMany nss
      to (inl e) = inl (subst (λ n. 512 < n) (as_many h) e)
      to (inr e) = inr (subst (λ n. 16384 < n) (as_many_members h) e)

      from : AreTooMany nss → F.AreTooMany mss
      from (inl e) = inl (subst (λ n. 512 < n) (sym (as_many h)) e)
      from (inr e) = inr (subst (λ n. 16384 < n) (sym (as_many_members h)) e)
