-- The parts of the rows of entries.
use Rattle.std.proofs.Common.{◌≡◌, ◌↔◌, ℕ, List, [], ◌∷◌, ◌++◌, Option, Some, None, refl, sym, subst, ◌∙◌, arith, slice_get}
use Rattle.std.proofs.lemmas.List.Elements.{Contains-append_left, Contains-append_right}
use Rattle.lists.proofs.Lemmas.{no_some, same_some, there, within}
use Rattle.cddl_language.specs.Terms.{Text, Entries, Entry, typed, keyed, grouped, Definition, lone, occurrence_of}
use Rattle.cddl_language.specs.Maps as M
use Rattle.cddl_language.specs.Maps.{alternatives_of}
use Rattle.cddl_language.specs.MapFaults.{group_in}
use Rattle.cddl_language.specs.Reach.{Point, entry_points}
use Rattle.check_terms.specs.Table.{Table, Tree, Holds, part}
use Rattle.check_terms.specs.Trees.{IsEntry, entry_tree}
use Rattle.check_instances.specs.Closed.Closed.{AreReached}
use Rattle.alternatives.specs.declared.Bounds.{Bounds}
use Rattle.alternatives.specs.declared.Part as P
use Rattle.alternatives.specs.declared.Part.TheVariants as PartV
use Rattle.alternatives.specs.Splices as S
use Rattle.alternatives.specs.Splices.{HasAlternatives}
use Rattle.check_groups.specs.Splices.Parts.{HasBounds, IsOf, choices_of, IsPartOfEntry, of_type, of_named, of_keyed, of_grouped, AreParts}
use Rattle.check_groups.specs.Splices.Maps.{AreAlternatives}

-- A group, or an entry by itself, has alternatives just where the part of its row stands for the same.
pub record StandAlike (xs : List Definition) (root : Text) (t : Table) (parts : List P.Part) : Type 0 where
  pub group_some : (n : ℕ) (ess : List Entries) → IsOf xs root t ess n → (mss : M.Alternatives) → alternatives_of xs ess ≡ Some mss → (nss : S.Alternatives) × HasAlternatives parts n nss × AreAlternatives t mss nss
  pub group_only : (n : ℕ) (ess : List Entries) → IsOf xs root t ess n → (nss : S.Alternatives) → HasAlternatives parts n nss → (mss : M.Alternatives) × (alternatives_of xs ess ≡ Some mss) × AreAlternatives t mss nss
  pub entry_some : (n : ℕ) (e : Entry) → IsEntry t n e → AreReached xs root (entry_points e) → (mss : M.Alternatives) → alternatives_of xs (lone e ∷ []) ≡ Some mss → (nss : S.Alternatives) × HasAlternatives parts n nss × AreAlternatives t mss nss
  pub entry_only : (n : ℕ) (e : Entry) → IsEntry t n e → AreReached xs root (entry_points e) → (nss : S.Alternatives) → HasAlternatives parts n nss → (mss : M.Alternatives) × (alternatives_of xs (lone e ∷ []) ≡ Some mss) × AreAlternatives t mss nss

-- Groups of the same alternatives may occur alike.
abbrev pub OccurAlike : Table → Type 0
OccurAlike t = (o : Option Text) (b : Bounds) → HasBounds o b → (mss : M.Alternatives) (nss : S.Alternatives) → AreAlternatives t mss nss → (M.occurs o mss ≡ None) ↔ (S.occurring b.least b.most nss ≡ None)

same_bounds : {b c : Bounds} {a d : ℕ} → PartV.Occurs b a ≡ PartV.Occurs c d → b ≡ c
same_bounds e = cc

same_group : {b c : Bounds} {a d : ℕ} → PartV.Occurs b a ≡ PartV.Occurs c d → a ≡ d
same_group e = cc

module _ (xs : List Definition) (root : Text) (t : Table) (parts : List P.Part) (are : AreParts xs root t parts) where
  pub left : (ps qs : List Point) → AreReached xs root (ps ++ qs) → AreReached xs root ps
  left ps qs h p i = h p (Contains-append_left ps qs p i)

  pub right : (ps qs : List Point) → AreReached xs root (ps ++ qs) → AreReached xs root qs
  right ps qs h p i = h p (Contains-append_right ps qs p i)

  pub part_there : (n : ℕ) (x : Tree) → Holds t (Some n) x → (p : P.Part) × (slice_get parts n ≡ Some p)
  part_there n x (part e h a b) = there parts n (let l = within t.rows n _ e in let k = are.all in omega (arith, l, k))

  pub same_part : (n : ℕ) (p q : P.Part) → slice_get parts n ≡ Some p → slice_get parts n ≡ Some q → p ≡ q
  same_part n p q e g = same_some (sym e ∙ g)

  -- The part of an entry: no group, or one with its bounds.
  pub data IsGroupAt (e : Entry) : P.Part → Type 0 where
    refused_at : group_in xs e ≡ None → IsGroupAt e PartV.Refused
    keyed_at : {b : Bounds} → group_in xs e ≡ None → IsGroupAt e (PartV.Entry b)
    group_at : {fss : List Entries} {b : Bounds} {a : ℕ} → group_in xs e ≡ Some fss → HasBounds (occurrence_of e) b → IsOf xs root t fss a → IsGroupAt e (PartV.Occurs b a)

  pub group_told : (e : Entry) (p : P.Part) → IsPartOfEntry xs root t e p → AreReached xs root (entry_points e) → IsGroupAt e p
  group_told (typed o x) _ (of_type k) r = refused_at k
  group_told (typed o x) _ (of_named h k i) r = group_at k h i
  group_told (keyed o q x) _ (of_keyed h) r = keyed_at refl
  group_told (grouped o g) _ (of_grouped h i) r = group_at refl h (choices_of g i r)

  pub entry_at : (n : ℕ) (e : Entry) → IsEntry t n e → AreReached xs root (entry_points e) → (p : P.Part) × (slice_get parts n ≡ Some p) × IsGroupAt e p
  entry_at n e h r = let c = part_there n (entry_tree e) h in (c.0, c.1, group_told e c.0 ((are.each n c.0 c.1).entry e h r) r)

  pub group_there : (n : ℕ) (e : Entry) → IsEntry t n e → AreReached xs root (entry_points e) → (fss : List Entries) → group_in xs e ≡ Some fss → (b : Bounds) × (a : ℕ) × (slice_get parts n ≡ Some (PartV.Occurs b a)) × HasBounds (occurrence_of e) b × IsOf xs root t fss a
  group_there n e h r fss i = let c = entry_at n e h r in by c.0 c.1 c.2
    where
      by : (p : P.Part) → slice_get parts n ≡ Some p → IsGroupAt e p → (b : Bounds) × (a : ℕ) × (slice_get parts n ≡ Some (PartV.Occurs b a)) × HasBounds (occurrence_of e) b × IsOf xs root t fss a
      by _ g (refused_at k) = absurd (no_some (sym k ∙ i))
      by _ g (keyed_at k) = absurd (no_some (sym k ∙ i))
      by _ g (group_at {b = b} {a = a} k l m) = (b, a, g, l, subst (λ gss. IsOf xs root t gss a) (same_some (sym k ∙ i)) m)

  pub group_named : (n : ℕ) (e : Entry) → IsEntry t n e → AreReached xs root (entry_points e) → (b : Bounds) (a : ℕ) → slice_get parts n ≡ Some (PartV.Occurs b a) → (fss : List Entries) × (group_in xs e ≡ Some fss) × HasBounds (occurrence_of e) b × IsOf xs root t fss a
  group_named n e h r b a i = let c = entry_at n e h r in by c.0 c.2 (same_part n c.0 (PartV.Occurs b a) c.1 i)
    where
      by : (p : P.Part) → IsGroupAt e p → p ≡ PartV.Occurs b a → (fss : List Entries) × (group_in xs e ≡ Some fss) × HasBounds (occurrence_of e) b × IsOf xs root t fss a
      by _ (refused_at k) g = cc
      by _ (keyed_at k) g = cc
      by _ (group_at {fss = fss} k l m) g = (fss, k, subst (HasBounds (occurrence_of e)) (same_bounds g) l, subst (IsOf xs root t fss) (same_group g) m)
