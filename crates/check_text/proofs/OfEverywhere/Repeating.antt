-- All offsets of what is defined twice, at one rule.
use Rattle.std.proofs.Common.{◌≡◌, ◌⊎◌, inl, ℕ, ◌+◌, ◌≤◌, Bool, not, ◌||◌, nat_eq, List, [], length, Option, Some, slice_get, sym, subst, ◌∙◌}
use Rattle.all_offsets.specs.Offsets.{Gains, IsThatOf}
use Rattle.check_text.specs.RuleFaults.Duplicates.{IsRepeated, is_among, told_again}
use Rattle.lists.proofs.Lemmas.{either, one_of}
use Rattle.all_offsets.proofs.Lemmas.{IsOne, gains_both, gains_least, same_gains}
use Rattle.check_text.proofs.OfRuleFaults.Equals.{IsOther}
use Rattle.check_text.proofs.OfRuleFaults.Repeats.{AreSeen, IsBefore, IsThere, before_all, before_next, before_or_there, next_seen, none_before, none_seen, told_there}
use Rattle.tree_nodes.specs.Syntax.Syntax as S

pub one_other : (rs : List S.Rule) (r : S.Rule) → IsOne (IsOther rs r)
one_other rs r p q h k = h.offset ∙ sym k.offset

one_there : (ns os : List ℕ) (i : ℕ) → IsOne (IsThere ns os i)
one_there ns os i p q h k =
    one_of (slice_get os i) p q (subst (λ j. slice_get os j ≡ Some p) h.here h.fault.there) (subst (λ j. slice_get os j ≡ Some q) k.here k.fault.there)

-- The keys are the numbers before the place i, and the list has grown by what is told there.
pub record Repeats (ns os : List ℕ) (keys : List ℕ) (i : ℕ) (old new : List ℕ) : Type 0 where
  pub seen : AreSeen ns keys i
  pub gained : Gains (IsBefore ns os i) old new

pub begins : (ns os : List ℕ) (keys offsets : List ℕ) → keys ≡ [] → Repeats ns os keys 0 offsets offsets
begins ns os keys offsets e = record { seen = none_seen ns keys e; gained = λ p. (inl, λ h. either h (λ c. c) (λ f. absurd (none_before ns os p f))) }

pub goes_on : (ns os : List ℕ) (keys : List ℕ) (i : ℕ) (old mid : List ℕ) → Repeats ns os keys i old mid → (p : ℕ) → slice_get ns i ≡ Some p → (more : List ℕ) (b : Bool) (o : Option ℕ) (new : List ℕ) → b ≡ not (is_among p keys) → ((k : ℕ) → is_among k more ≡ (is_among k keys || nat_eq k p)) → o ≡ told_again b (slice_get os i) → Gains (IsThatOf o) mid new → Repeats ns os more (i + 1) old new
goes_on ns os keys i old mid r p place more b o new is_new adds tells gains = record {
  seen = next_seen ns os keys i r.seen p place more adds;
  gained = same_gains (λ at. IsBefore ns os i at ⊎ IsThere ns os i at) (IsBefore ns os (i + 1)) old new (before_next ns os keys i r.seen p place) (before_or_there ns os keys i r.seen p place)
      (gains_both (IsBefore ns os i) (IsThere ns os i) old mid new r.gained (gains_least (IsThere ns os i) o mid new (told_there ns os keys i r.seen p place b o is_new tells) (one_there ns os i) gains));
}

pub ends : (ns os : List ℕ) (keys : List ℕ) (i : ℕ) (old new : List ℕ) → length ns ≤ i → Repeats ns os keys i old new → Gains (IsRepeated ns os) old new
ends ns os keys i old new l r = same_gains (IsBefore ns os i) (IsRepeated ns os) old new (λ at f. f.fault) (before_all ns os i l) r.gained
