-- The value that a type is, is found within as many names as there may be instances.
use Rattle.std.proofs.Common.{◌≡◌, ℕ, zero, suc, ◌<◌, ◌≤◌, ◌⊎◌, inl, inr, Bool, true, false, if◌then◌else◌, List, [], ◌∷◌, Option, Some, None, is_some, refl, sym, ap, ◌∙◌, arith}
use Rattle.std.specs.Prelude.{Contains}
use Rattle.std.proofs.lemmas.Bool.{false≢true}
use Rattle.lists.proofs.Lemmas.{IsIn, no_some, to_contains}
use Rattle.cddl_literal.specs.Numbers.{Meaning}
use Rattle.cddl_language.specs.Controls.{Computation, Control, left_alone, left_and_right, held_item, held_sequence, compared, member, computed, control_of}
use Rattle.cddl_language.specs.Faults.{HasTooManyInstances, Specification, definitions}
use Rattle.cddl_language.specs.Kinds.{is_group}
use Rattle.cddl_language.specs.Literals.{Values, computed_literal, controlled_literal, literal_by, literal_in, literal_of, only_choice}
use Rattle.cddl_language.specs.Reach.{Reaches, at_name, most_instances, points}
use Rattle.cddl_language.specs.Substitution.{type_choices}
use Rattle.cddl_language.specs.Terms.{Definition, Ref, Term, literal, named, parens, control, Text, name_of}
use Rattle.check_instances.specs.Closed.Closed.{AreReached}
use Rattle.cddl_decided.proofs.Reached.{left, one, right}
use Rattle.cddl_decided.proofs.OfBounds.Few.{few_instances}
use Rattle.cddl_decided.proofs.OfBounds.Heights.{IsFirst, finds_more, is_found, is_low, is_told}

abbrev Follows : Option Meaning → Option Meaning → Type 0
Follows o q = (m : Meaning) → o ≡ Some m → q ≡ Some m

computed_first : (c : Computation) (o q p s : Option Meaning) → Follows o p → Follows q s → IsFirst (computed_literal c o q) (computed_literal c p s) → IsFirst o p ⊎ IsFirst q s
computed_first c None q (Some a) s f g h = inl (refl, refl)
computed_first c None q None s f g h = absurd (false≢true h.1)
computed_first c (Some a) None p (Some b) f g h = inr (refl, refl)
computed_first c (Some a) None (Some b) None f g h = absurd (false≢true h.1)
computed_first c (Some a) None None None f g h = absurd (false≢true h.1)
computed_first c (Some a) (Some b) p s f g h = absurd (false≢true (sym h.0 ∙ ap is_some same ∙ h.1))
  where
    same : computed_literal c (Some a) (Some b) ≡ computed_literal c p s
    same = sym (ap (λ x. computed_literal c x s) (f a refl) ∙ ap (λ y. computed_literal c (Some a) y) (g b refl))

control_first : (x : Option Control) (o q p s : Option Meaning) → Follows o p → Follows q s → IsFirst (controlled_literal x o q) (controlled_literal x p s) → IsFirst o p ⊎ IsFirst q s
control_first (Some (computed c)) o q p s f g h = computed_first c o q p s f g h
control_first (Some left_alone) o q p s f g h = absurd (false≢true h.1)
control_first (Some left_and_right) o q p s f g h = absurd (false≢true h.1)
control_first (Some held_item) o q p s f g h = absurd (false≢true h.1)
control_first (Some held_sequence) o q p s f g h = absurd (false≢true h.1)
control_first (Some (compared c)) o q p s f g h = absurd (false≢true h.1)
control_first (Some (member r)) o q p s f g h = absurd (false≢true h.1)
control_first None o q p s f g h = absurd (false≢true h.1)

module _ (worth : Values) (ds : List Definition) where
  -- of the type that a name stands for
  abbrev by_name : (Term → Option Meaning) → Ref → Option Meaning
  by_name next r = if is_group ds (name_of r) then None else only_choice worth ds next (type_choices ds r)

  module _ (root : Text) (p q : Term → Option Meaning) (follows : (t : Term) → Follows (literal_by worth ds p t) (literal_by worth ds q t)) where
    abbrev IsBehind : Type 0
    IsBehind = (r : Ref) × Reaches ds root r × IsFirst (by_name p r) (by_name q r)

    behind : (t : Term) → AreReached ds root (points t) → IsFirst (literal_by worth ds p t) (literal_by worth ds q t) → IsBehind
    behind (named r) here h = (r, one ds root (at_name r) here, h)
    behind (parens t) here h = behind t here h
    behind (control a n b) here h = by (control_first (control_of n) (literal_by worth ds p a) (literal_by worth ds p b) (literal_by worth ds q a) (literal_by worth ds q b) (follows a) (follows b) h) (behind a (left ds root (points a) (points b) here)) (behind b (right ds root (points a) (points b) here))
      where
        by : IsFirst (literal_by worth ds p a) (literal_by worth ds q a) ⊎ IsFirst (literal_by worth ds p b) (literal_by worth ds q b) → (IsFirst (literal_by worth ds p a) (literal_by worth ds q a) → IsBehind) → (IsFirst (literal_by worth ds p b) (literal_by worth ds q b) → IsBehind) → IsBehind
        by (inl i) f g = f i
        by (inr i) f g = g i
    behind (literal v) here h = absurd (false≢true (sym h.0))
    behind _ here h = absurd (false≢true h.1)

  -- through one name less
  abbrev next : ℕ → Term → Option Meaning
  next zero t = None
  next (suc k) t = literal_in worth ds k t

  is_next : (k : ℕ) (t : Term) → literal_in worth ds k t ≡ literal_by worth ds (λ u. next k u) t
  is_next zero t = refl
  is_next (suc k) t = refl

-- what stands in the types that an instance means is reached
abbrev pub LeadOn : List Definition → Text → Type 0
LeadOn ds root = (r : Ref) (t : Term) → Reaches ds root r → Contains (type_choices ds r) t → AreReached ds root (points t)

abbrev pub MoreLiterals : Values → List Definition → Type 0
MoreLiterals worth ds = (k n : ℕ) → k ≤ n → (t : Term) (m : Meaning) → literal_in worth ds k t ≡ Some m → literal_in worth ds n t ≡ Some m

module _ (worth : Values) (ds : List Definition) (more : MoreLiterals worth ds) where
  follows : (k : ℕ) (t : Term) → Follows (literal_by worth ds (λ u. next worth ds k u) t) (literal_by worth ds (λ u. next worth ds (suc k) u) t)
  follows k t m e = sym (is_next worth ds (suc k) t) ∙ more k (suc k) (omega arith) t m (is_next worth ds k t ∙ e)

  more_next : (k : ℕ) (t : Term) (m : Meaning) → next worth ds k t ≡ Some m → next worth ds (suc k) t ≡ Some m
  more_next zero t m e = absurd (no_some e)
  more_next (suc k) t m e = more k (suc k) (omega arith) t m e

  abbrev finds : ℕ → Ref → Bool
  finds k r = is_some (by_name worth ds (λ u. next worth ds k u) r)

  finds_on : (k : ℕ) (r : Ref) → finds k r ≡ true → finds (suc k) r ≡ true
  finds_on k r h = by (is_group ds (name_of r)) (type_choices ds r) h
    where
      one : (t : Term) (o : Option Meaning) → next worth ds k t ≡ o → is_some o ≡ true → is_some (next worth ds (suc k) t) ≡ true
      one t (Some m) e i = ap is_some (more_next k t m e)
      one t None e i = absurd (false≢true i)

      by : (b : Bool) (ts : List Term) → is_some (if b then None else only_choice worth ds (λ u. next worth ds k u) ts) ≡ true → is_some (if b then None else only_choice worth ds (λ u. next worth ds (suc k) u) ts) ≡ true
      by true ts i = absurd (false≢true i)
      by false [] i = absurd (false≢true i)
      by false (t ∷ []) i = one t (next worth ds k t) refl i
      by false (t ∷ u ∷ ts) i = absurd (false≢true i)

  module _ (root : Text) (lead_on : LeadOn ds root) where
    abbrev IsNewRef : ℕ → Ref → Type 0
    IsNewRef k r = (finds k r ≡ false) × (finds (suc k) r ≡ true)

    -- a type that is found to be a value late is so by a name
    new_type : (k : ℕ) (t : Term) → AreReached ds root (points t) → IsFirst (literal_in worth ds k t) (literal_in worth ds (suc k) t) → (r : Ref) × Reaches ds root r × IsNewRef k r
    new_type k t here h = behind worth ds root (λ u. next worth ds k u) (λ u. next worth ds (suc k) u) (follows k) t here (sym (ap is_some (is_next worth ds k t)) ∙ h.0, sym (ap is_some (is_next worth ds (suc k) t)) ∙ h.1)

    step : (k : ℕ) (r : Ref) → Reaches ds root r → IsNewRef (suc k) r → (q : Ref) × Reaches ds root q × IsNewRef k q
    step k r here h = by (is_group ds (name_of r)) (type_choices ds r) (λ t i. lead_on r t here (to_contains (type_choices ds r) t i)) h
      where
        by : (b : Bool) (ts : List Term) → ((t : Term) → IsIn t ts → AreReached ds root (points t)) → IsFirst (if b then None else only_choice worth ds (λ u. literal_in worth ds k u) ts) (if b then None else only_choice worth ds (λ u. literal_in worth ds (suc k) u) ts) → (q : Ref) × Reaches ds root q × IsNewRef k q
        by true ts all i = absurd (false≢true i.1)
        by false [] all i = absurd (false≢true i.1)
        by false (t ∷ []) all i = new_type k t (all t (inl refl)) i
        by false (t ∷ u ∷ ts) all i = absurd (false≢true i.1)

pub literal_enough : (s : Specification) (root : Text) → LeadOn (definitions s) root → (HasTooManyInstances s root 0 → ⊥) → (worth : Values) → MoreLiterals worth (definitions s) → (t : Term) → AreReached (definitions s) root (points t) → (n : ℕ) (m : Meaning) → literal_in worth (definitions s) n t ≡ Some m → literal_of worth (definitions s) t ≡ Some m
literal_enough s root lead_on no_more worth more t here n m e = is_told (λ k u. literal_in worth (definitions s) k u) more n most_instances t m e (is_found (λ k u. is_some (literal_in worth (definitions s) k u)) (finds_more (λ k u. literal_in worth (definitions s) k u) more) most_instances t low n (ap is_some e))
  where
    low : (k : ℕ) → IsFirst (literal_in worth (definitions s) k t) (literal_in worth (definitions s) (suc k) t) → k < most_instances
    low k h =
        let r = new_type worth (definitions s) more root lead_on k t here h in
        is_low (finds worth (definitions s) more) (finds_on worth (definitions s) more) (λ q. Reaches (definitions s) root q) most_instances (few_instances s root no_more) (step worth (definitions s) more root lead_on) k r.0 r.1 r.2
