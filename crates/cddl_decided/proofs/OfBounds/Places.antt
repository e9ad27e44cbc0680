-- What is asked of the groups of instances is found within as many names as there may be instances.
use Rattle.std.proofs.Common.{◌≡◌, ℕ, zero, suc, ◌<◌, ◌≤◌, false, true, List, [], Option, Some, None, is_some, refl, sym, ap, ◌∙◌}
use Rattle.std.proofs.lemmas.Bool.{false≢true}
use Rattle.cddl_language.specs.Faults.{HasTooManyInstances, Specification, definitions}
use Rattle.cddl_language.specs.Kinds.{Opened, opens_group, opens_type, is_group, is_opened_group, names_group, opened, opens, part_of}
use Rattle.cddl_language.specs.Reach.{most_instances, points}
use Rattle.cddl_language.specs.Substitution.{group_choices}
use Rattle.cddl_language.specs.Terms.{Definition, Entries, Group, Ref, Term, Text, alternatives, name_of}
use Rattle.check_instances.specs.Closed.Closed.{AreReached}
use Rattle.cddl_decided.proofs.Parts.{named_group, opened_group}
use Rattle.cddl_decided.proofs.Points.{all_points}
use Rattle.cddl_decided.proofs.Reached.{AreInstancesOn, nothing, of_all, of_group}
use Rattle.cddl_decided.proofs.OfBounds.Few.{IsPlaced, Place, few_places, group_of, opened_of, place_by, type_of}
use Rattle.cddl_decided.proofs.OfBounds.Heights.{IsFirst, finds_more, is_found, is_low, is_told}

-- the alternatives of the group that is opened
abbrev pub opened_alternatives : Option Opened → List Entries
opened_alternatives (Some (opens_group g)) = alternatives g
opened_alternatives (Some (opens_type t)) = []
opened_alternatives None = []

-- those of the group that is asked for
abbrev pub group_at : List Definition → Place → List Entries
group_at ds (group_of r) = group_choices ds r
group_at ds (opened_of r) = opened_alternatives (opened ds r)
group_at ds (type_of r) = []

-- what opens something is the name of a type
abbrev pub AreTypes : List Definition → Type 0
AreTypes ds = (r : Ref) (o : Opened) → opened ds r ≡ Some o → is_group ds (name_of r) ≡ false

-- through one name less
abbrev pub before : {B : Type 0} → (ℕ → List Entries → Option B) → ℕ → List Entries → Option B
before f zero ess = None
before f (suc k) ess = f k ess

module _ (ds : List Definition) (root : Text) (on : AreInstancesOn ds root) (types : AreTypes ds) where
  pub named_place : (t : Term) (r : Ref) → AreReached ds root (points t) → part_of ds t ≡ names_group r → IsPlaced ds root (group_of r)
  named_place t r here e = (on.named t r here e, sym (ap (λ b. place_by b (is_opened_group (opened ds r)) r) (named_group ds t r e)))

  pub opened_place : (t : Term) (r : Ref) (g : Group) → AreReached ds root (points t) → part_of ds t ≡ opens r g → IsPlaced ds root (opened_of r)
  opened_place t r g here e =
      let o = opened_group ds t r g e in
      (on.opening t r g here e, sym (ap (λ b. place_by b (is_opened_group (opened ds r)) r) (types r (opens_group g) o) ∙ ap (λ x. place_by false (is_opened_group x) r) o))

  pub group_stands : (x : Place) → IsPlaced ds root x → AreReached ds root (all_points (group_at ds x))
  group_stands (group_of r) p = of_all ds root (group_choices ds r) (λ es c. on.group r es p.0 c)
  group_stands (opened_of r) p = by (opened ds r) refl
    where
      by : (o : Option Opened) → opened ds r ≡ o → AreReached ds root (all_points (opened_alternatives o))
      by (Some (opens_group g)) e = of_group ds root g (on.opened_group r g p.0 e)
      by (Some (opens_type t)) e = nothing ds root
      by None e = nothing ds root
  group_stands (type_of r) p = nothing ds root

module _ (s : Specification) (root : Text) (on : AreInstancesOn (definitions s) root) (types : AreTypes (definitions s)) (no_more : HasTooManyInstances s root 0 → ⊥) {B : Type 0} (f : ℕ → List Entries → Option B) (more : (k n : ℕ) → k ≤ n → (ess : List Entries) (v : B) → f k ess ≡ Some v → f n ess ≡ Some v)
    (behind : (k : ℕ) (ess : List Entries) → AreReached (definitions s) root (all_points ess) → IsFirst (f k ess) (f (suc k) ess) → (x : Place) × IsPlaced (definitions s) root x × IsFirst (before f k (group_at (definitions s) x)) (before f (suc k) (group_at (definitions s) x))) where
  found_before : (k : ℕ) (ess : List Entries) → is_some (before f k ess) ≡ true → is_some (before f (suc k) ess) ≡ true
  found_before zero ess h = absurd (false≢true h)
  found_before (suc k) ess h = finds_more f more k ess h

  low : (k : ℕ) (ess : List Entries) → AreReached (definitions s) root (all_points ess) → IsFirst (f k ess) (f (suc k) ess) → k < most_instances
  low k ess here h =
      let b = behind k ess here h in
      is_low (λ j x. is_some (before f j (group_at (definitions s) x))) (λ j x. found_before j (group_at (definitions s) x)) (λ x. IsPlaced (definitions s) root x) most_instances (few_places s root no_more) (λ j x p i. behind j (group_at (definitions s) x) (group_stands (definitions s) root on types x p) i) k b.0 b.1 b.2

  pub group_told : (ess : List Entries) → AreReached (definitions s) root (all_points ess) → (n : ℕ) (v : B) → f n ess ≡ Some v → f most_instances ess ≡ Some v
  group_told ess here n v e = is_told f more n most_instances ess v e (is_found (λ k us. is_some (f k us)) (finds_more f more) most_instances ess (λ k h. low k ess here h) n (ap is_some e))
