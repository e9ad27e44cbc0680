-- The bounds as the laws say them.
use Rattle.std.proofs.Common.{◌≡◌, ℕ, List, [], ◌∷◌, ◌++◌, Some, refl, ap, subst}
use Rattle.std.specs.Prelude.{Contains, flat_map}
use Rattle.lists.proofs.Lemmas.{false_true}
use Rattle.cddl_language.specs.Choices.{chosen_in}
use Rattle.cddl_language.specs.Controls.{Membership, of_size}
use Rattle.cddl_language.specs.Faults.{Specification, definitions}
use Rattle.cddl_language.specs.Kinds.{opened, opens_group}
use Rattle.cddl_language.specs.Literals.{Values}
use Rattle.cddl_language.specs.Maps.{Alternatives, alternatives_in, alternatives_of}
use Rattle.cddl_language.specs.Reach.{Point, Reaches, entries_points, group_points, most_instances, points, ref_at}
use Rattle.cddl_language.specs.Sizes.{Sizes, a_type, members_in, members_of, sizes_in, sizes_of}
use Rattle.cddl_language.specs.Substitution.{group_choices, type_choices}
use Rattle.cddl_language.specs.Terms.{Entries, Group, Ref, Term, Text}
use Rattle.check_instances.specs.Closed.Closed.{AreReached}
use Rattle.cddl_decided.specs.Bounds.Untold.{ChooseGroups, HasFewInstances, NamesNoGroupAsType}
use Rattle.cddl_decided.proofs.Points.{AllStand, all_points}
use Rattle.cddl_decided.proofs.Reached.{AreInstancesOn}
use Rattle.cddl_decided.proofs.OfBounds.Choosing.{MoreChosen, chosen_enough}
use Rattle.cddl_decided.proofs.OfBounds.Mapping.{MoreAlternatives, alternatives_enough}
use Rattle.cddl_decided.proofs.OfBounds.Members.{MoreMembers, members_enough}
use Rattle.cddl_decided.proofs.OfBounds.Places.{AreTypes}
use Rattle.cddl_decided.proofs.OfBounds.Sited.{IsOfGroup, group_chooses, opened_chooses, points_choose, types_choose}

flat_points : (ess : List Entries) → flat_map entries_points ess ≡ all_points ess
flat_points [] = refl
flat_points (es ∷ ess) = ap (λ ps. entries_points es ++ ps) (flat_points ess)

module _ (s : Specification) (root : Text) (on : AreInstancesOn (definitions s) root) (types : AreTypes (definitions s)) (few : HasFewInstances s root) where
  all_reached : (ess : List Entries) → AreReached (definitions s) root (flat_map entries_points ess) → AreReached (definitions s) root (all_points ess)
  all_reached ess here = subst (λ ps. AreReached (definitions s) root ps) (flat_points ess) here

  pub chosen : MoreChosen (definitions s) → (ess : List Entries) → AreReached (definitions s) root (flat_map entries_points ess) → (n : ℕ) (ts : List Term) → chosen_in (definitions s) n ess ≡ Some ts → chosen_in (definitions s) most_instances ess ≡ Some ts
  chosen more ess here n ts e = chosen_enough s root on types few more ess (all_reached ess here) n ts e

  pub alternatives : MoreAlternatives (definitions s) → (ess : List Entries) → AreReached (definitions s) root (flat_map entries_points ess) → (n : ℕ) (mss : Alternatives) → alternatives_in (definitions s) n ess ≡ Some mss → alternatives_of (definitions s) ess ≡ Some mss
  alternatives more ess here n mss e = alternatives_enough s root on types few more ess (all_reached ess here) n mss e

  -- no way to sizes goes through `&`
  pub sizes : (worth : Values) → MoreMembers of_size worth (definitions s) → (t : Term) → AreReached (definitions s) root (points t) → (n : ℕ) (rs : Sizes) → sizes_in worth (definitions s) n t ≡ Some rs → sizes_of worth (definitions s) t ≡ Some rs
  sizes worth more t here n rs e = members_enough of_size worth s root (λ p. Reaches (definitions s) root (ref_at p)) on types (record { reached = λ p h. h; chosen = λ h. absurd (false_true h); types = on.types; group = on.group; opened_group = on.opened_group }) few more (a_type t) here n rs e

  -- an instance, and of a group's name where it is a choice by a name
  abbrev Stands : NamesNoGroupAsType s → Point → Type 0
  Stands none p = Reaches (definitions s) root (ref_at p) × IsOfGroup s none p

  pub members : (none : NamesNoGroupAsType s) (m : Membership) (worth : Values) → MoreMembers m worth (definitions s) → (t : Term) → AreReached (definitions s) root (points t) → ChooseGroups (definitions s) (points t) → (n : ℕ) (rs : Sizes) → members_in m worth (definitions s) n (a_type t) ≡ Some rs → members_of m worth (definitions s) t ≡ Some rs
  members none m worth more t here groups n rs e = members_enough m worth s root (Stands none) on types (record { reached = λ p h. h.0; chosen = λ b r h. h.1 r refl; types = types_stand; group = group_stands; opened_group = opened_stands }) few more (a_type t) stands n rs e
    where
      types_stand : (r : Ref) (u : Term) → Reaches (definitions s) root r → Contains (type_choices (definitions s) r) u → AllStand (Stands none) (points u)
      types_stand r u reached c p i = (on.types r u reached c p i, points_choose s none (points u) (types_choose s none root r reached u c) p i)

      group_stands : (r : Ref) (es : Entries) → Reaches (definitions s) root r → Contains (group_choices (definitions s) r) es → AllStand (Stands none) (entries_points es)
      group_stands r es reached c p i = (on.group r es reached c p i, points_choose s none (entries_points es) (group_chooses s none root r reached es c) p i)

      opened_stands : (r : Ref) (g : Group) → Reaches (definitions s) root r → opened (definitions s) r ≡ Some (opens_group g) → AllStand (Stands none) (group_points g)
      opened_stands r g reached i p c = (on.opened_group r g reached i p c, points_choose s none (group_points g) (opened_chooses s none root r reached g i) p c)

      stands : AllStand (Stands none) (points t)
      stands p c = (here p c, λ r i. groups r (subst (λ q. Contains (points t) q) i c))
