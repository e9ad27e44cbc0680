-- It can't be that no table stands for an accepted specification.
use Rattle.std.proofs.Common.{◌≡◌, ℕ, ◌≤◌, Bool, true, false, inl, inr, List, [], ◌∷◌, length, Some, refl, sym, subst}
use Rattle.std.specs.Prelude.{Contains}
use Rattle.lists.proofs.Lemmas.{IsIn, from_contains}
use Rattle.cddl_token.specs.declared.Code.TheVariants.{TooManyInstances}
use Rattle.cddl_meaning.specs.Forms.{Language}
use Rattle.cddl_meaning.specs.Ranks.Ranked.{Name, a_type, a_group}
use Rattle.cddl_meaning.proofs.OfRanks.Lemmas.{AreFounded}
use Rattle.cddl_language.specs.Faults.{HasTooManyInstances, IsAccepted, OfRoot, Specification, definitions, root_of}
use Rattle.cddl_language.specs.Free.{LeadsBack}
use Rattle.cddl_language.specs.Kinds.{is_group}
use Rattle.cddl_language.specs.Language.{TypeName, type, reference, chosen_of, word, GroupName, first_of, each_of, entry, round, language}
use Rattle.cddl_language.specs.Literals.{Values}
use Rattle.cddl_language.specs.Reach.{Point, Reaches, at_root, most_instances}
use Rattle.cddl_language.specs.StandsFor.{AreInstances, HasNode, of_group, of_type}
use Rattle.cddl_language.specs.Substitution.{group_choices}
use Rattle.cddl_language.specs.Terms.{Definition, Ref, Text, call, name_of, no_terms}
use Rattle.cddl_decided.specs.Tables.{HasTable}
use Rattle.cddl_decided.proofs.Accepted.{ways_end}
use Rattle.cddl_decided.proofs.Apart.{AreApart}
use Rattle.cddl_decided.proofs.Founding.{group_founded, type_founded}
use Rattle.cddl_decided.proofs.Names.{GroupHas, IsGroup, IsType, MoreChoices, TypeHas, groups_have, types_have}
use Rattle.cddl_decided.proofs.OfBounds.Few.{few_instances}
use Rattle.cddl_decided.proofs.OfTables.Instances.{some_instances}
use Rattle.cddl_decided.proofs.OfTables.Listed.{Holds, Named, goes_down, group_in_all, instance_names, names_of, type_in, within}
use Rattle.cddl_decided.proofs.OfTables.Places.{has_place, placed}
use Rattle.cddl_decided.proofs.OfTables.Ranked.{AreTheNames, IsNumbered, numbered}
use Rattle.cddl_decided.proofs.OfTables.Sure.{AreSifted, IsSure, sifted}
use Rattle.cddl_decided.proofs.Pieces.{GoesDown, Piece}
use Rattle.cddl_decided.proofs.Reached.{AreInstancesOn}

abbrev types_in : List Named → List TypeName
types_in [] = []
types_in (a_type n ∷ ns) = n ∷ types_in ns
types_in (a_group g ∷ ns) = types_in ns

abbrev groups_in : List Named → List GroupName
groups_in [] = []
groups_in (a_type n ∷ ns) = groups_in ns
groups_in (a_group g ∷ ns) = g ∷ groups_in ns

is_type_in : (ns : List Named) (n : TypeName) → IsIn (a_type n) ns → IsIn n (types_in ns)
is_type_in [] n i = absurd i
is_type_in (a_type m ∷ ns) n (inl e) = inl same
  where
    same : n ≡ m
    same = cc
is_type_in (a_type m ∷ ns) n (inr i) = inr (is_type_in ns n i)
is_type_in (a_group g ∷ ns) n (inl e) = cc
is_type_in (a_group g ∷ ns) n (inr i) = is_type_in ns n i

is_group_in : (ns : List Named) (g : GroupName) → IsIn (a_group g) ns → IsIn g (groups_in ns)
is_group_in [] g i = absurd i
is_group_in (a_type m ∷ ns) g (inl e) = cc
is_group_in (a_type m ∷ ns) g (inr i) = is_group_in ns g i
is_group_in (a_group h ∷ ns) g (inl e) = inl same
  where
    same : g ≡ h
    same = cc
is_group_in (a_group h ∷ ns) g (inr i) = inr (is_group_in ns g i)

module _ (on : (ds : List Definition) (root : Text) → AreInstancesOn ds root) (more : (ds : List Definition) → MoreChoices ds) (s : Specification) (worth : Values) (root : Text) (accepted : IsAccepted s worth) (named : root_of s ≡ Some root) (none : (p : Point) → LeadsBack (definitions s) root p → ⊥) (is_type : is_group (definitions s) root ≡ false) where
  abbrev ds : List Definition
  ds = definitions s

  few : (rs : List Ref) → ((r : Ref) → IsIn r rs → Reaches (definitions s) root r) → AreApart rs → length rs ≤ most_instances
  few rs reached apart = few_instances s root (λ h. accepted TooManyInstances 0 (subst (λ o. OfRoot o (λ n. HasTooManyInstances s n 0)) (sym named) h)) rs reached apart

  -- with all instances
  module _ (rs : List Ref) (are : AreInstances (definitions s) root rs) where
    abbrev Has : Piece → Type 0
    Has p = Holds ds (names_of ds rs) root p

    abbrev OfType : TypeName → Type 0
    OfType n = TypeHas worth ds Has n

    abbrev OfGroup : GroupName → Type 0
    OfGroup g = GroupHas worth ds Has g

    whole : (r : Ref) → Reaches ds root r → (n : Named) → IsIn n (instance_names ds r) → IsIn n (names_of ds rs)
    whole r h n i = within ds rs r (from_contains rs r (are.all r h)) n i

    down : GoesDown ds Has
    down = goes_down ds (names_of ds rs) root (on ds root) whole

    a_type_of : (n : TypeName) → OfType n → IsType worth ds root n
    a_type_of (type t) h = h.0
    a_type_of (reference r) h = (h.0.0, h.1)
    a_type_of (chosen_of ess) h = (h.0.0, h.1)
    a_type_of (word n) h = tt

    a_group_of : (g : GroupName) → OfGroup g → IsGroup worth ds root g
    a_group_of (first_of ess) h = h.0
    a_group_of (each_of es) h = h.0
    a_group_of (entry x) h = h.0
    a_group_of (round x) h = h.0

    founded : AreFounded (language worth ds) OfType OfGroup
    founded = record {
      types = types_have worth ds Has down (more ds);
      groups = groups_have worth ds Has down (more ds);
      type_ends = λ n h. type_founded worth ds root (on ds root) (more ds) (ways_end on s worth root accepted named none) n (a_type_of n h);
      group_ends = λ g h. group_founded worth ds root (on ds root) (more ds) (ways_end on s worth root accepted named none) g (a_group_of g h);
    }

    -- and these names
    module _ (ts : List TypeName) (gs : List GroupName) (types : AreSifted OfType (types_in (names_of ds rs)) ts) (groups : AreSifted OfGroup (groups_in (names_of ds rs)) gs) where
      all_types : (n : TypeName) → OfType n → IsIn n ts
      all_types n h = types.all n (is_type_in (names_of ds rs) n (type_in ds (names_of ds rs) root (on ds root) whole worth n h)) h

      all_groups : (g : GroupName) → OfGroup g → IsIn g gs
      all_groups g h = groups.all g (is_group_in (names_of ds rs) g (group_in_all ds (names_of ds rs) root (on ds root) whole worth g h)) h

      names : AreTheNames (language worth ds) OfType OfGroup founded ts gs
      names = record { all_types = all_types; only_types = types.only; all_groups = all_groups; only_groups = groups.only }

      type_place : (r : Ref) → Reaches ds root r → is_group ds (name_of r) ≡ false → (i : ℕ) × Contains (placed 0 ts) (reference r, i)
      type_place r h e = has_place ts (reference r) (all_types (reference r) ((h, tt), e))

      group_place : (r : Ref) → Reaches ds root r → (i : ℕ) × Contains (placed 0 gs) (first_of (group_choices ds r), i)
      group_place r h = has_place gs (first_of (group_choices ds r)) (all_groups (first_of (group_choices ds r)) (down.group r (h, tt)))

      has_node : (r : Ref) → Reaches ds root r → (b : Bool) → is_group ds (name_of r) ≡ b → HasNode ds (placed 0 ts) (placed 0 gs) r
      has_node r h false e = let i = type_place r h e in of_type i.0 e i.1
      has_node r h true e = let i = group_place r h in of_group i.0 e i.1

      stands : (k : Language ℕ ℕ) (rank : Name ℕ ℕ → ℕ) (ranks : ℕ) → IsNumbered (language worth ds) OfType OfGroup founded ts gs names k rank ranks → HasTable worth ds root
      stands k rank ranks is =
          let top = type_place (call root no_terms) at_root is_type in
          record {
            table = k;
            top = top.0;
            rank = rank;
            ranks = ranks;
            stands = record {
              types = placed 0 ts;
              groups = placed 0 gs;
              alike = is.alike;
              root_node = top.1;
              instances = rs;
              are_instances = are;
              have_nodes = λ r c. has_node r (are.only r c) (is_group ds (name_of r)) refl;
              ranked = is.ranked;
            };
          }

    table_of : IsSure (HasTable worth ds root)
    table_of = λ n. sifted OfType (types_in (names_of ds rs)) (λ ts. sifted OfGroup (groups_in (names_of ds rs)) (λ gs. numbered (language worth ds) OfType OfGroup founded ts.0 gs.0 (names ts.0 gs.0 ts.1 gs.1) refl (λ k. n (stands ts.0 gs.0 ts.1 gs.1 k.0 k.1 k.2 k.3))))

  pub some_table : (HasTable (worth) (definitions s) root → ⊥) → ⊥
  some_table = λ n. some_instances (definitions s) root most_instances few (λ r. table_of r.0 r.1 n)
