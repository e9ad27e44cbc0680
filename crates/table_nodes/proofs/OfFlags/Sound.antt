-- What follows of the implications of groups: that a group may take no item, and of a link that it may where the parts after
-- it may.
use Rattle.std.proofs.Common.{◌≡◌, ℕ, zero, suc, ◌+◌, ◌<◌, ◌≤◌, cond, Bool, true, false, List, [], ◌∷◌, ◌++◌, length, Option, Some, None, slice_get, refl, sym, ap, subst, arith}
use Rattle.lists.proofs.Lemmas.{within}
use Rattle.graphs.specs.declared.implications.Implication.{Implication}
use Rattle.graphs.specs.Implications.Implications.{Follows, concludes}
use Rattle.cddl_meaning.specs.Forms as F
use Rattle.cddl_meaning.specs.Judges.{is_over}
use Rattle.cddl_meaning.specs.Ranks.Ranked.{MayBeEmpty, named, every_part, one_of_them, no_minimum, no_round, an_empty_round, AllMayBeEmpty, no_part, this_part, OneMayBeEmpty, this_one, another}
use Rattle.table_nodes.specs.Nodes.{group_or_none, group_view, language_in}
use Rattle.table_nodes.specs.declared.nodes.TypeId.{TypeId}
use Rattle.table_nodes.specs.declared.nodes.GroupId.{GroupId}
use Rattle.table_nodes.specs.declared.nodes.Node.{Node}
use Rattle.table_nodes.specs.declared.nodes.Group.{Group}
use Rattle.table_nodes.specs.Flags.Rules.{all_rules, chain, choices, fact_of, link_at, rule, rules_by}
use Rattle.table_nodes.proofs.OfFlags.Places.{Empty, StandAt, from_fact, itself, left_part, right_part, to_fact}

module _ (types : List Node) (groups : List Group) (rules : List Implication) where
  -- What a fact says. The parts after a link are those whose implications stand after its own.
  record Means (x : ℕ) : Type 0 where
    of_group : x ≤ length groups → Empty types groups x
    of_link : (place number : ℕ) (gs : List GroupId) → x ≡ link_at (length groups) place → StandAt rules (place + 1) (chain (length groups) number (place + 1) (Some x) gs) → AllMayBeEmpty (language_in types groups) gs → Empty types groups number

  none_some : {n : ℕ} → None ≡ Some n → ⊥
  none_some e = cc

  one_rule : (place : ℕ) {i j : Implication} → slice_get rules place ≡ Some i → slice_get rules place ≡ Some j → i ≡ j
  one_rule place e f = cc

  -- no two sequences stand at one place
  one_chain : (place number other : ℕ) (before : Option ℕ) (gs hs : List GroupId) → StandAt rules place (chain (length groups) number place before gs) → StandAt rules place (chain (length groups) other place before hs) → (AllMayBeEmpty (language_in types groups) gs → Empty types groups number) → AllMayBeEmpty (language_in types groups) hs → Empty types groups other
  one_chain place number other before [] [] s t known all = subst (Empty types groups) same (known no_part)
    where
      same : number ≡ other
      same = ap (λ i. i.then) (one_rule place s.0 t.0)
  one_chain place number other before [] (h ∷ hs) s t known all = absurd (none_some (ap (λ i. i.second) (one_rule place s.0 t.0)))
  one_chain place number other before (g ∷ gs) [] s t known all = absurd (none_some (ap (λ i. i.second) (one_rule place t.0 s.0)))
  one_chain place number other before (g ∷ gs) (h ∷ hs) s t known (this_part e all) = one_chain (place + 1) number other (Some (link_at (length groups) place)) gs hs s.1 t.1 (λ left. known (this_part by_fact left)) all
    where
      second : Some (fact_of (length groups) g) ≡ Some (fact_of (length groups) h)
      second = ap (λ i. i.second) (one_rule place s.0 t.0)

      one_fact : fact_of (length groups) h ≡ fact_of (length groups) g
      one_fact = cc (second)

      by_fact : Empty types groups g.number
      by_fact = from_fact types groups g (subst (Empty types groups) one_fact (to_fact types groups h e))

  means_group : (n : ℕ) → n < length groups → Empty types groups n → Means n
  means_group n l h = record { of_group = λ k. h; of_link = λ place number gs e. absurd (omega (arith, l, e)) }

  means_link : (place number : ℕ) (gs : List GroupId) → StandAt rules (place + 1) (chain (length groups) number (place + 1) (Some (link_at (length groups) place)) gs) → (AllMayBeEmpty (language_in types groups) gs → Empty types groups number) → Means (link_at (length groups) place)
  means_link place number gs stand known = record {
    of_group = λ l. absurd (omega (arith, l));
    of_link = λ place' other hs e t. one_chain (place + 1) number other (Some (link_at (length groups) place)) gs hs stand (subst (λ p. StandAt rules (p + 1) (chain (length groups) other (p + 1) (Some (link_at (length groups) place)) hs)) (same place' e) t) known;
  }
    where
      same : (place' : ℕ) → link_at (length groups) place ≡ link_at (length groups) place' → place' ≡ place
      same place' e = omega (arith, e)

  part : (g : GroupId) → Means (fact_of (length groups) g) → Empty types groups g.number
  part g m = from_fact types groups g (m.of_group (omega arith))

  -- the premises of an implication mean what they say
  abbrev Met : Implication → Type 0
  Met i = ((p : ℕ) → i.first ≡ Some p → Means p) × ((p : ℕ) → i.second ≡ Some p → Means p)

  -- where its premises do, the conclusion of each of these implications does
  abbrev AreSound : List Implication → Type 0
  AreSound [] = Unit {0}
  AreSound (i ∷ is) = (Met i → Means i.then) × AreSound is

  both_sound : (is js : List Implication) → AreSound is → AreSound js → AreSound (is ++ js)
  both_sound [] js h k = k
  both_sound (i ∷ is) js h k = (h.0, both_sound is js h.1 k)

  sound_at : (is : List Implication) → AreSound is → (k : ℕ) (i : Implication) → slice_get is k ≡ Some i → Met i → Means i.then
  sound_at [] h k i e = cc
  sound_at (j ∷ is) h zero i e = subst (λ i. Met i → Means i.then) same h.0
    where
      same : j ≡ i
      same = cc
  sound_at (j ∷ is) h (suc k) i e = sound_at is h.1 k i e

  module _ (number : ℕ) (there : number < length groups) where
    chain_sound : (place : ℕ) (before : Option ℕ) (gs : List GroupId) → StandAt rules place (chain (length groups) number place before gs) → (((p : ℕ) → before ≡ Some p → Means p) → AllMayBeEmpty (language_in types groups) gs → Empty types groups number) → AreSound (chain (length groups) number place before gs)
    chain_sound place before [] stand known = (λ met. means_group number there (known met.0 no_part), tt)
    chain_sound place before (g ∷ gs) stand known = (
      λ met. means_link place number gs stand.1 (λ all. known met.0 (this_part (part g (met.1 _ refl)) all)),
      chain_sound (place + 1) (Some (link_at (length groups) place)) gs stand.1 (λ m all. (m (link_at (length groups) place) refl).of_link place number gs refl stand.1 all),
    )

    choices_sound : (gs : List GroupId) → (OneMayBeEmpty (language_in types groups) gs → Empty types groups number) → AreSound (choices (length groups) number gs)
    choices_sound [] known = tt
    choices_sound (g ∷ gs) known = (λ met. means_group number there (known (this_one (part g (met.0 _ refl)))), choices_sound gs (λ h. known (another h)))

    group_sound : (place : ℕ) (f : F.Group TypeId GroupId) → StandAt rules place (rules_by (length groups) number place f) → (MayBeEmpty (language_in types groups) f → Empty types groups number) → AreSound (rules_by (length groups) number place f)
    group_sound place (F.Entry m) stand known = tt
    group_sound place (F.GroupRef g) stand known = (λ met. means_group number there (known (named (part g (met.0 _ refl)))), tt)
    group_sound place (F.Sequence gs) stand known = chain_sound place None gs stand (λ m all. known (every_part all))
    group_sound place (F.Alternatives gs) stand known = choices_sound gs (λ h. known (one_of_them h))
    group_sound place (F.Repeat zero most g) stand known = (λ met. means_group number there (known no_minimum), tt)
    group_sound place (F.Repeat (suc least) most g) stand known = by (is_over most) refl
      where
        by : (b : Bool) → is_over most ≡ b → AreSound (rule number (cond b None (Some (fact_of (length groups) g))) None ∷ [])
        by true e = (λ met. means_group number there (known (no_round e)), tt)
        by false e = (λ met. means_group number there (known (an_empty_round (part g (met.0 _ refl)))), tt)

  all_sound : (number place : ℕ) (gs : List Group) → StandAt groups number gs → StandAt rules place (all_rules (length groups) number place gs) → AreSound (all_rules (length groups) number place gs)
  all_sound number place [] there stand = tt
  all_sound number place (g ∷ gs) there stand =
      both_sound (rules_by (length groups) number place (group_view g)) _
      (group_sound number (within groups number g there.0) place (group_view g) (left_part rules place (rules_by (length groups) number place (group_view g)) _ stand) (subst (λ o. MayBeEmpty (language_in types groups) (group_view g) → MayBeEmpty (language_in types groups) (group_or_none o)) (sym there.0) (λ h. h)))
      (all_sound (number + 1) (place + length (rules_by (length groups) number place (group_view g))) gs there.1 (right_part rules place (rules_by (length groups) number place (group_view g)) _ stand))

  means : (facts : ℕ) → AreSound rules → (x : ℕ) → Follows facts rules x → Means x
  means facts h x (concludes k i at l first second) = sound_at rules h k i at (λ p e. means facts h p (first p e), λ p e. means facts h p (second p e))

pub sound : (types : List Node) (groups : List Group) (facts n : ℕ) → n < length groups → Follows facts (all_rules (length groups) 0 0 groups) n → Empty types groups n
sound types groups facts n l f =
    let rules = all_rules (length groups) 0 0 groups in
    (means types groups rules facts (all_sound types groups rules 0 0 groups (itself groups) (itself rules)) n f).of_group (omega (arith, l))
