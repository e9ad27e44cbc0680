-- That a group may take no item follows of the implications, where it may.
use Rattle.std.proofs.Common.{◌≡◌, ℕ, zero, suc, ◌+◌, ◌<◌, min, cond, Bool, true, false, List, [], ◌∷◌, length, Option, Some, None, slice_get, refl, subst, arith}
use Rattle.std.proofs.Math.Nat.{zero-add}
use Rattle.lists.proofs.Lemmas.{within}
use Rattle.graphs.specs.declared.implications.Implication.{Implication}
use Rattle.graphs.specs.Implications.Implications.{Follows, concludes}
use Rattle.cddl_meaning.specs.Forms as F
use Rattle.cddl_meaning.specs.Judges.{is_over}
use Rattle.cddl_meaning.specs.Ranks.Ranked.{MayBeEmpty, named, every_part, one_of_them, no_minimum, no_round, an_empty_round, AllMayBeEmpty, no_part, this_part, OneMayBeEmpty, this_one, another}
use Rattle.table_nodes.specs.Nodes.{group_or_none, language_in}
use Rattle.table_nodes.specs.declared.nodes.TypeId.{TypeId}
use Rattle.table_nodes.specs.declared.nodes.GroupId.{GroupId}
use Rattle.table_nodes.specs.declared.nodes.Node.{Node}
use Rattle.table_nodes.specs.declared.nodes.Group.{Group}
use Rattle.table_nodes.specs.Flags.Rules.{all_rules, chain, choices, fact_of, link_at, rule, rules_by}
use Rattle.table_nodes.proofs.OfFlags.Places.{Empty, StandAt, is_there, itself, segment}

module _ (types : List Node) (groups : List Group) (rules : List Implication) (all : StandAt rules 0 (all_rules (length groups) 0 0 groups)) where
  abbrev FollowsHere : ℕ → Type 0
  FollowsHere n = Follows (link_at (length groups) (length rules)) rules n

  nothing_needed : (p : ℕ) → None ≡ Some p → FollowsHere p
  nothing_needed p e = cc

  this_needed : (a : ℕ) → FollowsHere a → (p : ℕ) → Some a ≡ Some p → FollowsHere p
  this_needed a h p e = subst FollowsHere same h
    where
      same : a ≡ p
      same = cc

  -- of a group
  concluded : (number place : ℕ) (a b : Option ℕ) → number < length groups → slice_get rules place ≡ Some (rule number a b) → ((p : ℕ) → a ≡ Some p → FollowsHere p) → ((p : ℕ) → b ≡ Some p → FollowsHere p) → FollowsHere number
  concluded number place a b l at f s = concludes place (rule number a b) at (omega (arith, l)) f s

  -- of a link
  linked : (place : ℕ) (a b : Option ℕ) → slice_get rules place ≡ Some (rule (link_at (length groups) place) a b) → ((p : ℕ) → a ≡ Some p → FollowsHere p) → ((p : ℕ) → b ≡ Some p → FollowsHere p) → FollowsHere (link_at (length groups) place)
  linked place a b at f s = concludes place (rule (link_at (length groups) place) a b) at below f s
    where
      below : link_at (length groups) place < link_at (length groups) (length rules)
      below = let l = within rules place _ at in omega (arith, l)

  of_part : (g : GroupId) → Empty types groups g.number → (g.number < length groups → FollowsHere g.number) → FollowsHere (fact_of (length groups) g)
  of_part g e h = let l = is_there types groups g.number e in subst FollowsHere (same l) (h l)
    where
      same : g.number < length groups → g.number ≡ min g.number (length groups)
      same l = omega (arith, l)

  of_round : (b : Bool) (a : ℕ) → FollowsHere a → (p : ℕ) → cond b None (Some a) ≡ Some p → FollowsHere p
  of_round true a h p e = cc
  of_round false a h p e = this_needed a h p e

  stands : (n : ℕ) (f : F.Group TypeId GroupId) → group_or_none (slice_get groups n) ≡ f → (place : ℕ) × StandAt rules place (rules_by (length groups) n place f)
  stands n f e = let s = segment (length groups) 0 0 groups rules all n in (s.0, subst (λ f. StandAt rules s.0 (rules_by (length groups) n s.0 f)) e (subst (λ m. StandAt rules s.0 (rules_by (length groups) m s.0 (group_or_none (slice_get groups n)))) (zero-add n) s.1))

  mutual
    follows : {f : F.Group TypeId GroupId} → MayBeEmpty (language_in types groups) f → (n : ℕ) → n < length groups → group_or_none (slice_get groups n) ≡ f → FollowsHere n
    follows (named {g = g} h) n l e = let s = stands n _ e in concluded n s.0 _ _ l s.1.0 (this_needed _ (of_part g h (λ k. follows h g.number k refl))) nothing_needed
    follows (every_part {gs = gs} h) n l e = let s = stands n _ e in all_follow n l s.0 None gs s.1 nothing_needed h
    follows (one_of_them {gs = gs} h) n l e = let s = stands n _ e in one_follows n l s.0 gs s.1 h
    follows (no_minimum {most = most} {g = g}) n l e = let s = stands n (F.Repeat 0 most g) e in concluded n s.0 None None l s.1.0 nothing_needed nothing_needed
    follows (no_round {least = zero} {most = most} {g = g} h) n l e = let s = stands n (F.Repeat 0 most g) e in concluded n s.0 None None l s.1.0 nothing_needed nothing_needed
    follows (no_round {least = suc least} {most = most} {g = g} h) n l e = let s = stands n (F.Repeat (suc least) most g) e in concluded n s.0 None None l (subst (λ b. slice_get rules s.0 ≡ Some (rule n (cond b None (Some (fact_of (length groups) g))) None)) h s.1.0) nothing_needed nothing_needed
    follows (an_empty_round {least = zero} {most = most} {g = g} h) n l e = let s = stands n (F.Repeat 0 most g) e in concluded n s.0 None None l s.1.0 nothing_needed nothing_needed
    follows (an_empty_round {least = suc least} {most = most} {g = g} h) n l e = let s = stands n (F.Repeat (suc least) most g) e in concluded n s.0 _ None l s.1.0 (of_round (is_over most) (fact_of (length groups) g) (of_part g h (λ k. follows h g.number k refl))) nothing_needed

    all_follow : (n : ℕ) → n < length groups → (place : ℕ) (before : Option ℕ) (gs : List GroupId) → StandAt rules place (chain (length groups) n place before gs) → ((p : ℕ) → before ≡ Some p → FollowsHere p) → AllMayBeEmpty (language_in types groups) gs → FollowsHere n
    all_follow n l place before [] s b no_part = concluded n place before None l s.0 b nothing_needed
    all_follow n l place before (g ∷ gs) s b (this_part h hs) = all_follow n l (place + 1) (Some (link_at (length groups) place)) gs s.1 (this_needed _ (linked place before _ s.0 b (this_needed _ (of_part g h (λ k. follows h g.number k refl))))) hs

    one_follows : (n : ℕ) → n < length groups → (place : ℕ) (gs : List GroupId) → StandAt rules place (choices (length groups) n gs) → OneMayBeEmpty (language_in types groups) gs → FollowsHere n
    one_follows n l place (g ∷ gs) s (this_one h) = concluded n place _ None l s.0 (this_needed _ (of_part g h (λ k. follows h g.number k refl))) nothing_needed
    one_follows n l place (g ∷ gs) s (another h) = one_follows n l (place + 1) gs s.1 h

pub complete : (types : List Node) (groups : List Group) (n : ℕ) → Empty types groups n → Follows (link_at (length groups) (length (all_rules (length groups) 0 0 groups))) (all_rules (length groups) 0 0 groups) n
complete types groups n h = follows types groups (all_rules (length groups) 0 0 groups) (itself (all_rules (length groups) 0 0 groups)) h n (is_there types groups n h) refl
