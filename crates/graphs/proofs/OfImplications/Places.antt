-- Implications at their places, and the links between these.
use Rattle.std.proofs.Common.{◌≡◌, ℕ, zero, suc, ◌+◌, ◌/◌, ◌<◌, ◌≤◌, List, [], ◌∷◌, ◌++◌, length, set, replicate, Option, Some, None, inl, inr, slice_get, slice_index_or, refl, sym, ap, subst, ◌∙◌, arith}
use Rattle.std.proofs.lemmas.Option.{slice_get-get_or}
use Rattle.lists.proofs.Lemmas.{after_push, after_set, never_some, replicate_at, replicate_length, set_length, within}
use Rattle.graphs.specs.declared.implications.Implication.{Implication}
use Rattle.graphs.specs.Implications.Rules.{or_else, premises_of, IsLast, AreHeads, AreLinks}
use Rattle.graphs.specs.Implications.Search.{HasPremise, IsAhead, ahead, places_left}
use Rattle.graphs.proofs.OfImplications.Lists.{same_some, apart}

module _ (facts : ℕ) where
  pub how_many : (is : List Implication) → length (premises_of facts is) ≡ length is + length is
  how_many [] = refl
  how_many (i ∷ is) = let h = how_many is in omega (arith, h)

  first_at : (is : List Implication) (k : ℕ) (i : Implication) → slice_get is k ≡ Some i → slice_get (premises_of facts is) (k + k) ≡ Some (or_else i.first facts)
  first_at [] k i e = absurd (never_some i e)
  first_at (j ∷ is) zero i e = ap (λ (v : Implication). Some (or_else v.first facts)) (same_some j i e)
  first_at (j ∷ is) (suc k) i e =
      let twice : suc k + suc k ≡ suc (suc (k + k)) = omega arith in
      subst (λ n. slice_get (premises_of facts (j ∷ is)) n ≡ Some (or_else i.first facts)) (sym twice) (first_at is k i e)

  second_at : (is : List Implication) (k : ℕ) (i : Implication) → slice_get is k ≡ Some i → slice_get (premises_of facts is) (suc (k + k)) ≡ Some (or_else i.second facts)
  second_at [] k i e = absurd (never_some i e)
  second_at (j ∷ is) zero i e = ap (λ (v : Implication). Some (or_else v.second facts)) (same_some j i e)
  second_at (j ∷ is) (suc k) i e =
      let twice : suc (suc k + suc k) ≡ suc (suc (suc (k + k))) = omega arith in
      subst (λ n. slice_get (premises_of facts (j ∷ is)) n ≡ Some (or_else i.second facts)) (sym twice) (second_at is k i e)

  pub has_first : (is : List Implication) (k x : ℕ) (i : Implication) → slice_get is k ≡ Some i → i.first ≡ Some x → HasPremise (premises_of facts is) x k
  has_first is k x i e f = record { place = k + k; there = first_at is k i e ∙ ap (λ o. Some (or_else o facts)) f; of_it = omega arith }

  pub has_second : (is : List Implication) (k x : ℕ) (i : Implication) → slice_get is k ≡ Some i → i.second ≡ Some x → HasPremise (premises_of facts is) x k
  has_second is k x i e f = record { place = suc (k + k); there = second_at is k i e ∙ ap (λ o. Some (or_else o facts)) f; of_it = omega arith }

  pub place_within : (is : List Implication) (place x : ℕ) → slice_get (premises_of facts is) place ≡ Some x → place / 2 < length is
  place_within is place x e = let l = within (premises_of facts is) place x e in let h = how_many is in omega (arith, l, h)

module _ (premises : List ℕ) (x : ℕ) where
  -- all places are ahead
  pub all_ahead : (o : Option ℕ) → IsLast premises x (length premises) o → (k : ℕ) → HasPremise premises x k → IsAhead premises x o k
  all_ahead None h k p = absurd (h p.place p.there (within premises p.place x p.there))
  all_ahead (Some e) h k p = ahead p.place e k p.there p.of_it (h.last p.place p.there (within premises p.place x p.there))

  some_none : (e : ℕ) → Some e ≡ None → ⊥
  some_none e q = cc

  pub none_ahead : (o : Option ℕ) (k : ℕ) → o ≡ None → IsAhead premises x o k → ⊥
  none_ahead o k e (ahead place last m at f l) = some_none last e

  -- those of an implication other than that of the last place are ahead of it
  ahead_by : (o : Option ℕ) (e place k : ℕ) → IsLast premises x e o → slice_get premises place ≡ Some x → place / 2 ≡ k → place < e → IsAhead premises x o k
  ahead_by None e place k h at f l = absurd (h place at l)
  ahead_by (Some d) e place k h at f l = ahead place d k at f (h.last place at l)

  before : (place e k : ℕ) → place ≤ e → place / 2 ≡ k → (k ≡ e / 2 → ⊥) → place < e
  before place e k l f n = apart place e l (λ q. n (sym f ∙ ap (λ m. m / 2) q))

  pub next_ahead : (u o : Option ℕ) (e k : ℕ) → IsLast premises x e o → u ≡ Some e → IsAhead premises x u k → (k ≡ e / 2 → ⊥) → IsAhead premises x o k
  next_ahead u o e k h q (ahead place last m at f l) n = let same = same_some last e q in ahead_by o e place k h at f (before place e k (omega (arith, l, same)) f n)

  pub last_there : (o : Option ℕ) (most e : ℕ) → IsLast premises x most o → o ≡ Some e → slice_get premises e ≡ Some x
  last_there None most e h q = absurd (never_some e q)
  last_there (Some d) most e h q = subst (λ n. slice_get premises n ≡ Some x) (same_some d e q) h.there

  pub fewer_left : (o : Option ℕ) (e : ℕ) → IsLast premises x e o → places_left o < places_left (Some e)
  fewer_left None e h = omega arith
  fewer_left (Some d) e h = let l = h.below in omega (arith, l)

-- the loop that links

module _ (facts : ℕ) (premises : List ℕ) where
  pub no_heads : AreHeads facts premises 0 (replicate facts None)
  no_heads = record { all = replicate_length facts None; each = λ x o e. subst (λ u. IsLast premises x 0 u) (replicate_at facts None x o e) (λ k f l. omega (arith, l)) }

  pub no_links : AreLinks facts premises []
  no_links = record { each = λ e x o p l q. absurd (never_some o q) }

  other_place : (x k y j : ℕ) → slice_get premises k ≡ Some y → (y ≡ x → ⊥) → slice_get premises j ≡ Some x → j < k + 1 → j < k
  other_place x k y j at n e l = apart j k (omega (arith, l)) (λ q. n (same_some y x (sym at ∙ (ap (λ m. slice_get premises m) (sym q) ∙ e))))

  one_more : (x k y : ℕ) (o : Option ℕ) → slice_get premises k ≡ Some y → (y ≡ x → ⊥) → IsLast premises x k o → IsLast premises x (k + 1) o
  one_more x k y None at n h = λ j e l. h j e (other_place x k y j at n e l)
  one_more x k y (Some d) at n h = record { there = h.there; below = (let l = h.below in omega (arith, l)); last = λ j e l. h.last j e (other_place x k y j at n e l) }

  module _ (heads links : List (Option ℕ)) (k y : ℕ) (at : slice_get premises k ≡ Some y) (heads_are : AreHeads facts premises k heads) where
    pub heads_with : AreHeads facts premises (k + 1) (set heads y (Some k))
    heads_with = record {
      all = set_length heads y (Some k) ∙ heads_are.all;
      each = λ x o t. elim (after_set heads y x (Some k) o t) [
        | inl q ↦ subst (λ u. IsLast premises x (k + 1) u) q.1 (record { there = at ∙ ap Some q.0; below = omega arith; last = λ j e l. omega (arith, l) })
        | inr q ↦ one_more x k y o at q.0 (heads_are.each x o q.1)
      ];
    }

    pub links_with : AreLinks facts premises links → length links ≡ k → AreLinks facts premises (links ++ slice_index_or heads y None ∷ [])
    links_with links_are as_many = record {
      each = λ e x o p l t. elim (after_push links (slice_index_or heads y None) e o t) [
        | inl q ↦ new_link e x o p l (sym as_many ∙ q.0) q.1
        | inr q ↦ links_are.each e x o p l q
      ];
    }
      where
        new_link : (e x : ℕ) (o : Option ℕ) → slice_get premises e ≡ Some x → x < facts → k ≡ e → slice_index_or heads y None ≡ o → IsLast premises x e o
        new_link e x o p l same v =
            let y_is : y ≡ x = same_some y x (sym at ∙ (ap (λ m. slice_get premises m) same ∙ p)) in
            let all = heads_are.all in
            let there : slice_get heads y ≡ Some (slice_index_or heads y None) = slice_get-get_or heads y None (omega (arith, y_is, l, all)) in
            subst (λ n. IsLast premises x n o) same (heads_are.each x o (ap (λ z. slice_get heads z) (sym y_is) ∙ (there ∙ ap Some v)))
