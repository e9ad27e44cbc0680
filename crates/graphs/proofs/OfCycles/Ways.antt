-- Where edges lead, and that ranks go down on the way.
use Rattle.std.proofs.Common.{◌≡◌, ℕ, ◌<◌, List, Some, inl, inr, slice_get, sym, ap, subst, ◌∙◌, arith}
use Rattle.lists.proofs.Lemmas.{there as there_is}
use Rattle.graphs.specs.declared.cycles.Edge.{Edge}
use Rattle.graphs.specs.Cycles.Graph.{IsEdge, LeadsOn, at_once, onwards, AreRanks}
use Rattle.graphs.specs.Cycles.Links.{Joins, Leads}
use Rattle.graphs.proofs.OfCycles.Lists.{same_some}

module _ (nodes : ℕ) (edges : List Edge) where
  joined : {a b c : ℕ} → LeadsOn nodes edges a b → LeadsOn nodes edges b c → LeadsOn nodes edges a c
  joined (at_once e) h = onwards e h
  joined (onwards e k) h = onwards e (joined k h)

  pub leads_then : (a b c : ℕ) → Leads nodes edges a b → Leads nodes edges b c → Leads nodes edges a c
  leads_then a b c (inl e) h = subst (λ z. Leads nodes edges z c) (sym e) h
  leads_then a b c (inr k) (inl e) = inr (subst (λ z. LeadsOn nodes edges a z) e k)
  leads_then a b c (inr k) (inr h) = inr (joined k h)

  pub edge_then : (a b c : ℕ) → IsEdge nodes edges a b → Leads nodes edges b c → LeadsOn nodes edges a c
  edge_then a b c e (inl p) = subst (λ z. LeadsOn nodes edges a z) p (at_once e)
  edge_then a b c e (inr h) = onwards e h

  pub edge_of : (e a b : ℕ) → Joins nodes edges e a b → IsEdge nodes edges a b
  edge_of e a b j = record { place = e; there = j.there; begins = j.begins; ends = j.ends }

  pub joins_of : {a b : ℕ} → (i : IsEdge nodes edges a b) → Joins nodes edges i.place a b
  joins_of i = record { there = i.there; begins = i.begins; ends = i.ends }

  same_edge : (e : ℕ) (d f : Edge) → slice_get edges e ≡ Some d → slice_get edges e ≡ Some f → d ≡ f
  same_edge e d f p q = same_some d f (sym p ∙ q)

  pub same_from : (e a b c d : ℕ) → Joins nodes edges e a b → Joins nodes edges e c d → a ≡ c
  same_from e a b c d i j = ap (λ (z : Edge). z.from) (same_edge e (record { from = a; to = b }) (record { from = c; to = d }) i.there j.there)

  pub same_to : (e a b c d : ℕ) → Joins nodes edges e a b → Joins nodes edges e c d → b ≡ d
  same_to e a b c d i j = ap (λ (z : Edge). z.to) (same_edge e (record { from = a; to = b }) (record { from = c; to = d }) i.there j.there)

  module _ (ranks : List ℕ) (h : AreRanks nodes edges ranks) where
    rank_at : (i : ℕ) → i < nodes → (r : ℕ) × (slice_get ranks i ≡ Some r)
    rank_at i l = there_is ranks i (subst (λ n. i < n) (sym h.all) l)

    goes_down : {a b : ℕ} → LeadsOn nodes edges a b → (r s : ℕ) → slice_get ranks a ≡ Some r → slice_get ranks b ≡ Some s → s < r
    goes_down {a} {b} (at_once e) r s p q = h.down a b r s e p q
    goes_down {a} {b = c} (onwards {b = b} e k) r s p q =
        let t = rank_at b e.ends in
        let one = h.down a b r t.0 e p t.1 in
        let more = goes_down k t.0 s t.1 q in
        omega (arith, one, more)

    begins_in : {a b : ℕ} → LeadsOn nodes edges a b → a < nodes
    begins_in (at_once e) = e.begins
    begins_in (onwards e k) = e.begins

    pub no_way_back : (i : ℕ) → LeadsOn nodes edges i i → ⊥
    no_way_back i k =
        let t = rank_at i (begins_in k) in
        let down = goes_down k t.0 t.0 t.1 t.1 in
        absurd (omega (arith, down))
