-- Edges and flagged entries, in lists.
use Rattle.std.proofs.Common.{◌≡◌, ◌≢◌, ℕ, zero, suc, ◌+◌, ◌*◌, ◌<◌, ◌⊎◌, inl, inr, Bool, true, false, if◌then◌else◌, List, [], ◌∷◌, Option, Some, None, refl, sym, ap, subst, ◌∙◌, slice_get, arith}
use Rattle.std.specs.Prelude.{AllPairs, Contains}
use Rattle.lists.proofs.Lemmas.{at_head, indexed, ordered, within}
use Rattle.graphs.specs.declared.implications.Implication.{Implication}
use Rattle.cddl_language.specs.Terms.{Ref}
use Rattle.check_reached.specs.declared.asked.Asked.{Asked}
use Rattle.check_maps.specs.declared.spliced.listing.Spliced.{Spliced}
use Rattle.check_maps.specs.declared.spliced.owners.Owner.{Owner}
use Rattle.check_maps.specs.declared.spliced.owners.Owner.TheVariants as OwnerV
use Rattle.check_maps.specs.declared.spliced.owners.Way.{Way}
use Rattle.check_maps.specs.Spliced.Steps.{edge, edges_of, entry_with, fact_holds, fact_of, flag_in, flagged, flagged_entry, implied, is_flagged, with_edge, with_entry}
use Rattle.check_maps.proofs.OfSpliced.Inside.{behind, none_in, on_cons}

-- Edges.

pub edge_in : (ways : List Way) (k : ℕ) (v : Way) (i : Implication) → slice_get ways k ≡ Some v → edge v.owner v.target ≡ Some i → (j : ℕ) × (slice_get (edges_of ways) j ≡ Some i)
edge_in [] k v i at e = cc
edge_in (w ∷ ws) zero v i at e =
    let same : w ≡ v = cc in
    (zero, ap (λ o. slice_get (with_edge o (edges_of ws)) zero) (ap (λ (z : Way). edge z.owner z.target) same ∙ e))
edge_in (w ∷ ws) (suc k) v i at e = by (edge w.owner w.target) (edge_in ws k v i at e)
  where
    by : (o : Option Implication) → (j : ℕ) × (slice_get (edges_of ws) j ≡ Some i) → (j : ℕ) × (slice_get (with_edge o (edges_of ws)) j ≡ Some i)
    by None m = m
    by (Some x) m = (suc m.0, m.1)

pub in_edges : (ways : List Way) (j : ℕ) (i : Implication) → slice_get (edges_of ways) j ≡ Some i → (k : ℕ) × (v : Way) × (slice_get ways k ≡ Some v) × (edge v.owner v.target ≡ Some i)
in_edges [] j i e = cc
in_edges (w ∷ ws) j i e = by (edge w.owner w.target) refl j e (in_edges ws)
  where
    later : (j : ℕ) → slice_get (edges_of ws) j ≡ Some i → ((n : ℕ) (x : Implication) → slice_get (edges_of ws) n ≡ Some x → (k : ℕ) × (v : Way) × (slice_get ws k ≡ Some v) × (edge v.owner v.target ≡ Some x)) → (k : ℕ) × (v : Way) × (slice_get (w ∷ ws) k ≡ Some v) × (edge v.owner v.target ≡ Some i)
    later j e so = let r = so j i e in (suc r.0, r.1, r.2, r.3)

    by : (o : Option Implication) → edge w.owner w.target ≡ o → (j : ℕ) → slice_get (with_edge o (edges_of ws)) j ≡ Some i → ((n : ℕ) (x : Implication) → slice_get (edges_of ws) n ≡ Some x → (k : ℕ) × (v : Way) × (slice_get ws k ≡ Some v) × (edge v.owner v.target ≡ Some x)) → (k : ℕ) × (v : Way) × (slice_get (w ∷ ws) k ≡ Some v) × (edge v.owner v.target ≡ Some i)
    by None h j e so = later j e so
    by (Some x) h zero e so = (zero, w, refl, h ∙ e)
    by (Some x) h (suc j) e so = later j e so

pub record EdgeParts (o u : Option Owner) (i : Implication) : Type 0 where
  pub from : Owner
  pub to : Owner
  pub owner : o ≡ Some from
  pub target : u ≡ Some to
  pub fact : fact_of to ≡ Some i.then
  pub first : i.first ≡ fact_of from

implied_parts : (w u : Owner) (i : Implication) (n : Option ℕ) → fact_of u ≡ n → implied n w ≡ Some i → EdgeParts (Some w) (Some u) i
implied_parts w u i None h e = cc
implied_parts w u i (Some n) h e =
    let same : record { then = n; first = fact_of w; second = None } ≡ i = cc in
    record { from = w; to = u; owner = refl; target = refl; fact = h ∙ ap (λ (x : Implication). Some x.then) same; first = ap (λ (x : Implication). x.first) (sym same) }

pub edge_parts : (o u : Option Owner) (i : Implication) → edge o u ≡ Some i → EdgeParts o u i
edge_parts (Some w) (Some u) i e = implied_parts w u i (fact_of u) refl e
edge_parts (Some w) None i e = cc
edge_parts None (Some u) i e = cc
edge_parts None None i e = cc

pub edge_made : (o u : Option Owner) (w v : Owner) (n : ℕ) → o ≡ Some w → u ≡ Some v → fact_of v ≡ Some n → edge o u ≡ Some (record { then = n; first = fact_of w; second = None })
edge_made o u w v n h k e = ap (λ z. edge z u) h ∙ ap (λ z. edge (Some w) z) k ∙ ap (λ z. implied z w) e

pub fact_same : (u w : Owner) (n : ℕ) → fact_of u ≡ Some n → fact_of w ≡ Some n → u ≡ w
fact_same OwnerV.Map w n e f = cc
fact_same (OwnerV.Named k) OwnerV.Map n e f = cc
fact_same (OwnerV.Named k) (OwnerV.Named j) n e f =
    let a : 2 * k ≡ n = cc in
    let b : 2 * j ≡ n = cc in
    ap OwnerV.Named (omega (arith, a, b))
fact_same (OwnerV.Named k) (OwnerV.Opened j) n e f =
    let a : 2 * k ≡ n = cc in
    let b : 2 * j + 1 ≡ n = cc in
    absurd (omega (arith, a, b))
fact_same (OwnerV.Opened k) OwnerV.Map n e f = cc
fact_same (OwnerV.Opened k) (OwnerV.Named j) n e f =
    let a : 2 * k + 1 ≡ n = cc in
    let b : 2 * j ≡ n = cc in
    absurd (omega (arith, a, b))
fact_same (OwnerV.Opened k) (OwnerV.Opened j) n e f =
    let a : 2 * k + 1 ≡ n = cc in
    let b : 2 * j + 1 ≡ n = cc in
    ap OwnerV.Opened (omega (arith, a, b))

-- Flagged entries.

pub flag_true : (flags : List Bool) (w : Owner) (n : ℕ) → fact_of w ≡ Some n → is_flagged flags w ≡ true → slice_get flags n ≡ Some true
flag_true flags w n h e = by (slice_get flags n) (sym (ap (fact_holds flags) h) ∙ e)
  where
    by : (o : Option Bool) → flag_in o ≡ true → o ≡ Some true
    by None e = cc
    by (Some b) e = ap Some e

pub record FlaggedParts (flags : List Bool) (o : Option Owner) (a : Asked) (x : Spliced) : Type 0 where
  pub owner : Owner
  pub is : o ≡ Some owner
  pub flag : is_flagged flags owner ≡ true
  pub same : x.owner ≡ owner
  pub row : x.row ≡ a.row
  pub at : x.at ≡ a.at

pub flagged_parts : (flags : List Bool) (o : Option Owner) (a : Asked) (x : Spliced) → entry_with flags o a ≡ Some x → FlaggedParts flags o a x
flagged_parts flags None a x e = cc
flagged_parts flags (Some w) a x e = by (is_flagged flags w) refl e
  where
    by : (b : Bool) → is_flagged flags w ≡ b → (if b then Some (record { owner = w; row = a.row; at = a.at }) else None) ≡ Some x → FlaggedParts flags (Some w) a x
    by true h e =
        let same : record { owner = w; row = a.row; at = a.at } ≡ x = cc in
        record { owner = w; is = refl; flag = h; same = ap (λ (z : Spliced). z.owner) (sym same); row = ap (λ (z : Spliced). z.row) (sym same); at = ap (λ (z : Spliced). z.at) (sym same) }
    by false h e = cc

pub flagged_made : (flags : List Bool) (o : Option Owner) (w : Owner) (a : Asked) → o ≡ Some w → ((n : ℕ) → fact_of w ≡ Some n → slice_get flags n ≡ Some true) → entry_with flags o a ≡ Some (record { owner = w; row = a.row; at = a.at })
flagged_made flags o w a e h = ap (λ z. entry_with flags z a) e ∙ ap (λ b. if b then Some (record { owner = w; row = a.row; at = a.at }) else None) (by (fact_of w) refl)
  where
    by : (n : Option ℕ) → fact_of w ≡ n → fact_holds flags n ≡ true
    by None k = refl
    by (Some n) k = ap flag_in (h n k)

module _ (places : List (Option ℕ)) (flags : List Bool) where
  pub flagged_from : (asked : List Asked) (x : Spliced) → Contains (flagged places flags asked) x → (a : Asked) × (Contains asked a) × (flagged_entry places flags a ≡ Some x)
  flagged_from [] x m = none_in m
  flagged_from (a ∷ rest) x m = by (flagged_entry places flags a) refl m (flagged_from rest x)
    where
      later : (b : Asked) × (Contains rest b) × (flagged_entry places flags b ≡ Some x) → (b : Asked) × (Contains (a ∷ rest) b) × (flagged_entry places flags b ≡ Some x)
      later r = (r.0, behind a rest r.1, r.2)

      by : (o : Option Spliced) → flagged_entry places flags a ≡ o → Contains (with_entry o (flagged places flags rest)) x → (Contains (flagged places flags rest) x → (b : Asked) × (Contains rest b) × (flagged_entry places flags b ≡ Some x)) → (b : Asked) × (Contains (a ∷ rest) b) × (flagged_entry places flags b ≡ Some x)
      by None h m so = later (so m)
      by (Some y) h m so = on_cons y (flagged places flags rest) x m (λ same. (a, at_head a rest, h ∙ ap Some same)) (λ d. later (so d))

  pub flagged_in : (asked : List Asked) (a : Asked) (x : Spliced) → Contains asked a → flagged_entry places flags a ≡ Some x → Contains (flagged places flags asked) x
  flagged_in [] a x m e = none_in m
  flagged_in (b ∷ rest) a x m e = on_cons b rest a m (λ same. subst (λ o. Contains (with_entry o (flagged places flags rest)) x) (sym (ap (flagged_entry places flags) same ∙ e)) (at_head x (flagged places flags rest))) (λ d. by (flagged_entry places flags b) (flagged_in rest a x d e))
    where
      by : (o : Option Spliced) → Contains (flagged places flags rest) x → Contains (with_entry o (flagged places flags rest)) x
      by None d = d
      by (Some y) d = behind y (flagged places flags rest) d

-- An instance has one place.

pub one_place : (refs : List Ref) → AllPairs (λ (q r : Ref). q ≢ r) refs → (k j : ℕ) (f : Ref) → slice_get refs k ≡ Some f → slice_get refs j ≡ Some f → k ≡ j
one_place refs once k j f e h = by (ordered k j)
  where
    by : (k ≡ j) ⊎ ((k < j) ⊎ (j < k)) → k ≡ j
    by (inl same) = same
    by (inr (inl l)) = absurd (once k j f l (within refs j f h) (indexed refs k f f e ∙ sym (indexed refs j f f h)))
    by (inr (inr l)) = absurd (once j k f l (within refs k f e) (indexed refs j f f h ∙ sym (indexed refs k f f e)))
