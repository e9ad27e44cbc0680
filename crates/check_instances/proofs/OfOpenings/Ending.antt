-- Where the ways of `~` end.
use Rattle.std.proofs.Common.{◌≡◌, ◌↔◌, ℕ, zero, suc, ◌<◌, Bool, true, false, if◌then◌else◌, List, [], ◌∷◌, length, map, Option, Some, None, refl, sym, ap, subst, ◌∙◌, slice_get, slice_index_or}
use Rattle.lists.proofs.Lemmas.{within}
use Rattle.graphs.specs.declared.chains.Link.{Link}
use Rattle.graphs.specs.declared.chains.Link.TheVariants as LinkV
use Rattle.graphs.specs.Chains.Chains.{AreEnds, end_by, end_within}
use Rattle.cddl_language.specs.Terms as L
use Rattle.cddl_language.specs.Terms.{Text, Term, literal, named, parens, map_of, array_of, unwrapped, choice_of, choice_of_name, tagged, tagged_by, simple_by, hash, range, control, or, Ref, call, Body, of_types, of_entry, Definition, stripped, term_list, name_of, arguments_of}
use Rattle.cddl_language.specs.Environment.{definitions_of, is_group_socket, is_in, most_names}
use Rattle.cddl_language.specs.Substitution.{bodies, fill, fill_body, fill_ref, or_else}
use Rattle.cddl_language.specs.Kinds.{Opened, opened_body, opened_by, opened_in, opened_term}
use Rattle.cddl_language.specs.Reach.{Reaches, points}
use Rattle.check_terms.specs.declared.row.Form.{Form}
use Rattle.check_terms.specs.declared.row.Form.TheVariants as F
use Rattle.check_terms.specs.declared.row.Row.{Row}
use Rattle.check_terms.specs.Table.{Table}
use Rattle.check_terms.specs.Trees.{IsRef, IsTerm}
use Rattle.check_instances.specs.declared.closed.closed.Closed.{Closed}
use Rattle.check_instances.specs.declared.closed.closed.Meaning.{Meaning}
use Rattle.check_instances.specs.Closed.Closed.{AreReached, IsClosed, IsMeaning}
use Rattle.check_instances.specs.Openings.Endings.{AreEndings, EndsAt, at_once, through, is_name}
use Rattle.check_instances.specs.Openings.Steps.{ended_at, link_to, links_of, named_place, own_link_of, own_links_of, place_at, place_by, place_in}
use Rattle.check_instances.proofs.OfOpenings.Joining.{alike_at}
use Rattle.check_instances.proofs.OfOpenings.Leading.{Leads, body_reached, held, name_reached, no_argument_for, sole_type, type_leads}
use Rattle.check_instances.proofs.OfOpenings.Chaining.{holding, instance_reached, link_there, links_from, place_found, refers}

-- What a type of a definition opens, filled: itself, or what `next` says of a name that is no parameter.
data WayOf (next : Ref → Option Opened) (ps : List Text) (xs : List Term) (o : Opened) (t : Term) : Type 0 where
  holds_it : is_name (stripped t) ≡ false → held (stripped (fill ps xs t)) ≡ Some o → WayOf next ps xs o t
  goes_on : (h : Ref) → stripped t ≡ named h → is_in ps (name_of h) ≡ false → stripped (fill ps xs t) ≡ named (fill_ref ps xs h) → next (fill_ref ps xs h) ≡ Some o → WayOf next ps xs o t

module _ (next : Ref → Option Opened) (ps : List Text) (xs : List Term) (o : Opened) where
  inside : (t : Term) → WayOf next ps xs o t → WayOf next ps xs o (parens t)
  inside t (holds_it e f) = holds_it e f
  inside t (goes_on h e i f w) = goes_on h e i f w

  by_name : (r : Ref) (b : Bool) → is_in ps (name_of r) ≡ b → (if b then None else next (fill_ref ps xs r)) ≡ Some o → WayOf next ps xs o (named r)
  by_name r true i e = cc
  by_name r false i e = goes_on r refl i (ap (λ a. stripped (or_else a (named (fill_ref ps xs r)))) (no_argument_for ps xs r i)) e

  way_of : (t : Term) → opened_term next ps xs (stripped t) ≡ Some o → WayOf next ps xs o t
  way_of (parens t) e = inside t (way_of t e)
  way_of (named r) e = by_name r (is_in ps (name_of r)) refl e
  way_of (map_of g) e = holds_it refl e
  way_of (array_of g) e = holds_it refl e
  way_of (tagged n t) e = holds_it refl e
  way_of (tagged_by h t) e = holds_it refl e
  way_of (literal v) e = cc
  way_of (unwrapped r) e = cc
  way_of (choice_of g) e = cc
  way_of (choice_of_name r) e = cc
  way_of (simple_by h) e = cc
  way_of (hash n) e = cc
  way_of (range a c b) e = cc
  way_of (control a n b) e = cc
  way_of (or t u) e = cc

-- where `~` of a reference opens something, its name has one definition, which leads to it
record Steps (k : ℕ) (ds : List Definition) (r : Ref) (o : Opened) : Type 0 where
  definition : Definition
  type : Term
  sole : definitions_of ds (name_of r) ≡ definition ∷ []
  body : definition.body ≡ of_types type
  filled : bodies ds r ≡ of_types (fill definition.parameters (arguments_of r) type) ∷ []
  leads : opened_term (λ s. opened_in k ds s) definition.parameters (arguments_of r) (stripped type) ≡ Some o

steps : (k : ℕ) (ds : List Definition) (r : Ref) (o : Opened) → opened_in (suc k) ds r ≡ Some o → Steps k ds r o
steps k ds (call n ts) o e = not_socket (is_group_socket n) e
  where
    filled_in : List Definition → List Body
    filled_in es = map (λ (d : Definition). fill_body d.parameters (term_list ts) d.body) es

    of_body : (d : Definition) (b : Body) → d.body ≡ b → definitions_of ds n ≡ d ∷ [] → opened_body (λ s. opened_in k ds s) d.parameters (term_list ts) b ≡ Some o → Steps k ds (call n ts) o
    of_body d (of_types t) i f g = record { definition = d; type = t; sole = f; body = i; filled = ap filled_in f ∙ ap (λ (b : Body). fill_body d.parameters (term_list ts) b ∷ []) i; leads = g }
    of_body d (of_entry x) i f g = cc

    of_all : (es : List Definition) → definitions_of ds n ≡ es → opened_by (λ s. opened_in k ds s) (term_list ts) es ≡ Some o → Steps k ds (call n ts) o
    of_all [] i g = cc
    of_all (d ∷ []) i g = of_body d d.body refl i g
    of_all (d ∷ f ∷ es) i g = cc

    not_socket : (b : Bool) → (if b then None else opened_by (λ s. opened_in k ds s) (term_list ts) (definitions_of ds n)) ≡ Some o → Steps k ds (call n ts) o
    not_socket true g = cc
    not_socket false g = of_all (definitions_of ds n) refl g

own_link_there : (rows : List Row) (places : List (Option ℕ)) (stripped : List ℕ) (ms : List Meaning) (k : ℕ) (m : Meaning) (l : Link) → slice_get ms k ≡ Some m → slice_index_or (own_links_of rows places stripped ms) k l ≡ own_link_of rows places stripped m
own_link_there rows places stripped [] k m l e = cc
own_link_there rows places stripped (z ∷ ms) zero m l e = ap (own_link_of rows places stripped) (same z m e)
  where
    same : (z m : Meaning) → Some z ≡ Some m → z ≡ m
    same z m e = cc
own_link_there rows places stripped (z ∷ ms) (suc k) m l e = own_link_there rows places stripped ms k m l e

count_links : (rows : List Row) (places : List (Option ℕ)) (stripped : List ℕ) (ms : List Meaning) → length (own_links_of rows places stripped ms) ≡ length ms
count_links rows places stripped [] = refl
count_links rows places stripped (m ∷ ms) = ap suc (count_links rows places stripped ms)

module _ (t : Table) (one_ref : (n m : ℕ) (a b : Ref) → IsRef t n a → IsRef t m b → (n ≡ m) ↔ (a ≡ b)) (xs : List L.Definition) (root : Text) (refs : List Ref) (c : Closed) (is : IsClosed xs root refs t c) (own : List Link) (are : own ≡ own_links_of t.rows c.places.items c.stripped.items c.meanings.items) where
  abbrev places : List (Option ℕ)
  places = c.places.items

  record Links (i : ℕ) (r : Ref) (y : Term) : Type 0 where
    call : ℕ
    ref : IsRef t call r
    row : ℕ
    term : IsTerm t row (stripped y)
    link : slice_index_or own i (LinkV.Next i) ≡ ended_at call (link_to row (named_place t.rows places row))

  links_at : (k i : ℕ) (r : Ref) (o : Opened) (y : Term) → slice_get refs i ≡ Some r → (l : Leads k xs r o) → l.body ≡ y → Links i r y
  links_at k i r o y e l same =
      let m = alike_at (IsMeaning xs t) refs c.meanings.items is.meanings i r e in
      let from = links_from t one_ref xs root refs c is (links_of t.rows places c.stripped.items c.meanings.items) refl i r l.body e (sole_type k xs r o l) in
      let link = sym (link_there t.rows places c.stripped.items c.meanings.items i m.0 (LinkV.Next i) m.1) ∙ from.link in
      record {
        call = m.0.call;
        ref = m.2.ref;
        row = from.row;
        term = subst (λ z. IsTerm t from.row (stripped z)) same from.term;
        link = ap (λ (ls : List Link). slice_index_or ls i (LinkV.Next i)) are ∙ own_link_there t.rows places c.stripped.items c.meanings.items i m.0 (LinkV.Next i) m.1 ∙ ap (ended_at m.0.call) link;
      }

  EndsIn : ℕ → ℕ → Ref → Type 0
  EndsIn k i r = EndsAt xs t refs r (Some (end_within own k i))

  at_end : (k i : ℕ) (r : Ref) (o : Opened) (s : Steps k xs r o) → slice_get refs i ≡ Some r → Links i r (fill s.definition.parameters (arguments_of r) s.type) → is_name (stripped s.type) ≡ false → held (stripped (fill s.definition.parameters (arguments_of r) s.type)) ≡ Some o → EndsIn (suc k) i r
  unfolding EndsIn
  at_end k i r o s e l none h =
      let place = (holding t places l.row (stripped (fill s.definition.parameters (arguments_of r) s.type)) o h l.term).place in
      record {
        end = r;
        place = i;
        there = e;
        number = l.call;
        told = ap (λ z. Some (end_by (λ j. end_within own k j) z)) (l.link ∙ ap (λ p. ended_at l.call (link_to l.row p)) place);
        ref = l.ref;
        way = at_once;
        type = stripped s.type;
        itself = record { definition = s.definition; type = s.type; sole = s.sole; body = s.body; same = refl };
        no_name = none;
      }

  on_way : (k i : ℕ) (r : Ref) (o : Opened) (s : Steps k xs r o) (h : Ref) → Links i r (fill s.definition.parameters (arguments_of r) s.type) → stripped s.type ≡ named h → is_in s.definition.parameters (name_of h) ≡ false → stripped (fill s.definition.parameters (arguments_of r) s.type) ≡ named (fill_ref s.definition.parameters (arguments_of r) h) → Reaches xs root (fill_ref s.definition.parameters (arguments_of r) h) → ((j : ℕ) → slice_get refs j ≡ Some (fill_ref s.definition.parameters (arguments_of r) h) → EndsIn k j (fill_ref s.definition.parameters (arguments_of r) h)) → EndsIn (suc k) i r
  unfolding EndsIn
  on_way k i r o s h l e none f reached next =
      let to = fill_ref s.definition.parameters (arguments_of r) h in
      let names = refers t l.row F.Named to (subst (IsTerm t l.row) f l.term) in
      let p = place_found t one_ref xs root refs c is names.number to names.ref reached in
      let place : named_place t.rows places l.row ≡ Some p.0 = ap (place_in places) names.at_row ∙ named_first names.row.form names.row.first (Some names.number) names.form names.first ∙ p.1 in
      let w = next p.0 p.2 in
      record {
        end = w.end;
        place = w.place;
        there = w.there;
        number = w.number;
        told = ap (λ z. Some (end_by (λ j. end_within own k j) z)) (l.link ∙ ap (λ q. ended_at l.call (link_to l.row q)) place) ∙ w.told;
        ref = w.ref;
        way = through {h = h} (record { definition = s.definition; type = s.type; sole = s.sole; body = s.body; same = e }) none w.way;
        type = w.type;
        itself = w.itself;
        no_name = w.no_name;
      }
    where
      named_first : (f : Form) (i j : Option ℕ) → f ≡ F.Named → i ≡ j → place_by places f i ≡ place_at places j
      named_first f i j e g = ap (λ (z : Form). place_by places z i) e ∙ ap (place_at places) g

  ends_in : (k i : ℕ) (r : Ref) (o : Opened) → slice_get refs i ≡ Some r → opened_in k xs r ≡ Some o → EndsIn k i r
  ends_in zero i r o e f = cc
  ends_in (suc k) i r o e f =
      let s = steps k xs r o f in
      let y = fill s.definition.parameters (arguments_of r) s.type in
      let l : Leads k xs r o = record { body = y; sole = s.filled; way = type_leads (λ q. opened_in k xs q) s.definition.parameters (arguments_of r) o s.type s.leads } in
      by s e (links_at k i r o y e l refl) (body_reached xs root r y s.filled (instance_reached t one_ref xs root refs c is i r e)) (way_of (λ q. opened_in k xs q) s.definition.parameters (arguments_of r) o s.type s.leads) (ends_in k)
    where
      by : (s : Steps k xs r o) → slice_get refs i ≡ Some r → Links i r (fill s.definition.parameters (arguments_of r) s.type) → AreReached xs root (points (fill s.definition.parameters (arguments_of r) s.type)) → WayOf (λ q. opened_in k xs q) s.definition.parameters (arguments_of r) o s.type → ((j : ℕ) (q : Ref) (z : Opened) → slice_get refs j ≡ Some q → opened_in k xs q ≡ Some z → EndsIn k j q) → EndsIn (suc k) i r
      by s q l reached (holds_it none h) next = at_end k i r o s q l none h
      by s q l reached (goes_on h e none f w) next = on_way k i r o s h l e none f (name_reached xs root (fill s.definition.parameters (arguments_of r) s.type) (fill_ref s.definition.parameters (arguments_of r) h) f reached) (λ j z. next j (fill_ref s.definition.parameters (arguments_of r) h) o z w)

  pub are_endings : (most : ℕ) → most ≡ most_names xs → (ends : List (Option ℕ)) → AreEnds own most ends → AreEndings xs t refs ends
  unfolding EndsIn
  are_endings most enough ends are_ends k r o e f =
      let m = alike_at (IsMeaning xs t) refs c.meanings.items is.meanings k r e in
      let short : k < length own = subst (λ z. k < z) (sym (ap length are ∙ count_links t.rows places c.stripped.items c.meanings.items)) (within c.meanings.items k m.0 m.1) in
      subst (EndsAt xs t refs r) (sym (are_ends.each k short)) (ends_in most k r o e (subst (λ (z : ℕ). opened_in z xs r ≡ Some o) (sym enough) f))
