-- What rows need, by the terms that they stand for.
use Rattle.std.proofs.Common.{◌≡◌, ◌↔◌, ℕ, zero, suc, Bool, true, false, if◌then◌else◌, List, [], ◌∷◌, Option, Some, None, slice_get, refl, sym, ap, ap₂, subst, ◌∙◌, arith}
use Rattle.std.specs.Prelude.{Contains}
use Rattle.std.proofs.lemmas.List.Elements.{Contains-append_left, Contains-append_right}
use Rattle.cddl_literal.specs.Numbers.{Meaning}
use Rattle.cddl_meaning.specs.Alike.{AlikeAll, none, both}
use Rattle.cddl_language.specs.Controls.{Computation, Control, left_alone, left_and_right, held_item, held_sequence, compared, member, computed, computation_in, control_of}
use Rattle.cddl_language.specs.Terms.{Text, Literal, number, text, bytes, Term, literal, named, parens, map_of, array_of, unwrapped, choice_of, choice_of_name, tagged, tagged_by, simple_by, hash, range, control, or, Ref, call, Definition, name_of}
use Rattle.cddl_language.specs.Substitution.{type_choices}
use Rattle.cddl_language.specs.Kinds.{is_group}
use Rattle.cddl_language.specs.Reach.{at_name, Reaches, points}
use Rattle.cddl_language.specs.Literals.{Means, Values, computed_literal, controlled_literal, literal_by, only_choice}
use Rattle.check_terms.specs.declared.row.Form.{Form}
use Rattle.check_terms.specs.declared.row.Form.TheVariants as F
use Rattle.check_terms.specs.declared.row.Row.{Row}
use Rattle.check_terms.specs.Table.{Table, Tree, nothing as no_tree, node, Holds, part, some_text}
use Rattle.check_terms.specs.Trees.{IsRef, IsTerm, ref_tree, term_tree}
use Rattle.check_names.specs.declared.kinds.kinds.Kinds.{Kinds}
use Rattle.check_names.specs.Kinds.Kinds.{AreKinds}
use Rattle.check_instances.specs.declared.closed.closed.Closed.{Closed}
use Rattle.check_instances.specs.declared.closed.closed.Meaning as M
use Rattle.check_instances.specs.Closed.Closed.{IsClosed, IsMeaning, TermRow}
use Rattle.cddl_language.specs.Written.Written.{AllIn, IsMeant}
use Rattle.check_literals.specs.Literals.{IsKnown}
use Rattle.check_literals.specs.Needs as N
use Rattle.check_literals.specs.Needs.{Need, nothing, written, inside, choice, answer_there, both_of, has_group_name, lone, need_at, need_in, only_type, place_of, type_in, type_there}
use Rattle.check_literals.specs.Written.{written_at, written_by, written_in}
use Rattle.check_literals.proofs.Reaching.{choice_reached}

abbrev pub SameRefs : Table → Type 0
SameRefs t = (n m : ℕ) (a b : Ref) → IsRef t n a → IsRef t m b → (n ≡ m) ↔ (a ≡ b)

-- what a control computes, and that others compute nothing

pub computes : (o : Option Control) (c : Computation) (u v : Option Meaning) → computation_in o ≡ Some c → controlled_literal o u v ≡ computed_literal c u v
computes None c u v e = absurd (cc)
computes (Some (computed d)) c u v e = let same : d ≡ c = cc in ap (λ x. computed_literal x u v) same
computes (Some left_alone) c u v e = absurd (cc)
computes (Some left_and_right) c u v e = absurd (cc)
computes (Some held_item) c u v e = absurd (cc)
computes (Some held_sequence) c u v e = absurd (cc)
computes (Some (compared d)) c u v e = absurd (cc)
computes (Some (member m)) c u v e = absurd (cc)

computes_none : (o : Option Control) (u v : Option Meaning) → computation_in o ≡ None → controlled_literal o u v ≡ None
computes_none None u v e = refl
computes_none (Some (computed d)) u v e = absurd (cc)
computes_none (Some left_alone) u v e = refl
computes_none (Some left_and_right) u v e = refl
computes_none (Some held_item) u v e = refl
computes_none (Some held_sequence) u v e = refl
computes_none (Some (compared d)) u v e = refl
computes_none (Some (member m)) u v e = refl

-- the rows of parts

abbrev is_tree : Tree → Type 0
is_tree no_tree = ⊥
is_tree (node f x a b) = Unit {0}

term_is_tree : (x : Term) → is_tree (term_tree x)
term_is_tree (literal (number s)) = tt
term_is_tree (literal (text s)) = tt
term_is_tree (literal (bytes s)) = tt
term_is_tree (named r) = tt
term_is_tree (parens u) = tt
term_is_tree (map_of g) = tt
term_is_tree (array_of g) = tt
term_is_tree (unwrapped r) = tt
term_is_tree (choice_of g) = tt
term_is_tree (choice_of_name r) = tt
term_is_tree (tagged x u) = tt
term_is_tree (tagged_by h u) = tt
term_is_tree (simple_by h) = tt
term_is_tree (hash x) = tt
term_is_tree (range a c b) = tt
term_is_tree (control a x b) = tt
term_is_tree (or u v) = tt

row_of : (t : Table) (o : Option ℕ) (x : Tree) → is_tree x → Holds t o x → (n : ℕ) × (o ≡ Some n) × Holds t (Some n) x
row_of t None no_tree h holds = absurd h
row_of t None (node f x a b) h holds = elim holds [ ]
row_of t (Some n) x h holds = (n, refl, holds)

term_row : (t : Table) (o : Option ℕ) (x : Term) → Holds t o (term_tree x) → (n : ℕ) × (o ≡ Some n) × IsTerm t n x
term_row t o x h = row_of t o (term_tree x) (term_is_tree x) h

ref_row : (t : Table) (o : Option ℕ) (r : Ref) → Holds t o (ref_tree r) → (n : ℕ) × (o ≡ Some n) × IsRef t n r
ref_row t o (call n ts) (part {n = k} e h a b) = (k, refl, part e h a b)

-- what the term needs, and what its literal is by that

module _ (xs : List Definition) (root : Text) (worth : Values) (t : Table) where
  pub data IsNeedOf (n : ℕ) : Term → Need → Type 0 where
    of_literal : {v : Literal} → written_at t n ≡ Some v → Means v (worth v) → IsNeedOf n (literal v) (written n)
    of_parens : {m : ℕ} {y : Term} → IsTerm t m y → IsKnown xs root worth y → IsNeedOf n (parens y) (inside m)
    of_name : {m : ℕ} {r : Ref} {y : Term} → is_group xs (name_of r) ≡ false → type_choices xs r ≡ y ∷ [] → IsTerm t m y → IsKnown xs root worth y → IsNeedOf n (named r) (choice m)
    of_control : {i j : ℕ} {a b : Term} {m : Text} {c : Computation} → computation_in (control_of m) ≡ Some c → IsTerm t i a → IsKnown xs root worth a → IsTerm t j b → IsKnown xs root worth b → IsNeedOf n (control a m b) (N.both c i j)
    of_other : {x : Term} → ((next : Term → Option Meaning) → literal_by worth xs next x ≡ None) → IsNeedOf n x nothing

  module _ (refs : List Ref) (c : Closed) (ks : Kinds) (is : IsClosed xs root refs t c) (same : SameRefs t) (kinds : AreKinds t.texts xs ks) (meant : (r : Ref) → Reaches xs root r → (y : Term) → Contains (type_choices xs r) y → AllIn (IsMeant worth) y) where
    meaning_at : (rs : List Ref) (ms : List M.Meaning) → AlikeAll (IsMeaning xs t) rs ms → (i : ℕ) (r : Ref) → slice_get rs i ≡ Some r → (m : M.Meaning) × (slice_get ms i ≡ Some m) × IsMeaning xs t r m
    meaning_at rs ms none i r e = cc
    meaning_at rs ms (both {n = s} {m = m} h a) zero r e = (m, refl, subst (λ z. IsMeaning xs t z m) (one s r e) h)
      where
        one : (s r : Ref) → Some s ≡ Some r → s ≡ r
        one s r e = cc
    meaning_at rs ms (both h a) (suc i) r e = meaning_at _ _ a i r e

    group_name : (n : ℕ) (r : Ref) → IsRef t n r → has_group_name ks (slice_get t.rows n) ≡ is_group xs (name_of r)
    group_name n (call m ts) (part e (some_text {n = i} g) a b) = ap (has_group_name ks) e ∙ kinds.groups i m g

    known_choice : (r : Ref) → Reaches xs root r → (y : Term) → Contains (type_choices xs r) y → IsKnown xs root worth y
    known_choice r reached y here = (choice_reached xs root r y reached here, meant r reached y here)

    -- by the choices of the name, and their rows
    name_need : (n : ℕ) (r : Ref) (b : Bool) → is_group xs (name_of r) ≡ b → (ys : List Term) → type_choices xs r ≡ ys → (ns : List ℕ) → AlikeAll (TermRow t) ys ns → ((y : Term) → Contains ys y → IsKnown xs root worth y) → IsNeedOf n (named r) (N.choice_of (if b then None else lone ns))
    name_need n r true e ys q ns a known = of_other (λ next. ap (λ g. if g then None else only_choice worth xs next (type_choices xs r)) e)
    name_need n r false e ys q ns none known = of_other (λ next. ap₂ (λ g zs. if g then None else only_choice worth xs next zs) e q)
    name_need n r false e ys q ns (both {n = y} h none) known = of_name e q h (known y (0, omega arith, refl))
    name_need n r false e ys q ns (both h (both g a)) known = of_other (λ next. ap₂ (λ g zs. if g then None else only_choice worth xs next zs) e q)

    -- the choice that is told of the place of a reference
    type_of : (r : Ref) (i : Option ℕ) → Holds t i (ref_tree r) → Reaches xs root r → (m : M.Meaning) × (type_there t.rows ks c.meanings.items (place_of c.places.items i) ≡ only_type t.rows ks m) × IsMeaning xs t r m
    type_of r i h reached =
        let row = ref_row t i r h in
        let place = is.places.found row.0 r row.2 (is.instances.all r reached) in
        let at = is.places.told row.0 place.0 place.1 in
        let equal : at.0 ≡ r = (same row.0 row.0 at.0 r at.2 row.2).0 refl in
        let m = meaning_at refs c.meanings.items is.meanings place.0 r (at.1 ∙ ap Some equal) in
        let there = ap (place_of c.places.items) row.1 ∙ ap answer_there place.1 in
        (m.0, ap (type_there t.rows ks c.meanings.items) there ∙ ap (type_in t.rows ks) m.1, m.2)

    named_need : (n : ℕ) (r : Ref) (i : Option ℕ) → Holds t i (ref_tree r) → Reaches xs root r → IsNeedOf n (named r) (N.choice_of (type_there t.rows ks c.meanings.items (place_of c.places.items i)))
    named_need n r i h reached =
        let m = type_of r i h reached in
        let told = m.1 ∙ ap (λ b. if b then None else lone (m.0).types.items) (group_name (m.0).call r (m.2).ref) in
        subst (λ o. IsNeedOf n (named r) (N.choice_of o)) (sym told) (name_need n r (is_group xs (name_of r)) refl (type_choices xs r) refl (m.0).types.items (m.2).types (known_choice r reached))

    control_need : (n i j : ℕ) (a b : Term) (m : Text) → IsTerm t i a → IsKnown xs root worth a → IsTerm t j b → IsKnown xs root worth b → (o : Option Computation) → computation_in (control_of m) ≡ o → IsNeedOf n (control a m b) (both_of o (Some i) (Some j))
    control_need n i j a b m h p g q (Some c) e = of_control e h p g q
    control_need n i j a b m h p g q None e = of_other (λ next. computes_none (control_of m) (literal_by worth xs next a) (literal_by worth xs next b) e)

    at_row : (n : ℕ) (x : Term) (r : Row) → slice_get t.rows n ≡ Some r → IsNeedOf n x (need_in t c ks n (Some r)) → IsNeedOf n x (need_at t c ks n)
    at_row n x r e h = subst (IsNeedOf n x) (sym (ap (need_in t c ks n) e)) h

    literal_need : (n : ℕ) (v : Literal) (f : Form) (m : ℕ) (s : Text) (i j : Option ℕ) → slice_get t.rows n ≡ Some (record { form = f; text = Some m; first = i; second = j }) → slice_get t.texts m ≡ Some s → written_by f (Some s) ≡ Some v → Means v (worth v) → IsNeedOf n (literal v) (written n)
    literal_need n v f m s i j e g w h = of_literal (ap (written_in t.texts) e ∙ ap (written_by f) g ∙ w) h

    pub left_known : (a b : Term) (m : Text) → IsKnown xs root worth (control a m b) → IsKnown xs root worth a
    left_known a b m known = (λ p h. known.0 p (Contains-append_left (points a) (points b) p h), (known.1).0)

    pub right_known : (a b : Term) (m : Text) → IsKnown xs root worth (control a m b) → IsKnown xs root worth b
    right_known a b m known = (λ p h. known.0 p (Contains-append_right (points a) (points b) p h), (known.1).1)

    controlled_need : (n : ℕ) (a b : Term) (m : Text) (i j : Option ℕ) → Holds t i (term_tree a) → Holds t j (term_tree b) → IsKnown xs root worth (control a m b) → IsNeedOf n (control a m b) (both_of (computation_in (control_of m)) i j)
    controlled_need n a b m i j h g known =
        let first = term_row t i a h in
        let second = term_row t j b g in
        subst (λ o. IsNeedOf n (control a m b) (both_of (computation_in (control_of m)) o j)) (sym first.1)
        (subst (λ o. IsNeedOf n (control a m b) (both_of (computation_in (control_of m)) (Some first.0) o)) (sym second.1)
        (control_need n first.0 second.0 a b m first.2 (left_known a b m known) second.2 (right_known a b m known) (computation_in (control_of m)) refl))

    parens_need : (n : ℕ) (y : Term) (i : Option ℕ) → Holds t i (term_tree y) → IsKnown xs root worth y → IsNeedOf n (parens y) (N.inside_of i)
    parens_need n y i h known = let row = term_row t i y h in subst (λ o. IsNeedOf n (parens y) (N.inside_of o)) (sym row.1) (of_parens row.2 known)

    pub need_of : (n : ℕ) (x : Term) → IsTerm t n x → IsKnown xs root worth x → IsNeedOf n x (need_at t c ks n)
    need_of n (literal (number s)) (part e (some_text {n = m} g) a b) known = at_row n (literal (number s)) _ e (literal_need n (number s) F.Number m s _ _ e g refl known.1)
    need_of n (literal (text s)) (part e (some_text {n = m} g) a b) known = at_row n (literal (text s)) _ e (literal_need n (text s) F.Text m s _ _ e g refl known.1)
    need_of n (literal (bytes s)) (part e (some_text {n = m} g) a b) known = at_row n (literal (bytes s)) _ e (literal_need n (bytes s) F.Bytes m s _ _ e g refl known.1)
    need_of n (named r) (part e h a b) known = at_row n (named r) _ e (named_need n r _ a (known.0 (at_name r) (0, omega arith, refl)))
    need_of n (parens y) (part e h a b) known = at_row n (parens y) _ e (parens_need n y _ a known)
    need_of n (control a m b) (part {i = i} {j = j} e (some_text g) h k) known = at_row n (control a m b) _ e (subst (λ o. IsNeedOf n (control a m b) (both_of (computation_in (N.control_by o)) i j)) (sym g) (controlled_need n a b m i j h k known))
    need_of n (map_of g) (part e h a b) known = at_row n (map_of g) _ e (of_other (λ next. refl))
    need_of n (array_of g) (part e h a b) known = at_row n (array_of g) _ e (of_other (λ next. refl))
    need_of n (unwrapped r) (part e h a b) known = at_row n (unwrapped r) _ e (of_other (λ next. refl))
    need_of n (choice_of g) (part e h a b) known = at_row n (choice_of g) _ e (of_other (λ next. refl))
    need_of n (choice_of_name r) (part e h a b) known = at_row n (choice_of_name r) _ e (of_other (λ next. refl))
    need_of n (tagged x u) (part e h a b) known = at_row n (tagged x u) _ e (of_other (λ next. refl))
    need_of n (tagged_by x u) (part e h a b) known = at_row n (tagged_by x u) _ e (of_other (λ next. refl))
    need_of n (simple_by x) (part e h a b) known = at_row n (simple_by x) _ e (of_other (λ next. refl))
    need_of n (hash x) (part e h a b) known = at_row n (hash x) _ e (of_other (λ next. refl))
    need_of n (range x true y) (part e h a b) known = at_row n (range x true y) _ e (of_other (λ next. refl))
    need_of n (range x false y) (part e h a b) known = at_row n (range x false y) _ e (of_other (λ next. refl))
    need_of n (or x y) (part e h a b) known = at_row n (or x y) _ e (of_other (λ next. refl))

    -- a control that computes needs both sides
    pub both_there : (n : ℕ) (a b : Term) (m : Text) (d : Computation) → IsTerm t n (control a m b) → computation_in (control_of m) ≡ Some d → (i : ℕ) × (j : ℕ) × (need_at t c ks n ≡ N.both d i j) × IsTerm t i a × IsTerm t j b
    both_there n a b m d (part {i = i} {j = j} e (some_text g) h k) computes_so =
        let first = term_row t i a h in
        let second = term_row t j b k in
        let text_there = ap (λ o. both_of (computation_in (N.control_by o)) i j) g in
        let sides = ap₂ (λ o u. both_of o u j) computes_so first.1 ∙ ap (both_of (Some d) (Some first.0)) second.1 in
        (first.0, second.0, ap (need_in t c ks n) e ∙ text_there ∙ sides, first.2, second.2)
