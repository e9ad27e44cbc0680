-- What the types of the table are of, by numbers and by the names for which they stand.
use Rattle.std.proofs.Common.{◌≡◌, ℕ, Bool, true, false, List, Option, Some, None, option_map, slice_get, refl, sym, ap, subst, ◌∙◌}
use Rattle.std.proofs.lemmas.Option.{slice_get-map}
use Rattle.lists.proofs.Lemmas.{no_some, one_of, place_of, same_some}
use Rattle.tree_nodes.specs.Syntax.Syntax as S
use Rattle.cddl_language.specs.Language.{TypeName, reference, type, word}
use Rattle.cddl_language.specs.Reading.{name_in, rules_of, term_of, text_of}
use Rattle.cddl_language.specs.Terms.{Ref, Term, Text, call, name_of}
use Rattle.check_terms.specs.Table.{Table, part, some_text}
use Rattle.check_terms.specs.Trees.{IsRef, IsTerm}
use Rattle.table_making.specs.Basis.{Sense}
use Rattle.table_making.specs.Nodes.{IsNameOfType}
use Rattle.table_making.specs.Origins.{IsTypeOrigin, of_row, of_instance, of_word}
use Rattle.table_making.specs.declared.origin.TypeOrigin.{TypeOrigin}
use Rattle.table_making.specs.declared.origin.TypeOrigin.TheVariants as T
use Rattle.table_nodes.specs.declared.nodes.TypeId.{TypeId}
use Rattle.table_making.specs.declared.making.Nodes.{Nodes}
use Rattle.type_links.specs.declared.link.Link.{Link}
use Rattle.type_links.specs.declared.link.Link.TheVariants as L
use Rattle.source_pieces.specs.Origins.{IsClosedOrigin, MayBeClosed, in_its_place, is_of, may_be_group, no_type, of_type, of_value as of_keyed, of_word as of_token}
use Rattle.source_pieces.specs.Pieces.{Around, Piece, a_value, name_of_piece}
use Rattle.source_places.specs.Places.{BeginsWithInstance, IsOf, IsOfNoRule, LeadsTo}
use Rattle.source_pieces.specs.Rules.{IsRuleAt}
use Rattle.source_places.specs.Sources.{AreTypesOf}
use Rattle.source_places.specs.Spots.{Spot}
use Rattle.source_places.specs.States.{ArePassed, HasNoRule, HasNumber, flattened, name_number, number_at, number_in, origin_at, text_in}
use Rattle.source_places.specs.declared.sources.TypesInText.{TypesInText}

-- the name of a reference, by its row
call_number : (t : Table) (n : ℕ) (q : Ref) → IsRef t n q → (k : ℕ) × (text_in (slice_get t.rows n) ≡ Some k) × (slice_get t.texts k ≡ Some (name_of q))
call_number t n (call name ts) (part e (some_text {n = m} g) a b) = (m, ap text_in e, g)

module _ (s : Sense) (terms : Table) (nodes : Nodes) (x : TypesInText) (closed : S.Rule → Term → Term) (k : AreTypesOf closed s terms nodes x) where
  -- an instance has the number of its name

  pub instance_name : (i : ℕ) (q : Ref) → slice_get s.refs i ≡ Some q → (n : ℕ) × (slice_get x.numbers.items i ≡ Some (Some n)) × (slice_get k.made.more.texts n ≡ Some (name_of q))
  instance_name i q f =
      let w = k.are_meanings i q f in
      let c = call_number terms w.0.call q w.2 in
      let numbers : slice_get x.numbers.items i ≡ Some (Some c.0) =
      ap (λ (ns : List (Option ℕ)). slice_get ns i) k.made.numbers
      ∙ slice_get-map (name_number terms.rows) k.meanings i
      ∙ ap (option_map (name_number terms.rows)) w.1
      ∙ ap Some c.1 in
      (c.0, numbers, k.made.grows.texts c.0 (name_of q) c.2)

  type_number : (q : Ref) (m : TypeId) → IsNameOfType s terms nodes (reference q) m → (n : ℕ) × (number_at x (L.Type m) ≡ Some n) × (slice_get k.made.more.texts n ≡ Some (name_of q))
  type_number q m h = by h.origin h.there h.named
    where
      by : (o : TypeOrigin) → slice_get nodes.type_origins.items m.number ≡ Some o → IsTypeOrigin s terms (reference q) o → (n : ℕ) × (number_at x (L.Type m) ≡ Some n) × (slice_get k.made.more.texts n ≡ Some (name_of q))
      by o e (of_instance {k = i} f g) =
          let c = instance_name i q f in
          (c.0, ap (number_in x.numbers.items) (ap (λ os. slice_get os m.number) k.made.origins ∙ e) ∙ ap flattened c.1, c.2)

  pub instance_number : (q : Ref) (m : Link) → LeadsTo (IsNameOfType s terms nodes) (reference q) m → (n : ℕ) × (number_at x m ≡ Some n) × (slice_get k.made.more.texts n ≡ Some (name_of q))
  instance_number q (L.Type m) h = type_number q m h
  instance_number q (L.Alternative i) h = absurd h
  instance_number q (L.Entry i) h = absurd h
  instance_number q (L.Key i) h = absurd h

  -- what has the number of a name is an instance of it

  type_of : (m : TypeId) (n : ℕ) → number_at x (L.Type m) ≡ Some n → (q : Ref) × IsNameOfType s terms nodes (reference q) m × (slice_get k.made.more.texts n ≡ Some (name_of q))
  type_of m n e = by (slice_get x.origins.items m.number) refl e
    where
      is_of : (i : ℕ) (y : TypeName) → slice_get nodes.type_origins.items m.number ≡ Some (T.Instance i) → IsTypeOrigin s terms y (T.Instance i) → (q : Ref) × IsNameOfType s terms nodes (reference q) m × (slice_get k.made.more.texts n ≡ Some (name_of q))
      is_of i y there (of_instance {r = q} f g) =
          let named : IsNameOfType s terms nodes (reference q) m = record { origin = T.Instance i; there = there; named = of_instance f g } in
          let c = type_number q m named in
          (q, named, subst (λ (j : ℕ). slice_get k.made.more.texts j ≡ Some (name_of q)) (same_some (sym c.1 ∙ e)) c.2)

      by : (o : Option TypeOrigin) → slice_get x.origins.items m.number ≡ o → number_in x.numbers.items o ≡ Some n → (q : Ref) × IsNameOfType s terms nodes (reference q) m × (slice_get k.made.more.texts n ≡ Some (name_of q))
      by None f g = cc
      by (Some (T.Row i)) f g = cc
      by (Some (T.Chosen i)) f g = cc
      by (Some (T.Word i)) f g = cc
      by (Some (T.Instance i)) f g =
          let there = ap (λ os. slice_get os m.number) (sym k.made.origins) ∙ f in
          let named = k.are_nodes.types_named m.number (T.Instance i) there in
          is_of i named.0 there named.1

  instance_of : (m : Link) (n : ℕ) → number_at x m ≡ Some n → (q : Ref) × LeadsTo (IsNameOfType s terms nodes) (reference q) m × (slice_get k.made.more.texts n ≡ Some (name_of q))
  instance_of (L.Type m) n e = type_of m n e
  instance_of (L.Alternative i) n e = cc
  instance_of (L.Entry i) n e = cc
  instance_of (L.Key i) n e = cc

  -- a rule with the number of a name has that name
  pub named_rule : (i n : ℕ) (y : Text) → (h : HasNumber x i n) → slice_get k.made.more.texts n ≡ Some y → (r : S.Rule) × (slice_get (rules_of s.tree) i ≡ Some r) × IsRuleAt k.made.more r h.at × (name_in r ≡ y)
  named_rule i n y h e =
      let w = k.made.rules.told i h.at h.there in
      (w.0, w.1, w.2, same_some (sym w.2.number ∙ ap (slice_get k.made.more.texts) h.same ∙ e))

  pub no_rule : (m : Link) → HasNoRule x m → IsOfNoRule (rules_of s.tree) (IsNameOfType s terms nodes) m
  no_rule m none r c i =
      let n = instance_number i.0 m i.1 in
      let at = place_of (rules_of s.tree) r c in
      let a = k.made.rules.all at.0 r at.1 in
      let w = k.made.rules.told at.0 a.0 a.1 in
      let is : w.0 ≡ r = one_of (slice_get (rules_of s.tree) at.0) w.0 r w.1 at.1 in
      let named : slice_get k.made.more.texts a.0.number ≡ Some (name_of i.0) = w.2.number ∙ ap Some (ap name_in is ∙ sym i.2) in
      none n.0 at.0 n.1 (record { at = a.0; there = a.1; same = sym (k.made.distinct n.0 a.0.number (name_of i.0) n.2 named) })

  -- what stands in the text with the origin of a type is what the type is of
  type_named : (f : Term → Term) (p : Piece) (o : TypeOrigin) (id : TypeId) → slice_get x.origins.items id.number ≡ Some o → IsClosedOrigin f k.made.more p o → (y : TypeName) × (name_of_piece f p ≡ Some y) × IsNameOfType s terms nodes y id
  type_named f p o id e h = by p o h there named.0 named.1
    where
      there : slice_get nodes.type_origins.items id.number ≡ Some o
      there = ap (λ os. slice_get os id.number) (sym k.made.origins) ∙ e

      named : (z : TypeName) × IsTypeOrigin s terms z o
      named = k.are_nodes.types_named id.number o there

      row : (y : S.Types) (n : ℕ) → IsTerm k.made.more n (f (term_of y)) → (z : TypeName) → IsTypeOrigin s terms z (T.Row n) → IsTypeOrigin s terms (type (f (term_of y))) (T.Row n)
      row y n h z (of_row {x = v} g c w) = subst (λ (u : Term). IsTypeOrigin s terms (type u) (T.Row n)) (k.made.one_term n v (f (term_of y)) (k.made.stays _ _ g) h) (of_row g c w)

      token : (y : Text) (n : ℕ) → slice_get k.made.more.texts n ≡ Some y → (z : TypeName) → IsTypeOrigin s terms z (T.Word n) → IsTypeOrigin s terms (word y) (T.Word n)
      token y n h z (of_word {n = v} g) = subst (λ (u : Text). IsTypeOrigin s terms (word u) (T.Word n)) (one_of (slice_get k.made.more.texts n) v y (k.made.grows.texts n v g) h) (of_word g)

      by : (p : Piece) (q : TypeOrigin) → IsClosedOrigin f k.made.more p q → slice_get nodes.type_origins.items id.number ≡ Some q → (z : TypeName) → IsTypeOrigin s terms z q → (y : TypeName) × (name_of_piece f p ≡ Some y) × IsNameOfType s terms nodes y id
      by p q (of_type {x = y} {n = n} h) e z g = (type (f (term_of y)), refl, record { origin = q; there = e; named = row y n h z g })
      by p q (of_token {w = w} {k = n} h) f z g = (word (text_of w), refl, record { origin = q; there = f; named = token (text_of w) n h z g })
      by p q (of_keyed {x = y} {n = n} h) e z g = (type (f (term_of y)), refl, record { origin = q; there = e; named = row y n h z g })

  pub named_piece : (at : Spot) (r : S.Rule) → slice_get (rules_of s.tree) at.rule ≡ Some r → (p : Piece) (o : TypeOrigin) (m : Link) → origin_at x m ≡ Some o → IsClosedOrigin (closed r) k.made.more p o → IsOf (rules_of s.tree) (IsNameOfType s terms nodes) closed at p m
  named_piece at r there p o (L.Type m) e h = let w = type_named (closed r) p o m e h in (r, there, w.0, w.1, w.2)
  named_piece at r there p o (L.Alternative i) e h = cc
  named_piece at r there p o (L.Entry i) e h = cc
  named_piece at r there p o (L.Key i) e h = cc

  -- a link with an origin is to a type, and one to a type has an origin

  pub led_to : (m : Link) (o : TypeOrigin) → origin_at x m ≡ Some o → (y : TypeName) × LeadsTo (IsNameOfType s terms nodes) y m
  led_to (L.Type m) o e =
      let there = ap (λ os. slice_get os m.number) (sym k.made.origins) ∙ e in
      let named = k.are_nodes.types_named m.number o there in
      (named.0, record { origin = o; there = there; named = named.1 })
  led_to (L.Alternative i) o e = cc
  led_to (L.Entry i) o e = cc
  led_to (L.Key i) o e = cc

  pub led_from : (m : Link) (y : TypeName) → LeadsTo (IsNameOfType s terms nodes) y m → (o : TypeOrigin) × (origin_at x m ≡ Some o)
  led_from (L.Type m) y g = (g.origin, ap (λ os. slice_get os m.number) k.made.origins ∙ g.there)
  led_from (L.Alternative i) y g = absurd g
  led_from (L.Entry i) y g = absurd g
  led_from (L.Key i) y g = absurd g

  -- an origin that is an instance's is of a reference
  pub an_instance : (m : Link) (i : ℕ) → origin_at x m ≡ Some (T.Instance i) → (q : Ref) × LeadsTo (IsNameOfType s terms nodes) (reference q) m × (slice_get s.refs i ≡ Some q)
  an_instance (L.Alternative j) i e = cc
  an_instance (L.Entry j) i e = cc
  an_instance (L.Key j) i e = cc
  an_instance (L.Type m) i e = is_of named.0 named.1
    where
      there : slice_get nodes.type_origins.items m.number ≡ Some (T.Instance i)
      there = ap (λ os. slice_get os m.number) (sym k.made.origins) ∙ e

      named : (n : TypeName) × IsTypeOrigin s terms n (T.Instance i)
      named = k.are_nodes.types_named m.number (T.Instance i) there

      is_of : (y : TypeName) → IsTypeOrigin s terms y (T.Instance i) → (q : Ref) × IsNameOfType s terms nodes (reference q) m × (slice_get s.refs i ≡ Some q)
      is_of y (of_instance {r = q} f g) = (q, record { origin = T.Instance i; there = there; named = of_instance f g }, f)

  pub begins : (ids : List Link) (b : Bool) → ArePassed x b ids → BeginsWithInstance (rules_of s.tree) (IsNameOfType s terms nodes) ids
  begins ids true e = subst (BeginsWithInstance (rules_of s.tree) (IsNameOfType s terms nodes)) (sym e) tt
  begins ids false h = subst (BeginsWithInstance (rules_of s.tree) (IsNameOfType s terms nodes)) (sym h.3) (let w = an_instance h.0 h.2 h.4 in (w.0, w.1))

  -- what a type is of is of what stands in the text with its name
  same_origin : (f : Term → Term) (p : Piece) (o : TypeOrigin) → IsClosedOrigin f k.made.more p o → (y : TypeName) (u : TypeOrigin) → name_of_piece f p ≡ Some y → IsTypeOrigin s terms y u → o ≡ u
  same_origin f p o h y u e g = by p o h u (λ z d. subst (λ (w : TypeName). IsTypeOrigin s terms w u) (same_some (sym e ∙ d)) g)
    where
      row : (y : S.Types) (n : ℕ) → IsTerm k.made.more n (f (term_of y)) → (u : TypeOrigin) → IsTypeOrigin s terms (type (f (term_of y))) u → T.Row n ≡ u
      row y n h u (of_row {n = j} g c w) = ap T.Row (k.made.one_row n j (f (term_of y)) h (k.made.stays _ _ g))

      token : (y : Text) (n : ℕ) → slice_get k.made.more.texts n ≡ Some y → (u : TypeOrigin) → IsTypeOrigin s terms (word y) u → T.Word n ≡ u
      token y n h u (of_word {k = j} g) = ap T.Word (k.made.distinct n j y h (k.made.grows.texts j y g))

      by : (p : Piece) (o : TypeOrigin) → IsClosedOrigin f k.made.more p o → (u : TypeOrigin) → ((z : TypeName) → name_of_piece f p ≡ Some z → IsTypeOrigin s terms z u) → o ≡ u
      by p o (of_type {x = y} {n = n} h) u g = row y n h u (g (type (f (term_of y))) refl)
      by p o (of_token {w = w} {k = n} h) u g = token (text_of w) n h u (g (word (text_of w)) refl)
      by p o (of_keyed {x = y} {n = n} h) u g = row y n h u (g (type (f (term_of y))) refl)

  -- the type of a value is of one
  pub value_is_of : {f : Term → Term} {p : Piece} {o : Option TypeOrigin} → MayBeClosed f k.made.more p o → o ≡ None → (r : Around) (q : Piece) (z : S.Types) → p ≡ a_value r q z → ⊥
  value_is_of (is_of h) e r q z f = cc
  value_is_of no_type e r q z f = cc
  value_is_of may_be_group e r q z f = cc
  value_is_of in_its_place e r q z f = cc

  pub type_origin : (at : Spot) (r : S.Rule) → slice_get (rules_of s.tree) at.rule ≡ Some r → (p : Piece) (m : Link) → IsOf (rules_of s.tree) (IsNameOfType s terms nodes) closed at p m → (o : Option TypeOrigin) → MayBeClosed (closed r) k.made.more p o → (u : TypeOrigin) × (origin_at x m ≡ Some u) × (o ≡ Some u)
  type_origin at r there p m h o d = by p m h.4 d (subst (λ (q : S.Rule). name_of_piece (closed q) p ≡ Some h.2) (one_of (slice_get (rules_of s.tree) at.rule) h.0 r h.1 there) h.3)
    where
      by : (p : Piece) (m : Link) → LeadsTo (IsNameOfType s terms nodes) h.2 m → {o : Option TypeOrigin} → MayBeClosed (closed r) k.made.more p o → name_of_piece (closed r) p ≡ Some h.2 → (u : TypeOrigin) × (origin_at x m ≡ Some u) × (o ≡ Some u)
      by p (L.Alternative i) g d e = absurd g
      by p (L.Entry i) g d e = absurd g
      by p (L.Key i) g d e = absurd g
      by p (L.Type m) g (is_of {u = v} d) e = (g.origin, ap (λ os. slice_get os m.number) k.made.origins ∙ g.there, ap Some (same_origin (closed r) p v d h.2 g.origin e g.named))
      by p (L.Type m) g no_type e = absurd (no_some e)
      by p (L.Type m) g may_be_group e = absurd (no_some e)
      by p (L.Type m) g in_its_place e = absurd (no_some e)
