-- Pieces in an instance, one by one.
use Rattle.std.proofs.Common.{◌≡◌, ◌<◌, ◌⊎◌, ◌≢◌, ◌+◌, inl, inr, ℕ, zero, suc, Bool, true, false, if◌then◌else◌, List, [], ◌∷◌, ◌++◌, length, Option, Some, None, slice_get, refl, sym, ap, subst, ◌∙◌, arith}
use Rattle.std.specs.Cmp.Lexicographic.{same_text}
use Rattle.std.specs.List.{Contains}
use Rattle.std.proofs.lemmas.Cmp.{nat_list_eq_equiv}
use Rattle.std.proofs.lemmas.List.Elements.{Contains-append_left, Contains-push, Contains-push_cases}
use Rattle.lists.proofs.Lemmas.{get_cases, none_in, one_of, push_length, same_some}
use Rattle.tree_nodes.specs.Syntax.Syntax as S
use Rattle.cddl_language.specs.Environment.{is_same}
use Rattle.cddl_language.specs.Reading.{definition_of, definitions_in, name_in, parameters_in, term_of}
use Rattle.cddl_language.specs.Substitution.{fill}
use Rattle.cddl_language.specs.Terms.{Ref, Term, Text, arguments_of, name_of}
use Rattle.check_terms.specs.Definitions.{AreDefinitions, AreTexts, IsDefinition, further_definition, further_text, no_texts}
use Rattle.check_terms.specs.Filled.{term_trees}
use Rattle.check_terms.specs.Fill.Slots.{ArePlacesOf}
use Rattle.check_terms.specs.Fill.Templates.{AreTrees, further_tree, no_trees}
use Rattle.check_terms.specs.Table.{AreDistinct, Grows, Table, Tree}
use Rattle.check_terms.specs.Trees.{IsTerm, term_tree}
use Rattle.check_terms.specs.declared.definition.Definition.{Definition}
use Rattle.check_terms.specs.declared.fill.slots.Slots.{Slots}
use Rattle.table_making.specs.declared.origin.TypeOrigin.{TypeOrigin}
use Rattle.table_making.specs.declared.origin.TypeOrigin.TheVariants as T
use Rattle.source_pieces.specs.Filling.{ArePiecesFilled, IsFilled, IsFilling}
use Rattle.source_pieces.specs.Instances.{all_as_written, as_written, term_in, with_arguments}
use Rattle.source_pieces.specs.Origins.{ArePieces, IsClosedKey, IsClosedOrigin, IsClosedPiece, IsKeyOf, MayBeClosed, MayBeOf, Stands, in_its_place, is_of, may_be_group, no_type, of_type, of_value, of_word}
use Rattle.source_pieces.specs.Pieces.{Piece, a_key, a_member, a_type, a_value, a_word, an_entry, in_rule}
use Rattle.source_pieces.specs.Rules.{IsRuleAt}
use Rattle.source_pieces.specs.declared.filling.Filling.{Filling}
use Rattle.source_pieces.specs.declared.piece.PieceAt.{PieceAt}
use Rattle.source_pieces.specs.declared.rules.RuleAt.{RuleAt}
use Rattle.source_pieces.proofs.Closing.{piece_as}
use Rattle.source_pieces.proofs.Growing.{kept}
use Rattle.source_pieces.proofs.Reading.{rules_kept}

-- what the term is in the instance, where the rule is of the name, and where it is not

in_named : (q : Ref) (r : S.Rule) (t : Term) → name_in r ≡ name_of q → term_in q r t ≡ with_arguments (parameters_in r) (arguments_of q) t
in_named q r t e =
    let same : is_same (name_in r) (name_of q) ≡ true = subst (λ (n : Text). is_same (name_in r) n ≡ true) e (nat_list_eq_equiv.refl (name_in r)) in
    ap (λ (b : Bool). if b then with_arguments (parameters_in r) (arguments_of q) t else t) same

in_other : (q : Ref) (r : S.Rule) (t : Term) → (name_in r ≡ name_of q → ⊥) → t ≡ term_in q r t
in_other q r t e = by (is_same (name_in r) (name_of q)) refl
  where
    by : (b : Bool) → is_same (name_in r) (name_of q) ≡ b → t ≡ term_in q r t
    by true f = absurd (e (same_text (name_in r) (name_of q) (sym f)))
    by false f = ap (λ (b : Bool). if b then with_arguments (parameters_in r) (arguments_of q) t else t) (sym f)

-- some arguments are put there
put : (t : Table) (ns : List ℕ) (ps : List Text) (xs : List Term) → 0 < length ns → AreTrees t ns (term_trees xs) → (u : Term) → fill ps xs u ≡ with_arguments ps xs u
put t ns ps (x ∷ xs) some h u = refl
put t [] ps [] some h u = absurd (omega (arith, some))
put t (n ∷ ns) ps [] some h u = elim h [ ]

module _ (old : Table) (rs : List S.Rule) (x : Filling) (q : Ref) (distinct : AreDistinct old.texts) (h : IsFilling old rs x q) where
  rule_there : (i : ℕ) (at : RuleAt) (r : S.Rule) → slice_get x.rules.now i ≡ Some at → slice_get rs i ≡ Some r → IsRuleAt old r at
  rule_there i at r e f =
      let w = h.rules.told i at e in
      subst (λ (z : S.Rule). IsRuleAt old z at) (one_of (slice_get rs i) w.0 r w.1 f) w.2

  pub is_named : (i : ℕ) (at : RuleAt) (r : S.Rule) → slice_get x.rules.now i ≡ Some at → slice_get rs i ≡ Some r → at.number ≡ x.name → name_in r ≡ name_of q
  is_named i at r e f g = same_some (sym (rule_there i at r e f).number ∙ ap (slice_get old.texts) g ∙ h.name)

  is_other : (i : ℕ) (at : RuleAt) (r : S.Rule) → slice_get x.rules.now i ≡ Some at → slice_get rs i ≡ Some r → at.number ≢ x.name → name_in r ≡ name_of q → ⊥
  is_other i at r e f g same = g (distinct at.number x.name (name_of q) ((rule_there i at r e f).number ∙ ap Some same) h.name)

  -- a piece of another rule stays
  pub other_piece : (a : PieceAt) (at : RuleAt) (new : Table) → Grows old new → slice_get x.rules.now a.rule ≡ Some at → at.number ≢ x.name → IsFilled rs q old new a a
  other_piece a at new g e other = record {
    rule = refl;
    is = λ r p f is. piece_as (all_as_written r) (term_in q r) (λ t. ap term_tree (in_other q r t (is_other a.rule at r e f other))) old new g p a is;
  }

  -- a filled term is what the term is in the instance
  pub filled_term : (i : ℕ) (at : RuleAt) (r : S.Rule) → slice_get x.rules.now i ≡ Some at → slice_get rs i ≡ Some r → at.number ≡ x.name → (t : Term) → term_tree (fill (parameters_in r) (arguments_of q) t) ≡ term_tree (term_in q r t)
  filled_term i at r e f g t = ap term_tree (put old x.arguments.now (parameters_in r) (arguments_of q) h.some h.arguments t ∙ sym (in_named q r t (is_named i at r e f g)))

-- What is filled stays so when the table grows.

pub texts_kept : (old new : Table) → Grows old new → {ns : List ℕ} {xs : List Text} → AreTexts old.texts ns xs → AreTexts new.texts ns xs
texts_kept old new g no_texts = no_texts
texts_kept old new g (further_text {n = n} {x = x} e h) = further_text (g.texts n x e) (texts_kept old new g h)

pub trees_kept : (old new : Table) → Grows old new → {ns : List ℕ} {xs : List Tree} → AreTrees old ns xs → AreTrees new ns xs
trees_kept old new g no_trees = no_trees
trees_kept old new g (further_tree e h) = further_tree (kept g e) (trees_kept old new g h)

pub filling_kept : (old new : Table) (rs : List S.Rule) (x : Filling) (q : Ref) → Grows old new → IsFilling old rs x q → IsFilling new rs x q
filling_kept old new rs x q g h = record {
  rules = rules_kept old new rs x.rules.now g h.rules;
  slots = λ i r y e f. let w = h.slots i r y e f in record { numbers = w.numbers; places = w.places; texts = texts_kept old new g w.texts };
  name = g.texts x.name (name_of q) h.name;
  arguments = trees_kept old new g h.arguments;
  some = h.some;
}

-- Of what a piece is, by what it was of.

pub row_filled : (f : Term → Term) (old new : Table) (n m : ℕ) (p : Piece) → ((t : Term) → IsTerm old n t → IsTerm new m (f t)) → IsClosedOrigin as_written old p (T.Row n) → IsClosedOrigin f new p (T.Row m)
row_filled f old new n m p h (of_type {x = x} g) = of_type (h (term_of x) g)
row_filled f old new n m p h (of_value {x = x} g) = of_value (h (term_of x) g)

pub word_filled : (f : Term → Term) (t : Table) (k : ℕ) (p : Piece) → IsClosedOrigin as_written t p (T.Word k) → IsClosedOrigin f t p (T.Word k)
word_filled f t k p (of_word {w = w} g) = of_word g

pub no_instance : (t : Table) (k : ℕ) (p : Piece) → IsClosedOrigin as_written t p (T.Instance k) → ⊥
no_instance t k p h = elim h [ ]

pub none_chosen : (t : Table) (k : Option ℕ) (p : Piece) → IsClosedOrigin as_written t p (T.Chosen k) → ⊥
none_chosen t k p h = elim h [ ]

pub some_filled : (f : Term → Term) (old new : Table) (u v : TypeOrigin) (p : Piece) → (IsClosedOrigin as_written old p u → IsClosedOrigin f new p v) → MayBeOf old p (Some u) → MayBeClosed f new p (Some v)
some_filled f old new u v p h (is_of d) = is_of (h d)

pub none_filled_there : (f : Term → Term) (t : Table) (p : Piece) → MayBeOf t p None → MayBeClosed f t p None
none_filled_there f t p no_type = no_type
none_filled_there f t p may_be_group = may_be_group
none_filled_there f t p in_its_place = in_its_place

-- the key of a piece, filled as a piece by itself is
pub key_filled : (f : Term → Term) (old new : Table) (o u : Option TypeOrigin) → ((p : Piece) → MayBeOf old p o → MayBeClosed f new p u) → (o ≡ None → u ≡ None) → (p : Piece) → IsKeyOf old p o → IsClosedKey f new p u
key_filled f old new o u h none (a_key a k) g = h k g
key_filled f old new o u h none (a_value a k x) g = h k g
key_filled f old new o u h none (a_type x) g = none g
key_filled f old new o u h none (a_word w) g = none g
key_filled f old new o u h none (a_member a x) g = none g
key_filled f old new o u h none (an_entry a k i e) g = none g

-- Lists of pieces, as they grow.

pub none_filled : (rs : List S.Rule) (q : Ref) (t : Table) → ArePiecesFilled rs q t t [] []
none_filled rs q t = record { each = λ b c. absurd (none_in b c); all = λ a c. absurd (none_in a c) }

-- what was filled stays so when the table grows
filled_kept : (rs : List S.Rule) (q : Ref) (old now new : Table) (a b : PieceAt) → Grows now new → IsFilled rs q old now a b → IsFilled rs q old new a b
filled_kept rs q old now new a b g h = record { rule = h.rule; is = λ r p e is. piece_as (term_in q r) (term_in q r) (λ t. refl) now new g p b (h.is r p e is) }

-- what is filled of a table that has grown is so of the one before
filled_before : (rs : List S.Rule) (q : Ref) (old now new : Table) (a b : PieceAt) → Grows old now → IsFilled rs q now new a b → IsFilled rs q old new a b
filled_before rs q old now new a b g h = record { rule = h.rule; is = λ r p e is. h.is r p e (piece_as (all_as_written r) (all_as_written r) (λ t. refl) old now g p a is) }

pub one_more_filled : (rs : List S.Rule) (q : Ref) (old now new : Table) (xs zs ys vs : List PieceAt) (a b : PieceAt) → Grows old now → Grows now new → ArePiecesFilled rs q old now xs ys → IsFilled rs q now new a b → zs ≡ xs ++ a ∷ [] → vs ≡ ys ++ b ∷ [] → ArePiecesFilled rs q old new zs vs
one_more_filled rs q old now new xs zs ys vs a b before g h is e f = subst (λ (ws : List PieceAt). ArePiecesFilled rs q old new ws vs) (sym e) (subst (λ (ws : List PieceAt). ArePiecesFilled rs q old new (xs ++ a ∷ []) ws) (sym f) more)
  where
    one : IsFilled rs q old new a b
    one = filled_before rs q old now new a b before is

    each_by : (c : PieceAt) → Contains ys c ⊎ (b ≡ c) → (z : PieceAt) × Contains (xs ++ a ∷ []) z × IsFilled rs q old new z c
    each_by c (inl d) = let w = h.each c d in (w.0, Contains-append_left xs (a ∷ []) w.0 w.1, filled_kept rs q old now new w.0 c g w.2)
    each_by c (inr k) = (a, Contains-push xs a, subst (IsFilled rs q old new a) k one)

    all_by : (z : PieceAt) → Contains xs z ⊎ (a ≡ z) → (c : PieceAt) × Contains (ys ++ b ∷ []) c × IsFilled rs q old new z c
    all_by z (inl d) = let w = h.all z d in (w.0, Contains-append_left ys (b ∷ []) w.0 w.1, filled_kept rs q old now new z w.0 g w.2)
    all_by z (inr k) = (b, Contains-push ys b, subst (λ (y : PieceAt). IsFilled rs q old new y b) k one)

    more : ArePiecesFilled rs q old new (xs ++ a ∷ []) (ys ++ b ∷ [])
    more = record { each = λ c d. each_by c (Contains-push_cases ys b c d); all = λ z d. all_by z (Contains-push_cases xs a z d) }

-- pieces of a table are those of one that has grown, in equal words
pub pieces_as : (closed other : S.Rule → Term → Term) (old new : Table) (rs : List S.Rule) (xs : List PieceAt) → Grows old new → ((r : S.Rule) (u : Term) → closed r u ≡ other r u) → ArePieces closed old rs xs → ArePieces other new rs xs
pieces_as closed other old new rs xs g same are = record {
  each = λ a c. let st = are.each a c in record { rule = st.rule; piece = st.piece; there = st.there; contained = st.contained; is = piece_as (closed st.rule) (other st.rule) (λ u. ap term_tree (same st.rule u)) old new g st.piece a st.is };
  all = λ i r p e c. let w = are.all i r p e c in (w.0, w.1, w.2, piece_as (closed r) (other r) (λ u. ap term_tree (same r u)) old new g p w.0 w.3);
}

-- all pieces of the text are those of the text in the instance
pub pieces_filled : (rs : List S.Rule) (q : Ref) (old new : Table) (xs ys : List PieceAt) → ArePieces all_as_written old rs xs → ArePiecesFilled rs q old new xs ys → ArePieces (term_in q) new rs ys
pieces_filled rs q old new xs ys are h = record { each = each; all = all }
  where
    each : (b : PieceAt) → Contains ys b → Stands (term_in q) new rs b
    each b c =
        let w = h.each b c in
        let st = are.each w.0 w.1 in
        record { rule = st.rule; piece = st.piece; there = ap (slice_get rs) w.2.rule ∙ st.there; contained = st.contained; is = w.2.is st.rule st.piece st.there st.is }

    all : (i : ℕ) (r : S.Rule) (p : Piece) → slice_get rs i ≡ Some r → Contains (in_rule r) p → (b : PieceAt) × Contains ys b × (b.rule ≡ i) × IsClosedPiece (term_in q r) new p b
    all i r p e c =
        let a = are.all i r p e c in
        let b = h.all a.0 a.1 in
        (b.0, b.1, b.2.rule ∙ a.2, b.2.is r p (ap (slice_get rs) a.2 ∙ e) a.3)

-- the definition of a rule is at its place
pub definition_there : (t : Table) (ds : List Definition) (rs : List S.Rule) (i : ℕ) (r : S.Rule) → AreDefinitions t ds (definitions_in rs) → slice_get rs i ≡ Some r → (d : Definition) × (slice_get ds i ≡ Some d) × IsDefinition t d (definition_of r)
definition_there t ds [] i r h e = cc
definition_there t [] (z ∷ rs) i r h e = elim h [ ]
definition_there t (d ∷ ds) (z ∷ rs) zero r (further_definition h hs) e = (d, refl, subst (λ (y : S.Rule). IsDefinition t d (definition_of y)) (same_some e) h)
definition_there t (d ∷ ds) (z ∷ rs) (suc i) r (further_definition h hs) e = definition_there t ds rs i r hs e

-- the slots so far, with those of one definition more
pub record AreSlotsSoFar (ds : List Definition) (xs : List Slots) (i : ℕ) : Type 0 where
  pub count : length xs ≡ i
  pub are : (j : ℕ) (x : Slots) (d : Definition) → slice_get xs j ≡ Some x → slice_get ds j ≡ Some d → ArePlacesOf x d.parameters.items

pub no_slots : (ds : List Definition) (xs : List Slots) → xs ≡ [] → AreSlotsSoFar ds xs 0
no_slots ds xs e = record { count = ap length e; are = λ j x d f g. absurd (none_at j x (subst (λ (zs : List Slots). slice_get zs j ≡ Some x) e f)) }
  where
    none_at : (j : ℕ) (x : Slots) → slice_get [] j ≡ Some x → ⊥
    none_at j x f = cc

pub one_more_slots : (ds : List Definition) (xs ys : List Slots) (i : ℕ) (y : Slots) (e : Definition) → AreSlotsSoFar ds xs i → slice_get ds i ≡ Some e → ArePlacesOf y e.parameters.items → ys ≡ xs ++ y ∷ [] → AreSlotsSoFar ds ys (i + 1)
one_more_slots ds xs ys i y e h there places is = record {
  count = ap length is ∙ push_length xs y ∙ ap (λ n. n + 1) h.count;
  are = λ j x d f. by j x d (get_cases xs y j x (subst (λ (zs : List Slots). slice_get zs j ≡ Some x) is f));
}
  where
    by : (j : ℕ) (x : Slots) (d : Definition) → (slice_get xs j ≡ Some x) ⊎ ((j ≡ length xs) × (x ≡ y)) → slice_get ds j ≡ Some d → ArePlacesOf x d.parameters.items
    by j x d (inl f) g = h.are j x d f g
    by j x d (inr w) g = subst (λ (z : Slots). ArePlacesOf z d.parameters.items) (sym w.1) (subst (λ (z : Definition). ArePlacesOf y z.parameters.items) (one_of (slice_get ds i) e d there (ap (slice_get ds) (sym h.count ∙ sym w.0) ∙ g)) places)
