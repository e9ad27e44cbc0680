-- Lists of what is read, as they grow with the table of terms.
use Rattle.std.proofs.Common.{◌≡◌, ℕ, ◌+◌, ◌<◌, ◌≤◌, ◌⊎◌, inl, inr, List, [], ◌∷◌, ◌++◌, length, map, get_or, Box, Global, Option, Some, None, option_map, slice_get, suc, refl, sym, ap, subst, ◌∙◌, arith}
use Rattle.std.specs.List.{Contains}
use Rattle.std.proofs.lemmas.List.Elements.{Contains-append_left, Contains-push, Contains-push_cases}
use Rattle.std.proofs.lemmas.Option.{slice_get-map, slice_get_read}
use Rattle.lists.proofs.Lemmas.{get_cases, none_in, push_length, same_some, there, within}
use Rattle.cddl_token.specs.declared.Token.{Token}
use Rattle.tree_nodes.specs.Syntax.Syntax as S
use Rattle.tree_nodes.specs.declared.tree.Leaf.{Leaf}
use Rattle.tree_nodes.specs.declared.tree.Rule.{Rule}
use Rattle.tree_nodes.specs.declared.tree.Operator.{Operator}
use Rattle.tree_nodes.specs.declared.tree.Type1.{Type1}
use Rattle.tree_nodes.specs.declared.tree.Type2.{Type2}
use Rattle.tree_nodes.specs.declared.tree.Type1.TheVariants as Type1V
use Rattle.tree_nodes.specs.View.{view_operator, view_rule, view_type1, view_type2}
use Rattle.tree_nodes.proofs.Lemmas.{view-One, view-Operation}
use Rattle.cddl_language.specs.Reading.{operation, term_of1, term_of2}
use Rattle.cddl_language.specs.Terms.{Term, typed}
use Rattle.check_terms.specs.declared.row.Row.{Row}
use Rattle.check_terms.specs.Table.{Grows, Holds, part, Table}
use Rattle.check_terms.specs.Trees.{IsEntry, IsTerm, term_tree}
use Rattle.table_making.specs.declared.origin.TypeOrigin.{TypeOrigin}
use Rattle.source_pieces.specs.Instances.{as_written}
use Rattle.source_pieces.specs.Origins.{AreRead, IsKeyOf, IsRead, MayBeOf}
use Rattle.source_pieces.specs.Pieces.{Piece}
use Rattle.source_pieces.specs.Rules.{AreRules, IsRuleAt}
use Rattle.source_pieces.specs.Walk.{view_found}
use Rattle.source_pieces.specs.declared.node.Found.{Found}
use Rattle.source_pieces.specs.declared.piece.PieceAt.{PieceAt}
use Rattle.source_pieces.specs.declared.rules.RuleAt.{RuleAt}
use Rattle.source_pieces.proofs.Closing.{key_as, may_as, piece_as}

pub may_kept : (old new : Table) (p : Piece) (o : Option TypeOrigin) → Grows old new → MayBeOf old p o → MayBeOf new p o
may_kept old new p o g h = may_as as_written as_written (λ t. refl) old new g p o h

pub key_kept : (old new : Table) (p : Piece) (o : Option TypeOrigin) → Grows old new → IsKeyOf old p o → IsKeyOf new p o
key_kept old new p o g h = key_as as_written as_written (λ t. refl) old new g p o h

read_kept : (old new : Table) (read : Leaf → Token) (f : Found) (a : PieceAt) → Grows old new → IsRead old read f a → IsRead new read f a
read_kept old new read f a g h = record { rule = h.rule; is = piece_as as_written as_written (λ t. refl) old new g (view_found read f).1 a h.is }

pub none_read : (t : Table) (read : Leaf → Token) → AreRead t read [] []
none_read t read = record { each = λ a c. absurd (none_in a c); all = λ f c. absurd (none_in f c) }

pub one_more_read : (old new : Table) (read : Leaf → Token) (fs gs : List Found) (xs ys : List PieceAt) (a : PieceAt) (f : Found) → AreRead old read fs xs → Grows old new → gs ≡ fs ++ f ∷ [] → IsRead new read f a → ys ≡ xs ++ a ∷ [] → AreRead new read gs ys
one_more_read old new read fs gs xs ys a f h g d is e = subst (λ (zs : List Found). AreRead new read zs ys) (sym d) (subst (λ (zs : List PieceAt). AreRead new read (fs ++ f ∷ []) zs) (sym e) more)
  where
    each_by : (b : PieceAt) → Contains xs b ⊎ (a ≡ b) → (z : Found) × Contains (fs ++ f ∷ []) z × IsRead new read z b
    each_by b (inl d) = let w = h.each b d in (w.0, Contains-append_left fs (f ∷ []) w.0 w.1, read_kept old new read w.0 b g w.2)
    each_by b (inr k) = (f, Contains-push fs f, subst (IsRead new read f) k is)

    all_by : (z : Found) → Contains fs z ⊎ (f ≡ z) → (b : PieceAt) × Contains (xs ++ a ∷ []) b × IsRead new read z b
    all_by z (inl d) = let w = h.all z d in (w.0, Contains-append_left xs (a ∷ []) w.0 w.1, read_kept old new read z w.0 g w.2)
    all_by z (inr k) = (a, Contains-push xs a, subst (λ (y : Found). IsRead new read y a) k is)

    more : AreRead new read (fs ++ f ∷ []) (xs ++ a ∷ [])
    more = record { each = λ b c. each_by b (Contains-push_cases xs a b c); all = λ z c. all_by z (Contains-push_cases fs f z c) }

-- the row of an entry's type is its first part
pub first_of : (t : Table) (n : ℕ) (r : Row) (m : ℕ) (x : Term) → slice_get t.rows n ≡ Some r → r.first ≡ Some m → IsEntry t n (typed None x) → IsTerm t m x
first_of t n r m x e f (part {i = i} g d a b) = subst (λ (o : Option ℕ). Holds t o (term_tree x)) same a
  where
    same : i ≡ Some m
    same = ap (λ (z : Row). z.first) (same_some (sym g ∙ e)) ∙ f

-- rules

rule_kept : (old new : Table) (r : S.Rule) (a : RuleAt) → Grows old new → IsRuleAt old r a → IsRuleAt new r a
rule_kept old new r a g h = record { number = g.texts a.number _ h.number; alternatives = h.alternatives; generic = h.generic; name = h.name; body = h.body }

-- the rules so far
pub record AreSoFar (t : Table) (read : Leaf → Token) (rules : List Rule) (xs : List RuleAt) (i : ℕ) : Type 0 where
  pub count : length xs ≡ i
  pub told : (j : ℕ) (a : RuleAt) → slice_get xs j ≡ Some a → (r : Rule) × (slice_get rules j ≡ Some r) × IsRuleAt t (view_rule read r) a

pub none_so_far : (t : Table) (read : Leaf → Token) (rules : List Rule) → AreSoFar t read rules [] 0
none_so_far t read rules = record { count = refl; told = λ j a e. cc }

pub one_more_so_far : (old new : Table) (read : Leaf → Token) (rules : List Rule) (xs ys : List RuleAt) (i : ℕ) (a : RuleAt) (r : Rule) → AreSoFar old read rules xs i → Grows old new → slice_get rules i ≡ Some r → IsRuleAt new (view_rule read r) a → ys ≡ xs ++ a ∷ [] → AreSoFar new read rules ys (i + 1)
one_more_so_far old new read rules xs ys i a r h g is one e = record {
  count = ap length e ∙ push_length xs a ∙ ap (λ n. n + 1) h.count;
  told = λ j b f. by j b (get_cases xs a j b (subst (λ (zs : List RuleAt). slice_get zs j ≡ Some b) e f));
}
  where
    by : (j : ℕ) (b : RuleAt) → (slice_get xs j ≡ Some b) ⊎ ((j ≡ length xs) × (b ≡ a)) → (z : Rule) × (slice_get rules j ≡ Some z) × IsRuleAt new (view_rule read z) b
    by j b (inl f) = let w = h.told j b f in (w.0, w.1, rule_kept old new _ b g w.2)
    by j b (inr k) = (r, ap (slice_get rules) (k.0 ∙ h.count) ∙ is, subst (IsRuleAt new (view_rule read r)) (sym k.1) one)

pub all_so_far : (t : Table) (read : Leaf → Token) (rules : List Rule) (xs : List RuleAt) (i : ℕ) (rs : List S.Rule) → length rules ≤ i → AreSoFar t read rules xs i → rs ≡ map (view_rule read) rules → AreRules t rs xs
all_so_far t read rules xs i rs le h e = record {
  told = λ j a f. let w = h.told j a f in (view_rule read w.0, ap (λ (zs : List S.Rule). slice_get zs j) e ∙ slice_get-map (view_rule read) rules j ∙ ap (option_map (view_rule read)) w.1, w.2);
  all = λ j r f. there xs j (let l = within (map (view_rule read) rules) j r (ap (λ (zs : List S.Rule). slice_get zs j) (sym e) ∙ f) in let c = h.count in let m = map_length rules in omega (arith, l, le, c, m));
}
  where
    map_length : (zs : List Rule) → length (map (view_rule read) zs) ≡ length zs
    map_length [] = refl
    map_length (z ∷ zs) = ap suc (map_length zs)

pub rules_kept : (old new : Table) (rs : List S.Rule) (xs : List RuleAt) → Grows old new → AreRules old rs xs → AreRules new rs xs
rules_kept old new rs xs g h = record { told = λ i a e. let w = h.told i a e in (w.0, w.1, rule_kept old new w.0 a g w.2); all = h.all }

-- an item of a list that is read by its index
pub item_there : {A : Type 0} (xs : List A) (i : ℕ) (x : A) → i < length xs → x ≡ get_or xs i x → slice_get xs i ≡ Some x
item_there xs i x l e = slice_get_read xs (length xs) i x refl l e

-- the term of a node of one operand or of two

pub one_term : (read : Leaf → Token) (x : Type1) (b : Box Type2 Global) (y : Type2) → x ≡ Type1V.One b → y ≡ b.value → term_of1 (view_type1 read x) ≡ term_of2 (view_type2 read y)
one_term read x b y is e = ap (λ (z : Type1). term_of1 (view_type1 read z)) is ∙ ap term_of1 (view-One read b) ∙ ap (λ (z : Type2). term_of2 (view_type2 read z)) (sym e)

pub operation_term : (read : Leaf → Token) (x : Type1) (a : Box Type2 Global) (o : Operator) (b : Box Type2 Global) (l r : Type2) → x ≡ Type1V.Operation a o b → l ≡ a.value → r ≡ b.value → term_of1 (view_type1 read x) ≡ operation (term_of2 (view_type2 read l)) (view_operator read o) (term_of2 (view_type2 read r))
operation_term read x a o b l r is e f =
    ap (λ (z : Type1). term_of1 (view_type1 read z)) is
    ∙ ap term_of1 (view-Operation read a o b)
    ∙ ap (λ (z : Type2). operation (term_of2 (view_type2 read z)) (view_operator read o) (term_of2 (view_type2 read b.value))) (sym e)
    ∙ ap (λ (z : Type2). operation (term_of2 (view_type2 read l)) (view_operator read o) (term_of2 (view_type2 read z))) (sym f)
