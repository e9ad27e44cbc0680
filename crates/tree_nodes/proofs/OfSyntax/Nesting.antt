-- How deep the tokens of a tree nest.
use Rattle.std.proofs.Common.{◌≡◌, ℕ, suc, ◌+◌, ◌≤◌, max, List, [], ◌∷◌, ◌++◌, Option, Some, None, refl, ap, ◌∙◌, subst, arith, append_assoc}
use Rattle.cddl_token.specs.declared.Token.{Token}
use Rattle.cddl_token.specs.declared.Kind.{Kind}
use Rattle.cddl_token.specs.declared.Kind.TheVariants.{Name, NameOpen, Control, Number, Occur, Text, Bytes, Hash, TagOpen, TagHeadOpen, SimpleHeadOpen, Assign, TypeAssign, GroupAssign, Slash, DoubleSlash, Range, RangeBelow, Arrow, Cut, Colon, Comma, ParenOpen, ParenClose, BracketOpen, BracketClose, BraceOpen, BraceClose, AngleClose, Tilde, Ampersand, End}
use Rattle.tree_nodes.specs.Syntax.Syntax.{Lexeme, Value, number, text, bytes, Operator, range, range_below, control, Types, only, or, Type1, one, operation, Type2, literal, typename, parens, map_of, array_of, unwrapped, choice_of, choice_of_name, tagged, tagged_by, simple_by, hash, Ref, name, applied, GenericArg, argument, arguments, Group, sole, orelse, GrpChoice, no_entries, entries, GrpEnt, typed, keyed, grouped, MemberKey, type_key, bareword, value_key, GenericParm, parameter, parameters, RuleName, plain, generic, AssignT, type_is, type_or, AssignG, group_is, group_or, Rule, type_rule, group_rule, Rules, no_rules, rules, Cddl, cddl, optional, flat_value, flat_operator, flat_types, flat_type1, flat_type2, flat_ref, flat_arg, flat_group, flat_choice, flat_entry, flat_key, flat_parm, flat_name, flat_assignt, flat_assigng, flat_rule, flat_rules, flat, nesting_types, nesting_type1, nesting_type2, nesting_ref, nesting_arg, nesting_group, nesting_choice, nesting_entry, nesting_key, nesting_name, nesting_rule, nesting_rules, nesting}
use Rattle.tree_nodes.specs.Syntax.Answers.{opened_after, open_after, deepest}

-- After the tokens as many are open as before them, and at most m more on the way.
abbrev Nests : List Lexeme → ℕ → Type 0
Nests ts m = (n : ℕ) → (open_after n ts ≡ n) × (deepest n ts ≡ n + m)

pub open_after-append : (n : ℕ) (a b : List Lexeme) → open_after n (a ++ b) ≡ open_after (open_after n a) b
open_after-append n [] b = refl
open_after-append n (t ∷ a) b = open_after-append (opened_after t.0 n) a b

pub le-deepest : (n : ℕ) (ts : List Lexeme) → n ≤ deepest n ts
le-deepest n [] = omega arith
le-deepest n (t ∷ ts) = omega arith

pub deepest-append : (n : ℕ) (a b : List Lexeme) → deepest n (a ++ b) ≡ max (deepest n a) (deepest (open_after n a) b)
deepest-append n [] b = let h = le-deepest n b in omega arith
deepest-append n (t ∷ a) b = let h = deepest-append (opened_after t.0 n) a b in omega arith

pub open-le-deepest : (n : ℕ) (a b : List Lexeme) → open_after n a ≤ deepest n (a ++ b)
open-le-deepest n a b = let h = deepest-append n a b in let i = le-deepest (open_after n a) b in omega arith

nests_none : Nests [] 0
nests_none n = (refl, omega arith)

-- a token that neither opens nor closes
nests_more : (q : Kind) (t : Token) (ts : List Lexeme) (m : ℕ) → ((n : ℕ) → opened_after q n ≡ n) → Nests ts m → Nests ((q, t) ∷ ts) m
nests_more q t ts m h b n = (
  ap (λ k. open_after k ts) (h n) ∙ (b n).0,
  ap (λ k. max n (deepest k ts)) (h n) ∙ (let e = (b n).1 in omega arith),
)

nests_append : (a b : List Lexeme) (m k : ℕ) → Nests a m → Nests b k → Nests (a ++ b) (max m k)
nests_append a b m k h i n = (
  open_after-append n a b ∙ ap (λ j. open_after j b) (h n).0 ∙ (i n).0,
  deepest-append n a b ∙ ap (λ j. max (deepest n a) (deepest j b)) (h n).0 ∙ (let d = (h n).1 in let e = (i n).1 in omega arith),
)

nests_after : (a b : List Lexeme) (m : ℕ) → Nests a m → Nests b 0 → Nests (a ++ b) m
nests_after a b m h i = subst (Nests (a ++ b)) (let e : max m 0 ≡ m = omega arith in e) (nests_append a b m 0 h i)

nests_inside : (q r : Kind) (o c : Token) (ts : List Lexeme) (m : ℕ) → ((n : ℕ) → opened_after q n ≡ suc n) → ((n : ℕ) → opened_after r (suc n) ≡ n) → Nests ts m → Nests ((q, o) ∷ (ts ++ (r, c) ∷ [])) (suc m)
nests_inside q r o c ts m h i b n = (
  ap (λ k. open_after k (ts ++ (r, c) ∷ [])) (h n) ∙ open_after-append (suc n) ts ((r, c) ∷ []) ∙ ap (λ k. opened_after r k) (b (suc n)).0 ∙ i n,
  ap (λ k. max n (deepest k (ts ++ (r, c) ∷ []))) (h n)
      ∙ ap (λ k. max n k) (deepest-append (suc n) ts ((r, c) ∷ []) ∙ ap (λ k. max (deepest (suc n) ts) (max k (opened_after r k))) (b (suc n)).0)
      ∙ (let d = (b (suc n)).1 in let e = i n in omega arith),
)

nests_optional : (q : Kind) (o : Option Token) (ts : List Lexeme) (m : ℕ) → ((n : ℕ) → opened_after q n ≡ n) → Nests ts m → Nests (optional q o ++ ts) m
nests_optional q None ts m h b = b
nests_optional q (Some t) ts m h b = nests_more q t ts m h b

same : (n : ℕ) → n ≡ n
same n = refl

nests_value : (v : Value) (ts : List Lexeme) (m : ℕ) → Nests ts m → Nests (flat_value v ∷ ts) m
nests_value (number t) ts m b = nests_more Number t ts m same b
nests_value (text t) ts m b = nests_more Text t ts m same b
nests_value (bytes t) ts m b = nests_more Bytes t ts m same b

nests_operator : (o : Operator) (ts : List Lexeme) (m : ℕ) → Nests ts m → Nests (flat_operator o ∷ ts) m
nests_operator (range t) ts m b = nests_more Range t ts m same b
nests_operator (range_below t) ts m b = nests_more RangeBelow t ts m same b
nests_operator (control t) ts m b = nests_more Control t ts m same b

one_more : (n : ℕ) → suc n ≡ suc n
one_more n = refl

mutual
  nests_types : (t : Types) → Nests (flat_types t) (nesting_types t)
  nests_types (only r) = nests_type1 r
  nests_types (or t s r) = nests_append (flat_types t) ((Slash, s) ∷ flat_type1 r) (nesting_types t) (nesting_type1 r) (nests_types t) (nests_more Slash s (flat_type1 r) (nesting_type1 r) same (nests_type1 r))

  nests_type1 : (r : Type1) → Nests (flat_type1 r) (nesting_type1 r)
  nests_type1 (one x) = nests_type2 x
  nests_type1 (operation x o y) = nests_append (flat_type2 x) (flat_operator o ∷ flat_type2 y) (nesting_type2 x) (nesting_type2 y) (nests_type2 x) (nests_operator o (flat_type2 y) (nesting_type2 y) (nests_type2 y))

  nests_type2 : (x : Type2) → Nests (flat_type2 x) (nesting_type2 x)
  nests_type2 (literal v) = nests_value v [] 0 nests_none
  nests_type2 (typename r) = nests_ref r
  nests_type2 (parens o t c) = nests_inside ParenOpen ParenClose o c (flat_types t) (nesting_types t) one_more same (nests_types t)
  nests_type2 (map_of o g c) = nests_inside BraceOpen BraceClose o c (flat_group g) (nesting_group g) one_more same (nests_group g)
  nests_type2 (array_of o g c) = nests_inside BracketOpen BracketClose o c (flat_group g) (nesting_group g) one_more same (nests_group g)
  nests_type2 (unwrapped u r) = nests_more Tilde u (flat_ref r) (nesting_ref r) same (nests_ref r)
  nests_type2 (choice_of a o g c) = nests_more Ampersand a ((ParenOpen, o) ∷ (flat_group g ++ (ParenClose, c) ∷ [])) (suc (nesting_group g)) same (nests_inside ParenOpen ParenClose o c (flat_group g) (nesting_group g) one_more same (nests_group g))
  nests_type2 (choice_of_name a r) = nests_more Ampersand a (flat_ref r) (nesting_ref r) same (nests_ref r)
  nests_type2 (tagged o t c) = nests_inside TagOpen ParenClose o c (flat_types t) (nesting_types t) one_more same (nests_types t)
  nests_type2 (tagged_by o h a p t c) =
      let first = nests_inside TagHeadOpen AngleClose o a (flat_types h) (nesting_types h) one_more same (nests_types h) in
      let second = nests_inside ParenOpen ParenClose p c (flat_types t) (nesting_types t) one_more same (nests_types t) in
      let both = nests_append ((TagHeadOpen, o) ∷ (flat_types h ++ (AngleClose, a) ∷ [])) ((ParenOpen, p) ∷ (flat_types t ++ (ParenClose, c) ∷ [])) (suc (nesting_types h)) (suc (nesting_types t)) first second in
      subst (λ (ts : List Lexeme). Nests ((TagHeadOpen, o) ∷ ts) (max (suc (nesting_types h)) (suc (nesting_types t)))) (append_assoc (flat_types h) ((AngleClose, a) ∷ []) ((ParenOpen, p) ∷ (flat_types t ++ (ParenClose, c) ∷ []))) both
  nests_type2 (simple_by o h c) = nests_inside SimpleHeadOpen AngleClose o c (flat_types h) (nesting_types h) one_more same (nests_types h)
  nests_type2 (hash t) = nests_more Hash t [] 0 same nests_none

  nests_ref : (r : Ref) → Nests (flat_ref r) (nesting_ref r)
  nests_ref (name t) = nests_more Name t [] 0 same nests_none
  nests_ref (applied o a c) = nests_inside NameOpen AngleClose o c (flat_arg a) (nesting_arg a) one_more same (nests_arg a)

  nests_arg : (a : GenericArg) → Nests (flat_arg a) (nesting_arg a)
  nests_arg (argument r) = nests_type1 r
  nests_arg (arguments a c r) = nests_append (flat_arg a) ((Comma, c) ∷ flat_type1 r) (nesting_arg a) (nesting_type1 r) (nests_arg a) (nests_more Comma c (flat_type1 r) (nesting_type1 r) same (nests_type1 r))

  nests_group : (g : Group) → Nests (flat_group g) (nesting_group g)
  nests_group (sole es) = nests_choice es
  nests_group (orelse g s es) = nests_append (flat_group g) ((DoubleSlash, s) ∷ flat_choice es) (nesting_group g) (nesting_choice es) (nests_group g) (nests_more DoubleSlash s (flat_choice es) (nesting_choice es) same (nests_choice es))

  nests_choice : (es : GrpChoice) → Nests (flat_choice es) (nesting_choice es)
  nests_choice no_entries = nests_none
  nests_choice (entries es e None) = nests_append (flat_choice es) (flat_entry e ++ []) (nesting_choice es) (nesting_entry e) (nests_choice es) (nests_after (flat_entry e) [] (nesting_entry e) (nests_entry e) nests_none)
  nests_choice (entries es e (Some c)) = nests_append (flat_choice es) (flat_entry e ++ (Comma, c) ∷ []) (nesting_choice es) (nesting_entry e) (nests_choice es) (nests_after (flat_entry e) ((Comma, c) ∷ []) (nesting_entry e) (nests_entry e) (nests_more Comma c [] 0 same nests_none))

  nests_entry : (e : GrpEnt) → Nests (flat_entry e) (nesting_entry e)
  nests_entry (typed o t) = nests_optional Occur o (flat_types t) (nesting_types t) same (nests_types t)
  nests_entry (keyed o k t) = nests_optional Occur o (flat_key k ++ flat_types t) (max (nesting_key k) (nesting_types t)) same (nests_append (flat_key k) (flat_types t) (nesting_key k) (nesting_types t) (nests_key k) (nests_types t))
  nests_entry (grouped o p g c) = nests_optional Occur o ((ParenOpen, p) ∷ (flat_group g ++ (ParenClose, c) ∷ [])) (suc (nesting_group g)) same (nests_inside ParenOpen ParenClose p c (flat_group g) (nesting_group g) one_more same (nests_group g))

  nests_key : (k : MemberKey) → Nests (flat_key k) (nesting_key k)
  nests_key (type_key r u a) = nests_after (flat_type1 r) (optional Cut u ++ (Arrow, a) ∷ []) (nesting_type1 r) (nests_type1 r) (nests_optional Cut u ((Arrow, a) ∷ []) 0 same (nests_more Arrow a [] 0 same nests_none))
  nests_key (bareword n c) = nests_more Name n ((Colon, c) ∷ []) 0 same (nests_more Colon c [] 0 same nests_none)
  nests_key (value_key v c) = nests_value v ((Colon, c) ∷ []) 0 (nests_more Colon c [] 0 same nests_none)

nests_parm : (p : GenericParm) → Nests (flat_parm p) 0
nests_parm (parameter n) = nests_more Name n [] 0 same nests_none
nests_parm (parameters p c n) = nests_after (flat_parm p) ((Comma, c) ∷ (Name, n) ∷ []) 0 (nests_parm p) (nests_more Comma c ((Name, n) ∷ []) 0 same (nests_more Name n [] 0 same nests_none))

nests_name : (n : RuleName) → Nests (flat_name n) (nesting_name n)
nests_name (plain n) = nests_more Name n [] 0 same nests_none
nests_name (generic o p c) = nests_inside NameOpen AngleClose o c (flat_parm p) 0 one_more same (nests_parm p)

nests_assignt : (a : AssignT) (ts : List Lexeme) (m : ℕ) → Nests ts m → Nests (flat_assignt a ∷ ts) m
nests_assignt (type_is t) ts m b = nests_more Assign t ts m same b
nests_assignt (type_or t) ts m b = nests_more TypeAssign t ts m same b

nests_assigng : (a : AssignG) (ts : List Lexeme) (m : ℕ) → Nests ts m → Nests (flat_assigng a ∷ ts) m
nests_assigng (group_is t) ts m b = nests_more Assign t ts m same b
nests_assigng (group_or t) ts m b = nests_more GroupAssign t ts m same b

nests_rule : (r : Rule) → Nests (flat_rule r) (nesting_rule r)
nests_rule (type_rule n a t) = nests_append (flat_name n) (flat_assignt a ∷ flat_types t) (nesting_name n) (nesting_types t) (nests_name n) (nests_assignt a (flat_types t) (nesting_types t) (nests_types t))
nests_rule (group_rule n a e) = nests_append (flat_name n) (flat_assigng a ∷ flat_entry e) (nesting_name n) (nesting_entry e) (nests_name n) (nests_assigng a (flat_entry e) (nesting_entry e) (nests_entry e))

nests_rules : (rs : Rules) → Nests (flat_rules rs) (nesting_rules rs)
nests_rules no_rules = nests_none
nests_rules (rules rs r) = nests_append (flat_rules rs) (flat_rule r) (nesting_rules rs) (nesting_rule r) (nests_rules rs) (nests_rule r)

pub nests : (x : Cddl) → Nests (flat x) (nesting x)
nests (cddl rs e) = nests_after (flat_rules rs) ((End, e) ∷ []) (nesting_rules rs) (nests_rules rs) (nests_more End e [] 0 same nests_none)
