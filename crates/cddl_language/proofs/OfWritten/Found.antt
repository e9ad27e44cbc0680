-- The written values of a tree's terms stand in the tree.
use Rattle.std.proofs.Common.{◌≡◌, List, [], ◌∷◌, ◌++◌, Some, refl}
use Rattle.std.specs.Prelude.{Contains}
use Rattle.std.proofs.lemmas.List.Elements.{Contains-append_left, Contains-append_right}
use Rattle.lists.proofs.Lemmas.{at_head, later as behind}
use Rattle.cddl_token.specs.declared.Kind.TheVariants as K
use Rattle.tree_nodes.specs.Syntax.Syntax as S
use Rattle.cddl_language.specs.Terms.{Literal, Terms, no_terms, term, Term, Definition}
use Rattle.cddl_language.specs.Literals.{Holds, written}
use Rattle.cddl_language.specs.Reading.{literal_of, followed, term_of, term_of1, term_of2, ref_of, terms_of, group_of, entries_of, entry_of, key_of, body_of, definitions_in, rule_list, rules_of, operation}
use Rattle.cddl_language.specs.Written.Written.{AllIn, AllInRef, AllInTerms, AllInGroup, AllInEntries, AllInEntry, AllInKey, AllInBody}

module _ (P : Literal → Type 0) where
  -- each written value among the lexemes is of this sort
  abbrev Each : List S.Lexeme → Type 0
  Each ls = (l : S.Lexeme) → Contains ls l → (v : Literal) → written l.0 l.1 ≡ Some v → P v

  front : (xs ys : List S.Lexeme) → Each (xs ++ ys) → Each xs
  front xs ys h l c = h l (Contains-append_left xs ys l c)

  back : (xs ys : List S.Lexeme) → Each (xs ++ ys) → Each ys
  back xs ys h l c = h l (Contains-append_right xs ys l c)

  rest : (x : S.Lexeme) (xs : List S.Lexeme) → Each (x ∷ xs) → Each xs
  rest x xs h l c = h l (behind x xs l c)

  value_there : (v : S.Value) (ls : List S.Lexeme) → Each (S.flat_value v ∷ ls) → P (literal_of v)
  value_there (S.number t) ls h = h (K.Number, t) (at_head (K.Number, t) ls) (literal_of (S.number t)) refl
  value_there (S.text t) ls h = h (K.Text, t) (at_head (K.Text, t) ls) (literal_of (S.text t)) refl
  value_there (S.bytes t) ls h = h (K.Bytes, t) (at_head (K.Bytes, t) ls) (literal_of (S.bytes t)) refl

  in_followed : (ts : Terms) (u : Term) → AllInTerms P ts → AllIn P u → AllInTerms P (followed ts u)
  in_followed no_terms u h k = (k, tt)
  in_followed (term t ts) u h k = (h.0, in_followed ts u h.1 k)

  in_operation : (x y : Term) (o : S.Operator) → AllIn P x → AllIn P y → AllIn P (operation x o y)
  in_operation x y (S.range t) h k = (h, k)
  in_operation x y (S.range_below t) h k = (h, k)
  in_operation x y (S.control t) h k = (h, k)

  mutual
    in_types : (t : S.Types) → Each (S.flat_types t) → AllIn P (term_of t)
    in_types (S.only r) h = in_type1 r h
    in_types (S.or t s r) h = (in_types t (front (S.flat_types t) ((K.Slash, s) ∷ S.flat_type1 r) h), in_type1 r (rest (K.Slash, s) (S.flat_type1 r) (back (S.flat_types t) ((K.Slash, s) ∷ S.flat_type1 r) h)))

    in_type1 : (r : S.Type1) → Each (S.flat_type1 r) → AllIn P (term_of1 r)
    in_type1 (S.one x) h = in_type2 x h
    in_type1 (S.operation x o y) h = in_operation (term_of2 x) (term_of2 y) o (in_type2 x (front (S.flat_type2 x) (S.flat_operator o ∷ S.flat_type2 y) h)) (in_type2 y (rest (S.flat_operator o) (S.flat_type2 y) (back (S.flat_type2 x) (S.flat_operator o ∷ S.flat_type2 y) h)))

    pub in_type2 : (x : S.Type2) → Each (S.flat_type2 x) → AllIn P (term_of2 x)
    in_type2 (S.literal v) h = value_there v [] h
    in_type2 (S.typename r) h = in_ref r h
    in_type2 (S.parens o t c) h = in_types t (front (S.flat_types t) ((K.ParenClose, c) ∷ []) (rest (K.ParenOpen, o) (S.flat_types t ++ (K.ParenClose, c) ∷ []) h))
    in_type2 (S.map_of o g c) h = in_group g (front (S.flat_group g) ((K.BraceClose, c) ∷ []) (rest (K.BraceOpen, o) (S.flat_group g ++ (K.BraceClose, c) ∷ []) h))
    in_type2 (S.array_of o g c) h = in_group g (front (S.flat_group g) ((K.BracketClose, c) ∷ []) (rest (K.BracketOpen, o) (S.flat_group g ++ (K.BracketClose, c) ∷ []) h))
    in_type2 (S.unwrapped u r) h = in_ref r (rest (K.Tilde, u) (S.flat_ref r) h)
    in_type2 (S.choice_of a o g c) h = in_group g (front (S.flat_group g) ((K.ParenClose, c) ∷ []) (rest (K.ParenOpen, o) (S.flat_group g ++ (K.ParenClose, c) ∷ []) (rest (K.Ampersand, a) ((K.ParenOpen, o) ∷ (S.flat_group g ++ (K.ParenClose, c) ∷ [])) h)))
    in_type2 (S.choice_of_name a r) h = in_ref r (rest (K.Ampersand, a) (S.flat_ref r) h)
    in_type2 (S.tagged o t c) h = in_types t (front (S.flat_types t) ((K.ParenClose, c) ∷ []) (rest (K.TagOpen, o) (S.flat_types t ++ (K.ParenClose, c) ∷ []) h))
    in_type2 (S.tagged_by o u a p t c) h =
        let all = rest (K.TagHeadOpen, o) (S.flat_types u ++ (K.AngleClose, a) ∷ (K.ParenOpen, p) ∷ (S.flat_types t ++ (K.ParenClose, c) ∷ [])) h in
        let after = back (S.flat_types u) ((K.AngleClose, a) ∷ (K.ParenOpen, p) ∷ (S.flat_types t ++ (K.ParenClose, c) ∷ [])) all in
        let inside = rest (K.ParenOpen, p) (S.flat_types t ++ (K.ParenClose, c) ∷ []) (rest (K.AngleClose, a) ((K.ParenOpen, p) ∷ (S.flat_types t ++ (K.ParenClose, c) ∷ [])) after) in
        (in_types u (front (S.flat_types u) ((K.AngleClose, a) ∷ (K.ParenOpen, p) ∷ (S.flat_types t ++ (K.ParenClose, c) ∷ [])) all), in_types t (front (S.flat_types t) ((K.ParenClose, c) ∷ []) inside))
    in_type2 (S.simple_by o u c) h = in_types u (front (S.flat_types u) ((K.AngleClose, c) ∷ []) (rest (K.SimpleHeadOpen, o) (S.flat_types u ++ (K.AngleClose, c) ∷ []) h))
    in_type2 (S.hash t) h = tt

    in_ref : (r : S.Ref) → Each (S.flat_ref r) → AllInRef P (ref_of r)
    in_ref (S.name t) h = tt
    in_ref (S.applied o a c) h = in_arg a (front (S.flat_arg a) ((K.AngleClose, c) ∷ []) (rest (K.NameOpen, o) (S.flat_arg a ++ (K.AngleClose, c) ∷ []) h))

    in_arg : (a : S.GenericArg) → Each (S.flat_arg a) → AllInTerms P (terms_of a)
    in_arg (S.argument r) h = (in_type1 r h, tt)
    in_arg (S.arguments a c r) h = in_followed (terms_of a) (term_of1 r) (in_arg a (front (S.flat_arg a) ((K.Comma, c) ∷ S.flat_type1 r) h)) (in_type1 r (rest (K.Comma, c) (S.flat_type1 r) (back (S.flat_arg a) ((K.Comma, c) ∷ S.flat_type1 r) h)))

    in_group : (g : S.Group) → Each (S.flat_group g) → AllInGroup P (group_of g)
    in_group (S.sole es) h = in_choice es h
    in_group (S.orelse g s es) h = (in_group g (front (S.flat_group g) ((K.DoubleSlash, s) ∷ S.flat_choice es) h), in_choice es (rest (K.DoubleSlash, s) (S.flat_choice es) (back (S.flat_group g) ((K.DoubleSlash, s) ∷ S.flat_choice es) h)))

    in_choice : (es : S.GrpChoice) → Each (S.flat_choice es) → AllInEntries P (entries_of es)
    in_choice S.no_entries h = tt
    in_choice (S.entries es e c) h = (in_choice es (front (S.flat_choice es) (S.flat_entry e ++ S.optional K.Comma c) h), in_entry e (front (S.flat_entry e) (S.optional K.Comma c) (back (S.flat_choice es) (S.flat_entry e ++ S.optional K.Comma c) h)))

    in_entry : (e : S.GrpEnt) → Each (S.flat_entry e) → AllInEntry P (entry_of e)
    in_entry (S.typed o t) h = in_types t (back (S.optional K.Occur o) (S.flat_types t) h)
    in_entry (S.keyed o k t) h =
        let both = back (S.optional K.Occur o) (S.flat_key k ++ S.flat_types t) h in
        (in_key k (front (S.flat_key k) (S.flat_types t) both), in_types t (back (S.flat_key k) (S.flat_types t) both))
    in_entry (S.grouped o p g c) h = in_group g (front (S.flat_group g) ((K.ParenClose, c) ∷ []) (rest (K.ParenOpen, p) (S.flat_group g ++ (K.ParenClose, c) ∷ []) (back (S.optional K.Occur o) ((K.ParenOpen, p) ∷ (S.flat_group g ++ (K.ParenClose, c) ∷ [])) h)))

    in_key : (k : S.MemberKey) → Each (S.flat_key k) → AllInKey P (key_of k)
    in_key (S.type_key r u a) h = in_type1 r (front (S.flat_type1 r) (S.optional K.Cut u ++ (K.Arrow, a) ∷ []) h)
    in_key (S.bareword n c) h = tt
    in_key (S.value_key v c) h = value_there v ((K.Colon, c) ∷ []) h

  in_rule : (r : S.Rule) → Each (S.flat_rule r) → AllInBody P (body_of r)
  in_rule (S.type_rule n a t) h = in_types t (rest (S.flat_assignt a) (S.flat_types t) (back (S.flat_name n) (S.flat_assignt a ∷ S.flat_types t) h))
  in_rule (S.group_rule n a e) h = in_entry e (rest (S.flat_assigng a) (S.flat_entry e) (back (S.flat_name n) (S.flat_assigng a ∷ S.flat_entry e) h))

  abbrev pub AllDefinitions : List Definition → Type 0
  AllDefinitions [] = Unit {0}
  AllDefinitions (d ∷ ds) = AllInBody P d.body × AllDefinitions ds

  joined : (ds es : List Definition) → AllDefinitions ds → AllDefinitions es → AllDefinitions (ds ++ es)
  joined [] es h k = k
  joined (d ∷ ds) es h k = (h.0, joined ds es h.1 k)

  abbrev AllRules : List S.Rule → Type 0
  AllRules [] = Unit {0}
  AllRules (r ∷ rs) = AllInBody P (body_of r) × AllRules rs

  with_rule : (rs : List S.Rule) (r : S.Rule) → AllRules rs → AllInBody P (body_of r) → AllRules (rs ++ r ∷ [])
  with_rule [] r h k = (k, tt)
  with_rule (q ∷ rs) r h k = (h.0, with_rule rs r h.1 k)

  in_rules : (rs : S.Rules) → Each (S.flat_rules rs) → AllRules (rule_list rs)
  in_rules S.no_rules h = tt
  in_rules (S.rules rs r) h = with_rule (rule_list rs) r (in_rules rs (front (S.flat_rules rs) (S.flat_rule r) h)) (in_rule r (back (S.flat_rules rs) (S.flat_rule r) h))

  of_rules : (rs : List S.Rule) → AllRules rs → AllDefinitions (definitions_in rs)
  of_rules [] h = tt
  of_rules (r ∷ rs) h = (h.0, of_rules rs h.1)

  pub in_tree : (x : S.Cddl) → ((v : Literal) → Holds x v → P v) → AllDefinitions (definitions_in (rules_of x))
  in_tree (S.cddl rs e) h = of_rules (rule_list rs) (in_rules rs (front (S.flat_rules rs) ((K.End, e) ∷ []) (λ l c v w. h v (l, c, w))))
