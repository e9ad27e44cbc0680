-- A tree whose tokens have their texts elsewhere in memory.
use Rattle.std.proofs.Common.{◌≡◌, ℕ, List, [], ◌∷◌, ◌++◌, map, Option, Some, None, refl, sym, ap, ◌∙◌}
use Rattle.std.specs.Prelude.{option_map}
use Rattle.std.proofs.lemmas.List.{map-append}
use Rattle.cddl_token.specs.declared.Token.{Token}
use Rattle.cddl_token.specs.declared.Kind.{Kind}
use Rattle.cddl_token.specs.declared.Kind.TheVariants as K
use Rattle.tree_nodes.specs.Syntax.Answers.{Prints, lexeme, lexemes}
use Rattle.tree_nodes.specs.Syntax.Syntax as S
use Rattle.tree_nodes.specs.Syntax.Syntax.{Lexeme}

module _ (place : Token → ℕ × ℕ) where
  abbrev pub moved : Token → Token
  moved t = record { kind = t.kind; start = t.start; end = t.end; text = record { ref_ptr = place t; now = t.text.now } }

  abbrev pub maybe_moved : Option Token → Option Token
  maybe_moved o = option_map moved o

  abbrev pub move_lexeme : Lexeme → Lexeme
  move_lexeme l = (l.0, moved l.1)

  abbrev pub move_value : S.Value → S.Value
  move_value (S.number t) = S.number (moved t)
  move_value (S.text t) = S.text (moved t)
  move_value (S.bytes t) = S.bytes (moved t)

  abbrev pub move_operator : S.Operator → S.Operator
  move_operator (S.range t) = S.range (moved t)
  move_operator (S.range_below t) = S.range_below (moved t)
  move_operator (S.control t) = S.control (moved t)

  abbrev mutual
    pub move_types : S.Types → S.Types
    move_types (S.only r) = S.only (move_type1 r)
    move_types (S.or t s r) = S.or (move_types t) (moved s) (move_type1 r)

    pub move_type1 : S.Type1 → S.Type1
    move_type1 (S.one x) = S.one (move_type2 x)
    move_type1 (S.operation x o y) = S.operation (move_type2 x) (move_operator o) (move_type2 y)

    pub move_type2 : S.Type2 → S.Type2
    move_type2 (S.literal v) = S.literal (move_value v)
    move_type2 (S.typename r) = S.typename (move_ref r)
    move_type2 (S.parens o t c) = S.parens (moved o) (move_types t) (moved c)
    move_type2 (S.map_of o g c) = S.map_of (moved o) (move_group g) (moved c)
    move_type2 (S.array_of o g c) = S.array_of (moved o) (move_group g) (moved c)
    move_type2 (S.unwrapped u r) = S.unwrapped (moved u) (move_ref r)
    move_type2 (S.choice_of a o g c) = S.choice_of (moved a) (moved o) (move_group g) (moved c)
    move_type2 (S.choice_of_name a r) = S.choice_of_name (moved a) (move_ref r)
    move_type2 (S.tagged o t c) = S.tagged (moved o) (move_types t) (moved c)
    move_type2 (S.tagged_by o h a p t c) = S.tagged_by (moved o) (move_types h) (moved a) (moved p) (move_types t) (moved c)
    move_type2 (S.simple_by o h c) = S.simple_by (moved o) (move_types h) (moved c)
    move_type2 (S.hash t) = S.hash (moved t)

    pub move_ref : S.Ref → S.Ref
    move_ref (S.name t) = S.name (moved t)
    move_ref (S.applied o a c) = S.applied (moved o) (move_arg a) (moved c)

    pub move_arg : S.GenericArg → S.GenericArg
    move_arg (S.argument r) = S.argument (move_type1 r)
    move_arg (S.arguments a c r) = S.arguments (move_arg a) (moved c) (move_type1 r)

    pub move_group : S.Group → S.Group
    move_group (S.sole es) = S.sole (move_choice es)
    move_group (S.orelse g s es) = S.orelse (move_group g) (moved s) (move_choice es)

    pub move_choice : S.GrpChoice → S.GrpChoice
    move_choice S.no_entries = S.no_entries
    move_choice (S.entries es e c) = S.entries (move_choice es) (move_entry e) (maybe_moved c)

    pub move_entry : S.GrpEnt → S.GrpEnt
    move_entry (S.typed o t) = S.typed (maybe_moved o) (move_types t)
    move_entry (S.keyed o k t) = S.keyed (maybe_moved o) (move_key k) (move_types t)
    move_entry (S.grouped o p g c) = S.grouped (maybe_moved o) (moved p) (move_group g) (moved c)

    pub move_key : S.MemberKey → S.MemberKey
    move_key (S.type_key r u a) = S.type_key (move_type1 r) (maybe_moved u) (moved a)
    move_key (S.bareword n c) = S.bareword (moved n) (moved c)
    move_key (S.value_key v c) = S.value_key (move_value v) (moved c)

  abbrev pub move_parm : S.GenericParm → S.GenericParm
  move_parm (S.parameter n) = S.parameter (moved n)
  move_parm (S.parameters p c n) = S.parameters (move_parm p) (moved c) (moved n)

  abbrev pub move_name : S.RuleName → S.RuleName
  move_name (S.plain n) = S.plain (moved n)
  move_name (S.generic o p c) = S.generic (moved o) (move_parm p) (moved c)

  abbrev pub move_assignt : S.AssignT → S.AssignT
  move_assignt (S.type_is t) = S.type_is (moved t)
  move_assignt (S.type_or t) = S.type_or (moved t)

  abbrev pub move_assigng : S.AssignG → S.AssignG
  move_assigng (S.group_is t) = S.group_is (moved t)
  move_assigng (S.group_or t) = S.group_or (moved t)

  abbrev pub move_rule : S.Rule → S.Rule
  move_rule (S.type_rule n a t) = S.type_rule (move_name n) (move_assignt a) (move_types t)
  move_rule (S.group_rule n a e) = S.group_rule (move_name n) (move_assigng a) (move_entry e)

  abbrev pub move_rules : S.Rules → S.Rules
  move_rules S.no_rules = S.no_rules
  move_rules (S.rules rs r) = S.rules (move_rules rs) (move_rule r)

  abbrev pub move_cddl : S.Cddl → S.Cddl
  move_cddl (S.cddl rs e) = S.cddl (move_rules rs) (moved e)

  -- Its tokens.

  join : (xs ys : List Lexeme) {us vs : List Lexeme} → us ≡ map move_lexeme xs → vs ≡ map move_lexeme ys → us ++ vs ≡ map move_lexeme (xs ++ ys)
  join xs ys {us} {vs} p q = ap (λ ps. ps ++ vs) p ∙ ap (λ bs. map move_lexeme xs ++ bs) q ∙ sym (map-append move_lexeme xs ys)

  after : (l : Lexeme) (ys : List Lexeme) {vs : List Lexeme} → vs ≡ map move_lexeme ys → move_lexeme l ∷ vs ≡ map move_lexeme (l ∷ ys)
  after l ys q = ap (λ bs. move_lexeme l ∷ bs) q

  closed : (xs : List Lexeme) (l : Lexeme) {us : List Lexeme} → us ≡ map move_lexeme xs → us ++ move_lexeme l ∷ [] ≡ map move_lexeme (xs ++ l ∷ [])
  closed xs l p = join xs (l ∷ []) p refl

  optional_flat : (k : Kind) (o : Option Token) → S.optional k (maybe_moved o) ≡ map move_lexeme (S.optional k o)
  optional_flat k None = refl
  optional_flat k (Some t) = refl

  value_flat : (v : S.Value) → S.flat_value (move_value v) ≡ move_lexeme (S.flat_value v)
  value_flat (S.number t) = refl
  value_flat (S.text t) = refl
  value_flat (S.bytes t) = refl

  operator_flat : (o : S.Operator) → S.flat_operator (move_operator o) ≡ move_lexeme (S.flat_operator o)
  operator_flat (S.range t) = refl
  operator_flat (S.range_below t) = refl
  operator_flat (S.control t) = refl

  mutual
    pub types_flat : (t : S.Types) → S.flat_types (move_types t) ≡ map move_lexeme (S.flat_types t)
    types_flat (S.only r) = type1_flat r
    types_flat (S.or t s r) = join (S.flat_types t) ((K.Slash, s) ∷ S.flat_type1 r) (types_flat t) (after (K.Slash, s) (S.flat_type1 r) (type1_flat r))

    pub type1_flat : (r : S.Type1) → S.flat_type1 (move_type1 r) ≡ map move_lexeme (S.flat_type1 r)
    type1_flat (S.one x) = type2_flat x
    type1_flat (S.operation x o y) =
        join (S.flat_type2 x) (S.flat_operator o ∷ S.flat_type2 y) (type2_flat x)
        (ap (λ l. l ∷ S.flat_type2 (move_type2 y)) (operator_flat o) ∙ after (S.flat_operator o) (S.flat_type2 y) (type2_flat y))

    pub type2_flat : (x : S.Type2) → S.flat_type2 (move_type2 x) ≡ map move_lexeme (S.flat_type2 x)
    type2_flat (S.literal v) = ap (λ l. l ∷ []) (value_flat v)
    type2_flat (S.typename r) = ref_flat r
    type2_flat (S.parens o t c) = after (K.ParenOpen, o) (S.flat_types t ++ (K.ParenClose, c) ∷ []) (closed (S.flat_types t) (K.ParenClose, c) (types_flat t))
    type2_flat (S.map_of o g c) = after (K.BraceOpen, o) (S.flat_group g ++ (K.BraceClose, c) ∷ []) (closed (S.flat_group g) (K.BraceClose, c) (group_flat g))
    type2_flat (S.array_of o g c) = after (K.BracketOpen, o) (S.flat_group g ++ (K.BracketClose, c) ∷ []) (closed (S.flat_group g) (K.BracketClose, c) (group_flat g))
    type2_flat (S.unwrapped u r) = after (K.Tilde, u) (S.flat_ref r) (ref_flat r)
    type2_flat (S.choice_of a o g c) = after (K.Ampersand, a) ((K.ParenOpen, o) ∷ (S.flat_group g ++ (K.ParenClose, c) ∷ [])) (after (K.ParenOpen, o) (S.flat_group g ++ (K.ParenClose, c) ∷ []) (closed (S.flat_group g) (K.ParenClose, c) (group_flat g)))
    type2_flat (S.choice_of_name a r) = after (K.Ampersand, a) (S.flat_ref r) (ref_flat r)
    type2_flat (S.tagged o t c) = after (K.TagOpen, o) (S.flat_types t ++ (K.ParenClose, c) ∷ []) (closed (S.flat_types t) (K.ParenClose, c) (types_flat t))
    type2_flat (S.tagged_by o h a p t c) =
        let rest : List Lexeme = S.flat_types t ++ (K.ParenClose, c) ∷ [] in
        after (K.TagHeadOpen, o) (S.flat_types h ++ (K.AngleClose, a) ∷ (K.ParenOpen, p) ∷ rest)
        (join (S.flat_types h) ((K.AngleClose, a) ∷ (K.ParenOpen, p) ∷ rest) (types_flat h)
        (after (K.AngleClose, a) ((K.ParenOpen, p) ∷ rest) (after (K.ParenOpen, p) rest (closed (S.flat_types t) (K.ParenClose, c) (types_flat t)))))
    type2_flat (S.simple_by o h c) = after (K.SimpleHeadOpen, o) (S.flat_types h ++ (K.AngleClose, c) ∷ []) (closed (S.flat_types h) (K.AngleClose, c) (types_flat h))
    type2_flat (S.hash t) = refl

    pub ref_flat : (r : S.Ref) → S.flat_ref (move_ref r) ≡ map move_lexeme (S.flat_ref r)
    ref_flat (S.name t) = refl
    ref_flat (S.applied o a c) = after (K.NameOpen, o) (S.flat_arg a ++ (K.AngleClose, c) ∷ []) (closed (S.flat_arg a) (K.AngleClose, c) (arg_flat a))

    pub arg_flat : (a : S.GenericArg) → S.flat_arg (move_arg a) ≡ map move_lexeme (S.flat_arg a)
    arg_flat (S.argument r) = type1_flat r
    arg_flat (S.arguments a c r) = join (S.flat_arg a) ((K.Comma, c) ∷ S.flat_type1 r) (arg_flat a) (after (K.Comma, c) (S.flat_type1 r) (type1_flat r))

    pub group_flat : (g : S.Group) → S.flat_group (move_group g) ≡ map move_lexeme (S.flat_group g)
    group_flat (S.sole es) = choice_flat es
    group_flat (S.orelse g s es) = join (S.flat_group g) ((K.DoubleSlash, s) ∷ S.flat_choice es) (group_flat g) (after (K.DoubleSlash, s) (S.flat_choice es) (choice_flat es))

    pub choice_flat : (es : S.GrpChoice) → S.flat_choice (move_choice es) ≡ map move_lexeme (S.flat_choice es)
    choice_flat S.no_entries = refl
    choice_flat (S.entries es e c) = join (S.flat_choice es) (S.flat_entry e ++ S.optional K.Comma c) (choice_flat es) (join (S.flat_entry e) (S.optional K.Comma c) (entry_flat e) (optional_flat K.Comma c))

    pub entry_flat : (e : S.GrpEnt) → S.flat_entry (move_entry e) ≡ map move_lexeme (S.flat_entry e)
    entry_flat (S.typed o t) = join (S.optional K.Occur o) (S.flat_types t) (optional_flat K.Occur o) (types_flat t)
    entry_flat (S.keyed o k t) = join (S.optional K.Occur o) (S.flat_key k ++ S.flat_types t) (optional_flat K.Occur o) (join (S.flat_key k) (S.flat_types t) (key_flat k) (types_flat t))
    entry_flat (S.grouped o p g c) =
        join (S.optional K.Occur o) ((K.ParenOpen, p) ∷ (S.flat_group g ++ (K.ParenClose, c) ∷ [])) (optional_flat K.Occur o)
        (after (K.ParenOpen, p) (S.flat_group g ++ (K.ParenClose, c) ∷ []) (closed (S.flat_group g) (K.ParenClose, c) (group_flat g)))

    key_flat : (k : S.MemberKey) → S.flat_key (move_key k) ≡ map move_lexeme (S.flat_key k)
    key_flat (S.type_key r u a) = join (S.flat_type1 r) (S.optional K.Cut u ++ (K.Arrow, a) ∷ []) (type1_flat r) (closed (S.optional K.Cut u) (K.Arrow, a) (optional_flat K.Cut u))
    key_flat (S.bareword n c) = refl
    key_flat (S.value_key v c) = ap (λ l. l ∷ (K.Colon, moved c) ∷ []) (value_flat v)

  parm_flat : (p : S.GenericParm) → S.flat_parm (move_parm p) ≡ map move_lexeme (S.flat_parm p)
  parm_flat (S.parameter n) = refl
  parm_flat (S.parameters p c n) = join (S.flat_parm p) ((K.Comma, c) ∷ (K.Name, n) ∷ []) (parm_flat p) refl

  name_flat : (n : S.RuleName) → S.flat_name (move_name n) ≡ map move_lexeme (S.flat_name n)
  name_flat (S.plain n) = refl
  name_flat (S.generic o p c) = after (K.NameOpen, o) (S.flat_parm p ++ (K.AngleClose, c) ∷ []) (closed (S.flat_parm p) (K.AngleClose, c) (parm_flat p))

  assignt_flat : (a : S.AssignT) → S.flat_assignt (move_assignt a) ≡ move_lexeme (S.flat_assignt a)
  assignt_flat (S.type_is t) = refl
  assignt_flat (S.type_or t) = refl

  assigng_flat : (a : S.AssignG) → S.flat_assigng (move_assigng a) ≡ move_lexeme (S.flat_assigng a)
  assigng_flat (S.group_is t) = refl
  assigng_flat (S.group_or t) = refl

  rule_flat : (r : S.Rule) → S.flat_rule (move_rule r) ≡ map move_lexeme (S.flat_rule r)
  rule_flat (S.type_rule n a t) =
      join (S.flat_name n) (S.flat_assignt a ∷ S.flat_types t) (name_flat n)
      (ap (λ l. l ∷ S.flat_types (move_types t)) (assignt_flat a) ∙ after (S.flat_assignt a) (S.flat_types t) (types_flat t))
  rule_flat (S.group_rule n a e) =
      join (S.flat_name n) (S.flat_assigng a ∷ S.flat_entry e) (name_flat n)
      (ap (λ l. l ∷ S.flat_entry (move_entry e)) (assigng_flat a) ∙ after (S.flat_assigng a) (S.flat_entry e) (entry_flat e))

  rules_flat : (rs : S.Rules) → S.flat_rules (move_rules rs) ≡ map move_lexeme (S.flat_rules rs)
  rules_flat S.no_rules = refl
  rules_flat (S.rules rs r) = join (S.flat_rules rs) (S.flat_rule r) (rules_flat rs) (rule_flat r)

  pub flat_moved : (x : S.Cddl) → S.flat (move_cddl x) ≡ map move_lexeme (S.flat x)
  flat_moved (S.cddl rs e) = closed (S.flat_rules rs) (K.End, e) (rules_flat rs)

  -- It is in normal form too.

  is_bare_moved : (e : S.GrpEnt) → S.is_bare (move_entry e) ≡ S.is_bare e
  is_bare_moved (S.typed None t) = refl
  is_bare_moved (S.typed (Some o) t) = refl
  is_bare_moved (S.keyed o k t) = refl
  is_bare_moved (S.grouped o p g c) = refl

  is_type_moved : (g : S.Group) → S.is_type (move_group g) ≡ S.is_type g
  is_type_moved (S.sole S.no_entries) = refl
  is_type_moved (S.sole (S.entries S.no_entries (S.typed None t) None)) = refl
  is_type_moved (S.sole (S.entries S.no_entries (S.typed None t) (Some c))) = refl
  is_type_moved (S.sole (S.entries S.no_entries (S.typed (Some o) t) c)) = refl
  is_type_moved (S.sole (S.entries S.no_entries (S.keyed o k t) c)) = refl
  is_type_moved (S.sole (S.entries S.no_entries (S.grouped o p g q) c)) = refl
  is_type_moved (S.sole (S.entries (S.entries es d b) e c)) = refl
  is_type_moved (S.orelse g s es) = refl

  mutual
    types_normal : (t : S.Types) → S.NormalTypes t → S.NormalTypes (move_types t)
    types_normal (S.only r) h = type1_normal r h
    types_normal (S.or t s r) h = (types_normal t h.0, type1_normal r h.1)

    type1_normal : (r : S.Type1) → S.NormalType1 r → S.NormalType1 (move_type1 r)
    type1_normal (S.one x) h = type2_normal x h
    type1_normal (S.operation x o y) h = (type2_normal x h.0, type2_normal y h.1)

    type2_normal : (x : S.Type2) → S.NormalType2 x → S.NormalType2 (move_type2 x)
    type2_normal (S.literal v) h = tt
    type2_normal (S.typename r) h = ref_normal r h
    type2_normal (S.parens o t c) h = types_normal t h
    type2_normal (S.map_of o g c) h = group_normal g h
    type2_normal (S.array_of o g c) h = group_normal g h
    type2_normal (S.unwrapped u r) h = ref_normal r h
    type2_normal (S.choice_of a o g c) h = group_normal g h
    type2_normal (S.choice_of_name a r) h = ref_normal r h
    type2_normal (S.tagged o t c) h = types_normal t h
    type2_normal (S.tagged_by o i a p t c) h = (types_normal i h.0, types_normal t h.1)
    type2_normal (S.simple_by o i c) h = types_normal i h
    type2_normal (S.hash t) h = tt

    ref_normal : (r : S.Ref) → S.NormalRef r → S.NormalRef (move_ref r)
    ref_normal (S.name t) h = tt
    ref_normal (S.applied o a c) h = arg_normal a h

    arg_normal : (a : S.GenericArg) → S.NormalArg a → S.NormalArg (move_arg a)
    arg_normal (S.argument r) h = type1_normal r h
    arg_normal (S.arguments a c r) h = (arg_normal a h.0, type1_normal r h.1)

    group_normal : (g : S.Group) → S.NormalGroup g → S.NormalGroup (move_group g)
    group_normal (S.sole es) h = choice_normal es h
    group_normal (S.orelse g s es) h = (group_normal g h.0, choice_normal es h.1)

    choice_normal : (es : S.GrpChoice) → S.NormalChoice es → S.NormalChoice (move_choice es)
    choice_normal S.no_entries h = tt
    choice_normal (S.entries es e c) h = (choice_normal es h.0, entry_normal e h.1)

    entry_normal : (e : S.GrpEnt) → S.NormalEntry e → S.NormalEntry (move_entry e)
    entry_normal (S.typed o t) h = types_normal t h
    entry_normal (S.keyed o k t) h = (key_normal k h.0, types_normal t h.1)
    entry_normal (S.grouped o p g c) h = (is_type_moved g ∙ h.0, group_normal g h.1)

    key_normal : (k : S.MemberKey) → S.NormalKey k → S.NormalKey (move_key k)
    key_normal (S.type_key r u a) h = type1_normal r h
    key_normal (S.bareword n c) h = tt
    key_normal (S.value_key v c) h = tt

  rule_normal : (r : S.Rule) → S.NormalRule r → S.NormalRule (move_rule r)
  rule_normal (S.type_rule n a t) h = types_normal t h
  rule_normal (S.group_rule n (S.group_is a) e) h = (is_bare_moved e ∙ h.0, entry_normal e h.1)
  rule_normal (S.group_rule n (S.group_or a) e) h = entry_normal e h

  rules_normal : (rs : S.Rules) → S.NormalRules rs → S.NormalRules (move_rules rs)
  rules_normal S.no_rules h = tt
  rules_normal (S.rules rs r) h = (rules_normal rs h.0, rule_normal r h.1)

  normal_moved : (x : S.Cddl) → S.Normal x → S.Normal (move_cddl x)
  normal_moved (S.cddl rs e) h = rules_normal rs h

  pub prints_moved : (x : S.Cddl) (ls : List Lexeme) → Prints x ls → Prints (move_cddl x) (map move_lexeme ls)
  prints_moved x ls p = record { normal = normal_moved x p.normal; tokens = flat_moved x ∙ ap (map move_lexeme) p.tokens }

  pub lexemes_moved : (ts : List Token) → lexemes (map moved ts) ≡ map move_lexeme (lexemes ts)
  lexemes_moved [] = refl
  lexemes_moved (t ∷ ts) = ap (λ ls. lexeme (moved t) ∷ ls) (lexemes_moved ts)
