-- The machine reads each tree.
use Rattle.std.proofs.Common.{◌≡◌, false, List, [], ◌∷◌, ◌++◌, Option, Some, None, refl, ap, ◌∙◌}
use Rattle.cddl_token.specs.declared.Token.{Token}
use Rattle.cddl_token.specs.declared.Kind.{Kind}
use Rattle.cddl_token.specs.declared.Kind.TheVariants.{Name, NameOpen, Control, Occur, Assign, TypeAssign, GroupAssign, Slash, DoubleSlash, Range, RangeBelow, Arrow, Cut, Colon, Comma, ParenOpen, ParenClose, BracketClose, BraceClose, AngleClose, End}
use Rattle.tree_nodes.specs.Syntax.Syntax.{Lexeme, Value, number, text, bytes, Operator, range, range_below, control, Types, only, or, Type1, one, operation, Type2, literal, typename, parens, map_of, array_of, unwrapped, choice_of, choice_of_name, tagged, tagged_by, simple_by, hash, Ref, name, applied, GenericArg, argument, arguments, Group, sole, orelse, GrpChoice, no_entries, entries, GrpEnt, typed, keyed, grouped, MemberKey, type_key, bareword, value_key, GenericParm, parameter, parameters, RuleName, plain, generic, type_is, type_or, group_is, group_or, Rule, type_rule, group_rule, Rules, no_rules, rules, Cddl, cddl, optional, flat_value, flat_operator, flat_types, flat_type1, flat_type2, flat_ref, flat_arg, flat_group, flat_choice, flat_entry, flat_key, flat_parm, flat_name, flat_rule, flat_rules, flat, is_bare, is_type, NormalTypes, NormalType1, NormalType2, NormalRef, NormalArg, NormalGroup, NormalChoice, NormalEntry, NormalKey, NormalRule, NormalRules, Normal}
use Rattle.tree_nodes.specs.Syntax.Machine.{Before, nothing, earlier, no_arg, earlier_arg, no_parm, Prefix, bare, tilde, ampersand, TypeOpening, paren, tag, tag_head, tag_content, simple_head, brace, bracket, choice, AtType2, lower, upper, AtType1, head, next, argument_of, AtTypes, body, inside, start, value_of, AtEntry, group_body, member, AtGroup, within, in_entry, State, begin, awaits_parm, have_parm, awaits_assign, want, want_ref, have, have_group, done, got, open_types, open_entry, open_group, open_argument, open_value, prefixed, rule_of, next_rule, shut_paren, open_paren, after_entry, shut_types, after_start, after_types, after_type1, step, run}

pub run-append : (s : State) (a b : List Lexeme) → run s (a ++ b) ≡ run (run s a) b
run-append s [] b = refl
run-append s (t ∷ a) b = run-append (step s t.0 t.1) a b

-- A run over two lists, where the run over the first is known.
pub run_in_parts : (s m : State) (a b : List Lexeme) → run s a ≡ m → run s (a ++ b) ≡ run m b
run_in_parts s m a b e = run-append s a b ∙ ap (λ (x : State). run x b) e

-- after a type, after arguments, after an entry, after entries, after a group
abbrev pub got_types : AtTypes → Types → State
got_types k (only r) = have (head k) r
got_types k (or ts s r) = have (next k ts s) r

abbrev pub got_arg : AtType2 → Prefix → Token → GenericArg → State
got_arg k p o (argument r) = have (argument_of k p o no_arg) r
got_arg k p o (arguments a c r) = have (argument_of k p o (earlier_arg a c)) r

abbrev pub got_entry : AtEntry → GrpEnt → State
got_entry p (typed oc t) = got_types (start p oc) t
got_entry p (keyed oc m t) = got_types (value_of p oc m) t
got_entry p (grouped oc o g c) = have_group p (grouped oc o g c)

abbrev pub got_choice : AtGroup → Before → GrpChoice → State
got_choice k b no_entries = open_entry (member k b no_entries)
got_choice k b (entries es e None) = got_entry (member k b es) e
got_choice k b (entries es e (Some c)) = open_entry (member k b (entries es e (Some c)))

abbrev pub got_group : AtGroup → Group → State
got_group k (sole es) = got_choice k nothing es
got_group k (orelse g s es) = got_choice k (earlier g s) es

-- where a reference is awaited
abbrev pub at_ref : AtType2 → Prefix → State
at_ref k bare = want k
at_ref k (tilde u) = want_ref k (tilde u)
at_ref k (ampersand a) = want_ref k (ampersand a)

-- A token that goes on with neither a type nor a key.
abbrev pub IsPast : Kind → Type 0
IsPast Range = ⊥
IsPast RangeBelow = ⊥
IsPast Control = ⊥
IsPast Slash = ⊥
IsPast Arrow = ⊥
IsPast Cut = ⊥
IsPast Colon = ⊥
IsPast _ = Unit {0}

-- one that is no comma either
abbrev pub IsFresh : Kind → Type 0
IsFresh Comma = ⊥
IsFresh Range = ⊥
IsFresh RangeBelow = ⊥
IsFresh Control = ⊥
IsFresh Slash = ⊥
IsFresh Arrow = ⊥
IsFresh Cut = ⊥
IsFresh Colon = ⊥
IsFresh _ = Unit {0}

abbrev pub Starts : List Lexeme → Type 0
Starts [] = ⊥
Starts (t ∷ ts) = IsFresh t.0

starts-append : (a b : List Lexeme) → Starts a → Starts (a ++ b)
starts-append [] b h = absurd h
starts-append (t ∷ a) b h = h

starts_ref : (r : Ref) → Starts (flat_ref r)
starts_ref (name t) = tt
starts_ref (applied o a c) = tt

starts_value : (v : Value) (ts : List Lexeme) → Starts (flat_value v ∷ ts)
starts_value (number t) ts = tt
starts_value (text t) ts = tt
starts_value (bytes t) ts = tt

starts_type2 : (x : Type2) → Starts (flat_type2 x)
starts_type2 (literal v) = starts_value v []
starts_type2 (typename r) = starts_ref r
starts_type2 (parens o t c) = tt
starts_type2 (map_of o g c) = tt
starts_type2 (array_of o g c) = tt
starts_type2 (unwrapped u r) = tt
starts_type2 (choice_of a o g c) = tt
starts_type2 (choice_of_name a r) = tt
starts_type2 (tagged o t c) = tt
starts_type2 (tagged_by o h a p t c) = tt
starts_type2 (simple_by o h c) = tt
starts_type2 (hash t) = tt

starts_type1 : (r : Type1) → Starts (flat_type1 r)
starts_type1 (one x) = starts_type2 x
starts_type1 (operation x o y) = starts-append (flat_type2 x) (flat_operator o ∷ flat_type2 y) (starts_type2 x)

starts_types : (t : Types) → Starts (flat_types t)
starts_types (only r) = starts_type1 r
starts_types (or t s r) = starts-append (flat_types t) ((Slash, s) ∷ flat_type1 r) (starts_types t)

starts_key : (k : MemberKey) (ts : List Lexeme) → Starts (flat_key k ++ ts)
starts_key (type_key r u a) ts = starts-append (flat_type1 r ++ (optional Cut u ++ (Arrow, a) ∷ [])) ts (starts-append (flat_type1 r) (optional Cut u ++ (Arrow, a) ∷ []) (starts_type1 r))
starts_key (bareword n c) ts = tt
starts_key (value_key v c) ts = starts_value v ((Colon, c) ∷ ts)

starts_entry : (e : GrpEnt) → Starts (flat_entry e)
starts_entry (typed None t) = starts_types t
starts_entry (typed (Some o) t) = tt
starts_entry (keyed None k t) = starts_key k (flat_types t)
starts_entry (keyed (Some o) k t) = tt
starts_entry (grouped None o g c) = tt
starts_entry (grouped (Some oc) o g c) = tt

-- After a type1 with which nothing goes on.
past_type1 : (k : AtType1) (r : Type1) (q : Kind) (t : Token) → IsPast q → step (have k r) q t ≡ after_type1 k r q t
past_type1 k r Range t h = absurd h
past_type1 k r RangeBelow t h = absurd h
past_type1 k r Control t h = absurd h
past_type1 k r Slash t h = absurd h
past_type1 k r q t h = refl

pub past_types : (k : AtTypes) (s : Types) (q : Kind) (t : Token) → IsPast q → step (got_types k s) q t ≡ after_types k s q t
past_types k (only r) q t h = past_type1 (head k) r q t h
past_types k (or ts s r) q t h = past_type1 (next k ts s) r q t h

past_start : (p : AtEntry) (oc : Option Token) (s : Types) (q : Kind) (t : Token) → IsPast q → after_start p oc s q t ≡ after_entry p (typed oc s) q t
past_start p oc s Arrow t h = absurd h
past_start p oc s Cut t h = absurd h
past_start p oc s Colon t h = absurd h
past_start p oc s q t h = refl

-- After an entry with which nothing goes on.
pub past_entry : (p : AtEntry) (e : GrpEnt) (q : Kind) (t : Token) → IsPast q → step (got_entry p e) q t ≡ after_entry p e q t
past_entry p (typed oc s) q t h = past_types (start p oc) s q t h ∙ past_start p oc s q t h
past_entry p (keyed oc m s) q t h = past_types (value_of p oc m) s q t h
past_entry p (grouped oc o g c) q t h = refl

-- an entry without a comma, and a token that is none
no_comma : (k : AtGroup) (b : Before) (es : GrpChoice) (e : GrpEnt) (q : Kind) (t : Token) → IsFresh q → after_entry (member k b es) e q t ≡ step (open_entry (member k b (entries es e None))) q t
no_comma k b es e Comma t h = absurd h
no_comma k b es e q t h = refl

fresh_past : (q : Kind) → IsFresh q → IsPast q
fresh_past Range h = h
fresh_past RangeBelow h = h
fresh_past Control h = h
fresh_past Slash h = h
fresh_past Arrow h = h
fresh_past Cut h = h
fresh_past Colon h = h
fresh_past q h = tt

-- After the entries of an alternative it is as at the beginning of a further one.
pub same_step : (k : AtGroup) (b : Before) (es : GrpChoice) (q : Kind) (t : Token) → IsFresh q → step (got_choice k b es) q t ≡ step (open_entry (member k b es)) q t
same_step k b no_entries q t h = refl
same_step k b (entries es e None) q t h = past_entry (member k b es) e q t (fresh_past q h) ∙ no_comma k b es e q t h
same_step k b (entries es e (Some c)) q t h = refl

same_run : (k : AtGroup) (b : Before) (es : GrpChoice) (ts : List Lexeme) → Starts ts → run (got_choice k b es) ts ≡ run (open_entry (member k b es)) ts
same_run k b es [] h = absurd h
same_run k b es (t ∷ ts) h = ap (λ (x : State). run x ts) (same_step k b es t.0 t.1 h)

takes_comma : (k : AtGroup) (b : Before) (es : GrpChoice) (e : GrpEnt) (c : Option Token) → run (got_entry (member k b es) e) (optional Comma c) ≡ got_choice k b (entries es e c)
takes_comma k b es e None = refl
takes_comma k b es e (Some c) = past_entry (member k b es) e Comma c tt

takes_slashes : (k : AtGroup) (g : Group) (s : Token) → step (got_group k g) DoubleSlash s ≡ open_entry (member k (earlier g s) no_entries)
takes_slashes k (sole es) s = same_step k nothing es DoubleSlash s tt
takes_slashes k (orelse g p es) s = same_step k (earlier g p) es DoubleSlash s tt

takes_brace : (k : AtType2) (o : Token) (g : Group) (c : Token) → step (got_group (within k (brace o)) g) BraceClose c ≡ got k (map_of o g c)
takes_brace k o (sole es) c = same_step (within k (brace o)) nothing es BraceClose c tt
takes_brace k o (orelse g p es) c = same_step (within k (brace o)) (earlier g p) es BraceClose c tt

takes_bracket : (k : AtType2) (o : Token) (g : Group) (c : Token) → step (got_group (within k (bracket o)) g) BracketClose c ≡ got k (array_of o g c)
takes_bracket k o (sole es) c = same_step (within k (bracket o)) nothing es BracketClose c tt
takes_bracket k o (orelse g p es) c = same_step (within k (bracket o)) (earlier g p) es BracketClose c tt

takes_choice : (k : AtType2) (a o : Token) (g : Group) (c : Token) → step (got_group (within k (choice a o)) g) ParenClose c ≡ got k (choice_of a o g c)
takes_choice k a o (sole es) c = same_step (within k (choice a o)) nothing es ParenClose c tt
takes_choice k a o (orelse g p es) c = same_step (within k (choice a o)) (earlier g p) es ParenClose c tt

takes_paren : (p : AtEntry) (oc : Option Token) (o : Token) (g : Group) (c : Token) → step (got_group (in_entry p oc o) g) ParenClose c ≡ shut_paren p oc o g c
takes_paren p oc o (sole es) c = same_step (in_entry p oc o) nothing es ParenClose c tt
takes_paren p oc o (orelse g s es) c = same_step (in_entry p oc o) (earlier g s) es ParenClose c tt

shuts_group : (p : AtEntry) (oc : Option Token) (o : Token) (g : Group) (c : Token) → is_type g ≡ false → shut_paren p oc o g c ≡ have_group p (grouped oc o g c)
shuts_group p oc o (sole (entries no_entries (typed None t) None)) c h = cc
shuts_group p oc o g c h = refl

takes_operator : (k : AtType1) (x : Type2) (o : Operator) (ts : List Lexeme) → run (have k (one x)) (flat_operator o ∷ ts) ≡ run (want (upper k x o)) ts
takes_operator k x (range t) ts = refl
takes_operator k x (range_below t) ts = refl
takes_operator k x (control t) ts = refl

takes_slash : (k : AtTypes) (s : Types) (t : Token) → step (got_types k s) Slash t ≡ want (lower (next k s t))
takes_slash k (only r) t = refl
takes_slash k (or ts s r) t = refl

takes_shut : (k : AtType2) (o : TypeOpening) (s : Types) (q : Kind) (c : Token) → IsPast q → step (got_types (inside k o) s) q c ≡ shut_types k o s q c
takes_shut k o s q c h = past_types (inside k o) s q c h

takes_occur : (p : AtEntry) (o : Option Token) → run (open_entry p) (optional Occur o) ≡ open_types (start p o)
takes_occur p None = refl
takes_occur p (Some o) = refl

takes_value : (k : AtType2) (v : Value) (ts : List Lexeme) → run (want k) (flat_value v ∷ ts) ≡ run (got k (literal v)) ts
takes_value k (number t) ts = refl
takes_value k (text t) ts = refl
takes_value k (bytes t) ts = refl

takes_arg : (k : AtType2) (p : Prefix) (o : Token) (a : GenericArg) (c : Token) → step (got_arg k p o a) Comma c ≡ open_argument k p o (earlier_arg a c)
takes_arg k p o (argument r) c = refl
takes_arg k p o (arguments a d r) c = refl

takes_angle : (k : AtType2) (p : Prefix) (o : Token) (a : GenericArg) (c : Token) → step (got_arg k p o a) AngleClose c ≡ got k (prefixed p (applied o a c))
takes_angle k p o (argument r) c = refl
takes_angle k p o (arguments a d r) c = refl

takes_name_open : (k : AtType2) (p : Prefix) (o : Token) → step (at_ref k p) NameOpen o ≡ open_argument k p o no_arg
takes_name_open k bare o = refl
takes_name_open k (tilde u) o = refl
takes_name_open k (ampersand a) o = refl

takes_name : (k : AtType2) (p : Prefix) (n : Token) → step (at_ref k p) Name n ≡ got k (prefixed p (name n))
takes_name k bare n = refl
takes_name k (tilde u) n = refl
takes_name k (ampersand a) n = refl

takes_arrow : (p : AtEntry) (oc : Option Token) (r : Type1) (u : Option Token) (a : Token) → run (have (head (start p oc)) r) (optional Cut u ++ (Arrow, a) ∷ []) ≡ open_value p oc (type_key r u a)
takes_arrow p oc r None a = refl
takes_arrow p oc r (Some u) a = refl

reads_parens : (k : AtType2) (o : Token) (t : Types) (c : Token) → ((j : AtTypes) → run (open_types j) (flat_types t) ≡ got_types j t) → run (open_paren k o) (flat_types t ++ (ParenClose, c) ∷ []) ≡ got k (parens o t c)
reads_parens (lower (head (start p oc))) o t c h =
    run_in_parts _ _ (flat_types t) ((ParenClose, c) ∷ []) (h (start (member (in_entry p oc o) nothing no_entries) None))
    ∙ takes_paren p oc o (sole (entries no_entries (typed None t) None)) c
reads_parens k o t c h = run_in_parts _ _ (flat_types t) ((ParenClose, c) ∷ []) (h (inside k (paren o))) ∙ takes_shut k (paren o) t ParenClose c tt

mutual
  pub reads_types : (t : Types) → NormalTypes t → (k : AtTypes) → run (open_types k) (flat_types t) ≡ got_types k t
  reads_types (only r) n k = reads_type1 r n (head k)
  reads_types (or t s r) n k =
      run_in_parts _ _ (flat_types t) ((Slash, s) ∷ flat_type1 r) (reads_types t n.0 k)
      ∙ ap (λ (x : State). run x (flat_type1 r)) (takes_slash k t s)
      ∙ reads_type1 r n.1 (next k t s)

  pub reads_type1 : (r : Type1) → NormalType1 r → (k : AtType1) → run (want (lower k)) (flat_type1 r) ≡ have k r
  reads_type1 (one x) n k = reads_type2 x n (lower k)
  reads_type1 (operation x o y) n k =
      run_in_parts _ _ (flat_type2 x) (flat_operator o ∷ flat_type2 y) (reads_type2 x n.0 (lower k))
      ∙ takes_operator k x o (flat_type2 y)
      ∙ reads_type2 y n.1 (upper k x o)

  pub reads_type2 : (x : Type2) → NormalType2 x → (k : AtType2) → run (want k) (flat_type2 x) ≡ got k x
  reads_type2 (literal v) n k = takes_value k v []
  reads_type2 (typename r) n k = reads_ref r n k bare
  reads_type2 (parens o t c) n k = reads_parens k o t c (reads_types t n)
  reads_type2 (map_of o g c) n k = run_in_parts _ _ (flat_group g) ((BraceClose, c) ∷ []) (reads_group g n (within k (brace o))) ∙ takes_brace k o g c
  reads_type2 (array_of o g c) n k = run_in_parts _ _ (flat_group g) ((BracketClose, c) ∷ []) (reads_group g n (within k (bracket o))) ∙ takes_bracket k o g c
  reads_type2 (unwrapped u r) n k = reads_ref r n k (tilde u)
  reads_type2 (choice_of a o g c) n k = run_in_parts _ _ (flat_group g) ((ParenClose, c) ∷ []) (reads_group g n (within k (choice a o))) ∙ takes_choice k a o g c
  reads_type2 (choice_of_name a r) n k = reads_ref r n k (ampersand a)
  reads_type2 (tagged o t c) n k = run_in_parts _ _ (flat_types t) ((ParenClose, c) ∷ []) (reads_types t n (inside k (tag o))) ∙ takes_shut k (tag o) t ParenClose c tt
  reads_type2 (tagged_by o h a p t c) n k =
      run_in_parts _ _ (flat_types h) ((AngleClose, a) ∷ (ParenOpen, p) ∷ (flat_types t ++ (ParenClose, c) ∷ [])) (reads_types h n.0 (inside k (tag_head o)))
      ∙ ap (λ (x : State). run (step x ParenOpen p) (flat_types t ++ (ParenClose, c) ∷ [])) (takes_shut k (tag_head o) h AngleClose a tt)
      ∙ run_in_parts _ _ (flat_types t) ((ParenClose, c) ∷ []) (reads_types t n.1 (inside k (tag_content o h a p)))
      ∙ takes_shut k (tag_content o h a p) t ParenClose c tt
  reads_type2 (simple_by o h c) n k = run_in_parts _ _ (flat_types h) ((AngleClose, c) ∷ []) (reads_types h n (inside k (simple_head o))) ∙ takes_shut k (simple_head o) h AngleClose c tt
  reads_type2 (hash t) n k = refl

  pub reads_ref : (r : Ref) → NormalRef r → (k : AtType2) (p : Prefix) → run (at_ref k p) (flat_ref r) ≡ got k (prefixed p r)
  reads_ref (name t) n k p = takes_name k p t
  reads_ref (applied o a c) n k p =
      ap (λ (x : State). run x (flat_arg a ++ (AngleClose, c) ∷ [])) (takes_name_open k p o)
      ∙ run_in_parts _ _ (flat_arg a) ((AngleClose, c) ∷ []) (reads_arg a n k p o)
      ∙ takes_angle k p o a c

  pub reads_arg : (a : GenericArg) → NormalArg a → (k : AtType2) (p : Prefix) (o : Token) → run (open_argument k p o no_arg) (flat_arg a) ≡ got_arg k p o a
  reads_arg (argument r) n k p o = reads_type1 r n (argument_of k p o no_arg)
  reads_arg (arguments a c r) n k p o =
      run_in_parts _ _ (flat_arg a) ((Comma, c) ∷ flat_type1 r) (reads_arg a n.0 k p o)
      ∙ ap (λ (x : State). run x (flat_type1 r)) (takes_arg k p o a c)
      ∙ reads_type1 r n.1 (argument_of k p o (earlier_arg a c))

  pub reads_group : (g : Group) → NormalGroup g → (k : AtGroup) → run (open_group k) (flat_group g) ≡ got_group k g
  reads_group (sole es) n k = reads_choice es n k nothing
  reads_group (orelse g s es) n k =
      run_in_parts _ _ (flat_group g) ((DoubleSlash, s) ∷ flat_choice es) (reads_group g n.0 k)
      ∙ ap (λ (x : State). run x (flat_choice es)) (takes_slashes k g s)
      ∙ reads_choice es n.1 k (earlier g s)

  pub reads_choice : (es : GrpChoice) → NormalChoice es → (k : AtGroup) (b : Before) → run (open_entry (member k b no_entries)) (flat_choice es) ≡ got_choice k b es
  reads_choice no_entries n k b = refl
  reads_choice (entries es e c) n k b =
      run_in_parts _ _ (flat_choice es) (flat_entry e ++ optional Comma c) (reads_choice es n.0 k b)
      ∙ run_in_parts _ _ (flat_entry e) (optional Comma c) (same_run k b es (flat_entry e) (starts_entry e) ∙ reads_entry e n.1 (member k b es))
      ∙ takes_comma k b es e c

  pub reads_entry : (e : GrpEnt) → NormalEntry e → (p : AtEntry) → run (open_entry p) (flat_entry e) ≡ got_entry p e
  reads_entry (typed o t) n p = run_in_parts _ _ (optional Occur o) (flat_types t) (takes_occur p o) ∙ reads_types t n (start p o)
  reads_entry (keyed o k t) n p =
      run_in_parts _ _ (optional Occur o) (flat_key k ++ flat_types t) (takes_occur p o)
      ∙ run_in_parts _ _ (flat_key k) (flat_types t) (reads_key k n.0 p o)
      ∙ reads_types t n.1 (value_of p o k)
  reads_entry (grouped o q g c) n p =
      run_in_parts _ _ (optional Occur o) ((ParenOpen, q) ∷ (flat_group g ++ (ParenClose, c) ∷ [])) (takes_occur p o)
      ∙ run_in_parts _ _ (flat_group g) ((ParenClose, c) ∷ []) (reads_group g n.1 (in_entry p o q))
      ∙ takes_paren p o q g c
      ∙ shuts_group p o q g c n.0

  pub reads_key : (k : MemberKey) → NormalKey k → (p : AtEntry) (oc : Option Token) → run (open_types (start p oc)) (flat_key k) ≡ open_value p oc k
  reads_key (type_key r u a) n p oc = run_in_parts _ _ (flat_type1 r) (optional Cut u ++ (Arrow, a) ∷ []) (reads_type1 r n (head (start p oc))) ∙ takes_arrow p oc r u a
  reads_key (bareword m c) n p oc = refl
  reads_key (value_key v c) n p oc = takes_value (lower (head (start p oc))) v ((Colon, c) ∷ [])

-- after a rule, after rules
abbrev after_rule : Rules → Rule → State
after_rule rs (type_rule n (type_is a) t) = got_types (start (group_body rs n (group_is a)) None) t
after_rule rs (type_rule n (type_or a) t) = got_types (body rs n a) t
after_rule rs (group_rule n a e) = got_entry (group_body rs n a) e

abbrev after_rules : Rules → State
after_rules no_rules = begin
after_rules (rules rs r) = after_rule rs r

makes_group_rule : (n : RuleName) (a : Token) (e : GrpEnt) → is_bare e ≡ false → rule_of n (group_is a) e ≡ group_rule n (group_is a) e
makes_group_rule n a (typed None t) h = cc
makes_group_rule n a e h = refl

past_rule : (rs : Rules) (r : Rule) (q : Kind) (t : Token) → NormalRule r → IsPast q → step (after_rule rs r) q t ≡ next_rule (rules rs r) q t
past_rule rs (type_rule n (type_is a) s) q t h p = past_entry (group_body rs n (group_is a)) (typed None s) q t p
past_rule rs (type_rule n (type_or a) s) q t h p = past_types (body rs n a) s q t p
past_rule rs (group_rule n (group_is a) e) q t h p =
    past_entry (group_body rs n (group_is a)) e q t p
    ∙ ap (λ (r : Rule). next_rule (rules rs r) q t) (makes_group_rule n a e h.0)
past_rule rs (group_rule n (group_or a) e) q t h p = past_entry (group_body rs n (group_or a)) e q t p

past_rules : (rs : Rules) (q : Kind) (t : Token) → NormalRules rs → IsPast q → step (after_rules rs) q t ≡ next_rule rs q t
past_rules no_rules q t h p = refl
past_rules (rules rs r) q t h p = past_rule rs r q t h.1 p

reads_parm : (rs : Rules) (o : Token) (p : GenericParm) → run (awaits_parm rs o no_parm) (flat_parm p) ≡ have_parm rs o p
reads_parm rs o (parameter n) = refl
reads_parm rs o (parameters p c n) = run_in_parts _ _ (flat_parm p) ((Comma, c) ∷ (Name, n) ∷ []) (reads_parm rs o p)

reads_name : (rs : Rules) → NormalRules rs → (n : RuleName) → run (after_rules rs) (flat_name n) ≡ awaits_assign rs n
reads_name rs h (plain n) = past_rules rs Name n h tt
reads_name rs h (generic o p c) =
    ap (λ (x : State). run x (flat_parm p ++ (AngleClose, c) ∷ [])) (past_rules rs NameOpen o h tt)
    ∙ run_in_parts _ _ (flat_parm p) ((AngleClose, c) ∷ []) (reads_parm rs o p)

reads_rule : (rs : Rules) → NormalRules rs → (r : Rule) → NormalRule r → run (after_rules rs) (flat_rule r) ≡ after_rule rs r
reads_rule rs h (type_rule n (type_is a) t) m =
    run_in_parts _ _ (flat_name n) ((Assign, a) ∷ flat_types t) (reads_name rs h n) ∙ reads_types t m (start (group_body rs n (group_is a)) None)
reads_rule rs h (type_rule n (type_or a) t) m =
    run_in_parts _ _ (flat_name n) ((TypeAssign, a) ∷ flat_types t) (reads_name rs h n) ∙ reads_types t m (body rs n a)
reads_rule rs h (group_rule n (group_is a) e) m =
    run_in_parts _ _ (flat_name n) ((Assign, a) ∷ flat_entry e) (reads_name rs h n) ∙ reads_entry e m.1 (group_body rs n (group_is a))
reads_rule rs h (group_rule n (group_or a) e) m =
    run_in_parts _ _ (flat_name n) ((GroupAssign, a) ∷ flat_entry e) (reads_name rs h n) ∙ reads_entry e m (group_body rs n (group_or a))

reads_rules : (rs : Rules) → NormalRules rs → run begin (flat_rules rs) ≡ after_rules rs
reads_rules no_rules h = refl
reads_rules (rules rs r) h = run_in_parts _ _ (flat_rules rs) (flat_rule r) (reads_rules rs h.0) ∙ reads_rule rs h.0 r h.1

-- the machine reads the tokens of each tree to its end
pub reads : (x : Cddl) → Normal x → run begin (flat x) ≡ done x
reads (cddl rs e) h = run_in_parts _ _ (flat_rules rs) ((End, e) ∷ []) (reads_rules rs h) ∙ past_rules rs End e h tt
