-- Each step of the machine keeps the tokens that it has read.
use Rattle.std.proofs.Common.{◌≡◌, List, [], ◌∷◌, ◌++◌, Option, Some, None, refl, sym, ap, append_assoc, append-nil, subst}
use Rattle.cddl_token.specs.declared.Token.{Token}
use Rattle.cddl_token.specs.declared.Kind.{Kind}
use Rattle.cddl_token.specs.declared.Kind.TheVariants.{Name, NameOpen, Control, Number, Occur, Text, Bytes, Hash, TagOpen, TagHeadOpen, SimpleHeadOpen, Assign, TypeAssign, GroupAssign, Slash, DoubleSlash, Range, RangeBelow, Arrow, Cut, Colon, Comma, ParenOpen, ParenClose, BracketOpen, BracketClose, BraceOpen, BraceClose, AngleClose, Tilde, Ampersand, End}
use Rattle.tree_nodes.specs.Syntax.Syntax.{Lexeme, number, text, bytes, Operator, range, range_below, control, Types, only, or, Type1, one, Type2, literal, typename, parens, map_of, array_of, choice_of, tagged, tagged_by, simple_by, hash, Ref, name, applied, GenericArg, Group, sole, GrpChoice, no_entries, entries, GrpEnt, typed, keyed, GenericParm, RuleName, type_or, AssignG, group_is, group_or, type_rule, Rules, no_rules, rules, Cddl, optional, flat_operator, flat_types, flat_type1, flat_type2, flat_ref, flat_arg, flat_group, flat_choice, flat_entry, flat_key, flat_parm, flat_name, flat_assigng, flat_rule, flat_rules, flat, NormalTypes, NormalType1, NormalType2, NormalRef, NormalArg, NormalGroup, NormalChoice, NormalEntry, NormalKey, NormalRule, NormalRules, Normal}
use Rattle.tree_nodes.specs.Syntax.Machine.{Before, nothing, earlier, ArgBefore, no_arg, earlier_arg, ParmBefore, no_parm, earlier_parm, Prefix, bare, tilde, ampersand, TypeOpening, paren, tag, tag_head, tag_content, simple_head, GroupOpening, brace, bracket, choice, AtType2, lower, upper, AtType1, head, next, argument_of, AtTypes, body, inside, start, value_of, AtEntry, group_body, member, AtGroup, within, in_entry, State, begin, awaits_parm, have_parm, awaits_assign, want, want_ref, want_content, have, want_arrow, have_group, done, stuck, got, open_entry, open_group, group_of, arg_of, parm_of, prefixed, rule_of, next_rule, after_parm, assigned, shut_paren, shut_group, ends, ends_want, occur_want, open_paren, step_want, open_choice, step_want_ref, after_entry, arrow, cut, colon, shut_types, after_start, after_types, after_argument, slash, operated, after_type1, step_have, step, run}

-- The tokens of what comes before a position.

abbrev text_before : Before → List Lexeme
text_before nothing = []
text_before (earlier g s) = flat_group g ++ (DoubleSlash, s) ∷ []

abbrev text_arg_before : ArgBefore → List Lexeme
text_arg_before no_arg = []
text_arg_before (earlier_arg a c) = flat_arg a ++ (Comma, c) ∷ []

abbrev text_parm_before : ParmBefore → List Lexeme
text_parm_before no_parm = []
text_parm_before (earlier_parm p c) = flat_parm p ++ (Comma, c) ∷ []

abbrev text_prefix : Prefix → List Lexeme
text_prefix bare = []
text_prefix (tilde u) = (Tilde, u) ∷ []
text_prefix (ampersand a) = (Ampersand, a) ∷ []

abbrev text_type_opening : TypeOpening → List Lexeme
text_type_opening (paren o) = (ParenOpen, o) ∷ []
text_type_opening (tag o) = (TagOpen, o) ∷ []
text_type_opening (tag_head o) = (TagHeadOpen, o) ∷ []
text_type_opening (tag_content o h a p) = (TagHeadOpen, o) ∷ (flat_types h ++ (AngleClose, a) ∷ (ParenOpen, p) ∷ [])
text_type_opening (simple_head o) = (SimpleHeadOpen, o) ∷ []

abbrev text_group_opening : GroupOpening → List Lexeme
text_group_opening (brace o) = (BraceOpen, o) ∷ []
text_group_opening (bracket o) = (BracketOpen, o) ∷ []
text_group_opening (choice a o) = (Ampersand, a) ∷ (ParenOpen, o) ∷ []

abbrev mutual
  pub text_at_type2 : AtType2 → List Lexeme
  text_at_type2 (lower k) = text_at_type1 k
  text_at_type2 (upper k x o) = text_at_type1 k ++ (flat_type2 x ++ flat_operator o ∷ [])

  pub text_at_type1 : AtType1 → List Lexeme
  text_at_type1 (head k) = text_at_types k
  text_at_type1 (next k t s) = text_at_types k ++ (flat_types t ++ (Slash, s) ∷ [])
  text_at_type1 (argument_of k p o b) = text_at_type2 k ++ (text_prefix p ++ (NameOpen, o) ∷ text_arg_before b)

  pub text_at_types : AtTypes → List Lexeme
  text_at_types (body rs n a) = flat_rules rs ++ (flat_name n ++ (TypeAssign, a) ∷ [])
  text_at_types (inside k o) = text_at_type2 k ++ text_type_opening o
  text_at_types (start p oc) = text_at_entry p ++ optional Occur oc
  text_at_types (value_of p oc m) = text_at_entry p ++ (optional Occur oc ++ flat_key m)

  pub text_at_entry : AtEntry → List Lexeme
  text_at_entry (group_body rs n a) = flat_rules rs ++ (flat_name n ++ flat_assigng a ∷ [])
  text_at_entry (member k b es) = text_at_group k ++ (text_before b ++ flat_choice es)

  pub text_at_group : AtGroup → List Lexeme
  text_at_group (within k o) = text_at_type2 k ++ text_group_opening o
  text_at_group (in_entry p oc o) = text_at_entry p ++ (optional Occur oc ++ (ParenOpen, o) ∷ [])

abbrev NormalBefore : Before → Type 0
NormalBefore nothing = Unit {0}
NormalBefore (earlier g s) = NormalGroup g

abbrev NormalArgBefore : ArgBefore → Type 0
NormalArgBefore no_arg = Unit {0}
NormalArgBefore (earlier_arg a c) = NormalArg a

abbrev NormalTypeOpening : TypeOpening → Type 0
NormalTypeOpening (tag_content o h a p) = NormalTypes h
NormalTypeOpening _ = Unit {0}

abbrev mutual
  pub NormalAtType2 : AtType2 → Type 0
  NormalAtType2 (lower k) = NormalAtType1 k
  NormalAtType2 (upper k x o) = NormalAtType1 k × NormalType2 x

  pub NormalAtType1 : AtType1 → Type 0
  NormalAtType1 (head k) = NormalAtTypes k
  NormalAtType1 (next k t s) = NormalAtTypes k × NormalTypes t
  NormalAtType1 (argument_of k p o b) = NormalAtType2 k × NormalArgBefore b

  pub NormalAtTypes : AtTypes → Type 0
  NormalAtTypes (body rs n a) = NormalRules rs
  NormalAtTypes (inside k o) = NormalAtType2 k × NormalTypeOpening o
  NormalAtTypes (start p oc) = NormalAtEntry p
  NormalAtTypes (value_of p oc m) = NormalAtEntry p × NormalKey m

  pub NormalAtEntry : AtEntry → Type 0
  NormalAtEntry (group_body rs n a) = NormalRules rs
  NormalAtEntry (member k b es) = NormalAtGroup k × NormalBefore b × NormalChoice es

  pub NormalAtGroup : AtGroup → Type 0
  NormalAtGroup (within k o) = NormalAtType2 k
  NormalAtGroup (in_entry p oc o) = NormalAtEntry p

-- what the machine knows: it has read the tokens ts
abbrev pub Keeps : State → List Lexeme → Type 0
Keeps begin ts = [] ≡ ts
Keeps (awaits_parm rs o b) ts = (flat_rules rs ++ (NameOpen, o) ∷ text_parm_before b ≡ ts) × NormalRules rs
Keeps (have_parm rs o p) ts = (flat_rules rs ++ (NameOpen, o) ∷ flat_parm p ≡ ts) × NormalRules rs
Keeps (awaits_assign rs n) ts = (flat_rules rs ++ flat_name n ≡ ts) × NormalRules rs
Keeps (want k) ts = (text_at_type2 k ≡ ts) × NormalAtType2 k
Keeps (want_ref k p) ts = (text_at_type2 k ++ text_prefix p ≡ ts) × NormalAtType2 k
Keeps (want_content k o h a) ts = (text_at_type2 k ++ (TagHeadOpen, o) ∷ (flat_types h ++ (AngleClose, a) ∷ []) ≡ ts) × NormalAtType2 k × NormalTypes h
Keeps (have k r) ts = (text_at_type1 k ++ flat_type1 r ≡ ts) × NormalAtType1 k × NormalType1 r
Keeps (want_arrow p oc r u) ts = (text_at_entry p ++ (optional Occur oc ++ (flat_type1 r ++ (Cut, u) ∷ [])) ≡ ts) × NormalAtEntry p × NormalType1 r
Keeps (have_group p e) ts = (text_at_entry p ++ flat_entry e ≡ ts) × NormalAtEntry p × NormalEntry e
Keeps (done x) ts = (flat x ≡ ts) × Normal x
Keeps stuck ts = Unit {0}

-- A part of a tree has these tokens after those of what is left of it.

flat_group_of : (b : Before) (es : GrpChoice) → flat_group (group_of b es) ≡ text_before b ++ flat_choice es
flat_group_of nothing es = refl
flat_group_of (earlier g s) es = sym (append_assoc (flat_group g) ((DoubleSlash, s) ∷ []) (flat_choice es))

normal_group_of : (b : Before) (es : GrpChoice) → NormalBefore b → NormalChoice es → NormalGroup (group_of b es)
normal_group_of nothing es n m = m
normal_group_of (earlier g s) es n m = (n, m)

flat_arg_of : (b : ArgBefore) (r : Type1) → flat_arg (arg_of b r) ≡ text_arg_before b ++ flat_type1 r
flat_arg_of no_arg r = refl
flat_arg_of (earlier_arg a c) r = sym (append_assoc (flat_arg a) ((Comma, c) ∷ []) (flat_type1 r))

normal_arg_of : (b : ArgBefore) (r : Type1) → NormalArgBefore b → NormalType1 r → NormalArg (arg_of b r)
normal_arg_of no_arg r n m = m
normal_arg_of (earlier_arg a c) r n m = (n, m)

flat_parm_of : (b : ParmBefore) (n : Token) → flat_parm (parm_of b n) ≡ text_parm_before b ++ (Name, n) ∷ []
flat_parm_of no_parm n = refl
flat_parm_of (earlier_parm p c) n = sym (append_assoc (flat_parm p) ((Comma, c) ∷ []) ((Name, n) ∷ []))

flat_prefixed : (p : Prefix) (r : Ref) → flat_type2 (prefixed p r) ≡ text_prefix p ++ flat_ref r
flat_prefixed bare r = refl
flat_prefixed (tilde u) r = refl
flat_prefixed (ampersand a) r = refl

normal_prefixed : (p : Prefix) (r : Ref) → NormalRef r → NormalType2 (prefixed p r)
normal_prefixed bare r n = n
normal_prefixed (tilde u) r n = n
normal_prefixed (ampersand a) r n = n

flat_rule_of : (n : RuleName) (a : AssignG) (e : GrpEnt) → flat_rule (rule_of n a e) ≡ flat_name n ++ flat_assigng a ∷ flat_entry e
flat_rule_of n (group_is a) (typed None t) = refl
flat_rule_of n a e = refl

normal_rule_of : (n : RuleName) (a : AssignG) (e : GrpEnt) → NormalEntry e → NormalRule (rule_of n a e)
normal_rule_of n (group_is a) (typed None t) h = h
normal_rule_of n (group_or a) e h = h
normal_rule_of n (group_is a) e h = (refl, h)

-- the steps

keeps_got : (k : AtType2) (x : Type2) (ts : List Lexeme) → NormalAtType2 k → NormalType2 x → text_at_type2 k ++ flat_type2 x ≡ ts → Keeps (got k x) ts
keeps_got (lower k) x ts n m e = (e, n, m)
keeps_got (upper k a o) x ts n m e = (simp append_assoc at e, n.0, (n.1, m))

keeps_open_entry : (p : AtEntry) (ts : List Lexeme) → NormalAtEntry p → text_at_entry p ≡ ts → Keeps (open_entry p) ts
keeps_open_entry p ts n e = (simp append-nil e, n)

keeps_open_group : (k : AtGroup) (ts : List Lexeme) → NormalAtGroup k → text_at_group k ≡ ts → Keeps (open_group k) ts
keeps_open_group k ts n e = keeps_open_entry (member k nothing no_entries) ts (n, tt, tt) (simp append-nil e)

keeps_next_rule : (rs : Rules) (q : Kind) (t : Token) (ts : List Lexeme) → NormalRules rs → flat_rules rs ++ (q, t) ∷ [] ≡ ts → Keeps (next_rule rs q t) ts
keeps_next_rule rs Name t ts n e = (e, n)
keeps_next_rule rs NameOpen t ts n e = (e, n)
keeps_next_rule rs End t ts n e = (e, n)
keeps_next_rule rs _ t ts n e = tt

keeps_after_parm : (rs : Rules) (o : Token) (p : GenericParm) (q : Kind) (t : Token) (ts : List Lexeme) → NormalRules rs → flat_rules rs ++ (NameOpen, o) ∷ (flat_parm p ++ (q, t) ∷ []) ≡ ts → Keeps (after_parm rs o p q t) ts
keeps_after_parm rs o p Comma t ts n e = (e, n)
keeps_after_parm rs o p AngleClose t ts n e = (e, n)
keeps_after_parm rs o p _ t ts n e = tt

keeps_assigned : (rs : Rules) (m : RuleName) (q : Kind) (t : Token) (ts : List Lexeme) → NormalRules rs → flat_rules rs ++ (flat_name m ++ (q, t) ∷ []) ≡ ts → Keeps (assigned rs m q t) ts
keeps_assigned rs m Assign t ts n e = keeps_open_entry (group_body rs m (group_is t)) ts n e
keeps_assigned rs m TypeAssign t ts n e = (e, n)
keeps_assigned rs m GroupAssign t ts n e = keeps_open_entry (group_body rs m (group_or t)) ts n e
keeps_assigned rs m _ t ts n e = tt

keeps_shut_paren : (p : AtEntry) (oc : Option Token) (o : Token) (g : Group) (c : Token) (ts : List Lexeme) → NormalAtEntry p → NormalGroup g
    → text_at_entry p ++ (optional Occur oc ++ (ParenOpen, o) ∷ (flat_group g ++ (ParenClose, c) ∷ [])) ≡ ts → Keeps (shut_paren p oc o g c) ts
keeps_shut_paren p oc o (sole (entries no_entries (typed None t) None)) c ts n h e = (simp append_assoc (simp append-nil at e), n, h.1)
keeps_shut_paren p oc o g c ts n h e = (e, n, (refl, h))

keeps_shut_group : (k : AtGroup) (g : Group) (q : Kind) (t : Token) (ts : List Lexeme) → NormalAtGroup k → NormalGroup g
    → text_at_group k ++ (flat_group g ++ (q, t) ∷ []) ≡ ts → Keeps (shut_group k g q t) ts
keeps_shut_group (within k (brace o)) g BraceClose c ts n h e = keeps_got k (map_of o g c) ts n h (simp append_assoc at e)
keeps_shut_group (within k (bracket o)) g BracketClose c ts n h e = keeps_got k (array_of o g c) ts n h (simp append_assoc at e)
keeps_shut_group (within k (choice a o)) g ParenClose c ts n h e = keeps_got k (choice_of a o g c) ts n h (simp append_assoc at e)
keeps_shut_group (in_entry p oc o) g ParenClose c ts n h e = keeps_shut_paren p oc o g c ts n h (simp append_assoc at e)
keeps_shut_group _ g _ c ts n h e = tt

keeps_ends : (k : AtGroup) (b : Before) (es : GrpChoice) (q : Kind) (t : Token) (ts : List Lexeme) → NormalAtGroup k → NormalBefore b → NormalChoice es
    → text_at_group k ++ (text_before b ++ (flat_choice es ++ (q, t) ∷ [])) ≡ ts → Keeps (ends k b es q t) ts
keeps_ends k b es DoubleSlash t ts n m l e =
    keeps_open_entry (member k (earlier (group_of b es) t) no_entries) ts (n, normal_group_of b es m l, tt)
    (rw flat_group_of (simp (append_assoc, append-nil) e))
keeps_ends k b es q t ts n m l e =
    keeps_shut_group k (group_of b es) q t ts n (normal_group_of b es m l) (rw flat_group_of (simp append_assoc e))

keeps_ends_want : (k : AtType2) (q : Kind) (t : Token) (ts : List Lexeme) → NormalAtType2 k → text_at_type2 k ++ (q, t) ∷ [] ≡ ts → Keeps (ends_want k q t) ts
keeps_ends_want (lower (head (start (member k b es) None))) q t ts n e = keeps_ends k b es q t ts n.0 n.1 n.2 (simp (append_assoc, append-nil) at e)
keeps_ends_want _ q t ts n e = tt

keeps_occur_want : (k : AtType2) (t : Token) (ts : List Lexeme) → NormalAtType2 k → text_at_type2 k ++ (Occur, t) ∷ [] ≡ ts → Keeps (occur_want k t) ts
keeps_occur_want (lower (head (start p None))) t ts n e = (simp append-nil at e, n)
keeps_occur_want _ t ts n e = tt

keeps_open_paren : (k : AtType2) (t : Token) (ts : List Lexeme) → NormalAtType2 k → text_at_type2 k ++ (ParenOpen, t) ∷ [] ≡ ts → Keeps (open_paren k t) ts
keeps_open_paren (lower (head (start p oc))) t ts n e = keeps_open_group (in_entry p oc t) ts n (simp append_assoc at e)
keeps_open_paren k t ts n e = (e, (n, tt))

keeps_step_want : (k : AtType2) (q : Kind) (t : Token) (ts : List Lexeme) → NormalAtType2 k → text_at_type2 k ++ (q, t) ∷ [] ≡ ts → Keeps (step_want k q t) ts
keeps_step_want k Number t ts n e = keeps_got k (literal (number t)) ts n tt e
keeps_step_want k Text t ts n e = keeps_got k (literal (text t)) ts n tt e
keeps_step_want k Bytes t ts n e = keeps_got k (literal (bytes t)) ts n tt e
keeps_step_want k Name t ts n e = keeps_got k (typename (name t)) ts n tt e
keeps_step_want k Hash t ts n e = keeps_got k (hash t) ts n tt e
keeps_step_want k NameOpen t ts n e = (e, (n, tt))
keeps_step_want k Tilde t ts n e = (e, n)
keeps_step_want k Ampersand t ts n e = (e, n)
keeps_step_want k ParenOpen t ts n e = keeps_open_paren k t ts n e
keeps_step_want k BraceOpen t ts n e = keeps_open_group (within k (brace t)) ts n e
keeps_step_want k BracketOpen t ts n e = keeps_open_group (within k (bracket t)) ts n e
keeps_step_want k TagOpen t ts n e = (e, (n, tt))
keeps_step_want k TagHeadOpen t ts n e = (e, (n, tt))
keeps_step_want k SimpleHeadOpen t ts n e = (e, (n, tt))
keeps_step_want k Occur t ts n e = keeps_occur_want k t ts n e
keeps_step_want k q t ts n e = keeps_ends_want k q t ts n e

keeps_open_choice : (k : AtType2) (p : Prefix) (t : Token) (ts : List Lexeme) → NormalAtType2 k → text_at_type2 k ++ (text_prefix p ++ (ParenOpen, t) ∷ []) ≡ ts → Keeps (open_choice k p t) ts
keeps_open_choice k (ampersand a) t ts n e = keeps_open_group (within k (choice a t)) ts n e
keeps_open_choice k _ t ts n e = tt

keeps_step_want_ref : (k : AtType2) (p : Prefix) (q : Kind) (t : Token) (ts : List Lexeme) → NormalAtType2 k → text_at_type2 k ++ (text_prefix p ++ (q, t) ∷ []) ≡ ts → Keeps (step_want_ref k p q t) ts
keeps_step_want_ref k p Name t ts n e = keeps_got k (prefixed p (name t)) ts n (normal_prefixed p (name t) tt) (rw flat_prefixed e)
keeps_step_want_ref k p NameOpen t ts n e = (e, (n, tt))
keeps_step_want_ref k p ParenOpen t ts n e = keeps_open_choice k p t ts n e
keeps_step_want_ref k p _ t ts n e = tt

keeps_after_entry : (p : AtEntry) (x : GrpEnt) (q : Kind) (t : Token) (ts : List Lexeme) → NormalAtEntry p → NormalEntry x
    → text_at_entry p ++ (flat_entry x ++ (q, t) ∷ []) ≡ ts → Keeps (after_entry p x q t) ts
keeps_after_entry (group_body rs m a) x q t ts n h e =
    keeps_next_rule (rules rs (rule_of m a x)) q t ts (n, normal_rule_of m a x h) (rw flat_rule_of (simp append_assoc (simp append_assoc at e)))
keeps_after_entry (member k b es) x Comma t ts n h e =
    keeps_open_entry (member k b (entries es x (Some t))) ts (n.0, n.1, (n.2, h)) (simp append_assoc at e)
keeps_after_entry (member k b es) x q t ts n h e =
    keeps_step_want (lower (head (start (member k b (entries es x None)) None))) q t ts (n.0, n.1, (n.2, h)) (simp (append_assoc, append-nil) (simp append_assoc at e))

keeps_arrow : (p : AtEntry) (oc : Option Token) (s : Types) (t : Token) (ts : List Lexeme) → NormalAtEntry p → NormalTypes s
    → text_at_entry p ++ (optional Occur oc ++ (flat_types s ++ (Arrow, t) ∷ [])) ≡ ts → Keeps (arrow p oc s t) ts
keeps_arrow p oc (only r) t ts n m e = (e, (n, m))
keeps_arrow p oc _ t ts n m e = tt

keeps_cut : (p : AtEntry) (oc : Option Token) (s : Types) (t : Token) (ts : List Lexeme) → NormalAtEntry p → NormalTypes s
    → text_at_entry p ++ (optional Occur oc ++ (flat_types s ++ (Cut, t) ∷ [])) ≡ ts → Keeps (cut p oc s t) ts
keeps_cut p oc (only r) t ts n m e = (e, n, m)
keeps_cut p oc _ t ts n m e = tt

keeps_colon : (p : AtEntry) (oc : Option Token) (s : Types) (t : Token) (ts : List Lexeme) → NormalAtEntry p → NormalTypes s
    → text_at_entry p ++ (optional Occur oc ++ (flat_types s ++ (Colon, t) ∷ [])) ≡ ts → Keeps (colon p oc s t) ts
keeps_colon p oc (only (one (typename (name m)))) t ts n h e = (e, (n, tt))
keeps_colon p oc (only (one (literal v))) t ts n h e = (e, (n, tt))
keeps_colon p oc _ t ts n h e = tt

keeps_shut_types : (k : AtType2) (o : TypeOpening) (s : Types) (q : Kind) (t : Token) (ts : List Lexeme) → NormalAtType2 k → NormalTypeOpening o → NormalTypes s
    → text_at_type2 k ++ (text_type_opening o ++ (flat_types s ++ (q, t) ∷ [])) ≡ ts → Keeps (shut_types k o s q t) ts
keeps_shut_types k (paren o) s ParenClose t ts n m h e = keeps_got k (parens o s t) ts n h e
keeps_shut_types k (tag o) s ParenClose t ts n m h e = keeps_got k (tagged o s t) ts n h e
keeps_shut_types k (tag_head o) s AngleClose t ts n m h e = (e, n, h)
keeps_shut_types k (tag_content o i a p) s ParenClose t ts n m h e = keeps_got k (tagged_by o i a p s t) ts n (m, h) (simp append_assoc at e)
keeps_shut_types k (simple_head o) s AngleClose t ts n m h e = keeps_got k (simple_by o s t) ts n h e
keeps_shut_types k _ s _ t ts n m h e = tt

keeps_after_start : (p : AtEntry) (oc : Option Token) (s : Types) (q : Kind) (t : Token) (ts : List Lexeme) → NormalAtEntry p → NormalTypes s
    → text_at_entry p ++ (optional Occur oc ++ (flat_types s ++ (q, t) ∷ [])) ≡ ts → Keeps (after_start p oc s q t) ts
keeps_after_start p oc s Arrow t ts n m e = keeps_arrow p oc s t ts n m e
keeps_after_start p oc s Cut t ts n m e = keeps_cut p oc s t ts n m e
keeps_after_start p oc s Colon t ts n m e = keeps_colon p oc s t ts n m e
keeps_after_start p oc s q t ts n m e = keeps_after_entry p (typed oc s) q t ts n m (simp append_assoc e)

keeps_after_types : (k : AtTypes) (s : Types) (q : Kind) (t : Token) (ts : List Lexeme) → NormalAtTypes k → NormalTypes s
    → text_at_types k ++ (flat_types s ++ (q, t) ∷ []) ≡ ts → Keeps (after_types k s q t) ts
keeps_after_types (body rs m a) s q t ts n h e = keeps_next_rule (rules rs (type_rule m (type_or a) s)) q t ts (n, h) (simp append_assoc (simp append_assoc at e))
keeps_after_types (inside k o) s q t ts n h e = keeps_shut_types k o s q t ts n.0 n.1 h (simp append_assoc at e)
keeps_after_types (start p oc) s q t ts n h e = keeps_after_start p oc s q t ts n h (simp append_assoc at e)
keeps_after_types (value_of p oc m) s q t ts n h e = keeps_after_entry p (keyed oc m s) q t ts n.0 (n.1, h) (simp append_assoc (simp append_assoc at e))

keeps_after_argument : (k : AtType2) (p : Prefix) (o : Token) (a : GenericArg) (q : Kind) (t : Token) (ts : List Lexeme) → NormalAtType2 k → NormalArg a
    → text_at_type2 k ++ (text_prefix p ++ (NameOpen, o) ∷ (flat_arg a ++ (q, t) ∷ [])) ≡ ts → Keeps (after_argument k p o a q t) ts
keeps_after_argument k p o a Comma t ts n m e = (e, (n, m))
keeps_after_argument k p o a AngleClose t ts n m e = keeps_got k (prefixed p (applied o a t)) ts n (normal_prefixed p (applied o a t) m) (rw flat_prefixed e)
keeps_after_argument k p o a _ t ts n m e = tt

keeps_slash : (k : AtType1) (r : Type1) (t : Token) (ts : List Lexeme) → NormalAtType1 k → NormalType1 r → text_at_type1 k ++ (flat_type1 r ++ (Slash, t) ∷ []) ≡ ts → Keeps (slash k r t) ts
keeps_slash (head k) r t ts n m e = (e, (n, m))
keeps_slash (next k s p) r t ts n m e = (simp append_assoc (simp append_assoc at e), (n.0, (n.1, m)))
keeps_slash (argument_of k p o b) r t ts n m e = tt

keeps_operated : (k : AtType1) (r : Type1) (o : Operator) (ts : List Lexeme) → NormalAtType1 k → NormalType1 r → text_at_type1 k ++ (flat_type1 r ++ flat_operator o ∷ []) ≡ ts → Keeps (operated k r o) ts
keeps_operated k (one x) o ts n m e = (e, (n, m))
keeps_operated k _ o ts n m e = tt

keeps_after_type1 : (k : AtType1) (r : Type1) (q : Kind) (t : Token) (ts : List Lexeme) → NormalAtType1 k → NormalType1 r → text_at_type1 k ++ (flat_type1 r ++ (q, t) ∷ []) ≡ ts → Keeps (after_type1 k r q t) ts
keeps_after_type1 (head k) r q t ts n m e = keeps_after_types k (only r) q t ts n m e
keeps_after_type1 (next k s p) r q t ts n m e = keeps_after_types k (or s p r) q t ts n.0 (n.1, m) (simp append_assoc (simp append_assoc at e))
keeps_after_type1 (argument_of k p o b) r q t ts n m e =
    keeps_after_argument k p o (arg_of b r) q t ts n.0 (normal_arg_of b r n.1 m) (rw flat_arg_of (simp append_assoc (simp append_assoc at e)))

keeps_step_have : (k : AtType1) (r : Type1) (q : Kind) (t : Token) (ts : List Lexeme) → NormalAtType1 k → NormalType1 r → text_at_type1 k ++ (flat_type1 r ++ (q, t) ∷ []) ≡ ts → Keeps (step_have k r q t) ts
keeps_step_have k r Range t ts n m e = keeps_operated k r (range t) ts n m e
keeps_step_have k r RangeBelow t ts n m e = keeps_operated k r (range_below t) ts n m e
keeps_step_have k r Control t ts n m e = keeps_operated k r (control t) ts n m e
keeps_step_have k r Slash t ts n m e = keeps_slash k r t ts n m e
keeps_step_have k r q t ts n m e = keeps_after_type1 k r q t ts n m e

-- one more token
more : (q : Kind) (t : Token) (a ts : List Lexeme) → a ≡ ts → a ++ (q, t) ∷ [] ≡ ts ++ (q, t) ∷ []
more q t a ts e = ap (λ (x : List Lexeme). x ++ (q, t) ∷ []) e

pub keeps_step : (s : State) (q : Kind) (t : Token) (ts : List Lexeme) → Keeps s ts → Keeps (step s q t) (ts ++ (q, t) ∷ [])
keeps_step begin q t ts h = keeps_next_rule no_rules q t (ts ++ (q, t) ∷ []) tt (more q t [] ts h)
keeps_step (awaits_parm rs o b) Name t ts h = (rw flat_parm_of (simp append_assoc at (more Name t _ ts h.0)), h.1)
keeps_step (awaits_parm rs o b) _ t ts h = tt
keeps_step (have_parm rs o p) q t ts h = keeps_after_parm rs o p q t _ h.1 (simp append_assoc at (more q t _ ts h.0))
keeps_step (awaits_assign rs n) q t ts h = keeps_assigned rs n q t _ h.1 (simp append_assoc at (more q t _ ts h.0))
keeps_step (want k) q t ts h = keeps_step_want k q t _ h.1 (more q t _ ts h.0)
keeps_step (want_ref k p) q t ts h = keeps_step_want_ref k p q t _ h.1 (simp append_assoc at (more q t _ ts h.0))
keeps_step (want_content k o x a) ParenOpen t ts h = (simp append_assoc at (more ParenOpen t _ ts h.0), (h.1, h.2))
keeps_step (want_content k o x a) _ t ts h = tt
keeps_step (have k r) q t ts h = keeps_step_have k r q t _ h.1 h.2 (simp append_assoc at (more q t _ ts h.0))
keeps_step (want_arrow p oc r u) Arrow t ts h = (simp append_assoc at (more Arrow t _ ts h.0), (h.1, h.2))
keeps_step (want_arrow p oc r u) _ t ts h = tt
keeps_step (have_group p e) q t ts h = keeps_after_entry p e q t _ h.1 h.2 (simp append_assoc at (more q t _ ts h.0))
keeps_step (done x) q t ts h = tt
keeps_step stuck q t ts h = tt

pub keeps_run : (s : State) (ts us : List Lexeme) → Keeps s ts → Keeps (run s us) (ts ++ us)
keeps_run s ts [] h = rw append-nil h
keeps_run s ts (u ∷ us) h = let g = keeps_run (step s u.0 u.1) (ts ++ u ∷ []) us (keeps_step s u.0 u.1 ts h) in rw append_assoc at g

-- a tree that the machine makes is of the tokens
pub done_prints : (ts : List Lexeme) (x : Cddl) → run begin ts ≡ done x → (flat x ≡ ts) × Normal x
done_prints ts x e = let P : State → Type 0 = λ s. Keeps s ts in subst P e (keeps_run begin [] ts refl)
