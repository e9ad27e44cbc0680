-- The machine knows how many opening tokens are open.
use Rattle.std.proofs.Common.{◌≡◌, ◌≢◌, ℕ, suc, List, [], ◌∷◌, Option, None, refl, subst}
use Rattle.cddl_token.specs.declared.Token.{Token}
use Rattle.cddl_token.specs.declared.Kind.{Kind}
use Rattle.cddl_token.specs.declared.Kind.TheVariants.{Name, NameOpen, Control, Number, Occur, Text, Bytes, Hash, TagOpen, TagHeadOpen, SimpleHeadOpen, Assign, TypeAssign, GroupAssign, Slash, DoubleSlash, Range, RangeBelow, Arrow, Cut, Colon, Comma, ParenOpen, ParenClose, BracketOpen, BracketClose, BraceOpen, BraceClose, AngleClose, Tilde, Ampersand, End}
use Rattle.tree_nodes.specs.Syntax.Syntax.{Lexeme, number, text, bytes, Operator, range, range_below, control, Types, only, or, Type1, one, Type2, literal, typename, parens, map_of, array_of, choice_of, tagged, tagged_by, simple_by, hash, name, applied, GenericArg, Group, sole, GrpChoice, no_entries, entries, GrpEnt, typed, keyed, GenericParm, RuleName, type_or, type_rule, Rules, no_rules, rules}
use Rattle.tree_nodes.specs.Syntax.Machine.{Before, Prefix, ampersand, TypeOpening, paren, tag, tag_head, tag_content, simple_head, brace, bracket, choice, AtType2, lower, upper, AtType1, head, next, argument_of, AtTypes, body, inside, start, value_of, AtEntry, group_body, member, AtGroup, within, in_entry, State, begin, awaits_parm, have_parm, awaits_assign, want, want_ref, want_content, have, want_arrow, have_group, done, stuck, got, group_of, arg_of, prefixed, rule_of, next_rule, after_parm, assigned, shut_paren, shut_group, ends, ends_want, occur_want, open_paren, step_want, open_choice, step_want_ref, after_entry, arrow, cut, colon, shut_types, after_start, after_types, after_argument, slash, operated, after_type1, step_have, step, run, open_in_type2, open_in_type1, open_in_types, open_in_entry, open_in_group, open_in}
use Rattle.tree_nodes.specs.Syntax.Answers.{opened_after, open_after}

-- n are open in the state
abbrev pub Counts : State → ℕ → Type 0
Counts stuck n = Unit {0}
Counts s n = open_in s ≡ n

counts_got : (k : AtType2) (x : Type2) → Counts (got k x) (open_in_type2 k)
counts_got (lower k) x = refl
counts_got (upper k x o) y = refl

counts_next_rule : (rs : Rules) (q : Kind) (t : Token) → Counts (next_rule rs q t) (opened_after q 0)
counts_next_rule rs Name t = refl
counts_next_rule rs NameOpen t = refl
counts_next_rule rs End t = refl
counts_next_rule rs _ t = tt

counts_after_parm : (rs : Rules) (o : Token) (p : GenericParm) (q : Kind) (t : Token) → Counts (after_parm rs o p q t) (opened_after q 1)
counts_after_parm rs o p Comma t = refl
counts_after_parm rs o p AngleClose t = refl
counts_after_parm rs o p _ t = tt

counts_assigned : (rs : Rules) (n : RuleName) (q : Kind) (t : Token) → Counts (assigned rs n q t) (opened_after q 0)
counts_assigned rs n Assign t = refl
counts_assigned rs n TypeAssign t = refl
counts_assigned rs n GroupAssign t = refl
counts_assigned rs n _ t = tt

counts_shut_paren : (p : AtEntry) (oc : Option Token) (o : Token) (g : Group) (c : Token) → Counts (shut_paren p oc o g c) (open_in_entry p)
counts_shut_paren p oc o (sole (entries no_entries (typed None t) None)) c = refl
counts_shut_paren p oc o g c = refl

counts_shut_group : (k : AtGroup) (g : Group) (q : Kind) (t : Token) → Counts (shut_group k g q t) (opened_after q (open_in_group k))
counts_shut_group (within k (brace o)) g BraceClose c = counts_got k (map_of o g c)
counts_shut_group (within k (bracket o)) g BracketClose c = counts_got k (array_of o g c)
counts_shut_group (within k (choice a o)) g ParenClose c = counts_got k (choice_of a o g c)
counts_shut_group (in_entry p oc o) g ParenClose c = counts_shut_paren p oc o g c
counts_shut_group _ g _ c = tt

counts_ends : (k : AtGroup) (b : Before) (es : GrpChoice) (q : Kind) (t : Token) → Counts (ends k b es q t) (opened_after q (open_in_group k))
counts_ends k b es DoubleSlash t = refl
counts_ends k b es q t = counts_shut_group k (group_of b es) q t

counts_ends_want : (k : AtType2) (q : Kind) (t : Token) → Counts (ends_want k q t) (opened_after q (open_in_type2 k))
counts_ends_want (lower (head (start (member k b es) None))) q t = counts_ends k b es q t
counts_ends_want _ q t = tt

counts_occur_want : (k : AtType2) (t : Token) → Counts (occur_want k t) (open_in_type2 k)
counts_occur_want (lower (head (start p None))) t = refl
counts_occur_want _ t = tt

counts_open_paren : (k : AtType2) (t : Token) → Counts (open_paren k t) (suc (open_in_type2 k))
counts_open_paren (lower (head (start p oc))) t = refl
counts_open_paren k t = refl

counts_step_want : (k : AtType2) (q : Kind) (t : Token) → Counts (step_want k q t) (opened_after q (open_in_type2 k))
counts_step_want k Number t = counts_got k (literal (number t))
counts_step_want k Text t = counts_got k (literal (text t))
counts_step_want k Bytes t = counts_got k (literal (bytes t))
counts_step_want k Name t = counts_got k (typename (name t))
counts_step_want k Hash t = counts_got k (hash t)
counts_step_want k NameOpen t = refl
counts_step_want k Tilde t = refl
counts_step_want k Ampersand t = refl
counts_step_want k ParenOpen t = counts_open_paren k t
counts_step_want k BraceOpen t = refl
counts_step_want k BracketOpen t = refl
counts_step_want k TagOpen t = refl
counts_step_want k TagHeadOpen t = refl
counts_step_want k SimpleHeadOpen t = refl
counts_step_want k Occur t = counts_occur_want k t
counts_step_want k q t = counts_ends_want k q t

counts_open_choice : (k : AtType2) (p : Prefix) (t : Token) → Counts (open_choice k p t) (suc (open_in_type2 k))
counts_open_choice k (ampersand a) t = refl
counts_open_choice k _ t = tt

counts_step_want_ref : (k : AtType2) (p : Prefix) (q : Kind) (t : Token) → Counts (step_want_ref k p q t) (opened_after q (open_in_type2 k))
counts_step_want_ref k p Name t = counts_got k (prefixed p (name t))
counts_step_want_ref k p NameOpen t = refl
counts_step_want_ref k p ParenOpen t = counts_open_choice k p t
counts_step_want_ref k p _ t = tt

counts_after_entry : (p : AtEntry) (e : GrpEnt) (q : Kind) (t : Token) → Counts (after_entry p e q t) (opened_after q (open_in_entry p))
counts_after_entry (group_body rs n a) e q t = counts_next_rule (rules rs (rule_of n a e)) q t
counts_after_entry (member k b es) e Comma t = refl
counts_after_entry (member k b es) e q t = counts_step_want (lower (head (start (member k b (entries es e None)) None))) q t

counts_arrow : (p : AtEntry) (oc : Option Token) (s : Types) (t : Token) → Counts (arrow p oc s t) (open_in_entry p)
counts_arrow p oc (only r) t = refl
counts_arrow p oc _ t = tt

counts_cut : (p : AtEntry) (oc : Option Token) (s : Types) (t : Token) → Counts (cut p oc s t) (open_in_entry p)
counts_cut p oc (only r) t = refl
counts_cut p oc _ t = tt

counts_colon : (p : AtEntry) (oc : Option Token) (s : Types) (t : Token) → Counts (colon p oc s t) (open_in_entry p)
counts_colon p oc (only (one (typename (name n)))) t = refl
counts_colon p oc (only (one (literal v))) t = refl
counts_colon p oc _ t = tt

counts_shut_types : (k : AtType2) (o : TypeOpening) (s : Types) (q : Kind) (t : Token) → Counts (shut_types k o s q t) (opened_after q (suc (open_in_type2 k)))
counts_shut_types k (paren o) s ParenClose t = counts_got k (parens o s t)
counts_shut_types k (tag o) s ParenClose t = counts_got k (tagged o s t)
counts_shut_types k (tag_head o) s AngleClose t = refl
counts_shut_types k (tag_content o h a p) s ParenClose t = counts_got k (tagged_by o h a p s t)
counts_shut_types k (simple_head o) s AngleClose t = counts_got k (simple_by o s t)
counts_shut_types k _ s _ t = tt

counts_after_start : (p : AtEntry) (oc : Option Token) (s : Types) (q : Kind) (t : Token) → Counts (after_start p oc s q t) (opened_after q (open_in_entry p))
counts_after_start p oc s Arrow t = counts_arrow p oc s t
counts_after_start p oc s Cut t = counts_cut p oc s t
counts_after_start p oc s Colon t = counts_colon p oc s t
counts_after_start p oc s q t = counts_after_entry p (typed oc s) q t

counts_after_types : (k : AtTypes) (s : Types) (q : Kind) (t : Token) → Counts (after_types k s q t) (opened_after q (open_in_types k))
counts_after_types (body rs n a) s q t = counts_next_rule (rules rs (type_rule n (type_or a) s)) q t
counts_after_types (inside k o) s q t = counts_shut_types k o s q t
counts_after_types (start p oc) s q t = counts_after_start p oc s q t
counts_after_types (value_of p oc m) s q t = counts_after_entry p (keyed oc m s) q t

counts_after_argument : (k : AtType2) (p : Prefix) (o : Token) (a : GenericArg) (q : Kind) (t : Token) → Counts (after_argument k p o a q t) (opened_after q (suc (open_in_type2 k)))
counts_after_argument k p o a Comma t = refl
counts_after_argument k p o a AngleClose t = counts_got k (prefixed p (applied o a t))
counts_after_argument k p o a _ t = tt

counts_slash : (k : AtType1) (r : Type1) (t : Token) → Counts (slash k r t) (open_in_type1 k)
counts_slash (head k) r t = refl
counts_slash (next k ts s) r t = refl
counts_slash (argument_of k p o b) r t = tt

counts_operated : (k : AtType1) (r : Type1) (o : Operator) → Counts (operated k r o) (open_in_type1 k)
counts_operated k (one x) o = refl
counts_operated k _ o = tt

counts_after_type1 : (k : AtType1) (r : Type1) (q : Kind) (t : Token) → Counts (after_type1 k r q t) (opened_after q (open_in_type1 k))
counts_after_type1 (head k) r q t = counts_after_types k (only r) q t
counts_after_type1 (next k s p) r q t = counts_after_types k (or s p r) q t
counts_after_type1 (argument_of k p o b) r q t = counts_after_argument k p o (arg_of b r) q t

counts_step_have : (k : AtType1) (r : Type1) (q : Kind) (t : Token) → Counts (step_have k r q t) (opened_after q (open_in_type1 k))
counts_step_have k r Range t = counts_operated k r (range t)
counts_step_have k r RangeBelow t = counts_operated k r (range_below t)
counts_step_have k r Control t = counts_operated k r (control t)
counts_step_have k r Slash t = counts_slash k r t
counts_step_have k r q t = counts_after_type1 k r q t

counts_step : (s : State) (q : Kind) (t : Token) → Counts (step s q t) (opened_after q (open_in s))
counts_step begin q t = counts_next_rule no_rules q t
counts_step (awaits_parm rs o b) Name t = refl
counts_step (awaits_parm rs o b) _ t = tt
counts_step (have_parm rs o p) q t = counts_after_parm rs o p q t
counts_step (awaits_assign rs n) q t = counts_assigned rs n q t
counts_step (want k) q t = counts_step_want k q t
counts_step (want_ref k p) q t = counts_step_want_ref k p q t
counts_step (want_content k o s a) ParenOpen t = refl
counts_step (want_content k o s a) _ t = tt
counts_step (have k r) q t = counts_step_have k r q t
counts_step (want_arrow p oc r u) Arrow t = refl
counts_step (want_arrow p oc r u) _ t = tt
counts_step (have_group p e) q t = counts_after_entry p e q t
counts_step (done x) q t = tt
counts_step stuck q t = tt

counts_next : (s : State) (n : ℕ) (q : Kind) (t : Token) → Counts s n → Counts (step s q t) (opened_after q n)
counts_next stuck n q t h = tt
counts_next s n q t h = subst (λ (m : ℕ). Counts (step s q t) (opened_after q m)) h (counts_step s q t)

pub counts_run : (s : State) (n : ℕ) (ts : List Lexeme) → Counts s n → Counts (run s ts) (open_after n ts)
counts_run s n [] h = h
counts_run s n (t ∷ ts) h = counts_run (step s t.0 t.1) (opened_after t.0 n) ts (counts_next s n t.0 t.1 h)

pub counted : (s : State) (n : ℕ) → s ≢ stuck → Counts s n → open_in s ≡ n
counted stuck n h c = absurd (h refl)
counted s n h c = c
