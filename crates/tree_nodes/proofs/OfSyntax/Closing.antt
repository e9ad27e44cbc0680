-- From each state but the one that is stuck the machine can be brought to the end.
use Rattle.std.proofs.Common.{◌≡◌, ◌≢◌, List, [], ◌∷◌, Option, Some, None, refl, ap, ◌∙◌}
use Rattle.cddl_token.specs.declared.Token.{Token}
use Rattle.cddl_token.specs.declared.Kind.{Kind}
use Rattle.cddl_token.specs.declared.Kind.TheVariants.{Name, TypeAssign, Arrow, ParenOpen, ParenClose, BracketClose, BraceClose, AngleClose, End}
use Rattle.tree_nodes.specs.Syntax.Syntax.{Lexeme, Types, only, or, Type1, one, operation, Type2, typename, parens, map_of, array_of, choice_of, tagged, tagged_by, simple_by, name, applied, Group, sole, GrpChoice, no_entries, entries, GrpEnt, typed, keyed, grouped, type_key, GenericParm, RuleName, generic, type_or, type_rule, Rules, no_rules, rules, Cddl, cddl}
use Rattle.tree_nodes.specs.Syntax.Machine.{Before, paren, tag, tag_head, tag_content, simple_head, brace, bracket, choice, AtType2, lower, upper, AtType1, head, next, argument_of, AtTypes, body, inside, start, value_of, AtEntry, group_body, member, AtGroup, within, in_entry, State, begin, awaits_parm, have_parm, awaits_assign, want, want_ref, want_content, have, want_arrow, have_group, done, stuck, got, open_types, open_value, group_of, arg_of, parm_of, prefixed, rule_of, shut_paren, shut_group, after_entry, step, run}
use Rattle.tree_nodes.proofs.OfSyntax.Reading.{got_types, got_entry, IsPast, past_types, past_entry}

-- tokens that bring the machine to a tree
abbrev pub Closable : State → Type 0
Closable s = (us : List Lexeme) × (x : Cddl) × (run s us ≡ done x)

-- one more token
before : (s m : State) (q : Kind) (t : Token) → step s q t ≡ m → Closable m → Closable s
before s m q t e c = ((q, t) ∷ c.0, c.1, ap (λ (x : State). run x c.0) e ∙ c.2)

-- what closes a group
abbrev closer : AtGroup → Kind
closer (within k (brace o)) = BraceClose
closer (within k (bracket o)) = BracketClose
closer (within k (choice a o)) = ParenClose
closer (in_entry p oc o) = ParenClose

past_closer : (k : AtGroup) → IsPast (closer k)
past_closer (within k (brace o)) = tt
past_closer (within k (bracket o)) = tt
past_closer (within k (choice a o)) = tt
past_closer (in_entry p oc o) = tt

shuts_entry : (k : AtGroup) (b : Before) (es : GrpChoice) (e : GrpEnt) (d : Token) → after_entry (member k b es) e (closer k) d ≡ shut_group k (group_of b (entries es e None)) (closer k) d
shuts_entry (within k (brace o)) b es e d = refl
shuts_entry (within k (bracket o)) b es e d = refl
shuts_entry (within k (choice a o)) b es e d = refl
shuts_entry (in_entry p oc o) b es e d = refl

closes_paren : (d : Token) (p : AtEntry) (oc : Option Token) (o : Token) (g : Group) → ((e : GrpEnt) → Closable (got_entry p e)) → Closable (shut_paren p oc o g d)
closes_paren d p oc o (sole (entries no_entries (typed None t) None)) h = h (typed oc (only (one (parens o t d))))
closes_paren d p oc o g h = h (grouped oc o g d)

closes_content : (d : Token) (k : AtType2) (o : Token) (s : Types) (a : Token) → ((x : Type2) → Closable (got k x)) → Closable (want_content k o s a)
closes_content d k o s a h =
    before _ (open_types (inside k (tag_content o s a d))) ParenOpen d refl
    (before _ (have (head (inside k (tag_content o s a d))) (one (typename (name d)))) Name d refl
    (before _ _ ParenClose d refl (h (tagged_by o s a d (only (one (typename (name d)))) d))))

mutual
  closes_type2 : (d : Token) (k : AtType2) (x : Type2) → Closable (got k x)
  closes_type2 d (lower k) x = closes_type1 d k (one x)
  closes_type2 d (upper k x o) y = closes_type1 d k (operation x o y)

  closes_type1 : (d : Token) (k : AtType1) (r : Type1) → Closable (have k r)
  closes_type1 d (head k) r = closes_types d k (only r)
  closes_type1 d (next k ts s) r = closes_types d k (or ts s r)
  closes_type1 d (argument_of k p o b) r = before _ _ AngleClose d refl (closes_type2 d k (prefixed p (applied o (arg_of b r) d)))

  closes_types : (d : Token) (k : AtTypes) (s : Types) → Closable (got_types k s)
  closes_types d (body rs n a) s = before _ _ End d (past_types (body rs n a) s End d tt) ([], cddl (rules rs (type_rule n (type_or a) s)) d, refl)
  closes_types d (inside k (paren o)) s = before _ _ ParenClose d (past_types (inside k (paren o)) s ParenClose d tt) (closes_type2 d k (parens o s d))
  closes_types d (inside k (tag o)) s = before _ _ ParenClose d (past_types (inside k (tag o)) s ParenClose d tt) (closes_type2 d k (tagged o s d))
  closes_types d (inside k (tag_head o)) s = before _ _ AngleClose d (past_types (inside k (tag_head o)) s AngleClose d tt) (closes_content d k o s d (closes_type2 d k))
  closes_types d (inside k (tag_content o h a p)) s = before _ _ ParenClose d (past_types (inside k (tag_content o h a p)) s ParenClose d tt) (closes_type2 d k (tagged_by o h a p s d))
  closes_types d (inside k (simple_head o)) s = before _ _ AngleClose d (past_types (inside k (simple_head o)) s AngleClose d tt) (closes_type2 d k (simple_by o s d))
  closes_types d (start p oc) s = closes_entry d p (typed oc s)
  closes_types d (value_of p oc m) s = closes_entry d p (keyed oc m s)

  closes_entry : (d : Token) (p : AtEntry) (e : GrpEnt) → Closable (got_entry p e)
  closes_entry d (group_body rs n a) e = before _ _ End d (past_entry (group_body rs n a) e End d tt) ([], cddl (rules rs (rule_of n a e)) d, refl)
  closes_entry d (member k b es) e = before _ _ (closer k) d (past_entry (member k b es) e (closer k) d (past_closer k) ∙ shuts_entry k b es e d) (closes_group d k (group_of b (entries es e None)))

  closes_group : (d : Token) (k : AtGroup) (g : Group) → Closable (shut_group k g (closer k) d)
  closes_group d (within k (brace o)) g = closes_type2 d k (map_of o g d)
  closes_group d (within k (bracket o)) g = closes_type2 d k (array_of o g d)
  closes_group d (within k (choice a o)) g = closes_type2 d k (choice_of a o g d)
  closes_group d (in_entry p oc o) g = closes_paren d p oc o g (λ e. closes_entry d p e)

closes_have_group : (d : Token) (p : AtEntry) (e : GrpEnt) → Closable (have_group p e)
closes_have_group d (group_body rs n a) e = ((End, d) ∷ [], cddl (rules rs (rule_of n a e)) d, refl)
closes_have_group d (member k b es) e = before _ _ (closer k) d (shuts_entry k b es e d) (closes_group d k (group_of b (entries es e None)))

closes_assign : (d : Token) (rs : Rules) (n : RuleName) → Closable (awaits_assign rs n)
closes_assign d rs n =
    before _ (open_types (body rs n d)) TypeAssign d refl
    (before _ (have (head (body rs n d)) (one (typename (name d)))) Name d refl (closes_types d (body rs n d) (only (one (typename (name d))))))

closes_have_parm : (d : Token) (rs : Rules) (o : Token) (p : GenericParm) → Closable (have_parm rs o p)
closes_have_parm d rs o p = before _ (awaits_assign rs (generic o p d)) AngleClose d refl (closes_assign d rs (generic o p d))

closes_want : (d : Token) (k : AtType2) → Closable (want k)
closes_want d k = before _ _ Name d refl (closes_type2 d k (typename (name d)))

pub closes : (d : Token) (s : State) → s ≢ stuck → Closable s
closes d begin h = ((End, d) ∷ [], cddl no_rules d, refl)
closes d (awaits_parm rs o b) h = before _ (have_parm rs o (parm_of b d)) Name d refl (closes_have_parm d rs o (parm_of b d))
closes d (have_parm rs o p) h = closes_have_parm d rs o p
closes d (awaits_assign rs n) h = closes_assign d rs n
closes d (want k) h = closes_want d k
closes d (want_ref k p) h = before _ _ Name d refl (closes_type2 d k (prefixed p (name d)))
closes d (want_content k o s a) h = closes_content d k o s a (closes_type2 d k)
closes d (have k r) h = closes_type1 d k r
closes d (want_arrow p oc r u) h =
    before _ (open_value p oc (type_key r (Some u) d)) Arrow d refl (closes_want d (lower (head (value_of p oc (type_key r (Some u) d)))))
closes d (have_group p e) h = closes_have_group d p e
closes d (done x) h = ([], x, refl)
closes d stuck h = absurd (h refl)
