-- What holds of the tokens of a text holds of those of each site that is reached.
use Rattle.std.proofs.Common.{◌≡◌, ℕ, zero, suc, Bool, true, false, if◌then◌else◌, List, [], ◌∷◌, ◌++◌, Some, slice_get, refl, subst, arith}
use Rattle.std.specs.Prelude.{Contains}
use Rattle.std.proofs.lemmas.List.Elements.{Contains-append_left, Contains-append_right}
use Rattle.std.proofs.lemmas.Option.{same_Some}
use Rattle.lists.proofs.Lemmas.{beyond_zero as below_none, later as behind}
use Rattle.cddl_token.specs.declared.Kind.TheVariants as K
use Rattle.tree_nodes.specs.Syntax.Syntax as S
use Rattle.cddl_language.specs.Terms.{Text, Term, Ref, arguments_of}
use Rattle.cddl_language.specs.Reach.{Reaches}
use Rattle.cddl_language.specs.Reading.{definitions_in, rule_list, rules_of}
use Rattle.cddl_language.specs.Sites as L
use Rattle.cddl_language.specs.Sites.{Site, a_name, an_unwrapping, a_choice_of, a_choice_of_name, a_hash, an_operation, an_entry, a_map, argument_list, arguments, demands_type, IsReached, in_body, in_argument, IsUsed, used, outer_sites, ref_at_site}
use Rattle.cddl_language.specs.Written.Sites.{site_lexemes}

module _ (Q : S.Lexeme → Type 0) where
  -- it holds of each of the tokens
  abbrev pub EachToken : List S.Lexeme → Type 0
  EachToken ls = (l : S.Lexeme) → Contains ls l → Q l

  pub front : (xs ys : List S.Lexeme) → EachToken (xs ++ ys) → EachToken xs
  front xs ys h l c = h l (Contains-append_left xs ys l c)

  pub back : (xs ys : List S.Lexeme) → EachToken (xs ++ ys) → EachToken ys
  back xs ys h l c = h l (Contains-append_right xs ys l c)

  pub rest : (x : S.Lexeme) (xs : List S.Lexeme) → EachToken (x ∷ xs) → EachToken xs
  rest x xs h l c = h l (behind x xs l c)

  inner : (x : S.Lexeme) (xs ys : List S.Lexeme) → EachToken (x ∷ (xs ++ ys)) → EachToken xs
  inner x xs ys h = front xs ys (rest x (xs ++ ys) h)

  first_one : (x : S.Lexeme) (xs : List S.Lexeme) → EachToken (x ∷ xs) → Q x
  first_one x xs h = h x (0, omega arith, refl)

  -- a sign, and others of the tokens after it
  with_sign : (x : S.Lexeme) (ys : List S.Lexeme) → Q x → EachToken ys → EachToken (x ∷ ys)
  with_sign x ys h k l (zero, c, e) = subst Q e h
  with_sign x ys h k l (suc n, c, e) = k l (n, omega arith, e)

  -- it holds of the tokens of each of the sites
  abbrev AllSites : List Site → Type 0
  AllSites [] = Unit {0}
  AllSites (p ∷ ps) = EachToken (site_lexemes p) × AllSites ps

  joined : (ps qs : List Site) → AllSites ps → AllSites qs → AllSites (ps ++ qs)
  joined [] qs h k = k
  joined (p ∷ ps) qs h k = (h.0, joined ps qs h.1 k)

  one_site : (ps : List Site) (p : Site) → AllSites ps → Contains ps p → EachToken (site_lexemes p)
  one_site [] p h (k, l, e) = absurd (below_none k l)
  one_site (q ∷ ps) p h (zero, l, e) = subst (λ x. EachToken (site_lexemes x)) e h.0
  one_site (q ∷ ps) p h (suc k, l, e) = one_site ps p h.1 (k, omega arith, e)

  where_inside : (inside : Bool) (ps : List Site) → AllSites ps → AllSites (if inside then ps else [])
  where_inside true ps h = h
  where_inside false ps h = tt

  module _ (inside : Bool) where
    mutual
      in_types : (b : Bool) (t : S.Types) → EachToken (S.flat_types t) → AllSites (L.in_types inside b t)
      in_types b (S.only r) h = in_type1 b r h
      in_types b (S.or t s r) h = joined (L.in_types inside true t) (L.in_type1 inside true r) (in_types true t (front (S.flat_types t) ((K.Slash, s) ∷ S.flat_type1 r) h)) (in_type1 true r (rest (K.Slash, s) (S.flat_type1 r) (back (S.flat_types t) ((K.Slash, s) ∷ S.flat_type1 r) h)))

      in_type1 : (b : Bool) (r : S.Type1) → EachToken (S.flat_type1 r) → AllSites (L.in_type1 inside b r)
      in_type1 b (S.one x) h = in_type2 b x h
      in_type1 b (S.operation x o y) h = (h, joined (L.in_type2 inside true x) (L.in_type2 inside true y) (in_type2 true x (front (S.flat_type2 x) (S.flat_operator o ∷ S.flat_type2 y) h)) (in_type2 true y (rest (S.flat_operator o) (S.flat_type2 y) (back (S.flat_type2 x) (S.flat_operator o ∷ S.flat_type2 y) h))))

      in_type2 : (b : Bool) (x : S.Type2) → EachToken (S.flat_type2 x) → AllSites (L.in_type2 inside b x)
      in_type2 b (S.literal v) h = tt
      in_type2 b (S.typename r) h = (h, in_ref r h)
      in_type2 b (S.parens o t c) h = in_types b t (inner (K.ParenOpen, o) (S.flat_types t) ((K.ParenClose, c) ∷ []) h)
      in_type2 b (S.map_of o g c) h = let all = inner (K.BraceOpen, o) (S.flat_group g) ((K.BraceClose, c) ∷ []) h in (all, in_group g all)
      in_type2 b (S.array_of o g c) h = in_group g (inner (K.BracketOpen, o) (S.flat_group g) ((K.BracketClose, c) ∷ []) h)
      in_type2 b (S.unwrapped u r) h = (h, in_ref r (rest (K.Tilde, u) (S.flat_ref r) h))
      in_type2 b (S.choice_of a o g c) h =
          let all = inner (K.ParenOpen, o) (S.flat_group g) ((K.ParenClose, c) ∷ []) (rest (K.Ampersand, a) ((K.ParenOpen, o) ∷ (S.flat_group g ++ (K.ParenClose, c) ∷ [])) h) in
          (with_sign (K.Ampersand, a) (S.flat_group g) (first_one (K.Ampersand, a) ((K.ParenOpen, o) ∷ (S.flat_group g ++ (K.ParenClose, c) ∷ [])) h) all, in_group g all)
      in_type2 b (S.choice_of_name a r) h = (h, in_ref r (rest (K.Ampersand, a) (S.flat_ref r) h))
      in_type2 b (S.tagged o t c) h = in_types true t (inner (K.TagOpen, o) (S.flat_types t) ((K.ParenClose, c) ∷ []) h)
      in_type2 b (S.tagged_by o u a p t c) h =
          let all = rest (K.TagHeadOpen, o) (S.flat_types u ++ (K.AngleClose, a) ∷ (K.ParenOpen, p) ∷ (S.flat_types t ++ (K.ParenClose, c) ∷ [])) h in
          let after = back (S.flat_types u) ((K.AngleClose, a) ∷ (K.ParenOpen, p) ∷ (S.flat_types t ++ (K.ParenClose, c) ∷ [])) all in
          let further = rest (K.AngleClose, a) ((K.ParenOpen, p) ∷ (S.flat_types t ++ (K.ParenClose, c) ∷ [])) after in
          joined (L.in_types inside true u) (L.in_types inside true t) (in_types true u (front (S.flat_types u) ((K.AngleClose, a) ∷ (K.ParenOpen, p) ∷ (S.flat_types t ++ (K.ParenClose, c) ∷ [])) all)) (in_types true t (inner (K.ParenOpen, p) (S.flat_types t) ((K.ParenClose, c) ∷ []) further))
      in_type2 b (S.simple_by o u c) h = in_types true u (inner (K.SimpleHeadOpen, o) (S.flat_types u) ((K.AngleClose, c) ∷ []) h)
      in_type2 b (S.hash t) h = (h, tt)

      in_ref : (r : S.Ref) → EachToken (S.flat_ref r) → AllSites (L.in_ref inside r)
      in_ref (S.name t) h = tt
      in_ref (S.applied o a c) h = where_inside inside (L.in_arguments inside a) (in_arguments a (inner (K.NameOpen, o) (S.flat_arg a) ((K.AngleClose, c) ∷ []) h))

      in_arguments : (a : S.GenericArg) → EachToken (S.flat_arg a) → AllSites (L.in_arguments inside a)
      in_arguments (S.argument r) h = in_type1 true r h
      in_arguments (S.arguments a c r) h = joined (L.in_arguments inside a) (L.in_type1 inside true r) (in_arguments a (front (S.flat_arg a) ((K.Comma, c) ∷ S.flat_type1 r) h)) (in_type1 true r (rest (K.Comma, c) (S.flat_type1 r) (back (S.flat_arg a) ((K.Comma, c) ∷ S.flat_type1 r) h)))

      in_group : (g : S.Group) → EachToken (S.flat_group g) → AllSites (L.in_group inside g)
      in_group (S.sole es) h = in_entries es h
      in_group (S.orelse g s es) h = joined (L.in_group inside g) (L.in_entries inside es) (in_group g (front (S.flat_group g) ((K.DoubleSlash, s) ∷ S.flat_choice es) h)) (in_entries es (rest (K.DoubleSlash, s) (S.flat_choice es) (back (S.flat_group g) ((K.DoubleSlash, s) ∷ S.flat_choice es) h)))

      in_entries : (es : S.GrpChoice) → EachToken (S.flat_choice es) → AllSites (L.in_entries inside es)
      in_entries S.no_entries h = tt
      in_entries (S.entries es e c) h = joined (L.in_entries inside es) (L.in_entry inside e) (in_entries es (front (S.flat_choice es) (S.flat_entry e ++ S.optional K.Comma c) h)) (in_entry e (front (S.flat_entry e) (S.optional K.Comma c) (back (S.flat_choice es) (S.flat_entry e ++ S.optional K.Comma c) h)))

      in_entry : (e : S.GrpEnt) → EachToken (S.flat_entry e) → AllSites (L.in_entry inside e)
      in_entry (S.typed o t) h = (h, in_types false t (back (S.optional K.Occur o) (S.flat_types t) h))
      in_entry (S.keyed o k t) h =
          let both = back (S.optional K.Occur o) (S.flat_key k ++ S.flat_types t) h in
          (h, joined (L.in_key inside k) (L.in_types inside true t) (in_key k (front (S.flat_key k) (S.flat_types t) both)) (in_types true t (back (S.flat_key k) (S.flat_types t) both)))
      in_entry (S.grouped o p g c) h = (h, in_group g (inner (K.ParenOpen, p) (S.flat_group g) ((K.ParenClose, c) ∷ []) (back (S.optional K.Occur o) ((K.ParenOpen, p) ∷ (S.flat_group g ++ (K.ParenClose, c) ∷ [])) h)))

      in_key : (k : S.MemberKey) → EachToken (S.flat_key k) → AllSites (L.in_key inside k)
      in_key (S.type_key r u a) h = in_type1 true r (front (S.flat_type1 r) (S.optional K.Cut u ++ (K.Arrow, a) ∷ []) h)
      in_key (S.bareword n c) h = tt
      in_key (S.value_key v c) h = tt

    in_rule : (r : S.Rule) → EachToken (S.flat_rule r) → AllSites (L.in_rule inside r)
    in_rule (S.type_rule n a t) h = in_types (demands_type inside a) t (rest (S.flat_assignt a) (S.flat_types t) (back (S.flat_name n) (S.flat_assignt a ∷ S.flat_types t) h))
    in_rule (S.group_rule n a e) h = in_entry e (rest (S.flat_assigng a) (S.flat_entry e) (back (S.flat_name n) (S.flat_assigng a ∷ S.flat_entry e) h))

  -- the arguments of a reference

  abbrev AllArguments : List S.Type1 → Type 0
  AllArguments [] = Unit {0}
  AllArguments (x ∷ xs) = EachToken (S.flat_type1 x) × AllArguments xs

  with_argument : (xs : List S.Type1) (x : S.Type1) → AllArguments xs → EachToken (S.flat_type1 x) → AllArguments (xs ++ x ∷ [])
  with_argument [] x h k = (k, tt)
  with_argument (y ∷ xs) x h k = (h.0, with_argument xs x h.1 k)

  all_arguments : (a : S.GenericArg) → EachToken (S.flat_arg a) → AllArguments (argument_list a)
  all_arguments (S.argument r) h = (h, tt)
  all_arguments (S.arguments a c r) h = with_argument (argument_list a) r (all_arguments a (front (S.flat_arg a) ((K.Comma, c) ∷ S.flat_type1 r) h)) (rest (K.Comma, c) (S.flat_type1 r) (back (S.flat_arg a) ((K.Comma, c) ∷ S.flat_type1 r) h))

  of_reference : (f : S.Ref) → EachToken (S.flat_ref f) → AllArguments (arguments f)
  of_reference (S.name t) h = tt
  of_reference (S.applied o a c) h = all_arguments a (inner (K.NameOpen, o) (S.flat_arg a) ((K.AngleClose, c) ∷ []) h)

  one_argument : (xs : List S.Type1) (k : ℕ) (x : S.Type1) → AllArguments xs → slice_get xs k ≡ Some x → EachToken (S.flat_type1 x)
  one_argument [] k x h e = cc
  one_argument (y ∷ xs) zero x h e = subst (λ z. EachToken (S.flat_type1 z)) (same_Some y x e) h.0
  one_argument (y ∷ xs) (suc k) x h e = one_argument xs k x h.1 e

  the_reference : (q : Site) (f : S.Ref) → ref_at_site q ≡ Some f → EachToken (site_lexemes q) → EachToken (S.flat_ref f)
  the_reference (a_name b g) f e h = subst (λ z. EachToken (S.flat_ref z)) (same_Some g f e) h
  the_reference (an_unwrapping b t g) f e h = subst (λ z. EachToken (S.flat_ref z)) (same_Some g f e) (rest (K.Tilde, t) (S.flat_ref g) h)
  the_reference (a_choice_of_name t g) f e h = subst (λ z. EachToken (S.flat_ref z)) (same_Some g f e) (rest (K.Ampersand, t) (S.flat_ref g) h)
  the_reference (a_choice_of t g) f e h = cc
  the_reference (a_hash t) f e h = cc
  the_reference (an_operation x o y) f e h = cc
  the_reference (an_entry d) f e h = cc
  the_reference (a_map t g) f e h = cc

  -- the rules of a text

  abbrev AllRules : List S.Rule → Type 0
  AllRules [] = Unit {0}
  AllRules (r ∷ rs) = EachToken (S.flat_rule r) × AllRules rs

  with_rule : (rs : List S.Rule) (r : S.Rule) → AllRules rs → EachToken (S.flat_rule r) → AllRules (rs ++ r ∷ [])
  with_rule [] r h k = (k, tt)
  with_rule (q ∷ rs) r h k = (h.0, with_rule rs r h.1 k)

  all_rules : (rs : S.Rules) → EachToken (S.flat_rules rs) → AllRules (rule_list rs)
  all_rules S.no_rules h = tt
  all_rules (S.rules rs r) h = with_rule (rule_list rs) r (all_rules rs (front (S.flat_rules rs) (S.flat_rule r) h)) (back (S.flat_rules rs) (S.flat_rule r) h)

  of_text : (x : S.Cddl) → EachToken (S.flat x) → AllRules (rules_of x)
  of_text (S.cddl rs e) h = all_rules rs (front (S.flat_rules rs) ((K.End, e) ∷ []) h)

  one_rule : (rs : List S.Rule) (r : S.Rule) → AllRules rs → Contains rs r → EachToken (S.flat_rule r)
  one_rule [] r h (k, l, e) = absurd (below_none k l)
  one_rule (q ∷ rs) r h (zero, l, e) = subst (λ x. EachToken (S.flat_rule x)) e h.0
  one_rule (q ∷ rs) r h (suc k, l, e) = one_rule rs r h.1 (k, omega arith, e)

  module _ (rs : List S.Rule) (root : Text) (all : AllRules rs) where
    in_used : (r : S.Rule) (xs : List Term) (f : S.Ref) (x : S.Type1) → IsUsed rs root r xs f x → EachToken (S.flat_ref f) → EachToken (S.flat_type1 x)
    in_used r xs f x (used k n m w a b d) h = one_argument (arguments f) k x (of_reference f h) d

    at_reached : (r : S.Rule) (xs : List Term) (p : Site) → IsReached rs root r xs p → EachToken (site_lexemes p)
    at_reached r xs p (in_body h c) = one_site (outer_sites r) p (in_rule false r (one_rule rs r all h.present)) c
    at_reached r xs p (in_argument {q = q} {f = f} {x = x} h e u c) = one_site (L.in_type1 false true x) p (in_type1 false true x (in_used r xs f x u (the_reference q f e (at_reached r xs q h)))) c

pub stands : (x : S.Cddl) (root : Text) (r : S.Rule) (xs : List Term) (p : Site) → IsReached (rules_of x) root r xs p → (l : S.Lexeme) → Contains (site_lexemes p) l → Contains (S.flat x) l
stands x root r xs p h = at_reached (Contains (S.flat x)) (rules_of x) root (of_text (Contains (S.flat x)) x (λ l c. c)) r xs p h

-- the arguments with which a site is reached are those of an instance
pub the_instance : (rs : List S.Rule) (root : Text) (r : S.Rule) (xs : List Term) (p : Site) → IsReached rs root r xs p → (i : Ref) × (Reaches (definitions_in rs) root i × (xs ≡ arguments_of i))
the_instance rs root r xs p (in_body {i = i} h c) = (i, (h.reached, refl))
the_instance rs root r xs p (in_argument {q = q} h e u c) = the_instance rs root r xs q h
