-- The last link to an instance of a rule of the text, and what the terms of rules are in that instance.
use Rattle.std.proofs.Common.{◌≡◌, ◌==◌, ◌<◌, ◌⊎◌, inl, inr, append_assoc, ℕ, Bool, true, false, if◌then◌else◌, List, [], ◌∷◌, ◌++◌, drop, length, Option, Some, None, option_map, slice_get, refl, sym, ap, subst, ◌∙◌, arith}
use Rattle.std.specs.List.{Contains}
use Rattle.std.proofs.lemmas.List.Elements.{Contains-append_right, Contains-push_cases}
use Rattle.std.proofs.lemmas.Option.{slice_get-map}
use Rattle.lists.proofs.Lemmas.{at_head, none_in, same_some}
use Rattle.tree_nodes.specs.Syntax.Syntax as S
use Rattle.cddl_language.specs.Environment.{is_same}
use Rattle.cddl_language.specs.Language.{TypeName, reference}
use Rattle.cddl_language.specs.Reading.{name_in, parameters_in, rules_of}
use Rattle.cddl_language.specs.Terms.{Ref, Term, arguments_of, name_of}
use Rattle.check_instances.specs.declared.closed.closed.Meaning.{Meaning}
use Rattle.check_terms.specs.Filled.{term_trees}
use Rattle.check_terms.specs.Fill.Templates.{AreTrees}
use Rattle.check_terms.specs.Table.{Table}
use Rattle.check_terms.specs.Trees.{IsRef}
use Rattle.table_making.specs.Basis.{Sense}
use Rattle.table_making.specs.Nodes.{IsNameOfType}
use Rattle.table_making.specs.declared.making.Nodes.{Nodes}
use Rattle.table_making.specs.declared.origin.TypeOrigin.{TypeOrigin}
use Rattle.table_making.specs.declared.origin.TypeOrigin.TheVariants as T
use Rattle.table_nodes.specs.declared.nodes.TypeId.{TypeId}
use Rattle.table_nodes.specs.declared.table.Table.{Table as Made}
use Rattle.type_links.specs.declared.link.Link.{Link}
use Rattle.type_links.specs.declared.link.Link.TheVariants as L
use Rattle.source_pieces.specs.Instances.{all_as_written, has_arguments, is_some_term, term_in, with_arguments}
use Rattle.source_pieces.specs.Origins.{ArePieces}
use Rattle.source_pieces.specs.declared.piece.PieceAt.{PieceAt}
use Rattle.source_places.specs.Places.{LeadsTo}
use Rattle.source_places.specs.Sources.{AreSources, AreTypesOf, IsKept, IsMade, call_of}
use Rattle.source_places.specs.States.{HasNoRule, HasNumber, HasRule, IsLastAt, IsLastIn, IsOfLast, number_at, number_in, origin_at}
use Rattle.source_pieces.specs.declared.rules.RuleAt.{RuleAt}
use Rattle.source_places.specs.declared.sources.Sources.{Sources}
use Rattle.source_places.specs.declared.sources.TypesInText.{TypesInText}
use Rattle.source_places.proofs.Naming.{an_instance, instance_name}

module _ (x : TypesInText) where
  no_rule_here : (m : Link) → HasNoRule x m → HasRule x m → ⊥
  no_rule_here m none h = none h.0 h.1 h.2 h.3

  -- the last link to a rule of the text is one
  last_one : (b c : List Link) (m l : Link) (others rest : List Link) → b ++ m ∷ others ≡ c ++ l ∷ rest → HasRule x m → ((z : Link) → Contains others z → HasNoRule x z) → HasRule x l → ((z : Link) → Contains rest z → HasNoRule x z) → m ≡ l
  last_one [] [] m l others rest e h none g nor = same_some (ap (λ (zs : List Link). slice_get zs 0) e)
  last_one [] (z ∷ c) m l others rest e h none g nor =
      let after : others ≡ c ++ l ∷ rest = ap (drop 1) e in
      absurd (no_rule_here l (none l (subst (λ (zs : List Link). Contains zs l) (sym after) (Contains-append_right c (l ∷ rest) l (at_head l rest)))) g)
  last_one (z ∷ b) [] m l others rest e h none g nor =
      let after : b ++ m ∷ others ≡ rest = ap (drop 1) e in
      absurd (no_rule_here m (nor m (subst (λ (zs : List Link). Contains zs m) after (Contains-append_right b (m ∷ others) m (at_head m others)))) h)
  last_one (z ∷ b) (y ∷ c) m l others rest e h none g nor = last_one b c m l others rest (ap (drop 1) e) h none g nor

  pub of_last : (names : TypeName → TypeId → Type 0) (q : Ref) (chain : List Link) (k : ℕ) → (h : IsLastAt x chain k) → LeadsTo names (reference q) h.last → IsOfLast names q x chain
  of_last names q chain k h to b m others e rule none = subst (LeadsTo names (reference q)) (last_one h.before b h.last m h.others others (sym h.split ∙ e) h.has_rule h.none rule none) to

  -- One link more.

  pub none_more : (ids : List Link) (m : Link) (o : Option ℕ) → HasNoRule x m → IsLastIn x ids o → IsLastIn x (ids ++ m ∷ []) o
  none_more ids m None none h = λ l c. by l (Contains-push_cases ids m l c)
    where
      by : (l : Link) → Contains ids l ⊎ (m ≡ l) → HasNoRule x l
      by l (inl g) = h l g
      by l (inr e) = subst (HasNoRule x) e none
  none_more ids m (Some k) none h = record {
    before = h.before;
    last = h.last;
    others = h.others ++ m ∷ [];
    split = ap (λ (zs : List Link). zs ++ m ∷ []) h.split ∙ append_assoc h.before (h.last ∷ h.others) (m ∷ []);
    is = h.is;
    has_rule = h.has_rule;
    none = λ l c. by l (Contains-push_cases h.others m l c);
  }
    where
      by : (l : Link) → Contains h.others l ⊎ (m ≡ l) → HasNoRule x l
      by l (inl g) = h.none l g
      by l (inr e) = subst (HasNoRule x) e none

  pub one_last : (ids : List Link) (m : Link) (k : ℕ) → origin_at x m ≡ Some (T.Instance k) → HasRule x m → IsLastIn x (ids ++ m ∷ []) (Some k)
  one_last ids m k e h = record { before = ids; last = m; others = []; split = refl; is = e; has_rule = h; none = λ l c. absurd (none_in l c) }

-- What has the same origins, numbers and rules has the same last link.
module _ (x y : TypesInText) (origins : y.origins.items ≡ x.origins.items) (numbers : y.numbers.items ≡ x.numbers.items) (rules : y.rules.items ≡ x.rules.items) where
  origin_same : (m : Link) → origin_at y m ≡ origin_at x m
  origin_same (L.Type m) = ap (λ (os : List TypeOrigin). slice_get os m.number) origins
  origin_same (L.Alternative k) = refl
  origin_same (L.Entry k) = refl
  origin_same (L.Key m) = refl

  number_same : (m : Link) → number_at y m ≡ number_at x m
  number_same m = ap (λ (ns : List (Option ℕ)). number_in ns (origin_at y m)) numbers ∙ ap (number_in x.numbers.items) (origin_same m)

  has_there : (i n : ℕ) → HasNumber x i n → HasNumber y i n
  has_there i n h = record { at = h.at; there = ap (λ (rs : List RuleAt). slice_get rs i) rules ∙ h.there; same = h.same }

  has_here : (i n : ℕ) → HasNumber y i n → HasNumber x i n
  has_here i n h = record { at = h.at; there = ap (λ (rs : List RuleAt). slice_get rs i) (sym rules) ∙ h.there; same = h.same }

  pub last_there : (chain : List Link) (k : ℕ) → IsLastAt x chain k → IsLastAt y chain k
  last_there chain k h = record {
    before = h.before;
    last = h.last;
    others = h.others;
    split = h.split;
    is = origin_same h.last ∙ h.is;
    has_rule = (h.has_rule.0, h.has_rule.1, number_same h.last ∙ h.has_rule.2, has_there h.has_rule.1 h.has_rule.0 h.has_rule.3);
    none = λ m c n i e g. h.none m c n i (sym (number_same m) ∙ e) (has_here i n g);
  }

-- in an instance without arguments the terms are as they are written
in_plain : (q : Ref) (r : S.Rule) (t : Term) → arguments_of q ≡ [] → all_as_written r t ≡ term_in q r t
in_plain q r t none = by (is_same (name_in r) (name_of q)) refl
  where
    by : (b : Bool) → is_same (name_in r) (name_of q) ≡ b → t ≡ term_in q r t
    by true e =
        ap (λ (xs : List Term). with_arguments (parameters_in r) xs t) (sym none)
        ∙ ap (λ (b : Bool). if b then with_arguments (parameters_in r) (arguments_of q) t else t) (sym e)
    by false e = ap (λ (b : Bool). if b then with_arguments (parameters_in r) (arguments_of q) t else t) (sym e)

-- pieces are the same by equal words
abbrev pub AreSame : (S.Rule → Term → Term) → (S.Rule → Term → Term) → Type 0
AreSame closed other = (t : Table) (rs : List S.Rule) (xs : List PieceAt) → ((r : S.Rule) (u : Term) → closed r u ≡ other r u) → ArePieces closed t rs xs → ArePieces other t rs xs

pub plain_types : (q : Ref) → AreSame all_as_written (term_in q) → arguments_of q ≡ [] → (s : Sense) (terms : Table) (nodes : Nodes) (x : TypesInText) → AreTypesOf all_as_written s terms nodes x → AreTypesOf (term_in q) s terms nodes x
plain_types q same none s terms nodes x k = record { meanings = k.meanings; are_nodes = k.are_nodes; are_meanings = k.are_meanings; made = made }
  where
    rs : List S.Rule
    rs = rules_of s.tree

    made : IsMade (term_in q) terms k.meanings rs nodes.type_origins.items x
    made = record {
      more = k.made.more;
      grows = k.made.grows;
      stays = k.made.stays;
      distinct = k.made.distinct;
      one_term = k.made.one_term;
      one_row = k.made.one_row;
      names = k.made.names;
      origins = k.made.origins;
      numbers = k.made.numbers;
      rules = k.made.rules;
      pieces = same k.made.more rs x.pieces.items (λ r u. in_plain q r u none) k.made.pieces;
    }

no_arguments : (t : Table) (ns : List ℕ) (xs : List Term) → length ns ≡ 0 → AreTrees t ns (term_trees xs) → xs ≡ []
no_arguments t ns [] none h = refl
no_arguments t [] (y ∷ xs) none h = elim h [ ]
no_arguments t (n ∷ ns) (y ∷ xs) none h = absurd (omega (arith, none))

pub not_empty : (ns : List ℕ) → (length ns == 0) ≡ false → 0 < length ns
not_empty [] e = cc
not_empty (n ∷ ns) e = omega arith

some_arguments : (t : Table) (ns : List ℕ) (xs : List Term) → 0 < length ns → AreTrees t ns (term_trees xs) → true ≡ is_some_term xs
some_arguments t ns (x ∷ xs) some h = refl
some_arguments t [] [] some h = absurd (omega (arith, some))
some_arguments t (n ∷ ns) [] some h = elim h [ ]

-- The last instance, by its number.
module _ (s : Sense) (table : Made) (x : Sources) (known : AreSources s table x) (chain : List Link) (i : ℕ) (h : IsLastAt x.text chain i) where
  abbrev its : (q : Ref) × LeadsTo (IsNameOfType s known.terms known.nodes) (reference q) h.last × (slice_get s.refs i ≡ Some q)
  its = an_instance s known.terms known.nodes x.text all_as_written known.types h.last i h.is

  abbrev pub instance : Ref
  instance = its.0

  pub is_last : IsOfLast (IsNameOfType s known.terms known.nodes) instance x.text chain
  is_last = of_last x.text (IsNameOfType s known.terms known.nodes) instance chain i h its.1

  abbrev meaning : (m : Meaning) × (slice_get known.types.meanings i ≡ Some m) × IsRef known.terms m.call instance
  meaning = known.types.are_meanings i instance its.2

  call : slice_get x.calls.items i ≡ Some (call_of meaning.0)
  call =
      ap (λ (cs : List ℕ). slice_get cs i) known.kept.calls
      ∙ slice_get-map call_of known.types.meanings i
      ∙ ap (option_map call_of) meaning.1

  reference_row : IsRef x.terms (call_of meaning.0) instance
  reference_row = subst (λ (t : Table). IsRef t (call_of meaning.0) instance) known.kept.same_terms (known.types.made.stays _ _ meaning.2)

  -- its arguments, by what is read of its reference
  pub arguments : (ns : List ℕ) → ((n : ℕ) (q : Ref) → slice_get x.calls.items i ≡ Some n → IsRef x.terms n q → AreTrees x.terms ns (term_trees (arguments_of q))) → AreTrees x.terms ns (term_trees (arguments_of instance))
  arguments ns read = read (call_of meaning.0) instance call reference_row

  -- without arguments the types are in it as they are written
  pub plain_in : (ns : List ℕ) → AreSame all_as_written (term_in instance) → length ns ≡ 0 → AreTrees x.terms ns (term_trees (arguments_of instance)) → AreTypesOf (term_in instance) s known.terms known.nodes x.text
  plain_in ns same none are = plain_types instance same (no_arguments x.terms ns (arguments_of instance) none are) s known.terms known.nodes x.text known.types

  -- it has arguments where there are some
  pub none_has : (ns : List ℕ) → length ns ≡ 0 → AreTrees x.terms ns (term_trees (arguments_of instance)) → x.text.filled ≡ has_arguments instance
  none_has ns none are = known.kept.unfilled ∙ ap is_some_term (sym (no_arguments x.terms ns (arguments_of instance) none are))

  pub some_have : (ns : List ℕ) → 0 < length ns → AreTrees x.terms ns (term_trees (arguments_of instance)) → true ≡ has_arguments instance
  some_have ns some are = some_arguments x.terms ns (arguments_of instance) some are

  abbrev name : (n : ℕ) × (slice_get x.text.numbers.items i ≡ Some (Some n)) × (slice_get x.terms.texts n ≡ Some (name_of instance))
  name =
      let w = instance_name s known.terms known.nodes x.text all_as_written known.types i instance its.2 in
      (w.0, w.1, subst (λ (t : Table). slice_get t.texts w.0 ≡ Some (name_of instance)) known.kept.same_terms w.2)

  -- with its arguments filled in the types are in it as those are
  pub filled_in : (ns : List ℕ) (y : TypesInText) → ((t : Table) (ms : List Meaning) (rs : List S.Rule) (os : List TypeOrigin) → (made : IsMade all_as_written t ms rs os x.text) → IsKept made.more ms rs x → (q : Ref) (n : ℕ) → slice_get x.text.numbers.items i ≡ Some (Some n) → slice_get x.terms.texts n ≡ Some (name_of q) → AreTrees x.terms ns (term_trees (arguments_of q)) → IsMade (term_in q) t ms rs os y) → AreTrees x.terms ns (term_trees (arguments_of instance)) → AreTypesOf (term_in instance) s known.terms known.nodes y
  filled_in ns y made are = record {
    meanings = known.types.meanings;
    are_nodes = known.types.are_nodes;
    are_meanings = known.types.are_meanings;
    made = made known.terms known.types.meanings (rules_of s.tree) known.nodes.type_origins.items known.types.made known.kept instance name.0 name.1 name.2 are;
  }

  pub is_last_of : (y : TypesInText) → y.origins.items ≡ x.text.origins.items → y.numbers.items ≡ x.text.numbers.items → y.rules.items ≡ x.text.rules.items → IsOfLast (IsNameOfType s known.terms known.nodes) instance y chain
  unfolding last_there
  is_last_of y origins numbers rules = of_last y (IsNameOfType s known.terms known.nodes) instance chain i (last_there x.text y origins numbers rules chain i h) its.1
