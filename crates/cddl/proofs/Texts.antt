-- A text is accepted or wrong, never both, and wrong for one reason at one byte.
use Rattle.std.proofs.Common.{◌≡◌, ℕ, zero, suc, List, [], ◌∷◌, ◌++◌, map, length, Option, Some, None, inl, inr, refl, sym, ap, ◌∙◌, subst, ⊎_elim, slice_range, arith}
use Rattle.std.specs.Prelude.{All, ◌⊎◌}
use Rattle.std.proofs.lemmas.Option.{same_Some}
use Rattle.cddl_token.specs.Answers as K
use Rattle.cddl_token.specs.Answers.{IsReadFrom, IsTokenized, span}
use Rattle.cddl_token.specs.Tokens as T
use Rattle.cddl_token.specs.Tokens.{Spanned, Tokenized}
use Rattle.cddl_token.specs.declared.Code.{Code}
use Rattle.cddl_token.specs.declared.Code.TheVariants.{NoRoot}
use Rattle.cddl_token.specs.declared.Kind.TheVariants.{End}
use Rattle.cddl_token.specs.declared.Refusal.{Refusal}
use Rattle.cddl_token.specs.declared.Refusal.TheVariants as why
use Rattle.cddl_token.specs.declared.Token.{Token}
use Rattle.tree_nodes.specs.Syntax.Answers as S
use Rattle.tree_nodes.specs.Syntax.Answers.{IsTreeOf}
use Rattle.tree_nodes.specs.Syntax.Syntax.{Cddl}
use Rattle.check_text.specs.declared.fault.Fault.{Fault}
use Rattle.cddl_check.specs.Outcome.{specification}
use Rattle.cddl_check.specs.Text.{AreTokensOf, IsTreeOfText, IsUnreadText, IsWrongText, has_fault, no_tokens, no_tree}
use Rattle.cddl_language.specs.Faults as F
use Rattle.cddl_language.specs.Faults.{IsAccepted, Specification, definitions, no_rule, root_of}
use Rattle.cddl_language.specs.Literals.{AreRight, AreTokens, Values}
use Rattle.cddl_language.specs.Terms.{Text}
use Rattle.cddl_decided.specs.Readings.{AreRead, TellTheSame}
use Rattle.cddl.specs.Failures.{failure_of}
use Rattle.cddl.specs.Rules.{HasRoot, Rule}
use Rattle.cddl.specs.Validated.{IsNoRefusal, IsRefusalFor}
use Rattle.cddl.specs.declared.validating.Failure.TheVariants.{Refused}

-- the laws from which this follows, over tokens,
pub record OfTokens : Type 0 where
  pub some : (s : List ℕ) → ((ts : List Spanned) → IsTokenized s ts → ⊥) → ((c : Code) (p : ℕ) → K.IsRefused s c p → ⊥) → ⊥
  pub one : (s : List ℕ) (ts us : List Spanned) → IsTokenized s ts → IsTokenized s us → us ≡ ts
  pub fault : (s : List ℕ) (c d : Code) (p q : ℕ) → K.IsRefused s c p → K.IsRefused s d q → (d ≡ c) × (q ≡ p)
  pub apart : (s : List ℕ) (ts : List Spanned) (c : Code) (p : ℕ) → IsTokenized s ts → K.IsRefused s c p → ⊥

-- over the trees of tokens,
pub record OfTrees : Type 0 where
  pub some : (front : List Token) (e : Token) → e.kind ≡ End → ((x : Cddl) × IsTreeOf x (front ++ e ∷ [])) ⊎ ((c : Code) × (p : ℕ) × S.IsRefused (front ++ e ∷ []) c p)
  pub apart : (ts : List Token) (x : Cddl) (c : Code) (p : ℕ) → IsTreeOf x ts → S.IsRefused ts c p → ⊥
  pub refusal : (ts : List Token) (c d : Code) (p q : ℕ) → S.IsRefused ts c p → S.IsRefused ts d q → (d ≡ c) × (q ≡ p)
  pub are_tokens : (text : List ℕ) (ts : List Token) (x : Cddl) → AreTokensOf ts text → IsTreeOf x ts → AreTokens x

-- and over what is told of trees
pub record OfFaults : Type 0 where
  pub some : (s : Specification) (worth : Values) → ((c : Code) (p : ℕ) → F.IsRefused s worth c p → ⊥) → IsAccepted s worth
  pub same : (s : Specification) (worth : Values) (c d : Code) (p q : ℕ) → F.IsRefused s worth c p → F.IsRefused s worth d q → (d ≡ c) × (q ≡ p)
  pub apart : (s : Specification) (worth : Values) (c : Code) (p : ℕ) → IsAccepted s worth → F.IsRefused s worth c p → ⊥
  pub values : (x : Cddl) → AreTokens x → (worth : Values) × AreRight x worth
  pub accepted : (s : Specification) (u w : Values) → AreRight s.tree u → AreRight s.tree w → IsAccepted s u → IsAccepted s w
  pub refused : (s : Specification) (u : Values) (c : Code) (p : ℕ) → AreRight s.tree u → F.IsRefused s u c p → (((w : Values) → AreRight s.tree w → F.IsRefused s w c p) → ⊥) → ⊥

-- The tokens of a text, each with its part of it.

abbrev cut : List ℕ → Spanned → Token
cut s t = record { kind = t.kind; start = t.start; end = t.end; text = record { ref_ptr = (0, 0); now = slice_range s t.start t.end } }

spans : (s : List ℕ) (us : List Spanned) → map span (map (cut s) us) ≡ us
spans s [] = refl
spans s (u ∷ us) = ap (λ ts. u ∷ ts) (spans s us)

all_cons : {A : Type 0} (P : A → Type 0) (x : A) (xs : List A) → P x → All P xs → All P (x ∷ xs)
all_cons P x xs p h zero d lt = p
all_cons P x xs p h (suc k) d lt = h k d (omega (arith, lt))

all_none : {A : Type 0} (P : A → Type 0) → All P []
all_none P k d lt = absurd (omega (arith, lt))

cut_tokens : {s : List ℕ} {i : ℕ} {us : List Spanned} → Tokenized s i us → All (IsReadFrom s) (map (cut s) us)
cut_tokens {s} (T.ends gap e) = subst (λ us. All (IsReadFrom s) (map (cut s) us)) (sym e) (all_cons (IsReadFrom s) (cut s (T.token End (length s) (length s))) [] (refl, inl refl) (all_none (IsReadFrom s)))
cut_tokens {s} (T.more {a = a} {b = b} {kind = kind} {ts = ts} gap t r) = let l = t.longest in all_cons (IsReadFrom s) (cut s (T.token kind a b)) (map (cut s) ts) (refl, inr l.spelled) (cut_tokens r)

record EndsInEnd (ts : List Token) : Type 0 where
  front : List Token
  last : Token
  parts : ts ≡ front ++ last ∷ []
  end : last.kind ≡ End

ends_in_end : {s : List ℕ} {i : ℕ} {us : List Spanned} → Tokenized s i us → EndsInEnd (map (cut s) us)
ends_in_end {s} (T.ends gap e) = record { front = []; last = cut s (T.token End (length s) (length s)); parts = ap (map (cut s)) e; end = refl }
ends_in_end {s} (T.more {a = a} {b = b} {kind = kind} gap t r) =
    let x = ends_in_end r in
    record { front = cut s (T.token kind a b) ∷ x.front; last = x.last; parts = ap (λ ts. cut s (T.token kind a b) ∷ ts) x.parts; end = x.end }

rooted : (s : Specification) (worth : Values) → IsAccepted s worth → (o : Option Text) → root_of s ≡ o → (n : Text) × (root_of s ≡ Some n)
rooted s worth fine None e = absurd (fine NoRoot 0 (no_rule e refl))
rooted s worth fine (Some n) e = (n, e)

-- No text is neither accepted nor wrong.
module _ (of_tokens : OfTokens) (of_trees : OfTrees) (of_faults : OfFaults) (text : List ℕ) (named : Option Text) (none : (rule : Rule) → HasRoot text named rule → ⊥) (right : (f : Fault) → IsWrongText text named f → ⊥) where
  tree_wrong : (x : Cddl) → IsTreeOfText x text → ⊥
  tree_wrong x tree =
      let worth : (w : Values) × AreRight x w = of_faults.values x (of_trees.are_tokens text tree.tokens x tree.are_tokens tree.is_tree) in
      let s : Specification = specification x named in
      let fine : IsAccepted s worth.0 = of_faults.some s worth.0 (λ c p h. of_faults.refused s worth.0 c p worth.1 h (λ all. right (record { code = c; at = p }) (has_fault tree all))) in
      let root = rooted s worth.0 fine (root_of s) refl in
      none (record { name = root.0; definitions = definitions s; values = worth.0 })
      (record { tree = x; is_tree = tree; are_right = worth.1; accepted = fine; definitions_are = refl; name_is = root.1 })

  tokens_wrong : (us : List Spanned) → IsTokenized text us → ⊥
  tokens_wrong us t = by (ends_in_end t.1)
    where
      are : AreTokensOf (map (cut text) us) text
      are = record { tokenized = subst (IsTokenized text) (sym (spans text us)) t; read = cut_tokens t.1 }

      by : EndsInEnd (map (cut text) us) → ⊥
      by x =
          ⊎_elim
          (λ tree. tree_wrong tree.0 (record { tokens = map (cut text) us; are_tokens = are; is_tree = subst (IsTreeOf tree.0) (sym x.parts) tree.1 }))
          (λ h. right (record { code = h.0; at = h.1 }) (no_tree are (subst (λ ts. S.IsRefused ts h.0 h.1) (sym x.parts) h.2)))
          (of_trees.some x.front x.last x.end)

  pub neither : ⊥
  neither = of_tokens.some text tokens_wrong (λ c p h. right (record { code = c; at = p }) (no_tokens h))

-- the laws on what two readings of a text share
pub record OfReadings : Type 0 where
  pub tree : (s : List ℕ) (ts us : List Token) → AreRead s ts → AreRead s us → (x y : Cddl) → IsTreeOf x ts → IsTreeOf y us → TellTheSame x y
  pub refused : (s : List ℕ) (ts us : List Token) → AreRead s ts → AreRead s us → (c : Code) (p : ℕ) → S.IsRefused ts c p → S.IsRefused us c p

module _ (of_tokens : OfTokens) (of_trees : OfTrees) (of_faults : OfFaults) (of_readings : OfReadings) (text : List ℕ) (named : Option Text) where
  are_read : (ts : List Token) → AreTokensOf ts text → AreRead text ts
  are_read ts h = (h.tokenized, h.read)

  no_tree_either : (ts us : List Token) (f : Fault) → AreTokensOf ts text → AreTokensOf us text → S.IsRefused ts f.code f.at → S.IsRefused us f.code f.at
  no_tree_either ts us f p q h = of_readings.refused text ts us (are_read ts p) (are_read us q) f.code f.at h

  module _ (x y : Cddl) (tree : IsTreeOfText x text) (other : IsTreeOfText y text) where
    same : TellTheSame x y
    same = of_readings.tree text tree.tokens other.tokens (are_read tree.tokens tree.are_tokens) (are_read other.tokens other.are_tokens) x y tree.is_tree other.is_tree

    values : (worth : Values) × AreRight x worth
    values = of_faults.values x (of_trees.are_tokens text tree.tokens x tree.are_tokens tree.is_tree)

  tree_and_none : (x : Cddl) (ts : List Token) (f : Fault) → IsTreeOfText x text → AreTokensOf ts text → S.IsRefused ts f.code f.at → ⊥
  tree_and_none x ts f tree are h = of_trees.apart tree.tokens x f.code f.at tree.is_tree (no_tree_either ts tree.tokens f are tree.are_tokens h)

  tokens_and_none : (ts : List Token) (f : Fault) → AreTokensOf ts text → K.IsRefused text f.code f.at → ⊥
  tokens_and_none ts f are h = of_tokens.apart text (map span ts) f.code f.at are.tokenized h

  -- No text is both.
  pub never_both : (rule : Rule) (f : Fault) → HasRoot text named rule → IsWrongText text named f → ⊥
  never_both rule f h (no_tokens r) = tokens_and_none (h.is_tree).tokens f (h.is_tree).are_tokens r
  never_both rule f h (no_tree {ts = ts} are r) = tree_and_none h.tree ts f h.is_tree are r
  never_both rule f h (has_fault {x = x} tree all) =
      let worth = values x h.tree tree h.is_tree in
      let alike = same x h.tree tree h.is_tree in
      let right : AreRight h.tree worth.0 = alike.right worth.0 worth.1 in
      of_faults.apart (specification h.tree named) worth.0 f.code f.at
      (of_faults.accepted (specification h.tree named) rule.values worth.0 h.are_right right h.accepted)
      (alike.refused named worth.0 f.code f.at (all worth.0 worth.1))

  abbrev a_fault : Code → ℕ → Fault
  a_fault c p = record { code = c; at = p }

  same_fault : (f g : Fault) → (g.code ≡ f.code) × (g.at ≡ f.at) → g ≡ f
  same_fault f g e = ap (λ (c : Code). a_fault c g.at) e.0 ∙ ap (λ (p : ℕ). a_fault f.code p) e.1

  -- A text is wrong for one reason at one byte.
  pub one_reason : (f g : Fault) → IsWrongText text named f → IsWrongText text named g → g ≡ f
  one_reason f g (no_tokens h) (no_tokens k) = same_fault f g (of_tokens.fault text f.code g.code f.at g.at h k)
  one_reason f g (no_tokens h) (no_tree {ts = us} q k) = absurd (tokens_and_none us f q h)
  one_reason f g (no_tokens h) (has_fault other k) = absurd (tokens_and_none other.tokens f other.are_tokens h)
  one_reason f g (no_tree {ts = ts} p h) (no_tokens k) = absurd (tokens_and_none ts g p k)
  one_reason f g (no_tree {ts = ts} p h) (no_tree {ts = us} q k) = same_fault f g (of_trees.refusal us f.code g.code f.at g.at (no_tree_either ts us f p q h) k)
  one_reason f g (no_tree {ts = ts} p h) (has_fault {x = y} other k) = absurd (tree_and_none y ts f other p h)
  one_reason f g (has_fault tree h) (no_tokens k) = absurd (tokens_and_none tree.tokens g tree.are_tokens k)
  one_reason f g (has_fault {x = x} tree h) (no_tree {ts = us} q k) = absurd (tree_and_none x us g tree q k)
  one_reason f g (has_fault {x = x} tree h) (has_fault {x = y} other k) =
      let worth = values x y tree other in
      let alike = same x y tree other in
      same_fault f g (of_faults.same (specification y named) worth.0 f.code g.code f.at g.at (alike.refused named worth.0 f.code f.at (h worth.0 worth.1)) (k worth.0 (alike.right worth.0 worth.1)))

  -- A text has one root rule, by its name and the definitions among which it stands.
  pub one_root : (rule other : Rule) → HasRoot text named rule → HasRoot text named other → (other.name ≡ rule.name) × (other.definitions ≡ rule.definitions)
  one_root rule other h k =
      let alike = same h.tree k.tree h.is_tree k.is_tree in
      (same_Some other.name rule.name (sym k.name_is ∙ alike.root named ∙ h.name_is), k.definitions_are ∙ alike.same_definitions named ∙ sym h.definitions_are)

-- What is told of a text that is not read, then follows from the text.
module _ (text : List ℕ) (named : Option Text) where
  pub no_refusal : ((rule : Rule) (f : Fault) → HasRoot text named rule → IsWrongText text named f → ⊥) → (rule : Rule) → HasRoot text named rule → (e : Refusal) → IsUnreadText text named e → IsNoRefusal (failure_of e)
  no_refusal apart rule root (why.At code at) h = absurd (apart rule (record { code = code; at = at }) root h)
  no_refusal apart rule root why.Memory h = tt

  pub refusal_for : ((f g : Fault) → IsWrongText text named f → IsWrongText text named g → g ≡ f) → (f : Fault) → IsWrongText text named f → (e : Refusal) → IsUnreadText text named e → IsRefusalFor f (failure_of e)
  refusal_for one f w (why.At code at) h = inl (ap (λ (x : Fault). Refused x.code x.at) (one f (record { code = code; at = at }) w h))
  refusal_for one f w why.Memory h = inr refl
