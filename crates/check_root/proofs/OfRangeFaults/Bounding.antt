-- What is told of the words of the sites that are reached is told of their occurrences, which have small numbers.
use Rattle.std.proofs.Common.{◌≡◌, ◌↔◌, ◌≤◌, ℕ, ◌<◌, Bool, true, false, IsTrue, List, get_or, [], ◌∷◌, ◌++◌, Option, Some, None, length, slice_get, refl, sym, ap, subst, ◌∙◌, le_refl, true≢false, arith}
use Rattle.lists.specs.Least.{IsLeast}
use Rattle.check_terms.specs.Texts.Occurrence.{IsTooGreat}
use Rattle.std.specs.List.{Contains}
use Rattle.std.proofs.lemmas.List.{get_or_default}
use Rattle.std.proofs.lemmas.List.Elements.{Contains-append_left}
use Rattle.std.proofs.lemmas.Option.{same_Some, slice_get_read}
use Rattle.cddl_token.specs.declared.Kind.TheVariants as K
use Rattle.cddl_token.specs.declared.Token.{Token}
use Rattle.tree_nodes.specs.Syntax.Syntax as S
use Rattle.cddl_language.specs.Faults.{IsOver, Specification, occur_token, rules}
use Rattle.cddl_language.specs.Literals.{AreTokens}
use Rattle.cddl_language.specs.Numbers.{least_in, most_in}
use Rattle.cddl_language.specs.Reading.{text_of}
use Rattle.cddl_language.specs.Sites.{IsReached, in_body, in_argument, Site, a_name, an_unwrapping, a_choice_of, a_choice_of_name, a_hash, an_operation, an_entry, a_map}
use Rattle.cddl_language.specs.Terms.{Term, Text}
use Rattle.cddl_language.specs.Written.Sites.{site_lexemes}
use Rattle.check_terms.specs.Table.{Table}
use Rattle.check_reading.specs.Words.{IsSaid, Said, occur_said, occurrence_said, said_at}
use Rattle.check_reading.specs.declared.words.word.Role.{Role}
use Rattle.check_reading.specs.declared.words.word.Role.TheVariants as RoleV
use Rattle.check_reading.specs.declared.words.word.Word.{Word}
use Rattle.check_reached.specs.Reached.{AreReachedWords}
use Rattle.check_root.specs.RangeFaults.Bounds.{AreSmall, IsOverText, IsOverWord, IsSmallText, occurrence_in, occurrence_text}
use Rattle.all_offsets.specs.Offsets.{IsAmong}
use Rattle.all_offsets.proofs.Lemmas.{IsOne}
use Rattle.check_root.proofs.OfRangeFaults.Stars.{Numbers, small_token}

-- what a word past the end of a list is
abbrev pub no_word : Word
no_word = record { rule = 0; at = 0; role = RoleV.Name false; text = 0; arguments = 0 }

pub word_is : (ws : List Word) (i : ℕ) → i < length ws → get_or ws i no_word ≡ get_or ws i (get_or ws i no_word)
word_is ws i l = get_or_default ws i no_word (get_or ws i no_word) l

pub occurrence_here : (texts : List Text) (w : Word) (o : Option Text) → w.role ≡ RoleV.Occurrence → slice_get texts w.text ≡ o → occurrence_in texts w ≡ o
occurrence_here texts w o role e = ap (λ (r : Role). occurrence_text r (slice_get texts w.text)) role ∙ e

optional_lexeme : (o : Option Token) (t : Token) → o ≡ Some t → Contains (S.optional K.Occur o) (K.Occur, t)
optional_lexeme None t e = cc
optional_lexeme (Some u) t e = (0, omega arith, ap (λ x. (K.Occur, x)) (same_Some u t e))

-- the occurrence is a token of the entry
occur_lexeme : (e : S.GrpEnt) (t : Token) → occur_token e ≡ Some t → Contains (S.flat_entry e) (K.Occur, t)
occur_lexeme (S.typed o u) t e = Contains-append_left (S.optional K.Occur o) (S.flat_types u) (K.Occur, t) (optional_lexeme o t e)
occur_lexeme (S.keyed o k u) t e = Contains-append_left (S.optional K.Occur o) (S.flat_key k ++ S.flat_types u) (K.Occur, t) (optional_lexeme o t e)
occur_lexeme (S.grouped o p g c) t e = Contains-append_left (S.optional K.Occur o) ((K.ParenOpen, p) ∷ (S.flat_group g ++ (K.ParenClose, c) ∷ [])) (K.Occur, t) (optional_lexeme o t e)

-- an occurrence is told at one offset
pub one_over : (o : Option Text) (start : ℕ) → IsOne (IsOverText o start)
one_over None start p q h k = absurd h
one_over (Some n) start p q h k = h.1 ∙ sym k.1

-- at one word, which has this text as an occurrence, or none

pub no_over : (start : ℕ) (o : Option Text) → o ≡ None → IsLeast (IsOverText o start) None
no_over start o e p h = subst (λ m. IsOverText m start p → ⊥) (sym e) (λ k. k) h

pub over_here : (start : ℕ) (o : Option Text) (n : Text) → o ≡ Some n → IsSmallText o → (b : Bool) → ((IsTooGreat n → ⊥) → IsTrue b ↔ IsOver (least_in n) (most_in n)) → b ≡ true → IsLeast (IsOverText o start) (Some start)
over_here start o n e small b tells is = subst (λ m. IsLeast (IsOverText m start) (Some start)) (sym e) ((((tells (subst IsSmallText e small)).0 is, refl)), λ p h. subst (λ q. start ≤ q) (sym h.1) (le_refl start))

pub over_nowhere : (start : ℕ) (o : Option Text) (n : Text) → o ≡ Some n → IsSmallText o → (b : Bool) → ((IsTooGreat n → ⊥) → IsTrue b ↔ IsOver (least_in n) (most_in n)) → b ≡ false → IsLeast (IsOverText o start) None
over_nowhere start o n e small b tells is = subst (λ m. IsLeast (IsOverText m start) None) (sym e) (λ p h. true≢false (sym ((tells (subst IsSmallText e small)).1 h.0) ∙ is))

-- the rule of a site that is reached, and its place
rule_there : (rs : List S.Rule) (root : Text) (r : S.Rule) (xs : List Term) (p : Site) → IsReached rs root r xs p → Contains rs r
rule_there rs root r xs p (in_body h c) = h.present
rule_there rs root r xs p (in_argument {q = q} h e u c) = rule_there rs root r xs q h

place_of : (rs : List S.Rule) (r : S.Rule) → Contains rs r → (k : ℕ) × (slice_get rs k ≡ Some r)
place_of rs r h = (h.0, slice_get_read rs (length rs) h.0 r refl h.1 (sym h.2))

-- a fault that is told at an occurrence
pub data IsAtBounds (s : Specification) (root : Text) (at : ℕ) : Type 0 where
  at_bounds : {r : S.Rule} {xs : List Term} {e : S.GrpEnt} {t : Token} → IsReached (rules s) root r xs (an_entry e) → occur_token e ≡ Some t → IsOver (least_in (text_of t)) (most_in (text_of t)) → at ≡ t.start → IsAtBounds s root at

-- the laws of sites and of numbers
pub record Laws (s : Specification) (root : Text) : Type 0 where
  pub stand : (r : S.Rule) (xs : List Term) (p : Site) → IsReached (rules s) root r xs p → (l : S.Lexeme) → Contains (site_lexemes p) l → Contains (S.flat s.tree) l
  pub tokens : AreTokens s.tree
  pub numbers : Numbers

same_said : (x y : Said) → Some x ≡ Some y → x ≡ y
same_said x y e = cc

-- what is said of the text and the role
abbrev pub text_said : Said → Option Text
text_said x = occurrence_text x.role (Some x.text)

-- a word that says this has this text
its_text : (t : Table) (w : Word) (x : Said) → IsSaid t w x → occurrence_in t.texts w ≡ text_said x
its_text t w x is = λ i. occurrence_text (is.role i) (is.text i)

module _ (s : Specification) (root : Text) (laws : Laws s root) where
  small_of : (e : S.GrpEnt) (r : S.Rule) (xs : List Term) (x : Said) → IsReached (rules s) root r xs (an_entry e) → (o : Option Token) → occur_token e ≡ o → occur_said o ≡ Some x → IsSmallText (text_said x)
  small_of e r xs x h None k f = cc
  small_of e r xs x h (Some t) k f = let it = laws.tokens (K.Occur, t) (laws.stand r xs (an_entry e) h (K.Occur, t) (occur_lexeme e t k)) in subst (λ y. IsSmallText (text_said y)) (same_said (occurrence_said t) x f) (small_token laws.numbers t it.0 it.1)

  small_at : (r : S.Rule) (xs : List Term) (p : Site) (x : Said) → IsReached (rules s) root r xs p → said_at p ≡ Some x → IsSmallText (text_said x)
  small_at r xs (an_entry e) x h f = small_of e r xs x h (occur_token e) refl f
  small_at r xs (a_name b f) x h e = subst (λ y. IsSmallText (text_said y)) (same_said _ x e) tt
  small_at r xs (an_unwrapping b t f) x h e = subst (λ y. IsSmallText (text_said y)) (same_said _ x e) tt
  small_at r xs (a_choice_of t g) x h e = cc
  small_at r xs (a_choice_of_name t f) x h e = subst (λ y. IsSmallText (text_said y)) (same_said _ x e) tt
  small_at r xs (a_hash t) x h e = subst (λ y. IsSmallText (text_said y)) (same_said _ x e) tt
  small_at r xs (an_operation y (S.range t) z) x h e = cc
  small_at r xs (an_operation y (S.range_below t) z) x h e = cc
  small_at r xs (an_operation y (S.control t) z) x h e = subst (λ v. IsSmallText (text_said v)) (same_said _ x e) tt
  small_at r xs (a_map t g) x h e = cc

  abbrev IsOverSaid : Said → ℕ → Type 0
  IsOverSaid x at = IsOverText (text_said x) x.at at

  -- other words are no occurrences
  no_occurrence : (x y : Said) (at : ℕ) → Some x ≡ Some y → (IsOverSaid x at → ⊥) → IsOverSaid y at → IsAtBounds s root at
  no_occurrence x y at e none over = absurd (none (subst (λ v. IsOverSaid v at) (sym (same_said x y e)) over))

  over_of : (e : S.GrpEnt) (r : S.Rule) (xs : List Term) (x : Said) (at : ℕ) → IsReached (rules s) root r xs (an_entry e) → (o : Option Token) → occur_token e ≡ o → occur_said o ≡ Some x → IsOverSaid x at → IsAtBounds s root at
  over_of e r xs x at h None k f over = cc
  over_of e r xs x at h (Some t) k f over = let w = subst (λ v. IsOverSaid v at) (sym (same_said (occurrence_said t) x f)) over in at_bounds h k w.0 w.1

  over_at : (r : S.Rule) (xs : List Term) (p : Site) (x : Said) (at : ℕ) → IsReached (rules s) root r xs p → said_at p ≡ Some x → IsOverSaid x at → IsAtBounds s root at
  over_at r xs (an_entry e) x at h f over = over_of e r xs x at h (occur_token e) refl f over
  over_at r xs (a_name b f) x at h e over = no_occurrence _ x at e (λ k. k) over
  over_at r xs (an_unwrapping b t f) x at h e over = no_occurrence _ x at e (λ k. k) over
  over_at r xs (a_choice_of t g) x at h e over = cc
  over_at r xs (a_choice_of_name t f) x at h e over = no_occurrence _ x at e (λ k. k) over
  over_at r xs (a_hash t) x at h e over = no_occurrence _ x at e (λ k. k) over
  over_at r xs (an_operation y (S.range t) z) x at h e over = cc
  over_at r xs (an_operation y (S.range_below t) z) x at h e over = cc
  over_at r xs (an_operation y (S.control t) z) x at h e over = no_occurrence _ x at e (λ k. k) over
  over_at r xs (a_map t g) x at h e over = cc

  module _ (t : Table) (ws : List Word) (are : AreReachedWords (rules s) root t ws) where
    pub are_small : AreSmall t.texts ws
    are_small w c =
        let it = are.sound w c in
        let x = it.stands.said in
        subst IsSmallText (sym (its_text t w x it.stands.is)) (small_at it.rule it.arguments it.site x it.reached it.stands.there)

    pub told_bounds : (at : ℕ) → IsAmong (IsOverWord t.texts) ws at → IsAtBounds s root at
    told_bounds at k =
        let it = are.sound k.one k.present in
        let x = it.stands.said in
        over_at it.rule it.arguments it.site x at it.reached it.stands.there (subst (λ o. IsOverText o x.at at) (its_text t k.one x it.stands.is) (subst (λ start. IsOverText (occurrence_in t.texts k.one) start at) it.stands.is.at k.told))

    pub bounds_told : (at : ℕ) → IsAtBounds s root at → IsAmong (IsOverWord t.texts) ws at
    bounds_told at (at_bounds {r = r} {xs = xs} {e = e} {t = o} h k over offset) =
        let place = place_of (rules s) r (rule_there (rules s) root r xs (an_entry e) h) in
        let it = are.complete place.0 r xs (an_entry e) (occurrence_said o) place.1 h (ap occur_said k) in
        record { one = it.word; present = it.present; told = subst (λ start. IsOverText (occurrence_in t.texts it.word) start at) (sym it.is.at) (subst (λ m. IsOverText m o.start at) (sym (its_text t it.word (occurrence_said o) it.is)) (over, offset)) }
