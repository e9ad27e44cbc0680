-- What is told at the words of a text is told at its sites.
use Rattle.std.proofs.Common.{◌≡◌, ◌<◌, ◌≤◌, ℕ, false, List, get_or, length, map, Option, Some, None, slice_get, refl, sym, ap, subst, ◌∙◌, le_refl}
use Rattle.std.specs.List.{Contains}
use Rattle.std.proofs.lemmas.List.{get_or_default}
use Rattle.cddl_token.specs.declared.Token.{Token}
use Rattle.tree_nodes.specs.Syntax.Syntax as S
use Rattle.tree_nodes.specs.declared.tree.Leaf.{Leaf}
use Rattle.cddl_language.specs.Faults.{HasSite, Specification}
use Rattle.cddl_language.specs.Reading.{rules_of}
use Rattle.cddl_language.specs.Sites.{Site, sites}
use Rattle.cddl_language.specs.Terms.{Text}
use Rattle.check_terms.specs.Table.{Table}
use Rattle.check_sites.specs.declared.sites.site.Found.{Found}
use Rattle.check_sites.specs.Sites.Listed.{StandsIn, WasFound}
use Rattle.check_sites.specs.Sites.View.{view_found, view_site}
use Rattle.check_sites.specs.Sites.Walk.{all_sites}
use Rattle.check_reading.specs.Words.{AreWords, HasWord, IsSaid, IsWordOf, Said, said_at}
use Rattle.check_reading.specs.declared.words.word.Role.TheVariants as RoleV
use Rattle.check_reading.specs.declared.words.word.Word.{Word}
use Rattle.lists.specs.Least.{IsLeast}
use Rattle.lists.proofs.Lemmas.{contains_at, one_of, place_of, same_least}
use Rattle.all_offsets.specs.Offsets.{AreOf}
use Rattle.all_offsets.proofs.Lemmas.{IsOne, same_of}
use Rattle.check_text.specs.SiteFaults.Told.{Among, AreSpoken, IsToldAt}

-- what a word past the end of a list is
abbrev pub no_word : Word
no_word = record { rule = 0; at = 0; role = RoleV.Name false; text = 0; arguments = 0 }

pub word_is : (ws : List Word) (i : ℕ) → i < length ws → get_or ws i no_word ≡ get_or ws i (get_or ws i no_word)
word_is ws i l = get_or_default ws i no_word (get_or ws i no_word) l

-- told at this offset alone, where B holds
pub told_here : (B : Type 0) (start : ℕ) → B → IsLeast (λ at. B × (at ≡ start)) (Some start)
told_here B start b = ((b, refl), λ p h. subst (λ q. start ≤ q) (sym h.1) (le_refl start))

pub told_nowhere : (B : Type 0) (start : ℕ) → (B → ⊥) → IsLeast (λ at. B × (at ≡ start)) None
told_nowhere B start b = λ p h. b h.0

-- A word says one thing.
pub one_said : (t : Table) (w : Word) (x y : Said) → IsSaid t w x → IsSaid t w y → x ≡ y
one_said t w x y h k = λ i. record {
  at = (sym h.at ∙ k.at) i;
  role = (sym h.role ∙ k.role) i;
  text = one_of (slice_get t.texts w.text) x.text y.text h.text k.text i;
  arguments = (sym h.arguments ∙ k.arguments) i;
}

-- what is told of a word of a rule that says this
module _ (t : Table) (rs : List S.Rule) (P : S.Rule → Said → ℕ → Type 0) (w : Word) (r : S.Rule) (x : Said) (place : slice_get rs w.rule ≡ Some r) (is : IsSaid t w x) where
  pub at_word : (p : ℕ) → P r x p → IsToldAt t rs P w p
  at_word p k = record { rule = r; said = x; place = place; is = is; told = k }

  pub of_word : (p : ℕ) → IsToldAt t rs P w p → P r x p
  of_word p k = subst (λ q. P q x p) (one_of (slice_get rs w.rule) k.rule r k.place place) (subst (λ y. P k.rule y p) (one_said t w k.said x k.is is) k.told)

  pub least_of_word : (o : Option ℕ) → IsLeast (P r x) o → IsLeast (IsToldAt t rs P w) o
  least_of_word o h = same_least (P r x) (IsToldAt t rs P w) at_word of_word o h

  pub one_of_word : IsOne (P r x) → IsOne (IsToldAt t rs P w)
  one_of_word one p q h k = one p q (of_word p h) (of_word q k)

-- it is told of a word at a site anywhere in the text
pub record IsTold (s : Specification) (P : S.Rule → Said → ℕ → Type 0) (at : ℕ) : Type 0 where
  pub rule : S.Rule
  pub site : Site
  pub said : Said
  pub found : HasSite s rule site
  pub there : said_at site ≡ Some said
  pub told : P rule said at

-- the laws of sites and of their words

abbrev pub FoundStand : Type 0
FoundStand = (read : Leaf → Token) (rs : List S.Rule) (fs : List Found) → map (view_found read) fs ≡ all_sites rs → (f : Found) → Contains fs f → StandsIn sites read rs f

abbrev pub AllFound : Type 0
AllFound = (read : Leaf → Token) (rs : List S.Rule) (fs : List Found) → map (view_found read) fs ≡ all_sites rs → (k : ℕ) (r : S.Rule) (p : Site) → slice_get rs k ≡ Some r → Contains (sites r) p → WasFound read fs k p

abbrev pub WordsStand : Type 0
WordsStand = (t : Table) (read : Leaf → Token) (fs : List Found) (ws : List Word) → AreWords t ws (map (view_found read) fs) → (w : Word) → Contains ws w → (f : Found) × (Contains fs f × IsWordOf t w (view_found read f))

abbrev pub AllWords : Type 0
AllWords = (t : Table) (read : Leaf → Token) (fs : List Found) (ws : List Word) → AreWords t ws (map (view_found read) fs) → (f : Found) (x : Said) → Contains fs f → said_at (view_site read f.site) ≡ Some x → HasWord t ws f.rule x

module _ (stand : FoundStand) (every : AllFound) (words_stand : WordsStand) (all_words : AllWords) (t : Table) (read : Leaf → Token) (tree : S.Cddl) (fs : List Found) (same : map (view_found read) fs ≡ all_sites (rules_of tree)) (ws : List Word) (are : AreWords t ws (map (view_found read) fs)) where
  pub spoken : AreSpoken t (rules_of tree) ws
  spoken w c =
      let f = words_stand t read fs ws are w c in
      let it = stand read (rules_of tree) fs same f.0 f.1.0 in
      record { rule = it.rule; said = f.1.1.said; place = subst (λ k. slice_get (rules_of tree) k ≡ Some it.rule) (sym f.1.1.rule) it.place; is = f.1.1.is }

  module _ (P : S.Rule → Said → ℕ → Type 0) where
    told_there : (given : Option Text) (p : ℕ) → Among t (rules_of tree) P ws p → IsTold (record { tree = tree; given = given }) P p
    told_there given p k =
        let f = words_stand t read fs ws are k.one k.present in
        let it = stand read (rules_of tree) fs same f.0 f.1.0 in
        let rule = one_of (slice_get (rules_of tree) k.one.rule) it.rule k.told.rule (subst (λ n. slice_get (rules_of tree) n ≡ Some it.rule) (sym f.1.1.rule) it.place) k.told.place in
        record {
          rule = k.told.rule;
          site = view_site read f.0.site;
          said = f.1.1.said;
          found = record {
            rule = contains_at (rules_of tree) k.one.rule k.told.rule k.told.place;
            site = subst (λ (r : S.Rule). Contains (sites r) (view_site read f.0.site)) rule it.contained;
          };
          there = f.1.1.there;
          told = subst (λ x. P k.told.rule x p) (one_said t k.one k.told.said f.1.1.said k.told.is f.1.1.is) k.told.told;
        }

    there_told : (given : Option Text) (p : ℕ) → IsTold (record { tree = tree; given = given }) P p → Among t (rules_of tree) P ws p
    there_told given p k =
        let place = place_of (rules_of tree) k.rule k.found.rule in
        let it = every read (rules_of tree) fs same place.0 k.rule k.site place.1 k.found.site in
        let word = all_words t read fs ws are it.found k.said it.contained (ap said_at it.same ∙ k.there) in
        record {
          one = word.word;
          present = word.present;
          told = record {
            rule = k.rule;
            said = k.said;
            place = subst (λ n. slice_get (rules_of tree) n ≡ Some k.rule) (sym (word.rule ∙ it.place)) place.1;
            is = word.is;
            told = k.told;
          };
        }

    in_tree : (s : Specification) → s.tree ≡ tree → (p : ℕ) → Among t (rules_of tree) P ws p → IsTold s P p
    in_tree s e p k = subst (λ (x : S.Cddl). IsTold (record { tree = x; given = s.given }) P p) (sym e) (told_there s.given p k)

    of_tree : (s : Specification) → s.tree ≡ tree → (p : ℕ) → IsTold s P p → Among t (rules_of tree) P ws p
    of_tree s e p k = there_told s.given p (subst (λ (x : S.Cddl). IsTold (record { tree = x; given = s.given }) P p) e k)

    pub least_told : (s : Specification) → s.tree ≡ tree → (o : Option ℕ) → IsLeast (Among t (rules_of tree) P ws) o → IsLeast (IsTold s P) o
    least_told s e o h = same_least (Among t (rules_of tree) P ws) (IsTold s P) (in_tree s e) (of_tree s e) o h

    pub all_told : (s : Specification) → s.tree ≡ tree → (offsets : List ℕ) → AreOf (Among t (rules_of tree) P ws) offsets → AreOf (IsTold s P) offsets
    all_told s e offsets h = same_of (Among t (rules_of tree) P ws) (IsTold s P) offsets (in_tree s e) (of_tree s e) h
