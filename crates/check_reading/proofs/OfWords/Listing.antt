-- The words of sites, one site after the other.
use Rattle.std.proofs.Common.{◌≡◌, ℕ, ◌+◌, ◌<◌, ◌≤◌, List, [], ◌∷◌, ◌++◌, append_assoc, length, get_or, drop, map, Option, Some, None, option_map, refl, sym, ap, subst, ◌∙◌}
use Rattle.std.proofs.lemmas.List.{append-nil, drop_all}
use Rattle.lists.proofs.Lemmas.{next_drop as next}
use Rattle.cddl_language.specs.Sites.{Site}
use Rattle.check_terms.specs.Table.{Grows, Table}
use Rattle.check_sites.specs.declared.sites.site.Found.{Found}
use Rattle.check_reading.specs.Words.{AreWords, IsSaid, IsWordOf, Said, no_sites, said_at, spelled_said, with_word, without_word}
use Rattle.check_reading.specs.declared.words.listing.Spelled.{Spelled}
use Rattle.check_reading.specs.declared.words.word.Word.{Word}

-- A word stays one when the table grows.
module _ (old new : Table) (grows : Grows old new) where
  word_kept : (w : Word) (p : ℕ × Site) → IsWordOf old w p → IsWordOf new w p
  word_kept w p h = record {
    rule = h.rule;
    said = h.said;
    there = h.there;
    is = record { at = h.is.at; role = h.is.role; text = grows.texts w.text h.said.text h.is.text; arguments = h.is.arguments };
  }

  pub words_kept : (ws : List Word) (ps : List (ℕ × Site)) → AreWords old ws ps → AreWords new ws ps
  words_kept ws ps no_sites = no_sites
  words_kept ws ps (without_word {ws = vs} {ps = qs} e h) = without_word e (words_kept vs qs h)
  words_kept ws ps (with_word {w = w} {p = p} {ws = vs} {ps = qs} is h) = with_word (word_kept w p is) (words_kept vs qs h)

word_added : (t : Table) (ws : List Word) (ps : List (ℕ × Site)) (w : Word) (p : ℕ × Site) → AreWords t ws ps → IsWordOf t w p → AreWords t (ws ++ w ∷ []) (ps ++ p ∷ [])
word_added t ws ps w p no_sites is = with_word is no_sites
word_added t ws ps w p (without_word {ws = vs} {ps = qs} e h) is = without_word e (word_added t vs qs w p h is)
word_added t ws ps w p (with_word {ws = vs} {ps = qs} i h) is = with_word i (word_added t vs qs w p h is)

-- One more site, with a word or without.

pub unspelled : (o : Option Spelled) → ((w : Spelled) → o ≡ Some w → ⊥) → option_map spelled_said o ≡ None
unspelled None h = refl
unspelled (Some w) h = absurd (h w refl)

pub one_skipped : (t : Table) (ws : List Word) (ps : List (ℕ × Site)) (k : ℕ) (p : Site) → said_at p ≡ None → AreWords t ws ps → AreWords t ws (ps ++ (k, p) ∷ [])
one_skipped t ws ps k p e no_sites = without_word e no_sites
one_skipped t ws ps k p e (without_word {ws = vs} {ps = qs} f h) = without_word f (one_skipped t vs qs k p e h)
one_skipped t ws ps k p e (with_word {ws = vs} {ps = qs} i h) = with_word i (one_skipped t vs qs k p e h)

pub one_added : (old new : Table) → Grows old new → (ws more : List Word) (w : Word) (ps : List (ℕ × Site)) (k : ℕ) (p : Site) (x : Said) → more ≡ ws ++ w ∷ [] → w.rule ≡ k → said_at p ≡ Some x → IsSaid new w x → AreWords old ws ps → AreWords new more (ps ++ (k, p) ∷ [])
one_added old new grows ws more w ps k p x e rule there is so = subst (λ vs. AreWords new vs (ps ++ (k, p) ∷ [])) (sym e) (word_added new ws ps w (k, p) (words_kept old new grows ws ps so) (record { rule = rule; said = x; there = there; is = is }))

-- Some are read, and those from the index i on are left.
module _ (of : Found → ℕ × Site) (all : List Found) where
  pub record AreListed (t : Table) (i : ℕ) (ws : List Word) : Type 0 where
    pub before : List (ℕ × Site)
    pub whole : map of all ≡ before ++ map of (drop i all)
    pub words : AreWords t ws before

  pub none_listed : (t : Table) (ws : List Word) → ws ≡ [] → AreListed t 0 ws
  none_listed t ws e = record { before = []; whole = refl; words = subst (λ vs. AreWords t vs []) (sym e) no_sites }

  pub next_listed : (old new : Table) (i : ℕ) (f : Found) (ws more : List Word) → i < length all → f ≡ get_or all i f → ((ps : List (ℕ × Site)) → AreWords old ws ps → AreWords new more (ps ++ of f ∷ [])) → AreListed old i ws → AreListed new (i + 1) more
  next_listed old new i f ws more l e adds so = record {
    before = so.before ++ of f ∷ [];
    whole = so.whole ∙ ap (λ xs. so.before ++ map of xs) (next all i f l e) ∙ sym (append_assoc so.before (of f ∷ []) (map of (drop (i + 1) all)));
    words = adds so.before so.words;
  }

  pub all_listed : (t : Table) (i : ℕ) (ws : List Word) → length all ≤ i → AreListed t i ws → AreWords t ws (map of all)
  all_listed t i ws l so = subst (AreWords t ws) (sym (so.whole ∙ ap (λ xs. so.before ++ map of xs) (drop_all i all l) ∙ append-nil so.before)) so.words
