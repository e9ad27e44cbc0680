-- Where words stand.
use Rattle.std.proofs.Common.{◌≡◌, ℕ, List, [], ◌∷◌, map, Some, None, sym, ap, subst, ◌∙◌}
use Rattle.std.specs.List.{Contains}
use Rattle.lists.proofs.Lemmas.{at_head, either, first_or_later, later, none_in, one_of}
use Rattle.cddl_token.specs.declared.Token.{Token}
use Rattle.tree_nodes.specs.declared.tree.Leaf.{Leaf}
use Rattle.check_terms.specs.Table.{Table}
use Rattle.check_sites.specs.Sites.View.{view_found, view_site}
use Rattle.check_sites.specs.declared.sites.site.Found.{Found}
use Rattle.check_reading.specs.Words.{AreWords, HasWord, IsSaid, IsWordOf, Said, no_sites, said_at, with_word, without_word}
use Rattle.check_reading.specs.declared.words.word.Word.{Word}

module _ (t : Table) (read : Leaf → Token) where
  abbrev pub Stands : List Found → Word → Type 0
  Stands fs w = (f : Found) × (Contains fs f × IsWordOf t w (view_found read f))

  further : (f : Found) (fs : List Found) (w : Word) → Stands fs w → Stands (f ∷ fs) w
  further f fs w h = (h.0, (later f fs h.0 h.1.0, h.1.1))

  pub found : (fs : List Found) (ws : List Word) → AreWords t ws (map (view_found read) fs) → (w : Word) → Contains ws w → Stands fs w
  found [] ws no_sites w c = absurd (none_in w c)
  found (f ∷ fs) ws (without_word {ws = vs} e h) w c = further f fs w (found fs vs h w c)
  found (f ∷ fs) ws (with_word {w = v} {ws = vs} i h) w c = either (first_or_later v vs w c) (λ same. (f, (at_head f fs, subst (λ u. IsWordOf t u (view_found read f)) same i))) (λ g. further f fs w (found fs vs h w g))

  after : (v : Word) (vs : List Word) (k : ℕ) (x : Said) → HasWord t vs k x → HasWord t (v ∷ vs) k x
  after v vs k x h = record { word = h.word; present = later v vs h.word h.present; rule = h.rule; is = h.is }

  none_said : (f g : Found) (x : Said) → g ≡ f → said_at (view_site read g.site) ≡ None → said_at (view_site read f.site) ≡ Some x → ⊥
  none_said f g x same e there = let h : None ≡ Some x = sym e ∙ ap (λ (y : Found). said_at (view_site read y.site)) same ∙ there in cc

  pub every : (fs : List Found) (ws : List Word) → AreWords t ws (map (view_found read) fs) → (f : Found) (x : Said) → Contains fs f → said_at (view_site read f.site) ≡ Some x → HasWord t ws f.rule x
  every [] ws h f x c e = absurd (none_in f c)
  every (g ∷ fs) ws (without_word {ws = vs} none h) f x c e = either (first_or_later g fs f c) (λ same. absurd (none_said f g x same none e)) (λ k. every fs vs h f x k e)
  every (g ∷ fs) ws (with_word {w = v} {ws = vs} i h) f x c e = either (first_or_later g fs f c) (λ same. record {
    word = v;
    present = at_head v vs;
    rule = i.rule ∙ ap (λ (y : Found). y.rule) same;
    is = subst (IsSaid t v) (one_of (said_at (view_site read f.site)) i.said x (sym (ap (λ (y : Found). said_at (view_site read y.site)) same) ∙ i.there) e) i.is;
  }) (λ k. after v vs f.rule x (every fs vs h f x k e))
