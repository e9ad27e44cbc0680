-- The path to a place, in byte strings too.
use Rattle.std.proofs.Common.{◌≡◌, ℕ, ◌≤◌, List, [], ◌∷◌, ◌++◌, codes, drop, length, map, option_map, Option, Some, None, sym, ap, subst, ◌∙◌, arith}
use Rattle.std.proofs.lemmas.List.{append-nil}
use Rattle.cbor_data.specs.Value.{Value}
use Rattle.cddl_reasons.specs.Told.{holder_view}
use Rattle.cddl_reasons.specs.declared.causes.Holder.{Holder}
use Rattle.cddl_mismatch.specs.Places.{ArePlaceWords, AreWordsAt, HoldsAt, content_step, here, inside, steps_or_none, steps_to, unheld}

-- the path of a place, which begins with `$`
abbrev path_of : Option (List ℕ) → Option (List ℕ)
path_of o = option_map (λ steps. codes "$" ++ steps) o

abbrev value_or : {A : Type 0} → A → Option A → A
value_or d (Some x) = x
value_or d None = d

never_some : {A : Type 0} (x : A) → None ≡ Some x → ⊥
never_some x e = cc

pub some_told : (o : Option (List ℕ)) (path : List ℕ) → Some path ≡ path_of o → path ≡ 36 ∷ steps_or_none o
some_told (Some steps) path e = ap (λ o. value_or path o) e
some_told None path e = absurd (never_some path (sym e))

pub has_first : (o : Option (List ℕ)) (path : List ℕ) → Some path ≡ path_of o → 1 ≤ length path
has_first o path e = omega (arith, ap length (some_told o path e))

pub steps_put : (o : Option (List ℕ)) (path old new rest : List ℕ) → Some path ≡ path_of o → rest ≡ drop 1 path → new ≡ old ++ rest → new ≡ old ++ steps_or_none o
steps_put o path old new rest e r h = h ∙ ap (λ s. old ++ s) (r ∙ ap (λ p. drop 1 p) (some_told o path e))

pub no_steps_put : (o : Option (List ℕ)) (old : List ℕ) → None ≡ path_of o → old ≡ old ++ steps_or_none o
no_steps_put None old e = sym (append-nil old)
no_steps_put (Some steps) old e = absurd (never_some (36 ∷ steps) e)

pub no_more : (path : List ℕ) (x : Value) (hs : List Holder) (place : ℕ) (words : List ℕ) → length hs ≡ 0 → AreWordsAt path x place words → ArePlaceWords path x (map holder_view hs) place words
no_more path x [] place words e h = here h
no_more path x (k ∷ hs) place words e h = absurd (omega (arith, e))

pub inside_there : (path there held : List ℕ) (x y : Value) (hs others : List Holder) (h : Holder) (place : ℕ) (words : List ℕ) → hs ≡ h ∷ others → there ≡ path ++ steps_to x h.place → held ≡ there ++ content_step → HoldsAt x (holder_view h) y → ArePlaceWords held y (map holder_view others) place words → ArePlaceWords path x (map holder_view hs) place words
inside_there path there held x y hs others h place words is e k at w =
    subst (λ ks. ArePlaceWords path x (map holder_view ks) place words) (sym is) (inside at (subst (λ p. ArePlaceWords p y (map holder_view others) place words) (k ∙ ap (λ p. p ++ content_step) e) w))

pub unheld_there : (path : List ℕ) (x : Value) (hs others : List Holder) (h : Holder) (place : ℕ) (words : List ℕ) → hs ≡ h ∷ others → ((y : Value) → HoldsAt x (holder_view h) y → ⊥) → AreWordsAt path x h.place words → ArePlaceWords path x (map holder_view hs) place words
unheld_there path x hs others h place words is nothing w = subst (λ ks. ArePlaceWords path x (map holder_view ks) place words) (sym is) (unheld nothing w)
