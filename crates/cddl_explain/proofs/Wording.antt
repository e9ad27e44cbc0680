-- One step more of the loops over words and phrases.
use Rattle.std.proofs.Common.{◌≡◌, Bor, ℕ, ◌+◌, ◌<◌, ◌==◌, ◌&&◌, ◌||◌, nat_eq, Bool, false, List, [], ◌∷◌, ◌++◌, append_assoc, Some, get_or, drop, length, ap, sym, ◌∙◌, cond, arith}
use Rattle.std.proofs.lemmas.List.{at_drop_more, map-append}
use Rattle.std.specs.List.{ends_with}
use Rattle.cddl_token.specs.declared.Kind.{Kind}
use Rattle.cddl_token.specs.declared.Token.{Token}
use Rattle.near_words.specs.Near.{texts}
use Rattle.cddl_explain.specs.Expected.{belongs, parted, parting, phrase_of, single_phrases}
use Rattle.cddl_explain.specs.Meant.{begins_with_dot, ending, has_dots}
use Rattle.cddl_explain.specs.Roots.{begins_container, first_container}
use Rattle.cddl_explain.specs.declared.phrases.Collection.{Collection}

pub dots_at : (bs : List ℕ) (k d : ℕ) (here next : Bool) → k < length bs → (get_or bs k d == 46) ≡ here → begins_with_dot (drop (k + 1) bs) ≡ next →
    has_dots (drop k bs) ≡ ((here && next) || has_dots (drop (k + 1) bs))
dots_at bs k d here next lt e1 e2 =
    let later = has_dots (drop (k + 1) bs) in
    at_drop_more has_dots bs k d lt ∙ (ap (λ h. (h && begins_with_dot (drop (k + 1) bs)) || later) e1 ∙ ap (λ n. (here && n) || later) e2)

pub ending_at : (name : List ℕ) (ws : List (Bor (List ℕ))) (k : ℕ) (d : Bor (List ℕ)) (ends : Bool) → k < length ws → ends_with nat_eq name (get_or ws k d).now ≡ ends →
    ending name (texts (drop k ws)) ≡ cond ends (Some (get_or ws k d).now) (ending name (texts (drop (k + 1) ws)))
ending_at name ws k d ends lt e =
    at_drop_more (λ (xs : List (Bor (List ℕ))). ending name (texts xs)) ws k d lt ∙ ap (λ b. cond b (Some (get_or ws k d).now) (ending name (texts (drop (k + 1) ws)))) e

container_at : (here : ℕ) (ts : List Token) (k : ℕ) (d : Token) (begins : Bool) → k < length ts → begins_container here (drop k ts) ≡ begins →
    first_container here (drop k ts) ≡ cond begins (Some (get_or ts k d).text.now) (first_container here (drop (k + 1) ts))
container_at here ts k d begins lt e =
    at_drop_more (first_container here) ts k d lt ∙ ap (λ b. cond b (Some (get_or ts k d).text.now) (first_container here (drop (k + 1) ts))) (sym (at_drop_more (begins_container here) ts k d lt) ∙ e)

pub no_container : (here : ℕ) (ts : List Token) (k : ℕ) → k < length ts → begins_container here (drop k ts) ≡ false → first_container here (drop k ts) ≡ first_container here (drop (k + 1) ts)
no_container here [] k lt e = absurd (omega arith)
no_container here (t ∷ ts) k lt e = container_at here (t ∷ ts) k t false lt e

pub parted_at : (ps : List (Bor (List ℕ))) (k : ℕ) (d : Bor (List ℕ)) → k < length ps →
    parted (texts (drop k ps)) ≡ parting (texts (drop (k + 1) ps)) ++ ((get_or ps k d).now ++ parted (texts (drop (k + 1) ps)))
parted_at ps k d lt = at_drop_more (λ (xs : List (Bor (List ℕ))). parted (texts xs)) ps k d lt

pub single_at : (together : Collection) (ks : List Kind) (k : ℕ) (d : Kind) (belonging : Bool) → k < length ks → belongs together (get_or ks k d) ≡ belonging →
    single_phrases together (drop k ks) ≡ cond belonging (single_phrases together (drop (k + 1) ks)) (phrase_of (get_or ks k d) ∷ single_phrases together (drop (k + 1) ks))
single_at together ks k d belonging lt e =
    let later = single_phrases together (drop (k + 1) ks) in
    at_drop_more (single_phrases together) ks k d lt ∙ ap (λ b. cond b later (phrase_of (get_or ks k d) ∷ later)) e

pub single_taken : (together : Collection) (ks : List Kind) (k : ℕ) (d : Kind) (before : List (Bor (List ℕ))) (phrase : Bor (List ℕ)) (all : List (List ℕ)) → k < length ks → belongs together (get_or ks k d) ≡ false →
    phrase.now ≡ phrase_of (get_or ks k d) → texts before ++ single_phrases together (drop k ks) ≡ all → texts (before ++ phrase ∷ []) ++ single_phrases together (drop (k + 1) ks) ≡ all
single_taken together ks k d before phrase all lt other is so_far =
    let rest = single_phrases together (drop (k + 1) ks) in
    let here = single_at together ks k d false lt other in
    ap (λ xs. xs ++ rest) (map-append (λ w. w.now) before (phrase ∷ [])) ∙ (append_assoc (texts before) (phrase.now ∷ []) rest ∙
    (ap (λ x. texts before ++ x ∷ rest) is ∙ (ap (λ ys. texts before ++ ys) (sym here) ∙ so_far)))
