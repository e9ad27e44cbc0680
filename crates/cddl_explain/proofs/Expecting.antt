-- Whether a token may come, by what the parser answers of the tokens before it, it and the end.
use Rattle.std.proofs.Common.{◌≡◌, ◌⊎◌, inl, inr, ℕ, zero, suc, ◌<◌, ◌≤◌, max, List, [], ◌∷◌, ◌++◌, append_assoc, get_or, length, length-append, refl, ap, sym, ◌∙◌, subst, arith}
use Rattle.std.proofs.lemmas.List.{append-nil}
use Rattle.cddl_token.specs.declared.Code.{Code}
use Rattle.cddl_token.specs.declared.Code.TheVariants.{Unexpected, TooNested}
use Rattle.cddl_token.specs.declared.Token.{Token}
use Rattle.tree_nodes.specs.Syntax.Answers.{deepest, lexeme, lexemes, nesting_limit, open_after, Begins, IsRefused, IsTreeOf, Prints, Reaches}
use Rattle.tree_nodes.specs.Syntax.Syntax.{Lexeme, Cddl, flat, nesting}
use Rattle.cddl_explain.specs.Expected.{MayCome}

-- laws of the grammar, as they are proved there
abbrev pub Joined : Type 0
Joined = (ts us : List Lexeme) → deepest 0 (ts ++ us) ≡ max (deepest 0 ts) (deepest (open_after 0 ts) us)

abbrev pub Nested : Type 0
Nested = (x : Cddl) → deepest 0 (flat x) ≡ nesting x

lexemes-append : (a b : List Token) → lexemes (a ++ b) ≡ lexemes a ++ lexemes b
lexemes-append [] b = refl
lexemes-append (t ∷ a) b = ap (λ ts. lexeme t ∷ ts) (lexemes-append a b)

begins_front : (a b : List Token) → Begins (lexemes (a ++ b)) → Begins (lexemes a)
begins_front a b h =
    let whole : Prints h.0 ((lexemes a ++ lexemes b) ++ h.1) = subst (λ ts. Prints h.0 (ts ++ h.1)) (lexemes-append a b) h.2 in
    (h.0, lexemes b ++ h.1, subst (Prints h.0) (append_assoc (lexemes a) (lexemes b) h.1) whole)

front_within : Joined → (a b : List Token) → deepest 0 (lexemes (a ++ b)) ≤ nesting_limit → deepest 0 (lexemes a) ≤ nesting_limit
front_within joined a b h =
    let split : deepest 0 (lexemes (a ++ b)) ≡ deepest 0 (lexemes a ++ lexemes b) = ap (deepest 0) (lexemes-append a b) in
    let most = joined (lexemes a) (lexemes b) in
    omega arith

open_within : Joined → (a : List Token) → deepest 0 (lexemes a) ≤ nesting_limit → open_after 0 (lexemes a) ≤ nesting_limit
open_within joined a h =
    let most = joined (lexemes a) [] in
    let same : deepest 0 (lexemes a ++ []) ≡ deepest 0 (lexemes a) = ap (deepest 0) (append-nil (lexemes a)) in
    omega arith

may_come_front : Joined → (a b : List Token) → Begins (lexemes (a ++ b)) → deepest 0 (lexemes (a ++ b)) ≤ nesting_limit → Begins (lexemes a) × (deepest 0 (lexemes a) ≤ nesting_limit)
may_come_front joined a b h d = (begins_front a b h, front_within joined a b d)

-- a whole specification
pub whole_may : Joined → Nested → (front : List Token) (t e : Token) (x : Cddl) → IsTreeOf x ((front ++ t ∷ []) ++ e ∷ []) → MayCome front t
whole_may joined nested front t e x h =
    let ts = (front ++ t ∷ []) ++ e ∷ [] in
    let begun : Begins (lexemes ts) = (x, [], subst (Prints x) (sym (append-nil (lexemes ts))) h.prints) in
    let deep : deepest 0 (lexemes ts) ≡ nesting x = ap (deepest 0) (sym h.prints.tokens) ∙ nested x in
    let within : deepest 0 (lexemes ts) ≤ nesting_limit = let w = h.within in omega arith in
    let both = may_come_front joined (front ++ t ∷ []) (e ∷ []) begun within in
    record { begins = both.0; within = both.1 }

-- where the refused token is: at the end, or among the others
abbrev Place : List Token → Token → List Token → Token → Type 0
Place ys e front t = ((ys ≡ front) × (e ≡ t)) ⊎ ((mid : List Token) × (ys ≡ (front ++ t ∷ []) ++ mid))

later : (y f : Token) (ys front : List Token) (e t : Token) → y ≡ f → Place ys e front t → Place (y ∷ ys) e (f ∷ front) t
later y f ys front e t same (inl h) = inl (let rest = h.0 in cc, h.1)
later y f ys front e t same (inr h) = inr (h.0, let rest = h.1 in cc)

place_of : (ys : List Token) (e : Token) (front : List Token) (t : Token) (back : List Token) → ys ++ e ∷ [] ≡ front ++ t ∷ back → Place ys e front t
place_of [] e [] t back h = inl (refl, cc)
place_of [] e (f ∷ []) t back h = absurd (cc)
place_of [] e (f ∷ g ∷ fs) t back h = absurd (cc)
place_of (y ∷ ys) e [] t back h = inr (ys, let same : y ≡ t = cc in ap (λ z. z ∷ ys) same)
place_of (y ∷ ys) e (f ∷ fs) t back h =
    let same : y ≡ f = cc in
    let rest : ys ++ e ∷ [] ≡ fs ++ t ∷ back = cc in
    later y f ys fs e t same (place_of ys e fs t back rest)

at_place : (fs : List Token) (t : Token) (ms : List Token) → get_or ((fs ++ t ∷ []) ++ ms) (length fs) t ≡ t
at_place [] t ms = refl
at_place (f ∷ fs) t ms = at_place fs t ms

abbrev pub AllBefore : ℕ → List Token → Type 0
AllBefore end ts = (k : ℕ) (d : Token) → k < length ts → (get_or ts k d).start < end

starts_before : (end : ℕ) (fs : List Token) (t : Token) (ms : List Token) → AllBefore end ((fs ++ t ∷ []) ++ ms) → t.start < end
starts_before end fs t ms h =
    let long : length fs < length ((fs ++ t ∷ []) ++ ms) = rw (length-append (fs ++ t ∷ []) ms, length-append fs (t ∷ [])) (omega arith) in
    let found = h (length fs) t long in
    let same : (get_or ((fs ++ t ∷ []) ++ ms) (length fs) t).start ≡ t.start = ap (λ u. u.start) (at_place fs t ms) in
    omega arith

-- the same of a token more
both_before : (at end : ℕ) (front : List Token) (t : Token) → t.start < end → at ≤ end → AllBefore at front → AllBefore end (front ++ t ∷ [])
both_before at end [] t first bound h zero d lt = first
both_before at end [] t first bound h (suc k) d lt = absurd (omega arith)
both_before at end (f ∷ fs) t first bound h zero d lt = let here = h 0 d (omega arith) in omega arith
both_before at end (f ∷ fs) t first bound h (suc k) d lt = both_before at end fs t first bound (λ j u under. h (suc j) u (omega arith)) k d (omega arith)

abbrev Refused : List Token → Code → ℕ → Type 0
Refused ts code p = (front : List Token) × (t : Token) × Reaches ts front t p × ((b : List Token) → Begins (lexemes ((front ++ t ∷ []) ++ b)) → deepest 0 (lexemes ((front ++ t ∷ []) ++ b)) ≤ nesting_limit → ⊥)

refused : Joined → (ts : List Token) (code : Code) (p : ℕ) → IsRefused ts code p → Refused ts code p
refused joined ts Unexpected p h = (h.front, h.token, h.reaches, λ b begun within. h.wrong (begins_front (h.front ++ h.token ∷ []) b begun))
refused joined ts TooNested p h = (
  h.front,
  h.token,
  h.reaches,
  λ b begun within.
      let front = front_within joined (h.front ++ h.token ∷ []) b within in
      let most = open_within joined (h.front ++ h.token ∷ []) front in
      let over = h.over in
      omega arith,
)
refused joined ts _ p h = absurd h

by_place : (front : List Token) (t e : Token) (at end p : ℕ) (f : List Token) (u : Token) → AllBefore end (front ++ t ∷ []) → p ≡ end → p ≡ u.start →
    Place (front ++ t ∷ []) e f u → Begins (lexemes f) → deepest 0 (lexemes f) ≤ nesting_limit → MayCome front t
by_place front t e at end p f u before last offset (inl h) begun within =
    record { begins = subst (λ ts. Begins (lexemes ts)) (sym h.0) begun; within = subst (λ ts. deepest 0 (lexemes ts) ≤ nesting_limit) (sym h.0) within }
by_place front t e at end p f u before last offset (inr h) begun within =
    let early = starts_before end f u h.0 (subst (AllBefore end) h.1 before) in
    absurd (omega arith)

-- refused at the end alone
pub refused_at_end : Joined → (front : List Token) (t e : Token) (at end : ℕ) (code : Code) (p : ℕ) → IsRefused ((front ++ t ∷ []) ++ e ∷ []) code p → AllBefore at front → t.start < end → at ≤ end → p ≡ end → MayCome front t
refused_at_end joined front t e at end code p h before first bound last =
    let r = refused joined ((front ++ t ∷ []) ++ e ∷ []) code p h in
    by_place front t e at end p r.0 r.1 (both_before at end front t first bound before) last r.2.offset (place_of (front ++ t ∷ []) e r.0 r.1 r.2.back r.2.parts) r.2.begins r.2.within

by_other_place : (front : List Token) (t e : Token) (end p : ℕ) (f : List Token) (u : Token) → e.start ≡ end → (p ≡ end → ⊥) → p ≡ u.start →
    Place (front ++ t ∷ []) e f u → ((b : List Token) → Begins (lexemes ((f ++ u ∷ []) ++ b)) → deepest 0 (lexemes ((f ++ u ∷ []) ++ b)) ≤ nesting_limit → ⊥) → MayCome front t → ⊥
by_other_place front t e end p f u is_end other offset (inl h) bad may = let same : e.start ≡ u.start = ap (λ v. v.start) h.1 in other (omega arith)
by_other_place front t e end p f u is_end other offset (inr h) bad may =
    bad h.0 (subst (λ ts. Begins (lexemes ts)) h.1 may.begins) (subst (λ ts. deepest 0 (lexemes ts) ≤ nesting_limit) h.1 may.within)

-- refused before it
pub refused_before : Joined → (front : List Token) (t e : Token) (end : ℕ) (code : Code) (p : ℕ) → IsRefused ((front ++ t ∷ []) ++ e ∷ []) code p → e.start ≡ end → (p ≡ end → ⊥) →
    MayCome front t → ⊥
refused_before joined front t e end code p h is_end other may =
    let r = refused joined ((front ++ t ∷ []) ++ e ∷ []) code p h in
    by_other_place front t e end p r.0 r.1 is_end other r.2.offset (place_of (front ++ t ∷ []) e r.0 r.1 r.2.back r.2.parts) r.3 may
