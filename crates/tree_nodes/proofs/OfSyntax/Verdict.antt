-- What the machine says of tokens, and that they have one answer.
use Rattle.std.proofs.Common.{◌≡◌, ◌≢◌, ℕ, ◌≤◌, ◌<◌, ◌⊎◌, inl, inr, List, [], ◌∷◌, ◌++◌, refl, sym, ap, ◌∙◌, subst, arith, append_assoc, append-nil}
use Rattle.cddl_token.specs.declared.Token.{Token}
use Rattle.cddl_token.specs.declared.Kind.TheVariants.{End}
use Rattle.cddl_token.specs.declared.Code.{Code}
use Rattle.cddl_token.specs.declared.Code.TheVariants.{Unexpected, TooNested}
use Rattle.tree_nodes.specs.Syntax.Syntax.{Lexeme, Cddl, flat, nesting}
use Rattle.tree_nodes.specs.Syntax.Machine.{State, begin, done, stuck, step, run, open_in}
use Rattle.tree_nodes.specs.Syntax.Answers.{lexeme, lexemes, Prints, Begins, nesting_limit, open_after, deepest, IsTreeOf, Reaches, IsRefused}
use Rattle.tree_nodes.proofs.OfSyntax.Reading.{reads, run-append}
use Rattle.tree_nodes.proofs.OfSyntax.Keeping.{done_prints}
use Rattle.tree_nodes.proofs.OfSyntax.Closing.{closes}
use Rattle.std.proofs.lemmas.Bool.{cases_lt}
use Rattle.tree_nodes.proofs.OfSyntax.Ending.{ends_at}
use Rattle.tree_nodes.proofs.OfSyntax.Counting.{counts_run, counted}
use Rattle.tree_nodes.proofs.OfSyntax.Nesting.{nests, open_after-append, deepest-append, open-le-deepest}

run-stuck : (us : List Lexeme) → run stuck us ≡ stuck
run-stuck [] = refl
run-stuck (u ∷ us) = run-stuck us

-- what the machine makes is the tree, and there is no other

pub sound : (ts : List Lexeme) (x : Cddl) → run begin ts ≡ done x → Prints x ts
sound ts x e = let m = done_prints ts x e in record { normal = m.1; tokens = m.0 }

pub complete : (ts : List Lexeme) (x : Cddl) → Prints x ts → run begin ts ≡ done x
complete ts x h = ap (run begin) (sym h.tokens) ∙ reads x h.normal

pub one_tree : (ts : List Lexeme) (x y : Cddl) → Prints x ts → Prints y ts → y ≡ x
one_tree ts x y h k = let e = complete ts x h in let f = complete ts y k in cc

-- where the machine goes on, the tokens begin a tree's; where it is stuck, they do not

pub live_begins : (d : Token) (ts : List Lexeme) → run begin ts ≢ stuck → Begins ts
live_begins d ts h =
    let c = closes d (run begin ts) h in
    (c.1, c.0, sound (ts ++ c.0) c.1 (run-append begin ts c.0 ∙ c.2))

pub stuck_begins_nothing : (ts : List Lexeme) → run begin ts ≡ stuck → Begins ts → ⊥
stuck_begins_nothing ts h b =
    let e = complete (ts ++ b.1) b.0 b.2 in
    let f = run-append begin ts b.1 in
    let g : run (run begin ts) b.1 ≡ stuck = rw h (run-stuck b.1) in
    cc

-- the number of open tokens

pub open_is : (ts : List Lexeme) → run begin ts ≢ stuck → open_in (run begin ts) ≡ open_after 0 ts
open_is ts h = counted (run begin ts) (open_after 0 ts) h (counts_run begin 0 ts refl)

pub none_open : (x : Cddl) → open_after 0 (flat x) ≡ 0
none_open x = (nests x 0).0

pub deepest_is : (x : Cddl) → deepest 0 (flat x) ≡ nesting x
deepest_is x = let e = (nests x 0).1 in omega arith

-- fronts of tokens

lexemes-append : (a b : List Token) → lexemes (a ++ b) ≡ lexemes a ++ lexemes b
lexemes-append [] b = refl
lexemes-append (t ∷ a) b = ap (λ ts. lexeme t ∷ ts) (lexemes-append a b)

pub begins_front : (a b : List Lexeme) → Begins (a ++ b) → Begins a
begins_front a b h = (h.0, b ++ h.1, subst (Prints h.0) (append_assoc a b h.1) h.2)

begins_before : (a b : List Token) → Begins (lexemes (a ++ b)) → Begins (lexemes a)
begins_before a b h = begins_front (lexemes a) (lexemes b) (subst Begins (lexemes-append a b) h)

open_before : (a b : List Token) → open_after 0 (lexemes a) ≤ deepest 0 (lexemes (a ++ b))
open_before a b = rw (lexemes-append a b) (open-le-deepest 0 (lexemes a) (lexemes b))

front_of_tree : (x : Cddl) (ts : List Token) → IsTreeOf x ts → Begins (lexemes ts) × (deepest 0 (lexemes ts) ≤ nesting_limit)
front_of_tree x ts h = (
  (x, [], subst (Prints x) (sym (append-nil (lexemes ts))) h.prints),
  (let e : deepest 0 (lexemes ts) ≡ nesting x = ap (deepest 0) (sym h.prints.tokens) ∙ deepest_is x in let w = h.within in omega arith),
)

-- with the token the tokens begin no tree, or too many are open
abbrev IsBad : List Token → Code → Type 0
IsBad ts Unexpected = Begins (lexemes ts) → ⊥
IsBad ts TooNested = Begins (lexemes ts) × (nesting_limit < open_after 0 (lexemes ts))
IsBad ts _ = ⊥

abbrev Refused : List Token → Code → ℕ → Type 0
Refused ts code at = (front : List Token) × (t : Token) × Reaches ts front t at × IsBad (front ++ t ∷ []) code

refused : (ts : List Token) (code : Code) (at : ℕ) → IsRefused ts code at → Refused ts code at
refused ts Unexpected at h = (h.front, h.token, h.reaches, h.wrong)
refused ts TooNested at h = (h.front, h.token, h.reaches, (h.begins, h.over))
refused ts _ at h = absurd h

-- no good tokens begin with bad ones
never_bad : (a b : List Token) (code : Code) → Begins (lexemes (a ++ b)) → deepest 0 (lexemes (a ++ b)) ≤ nesting_limit → IsBad a code → ⊥
never_bad a b Unexpected h d bad = bad (begins_before a b h)
never_bad a b TooNested h d bad = let i = open_before a b in let over = bad.1 in omega arith
never_bad a b _ h d bad = bad

pub apart : (ts : List Token) (x : Cddl) (code : Code) (at : ℕ) → IsTreeOf x ts → IsRefused ts code at → ⊥
apart ts x code at h r =
    let bad = refused ts code at r in
    let back = bad.2.back in
    let is : ts ≡ (bad.0 ++ bad.1 ∷ []) ++ back = bad.2.parts ∙ sym (append_assoc bad.0 (bad.1 ∷ []) back) in
    let good = front_of_tree x ts h in
    never_bad (bad.0 ++ bad.1 ∷ []) back code (subst (λ us. Begins (lexemes us)) is good.0) (subst (λ us. deepest 0 (lexemes us) ≤ nesting_limit) is good.1) bad.3

-- Two positions in one list: the same, or one after the other.
abbrev Split : List Token → Token → List Token → Token → Type 0
Split f t g u = ((f ≡ g) × (t ≡ u)) ⊎ (((r : List Token) × (g ≡ (f ++ t ∷ []) ++ r)) ⊎ ((r : List Token) × (f ≡ (g ++ u ∷ []) ++ r)))

split_more : (x : Token) (f : List Token) (t : Token) (g : List Token) (u : Token) → Split f t g u → Split (x ∷ f) t (x ∷ g) u
split_more x f t g u (inl h) = inl (ap (λ ts. x ∷ ts) h.0, h.1)
split_more x f t g u (inr (inl h)) = inr (inl (h.0, ap (λ ts. x ∷ ts) h.1))
split_more x f t g u (inr (inr h)) = inr (inr (h.0, ap (λ ts. x ∷ ts) h.1))

split : (f : List Token) (t : Token) (b : List Token) (g : List Token) (u : Token) (c : List Token) → f ++ t ∷ b ≡ g ++ u ∷ c → Split f t g u
split [] t b [] u c e = inl (refl, cc)
split [] t b (x ∷ g) u c e = inr (inl (g, cc))
split (x ∷ f) t b [] u c e = inr (inr (f, cc))
split (x ∷ f) t b (y ∷ g) u c e =
    let s = split f t b g u c cc in
    let same : x ≡ y = cc in
    subst (λ z. Split (x ∷ f) t (z ∷ g) u) same (split_more x f t g u s)

same_code : (ts : List Token) (c d : Code) → IsBad ts c → IsBad ts d → d ≡ c
same_code ts Unexpected Unexpected h k = refl
same_code ts Unexpected TooNested h k = absurd (h k.0)
same_code ts TooNested Unexpected h k = absurd (k h.0)
same_code ts TooNested TooNested h k = refl
same_code ts Unexpected _ h k = absurd k
same_code ts TooNested _ h k = absurd k
same_code ts _ d h k = absurd h

one_place : (ts f : List Token) (t : Token) (g : List Token) (u : Token) (c d : Code) (p q : ℕ)
    → Reaches ts f t p → Reaches ts g u q → IsBad (f ++ t ∷ []) c → IsBad (g ++ u ∷ []) d → Split f t g u → (d ≡ c) × (q ≡ p)
one_place ts f t g u c d p q r s h k (inl e) = (
  same_code (f ++ t ∷ []) c d h (subst (λ us. IsBad us d) (ap (λ a. a ++ u ∷ []) (sym e.0) ∙ ap (λ a. f ++ a ∷ []) (sym e.1)) k),
  s.offset ∙ ap (λ (a : Token). a.start) (sym e.1) ∙ sym r.offset,
)
one_place ts f t g u c d p q r s h k (inr (inl e)) =
    absurd (never_bad (f ++ t ∷ []) e.0 c (subst (λ us. Begins (lexemes us)) e.1 s.begins) (subst (λ us. deepest 0 (lexemes us) ≤ nesting_limit) e.1 s.within) h)
one_place ts f t g u c d p q r s h k (inr (inr e)) =
    absurd (never_bad (g ++ u ∷ []) e.0 d (subst (λ us. Begins (lexemes us)) e.1 r.begins) (subst (λ us. deepest 0 (lexemes us) ≤ nesting_limit) e.1 r.within) k)

pub one_refusal : (ts : List Token) (c d : Code) (p q : ℕ) → IsRefused ts c p → IsRefused ts d q → (d ≡ c) × (q ≡ p)
one_refusal ts c d p q h k =
    let a = refused ts c p h in
    let b = refused ts d q k in
    one_place ts a.0 a.1 b.0 b.1 c d p q a.2 b.2 a.3 b.3 (split a.0 a.1 a.2.back b.0 b.1 b.2.back (sym a.2.parts ∙ b.2.parts))

-- tokens that end with the source have an answer

abbrev IsLive : State → Type 0
IsLive stuck = ⊥
IsLive s = Unit {0}

stuck_or_live : (s : State) → (s ≡ stuck) ⊎ (s ≢ stuck)
stuck_or_live stuck = inl refl
stuck_or_live s = inr (λ e. subst IsLive e tt)

-- so far they are good
record IsGood (ts : List Token) : Type 0 where
  pub live : run begin (lexemes ts) ≢ stuck
  pub within : deepest 0 (lexemes ts) ≤ nesting_limit

abbrev HasRefusal : List Token → Type 0
HasRefusal ts = (c : Code) × (p : ℕ) × IsRefused ts c p

reached : (front : List Token) (t : Token) (back : List Token) → IsGood front → Reaches (front ++ t ∷ back) front t t.start
reached front t back g = record { back = back; parts = refl; offset = refl; begins = live_begins t (lexemes front) g.live; within = g.within }

one_deeper : (front : List Token) (t : Token) → deepest 0 (lexemes front) ≤ nesting_limit → open_after 0 (lexemes (front ++ t ∷ [])) ≤ nesting_limit → deepest 0 (lexemes (front ++ t ∷ [])) ≤ nesting_limit
one_deeper front t h k =
    let is = ap (deepest 0) (lexemes-append front (t ∷ [])) ∙ deepest-append 0 (lexemes front) (lexeme t ∷ []) in
    let last = ap (open_after 0) (lexemes-append front (t ∷ [])) ∙ open_after-append 0 (lexemes front) (lexeme t ∷ []) in
    let at = open-le-deepest 0 (lexemes front) [] in
    let same = ap (deepest 0) (append-nil (lexemes front)) in
    omega arith

next_token : (front : List Token) (t : Token) (back : List Token) → IsGood front → IsGood (front ++ t ∷ []) ⊎ HasRefusal (front ++ t ∷ back)
next_token front t back g =
    let ts = lexemes (front ++ t ∷ []) in
    elim (stuck_or_live (run begin ts)) [
      | inl e ↦ inr (Unexpected, t.start, record { front = front; token = t; reaches = reached front t back g; wrong = stuck_begins_nothing ts e })
      | inr live ↦ elim (cases_lt nesting_limit (open_after 0 ts)) [
        | inl over ↦ inr (TooNested, t.start, record { front = front; token = t; reaches = reached front t back g; begins = live_begins t ts live; over = over })
        | inr few ↦ inl (record { live = live; within = one_deeper front t g.within few })
      ]
    ]

scan : (front rest : List Token) → IsGood front → IsGood (front ++ rest) ⊎ HasRefusal (front ++ rest)
scan front [] g = inl (rw append-nil g)
scan front (t ∷ rest) g = elim (next_token front t rest g) [
  | inl h ↦ subst (λ ts. IsGood ts ⊎ HasRefusal ts) (append_assoc front (t ∷ []) rest) (scan (front ++ t ∷ []) rest h)
  | inr r ↦ inr r
]

good_nothing : IsGood []
good_nothing = record { live = λ e. subst IsLive e tt; within = omega arith }

finished : (x : Cddl) (ts : List Token) → run begin (lexemes ts) ≡ done x → deepest 0 (lexemes ts) ≤ nesting_limit → IsTreeOf x ts
finished x ts e h =
    let p = sound (lexemes ts) x e in
    let d : nesting x ≡ deepest 0 (lexemes ts) = sym (deepest_is x) ∙ ap (deepest 0) p.tokens in
    record { prints = p; within = omega arith }

has_tree : (front : List Token) (e : Token) → e.kind ≡ End → IsGood (front ++ e ∷ []) → (x : Cddl) × IsTreeOf x (front ++ e ∷ [])
has_tree front e k g =
    let ts = lexemes (front ++ e ∷ []) in
    let is : run begin ts ≡ step (run begin (lexemes front)) End e =
    ap (run begin) (lexemes-append front (e ∷ [])) ∙ run-append begin (lexemes front) (lexeme e ∷ []) ∙ ap (λ q. step (run begin (lexemes front)) q e) k in
    elim (ends_at (run begin (lexemes front)) e) [
      | inl a ↦ absurd (g.live (is ∙ a))
      | inr b ↦ (b.0, finished b.0 (front ++ e ∷ []) (is ∙ b.1) g.within)
    ]

pub some_answer : (front : List Token) (e : Token) → e.kind ≡ End → ((x : Cddl) × IsTreeOf x (front ++ e ∷ [])) ⊎ HasRefusal (front ++ e ∷ [])
some_answer front e k = elim (scan [] (front ++ e ∷ []) good_nothing) [
  | inl g ↦ inl (has_tree front e k g)
  | inr r ↦ inr r
]
