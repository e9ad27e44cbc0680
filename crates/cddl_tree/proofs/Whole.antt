-- What the parser's state says of the tokens that were read.
use Rattle.std.proofs.Common.{◌≡◌, ◌≢◌, ℕ, zero, suc, max, ◌≤◌, ◌<◌, ◌+◌, ◌⊎◌, inl, inr, List, [], ◌∷◌, ◌++◌, length, take, drop, get_or, ◌-◌, Option, Some, None, Result, Ok, Err, refl, sym, ap, ◌∙◌, subst, ⊎_elim, arith, add-one, append-nil, Box, Vec, Global}
use Rattle.tree_nodes.specs.declared.tree.Leaf.{Leaf}
use Rattle.std.specs.Prelude.{slice_get, unwrap_or}
use Rattle.std.proofs.lemmas.Option.{slice_get_within, slice_get-get_or}
use Rattle.std.proofs.Math.Seq.{take-suc, drop-cons}
use Rattle.std.proofs.lemmas.List.{take-append-drop}
use Rattle.cddl_token.specs.declared.Token.{Token}
use Rattle.cddl_token.specs.declared.Kind.{Kind}
use Rattle.cddl_token.specs.declared.Kind.TheVariants.{End}
use Rattle.cddl_tree.specs.declared.frames.Current.{Current}
use Rattle.cddl_token.specs.declared.Refusal.{Refusal}
use Rattle.cddl_token.specs.declared.Refusal.TheVariants.{At, Memory}
use Rattle.cddl_token.specs.declared.Code.{Code}
use Rattle.cddl_tree.specs.declared.frames.Stop.{Stop}
use Rattle.cddl_tree.specs.declared.frames.Stop.TheVariants as Stops
use Rattle.cddl_token.specs.declared.Code.TheVariants.{Unexpected, TooNested}
use Rattle.tree_nodes.specs.Syntax.Syntax.{Lexeme, Cddl, cddl, flat, flat_rules, nesting}
use Rattle.tree_nodes.specs.Syntax.Machine as M
use Rattle.tree_nodes.specs.Syntax.Answers.{lexeme, lexemes, Prints, Begins, nesting_limit, opened_after, open_after, deepest, IsTreeOf, Reaches, IsUnexpected, IsTooNested, IsRefused}
use Rattle.tree_nodes.specs.declared.tree.Rule.{Rule}
use Rattle.cddl_tree.specs.declared.frames.Now.{Now}
use Rattle.cddl_tree.specs.declared.frames.Now.TheVariants as N
use Rattle.cddl_tree.specs.Frames.{on, made, Below, below, as_entry, view_at_type1, view_at_type2, view_now}
use Rattle.cddl_tree.specs.declared.state.State.{State}
use Rattle.cddl_tree.specs.declared.state.State.TheVariants as St
use Rattle.cddl_tree.specs.declared.state.Progress.{Progress}
use Rattle.cddl_tree.specs.States.{view_rules, view_state, rules_in, IsRead, refusal_of, GivesState, EndsInEnd, Refuses, Stands}

-- One token more.

run-push : (s : M.State) (ts : List Token) (t : Token) → M.run s (lexemes (ts ++ t ∷ [])) ≡ M.step (M.run s (lexemes ts)) t.kind t
run-push s [] t = refl
run-push s (x ∷ ts) t = run-push (M.step s x.kind x) ts t

open-push : (n : ℕ) (ts : List Token) (t : Token) → open_after n (lexemes (ts ++ t ∷ [])) ≡ opened_after t.kind (open_after n (lexemes ts))
open-push n [] t = refl
open-push n (x ∷ ts) t = open-push (opened_after x.kind n) ts t

deepest-push : (n : ℕ) (ts : List Token) (t : Token) → deepest n (lexemes (ts ++ t ∷ [])) ≡ max (deepest n (lexemes ts)) (opened_after t.kind (open_after n (lexemes ts)))
deepest-push n [] t = refl
deepest-push n (x ∷ ts) t = let e = deepest-push (opened_after x.kind n) ts t in omega arith

open_within : (n : ℕ) (a b : List Token) → open_after n (lexemes a) ≤ deepest n (lexemes (a ++ b))
open_within n [] [] = omega arith
open_within n [] (y ∷ b) = omega arith
open_within n (x ∷ a) b = let i = open_within (opened_after x.kind n) a b in omega arith

-- A state of the parser is never stuck.

made_goes : {A : Type 0} (f : A → M.State) (q : Option A) → ((x : A) → f x ≢ M.stuck) → made f q ≢ Some M.stuck
made_goes f None h e = cc
made_goes f (Some x) h e = h x cc

now_goes : (read : Leaf → Token) (b : Below) (x : Now) → view_now read b x ≢ Some M.stuck
now_goes read b (N.Want at) e = made_goes _ (view_at_type2 read b at) (λ k i. cc) e
now_goes read b (N.WantRef at p) e = made_goes _ (view_at_type2 read b at) (λ k i. cc) e
now_goes read b (N.WantContent at o h a) e = made_goes _ (view_at_type2 read b at) (λ k i. cc) e
now_goes read b (N.Have at r) e = made_goes _ (view_at_type1 read b at.value) (λ k i. cc) e
now_goes read b (N.WantArrow oc r u) e = made_goes _ (as_entry b) (λ k i. cc) e
now_goes read b (N.HaveGroup x) e = made_goes _ (as_entry b) (λ k i. cc) e

goes : (read : Leaf → Token) (s : State) → view_state read s ≢ Some M.stuck
goes read St.Begin e = cc
goes read (St.WantParm rs o p) e = cc
goes read (St.HaveParm rs o p) e = cc
goes read (St.WantAssign rs n) e = cc
goes read (St.Body rs fs x) e = now_goes read (below read (view_rules read rs.items) fs.items) x.value e
goes read (St.Done rs o) e = cc

pub live : (read : Leaf → Token) (p : Progress) (ts : List Token) → Stands read p ts → M.run M.begin (lexemes ts) ≢ M.stuck
live read p ts h e = goes read p.state.value (h.position ∙ ap Some e)

-- From token to token.

-- how the leaves of a tree are read
abbrev pub reading : List Token → Token → Leaf → Token
reading ts end l = get_or ts l.index end

-- what the step says at the state's view
at_position : (v : Option M.State) (m : M.State) (P : M.State → Type 0) → v ≡ Some m → on v P → P m
at_position v m P e h = rw e at h

pub stands_first : (read : Leaf → Token) (s : Box State Global) → s.value ≡ St.Begin → Stands read (record { state = s; count = 0 }) []
stands_first read s e = record { position = ap (view_state read) e; count = refl; within = omega arith }

-- the step that the code makes at the token t
abbrev pub Stepped : (Leaf → Token) → Box State Global → Token → Result (Box State Global) Stop → Type 0
Stepped read s t r = on (view_state read s.value) (λ m. GivesState read t.start r (M.step m t.kind t))

-- what is told of a token is what is read there, so the code makes its step there
pub told : (read : Leaf → Token) (t : Current) (s : Box State Global) (r : Result (Box State Global) Stop) → IsRead read t → on (view_state read s.value) (λ m. GivesState read t.start r (M.step m t.kind (read t.leaf))) → Stepped read s (read t.leaf) r
told read t s r i h = subst (λ (k : Kind). on (view_state read s.value) (λ m. GivesState read (read t.leaf).start r (M.step m k (read t.leaf)))) (sym i.0) (subst (λ (n : ℕ). on (view_state read s.value) (λ m. GivesState read n r (M.step m t.kind (read t.leaf)))) (sym i.1) h)

stepped : (read : Leaf → Token) (p : Progress) (ts : List Token) (t : Token) (r : Result (Box State Global) Stop) → Stands read p ts → Stepped read p.state t r → GivesState read t.start r (M.step (M.run M.begin (lexemes ts)) t.kind t)
stepped read p ts t r h g = at_position (view_state read p.state.value) (M.run M.begin (lexemes ts)) (λ m. GivesState read t.start r (M.step m t.kind t)) h.position g

pub stands_next : (read : Leaf → Token) (p : Progress) (s : Box State Global) (n : ℕ) (ts : List Token) (t : Token) → Stands read p ts → Stepped read p.state t (Ok s) → n ≡ opened_after t.kind p.count → n ≤ nesting_limit → Stands read (record { state = s; count = n }) (ts ++ t ∷ [])
stands_next read p s n ts t h g e w =
    let c : n ≡ opened_after t.kind (open_after 0 (lexemes ts)) = e ∙ ap (opened_after t.kind) h.count in
    let d = deepest-push 0 ts t in
    let i = h.within in
    record {
      position = stepped read p ts t (Ok s) h g ∙ ap Some (sym (run-push M.begin ts t));
      count = c ∙ sym (open-push 0 ts t);
      within = omega arith;
    }

-- the token at an index, whatever is read where there is none
pub at_index : (xs : List Token) (i j : ℕ) (d e : Token) → j ≡ i → i < length xs → get_or xs j e ≡ get_or xs i d
at_index xs i j d e f l = ap (λ (k : ℕ). get_or xs k e) f ∙ ap (λ (o : Option Token). unwrap_or o d) (sym (slice_get-get_or xs i e l) ∙ slice_get-get_or xs i d l)

-- what is told of that token is what is read there
pub is_read : (xs : List Token) (i j : ℕ) (d e : Token) → j ≡ i → i < length xs → IsRead (reading xs e) (record { kind = (get_or xs i d).kind; start = (get_or xs i d).start; leaf = record { index = j } })
is_read xs i j d e f l = let g = at_index xs i j d e f l in (ap (λ (t : Token). t.kind) g, ap (λ (t : Token). t.start) g)

pub goes_along : (read : Leaf → Token) (xs : List Token) (i j : ℕ) (d : Token) (p : Progress) → j ≡ i → i < length xs → Stands read p (take i xs ++ get_or xs j d ∷ []) → Stands read p (take (i + 1) xs)
goes_along read xs i j d p f l h = subst (Stands read p) (ap (λ (k : ℕ). take i xs ++ get_or xs k d ∷ []) f ∙ sym (take-suc xs i d l) ∙ ap (λ (k : ℕ). take k xs) (sym (add-one i))) h

-- the count is small enough to grow
pub countable : (read : Leaf → Token) (p : Progress) (ts : List Token) → Stands read p ts → p.count < 129
countable read p ts h = let c = h.count in let w = h.within in let o = open_within 0 ts [] in
    let e : deepest 0 (lexemes (ts ++ [])) ≡ deepest 0 (lexemes ts) = ap (λ (us : List Token). deepest 0 (lexemes us)) (append-nil ts) in omega arith

-- The laws of the grammar's machine.

abbrev pub Going : Type 0
Going = (t : Token) (ts : List Lexeme) → M.run M.begin ts ≢ M.stuck → Begins ts

abbrev pub Stuck : Type 0
Stuck = (ts : List Lexeme) → M.run M.begin ts ≡ M.stuck → Begins ts → ⊥

abbrev pub Answered : Type 0
Answered = (front : List Token) (e : Token) → e.kind ≡ End → ((x : Cddl) × IsTreeOf x (front ++ e ∷ [])) ⊎ ((c : Code) × (p : ℕ) × IsRefused (front ++ e ∷ []) c p)

-- A refusal.

reached : (read : Leaf → Token) → Going → (p : Progress) (front back : List Token) (t : Token) → Stands read p front → Reaches (front ++ t ∷ back) front t t.start
reached read go p front back t h = record { back = back; parts = refl; offset = refl; begins = go t (lexemes front) (live read p front h); within = h.within }

unexpected : (read : Leaf → Token) → Going → Stuck → (p : Progress) (front back : List Token) (t : Token) (n : ℕ) → Stands read p front → M.step (M.run M.begin (lexemes front)) t.kind t ≡ M.stuck → n ≡ t.start → IsUnexpected (front ++ t ∷ back) n
unexpected read go stop p front back t n h e f = rw f (record {
  front = front;
  token = t;
  reaches = reached read go p front back t h;
  wrong = stop (lexemes (front ++ t ∷ [])) (run-push M.begin front t ∙ e);
})

right : (read : Leaf → Token) → Going → Stuck → (p : Progress) (front back : List Token) (t : Token) (e : Stop) → Stands read p front → GivesState read t.start (Err e) (M.step (M.run M.begin (lexemes front)) t.kind t) → Refuses (front ++ t ∷ back) (refusal_of e)
right read go stop p front back t Stops.Memory h g = tt
right read go stop p front back t (Stops.Unexpected n) h g = unexpected read go stop p front back t n h g.0 g.1

pub refused : (read : Leaf → Token) → Going → Stuck → (p : Progress) (ts : List Token) (t : Token) (e : Stop) (r : Refusal) → Stands read p ts → Stepped read p.state t (Err e) → r ≡ refusal_of e → (back : List Token) → Refuses (ts ++ t ∷ back) r
refused read go stop p ts t e r h g f back = rw f (right read go stop p ts back t e h (stepped read p ts t (Err e) h g))

pub too_nested : (read : Leaf → Token) → Going → (p : Progress) (s : Box State Global) (n : ℕ) (ts : List Token) (t : Token) → Stands read p ts → Stepped read p.state t (Ok s) → n ≡ opened_after t.kind p.count → nesting_limit < n → (back : List Token) → IsTooNested (ts ++ t ∷ back) t.start
too_nested read go p s n ts t h g e w back =
    let i = stepped read p ts t (Ok s) h g ∙ ap Some (sym (run-push M.begin ts t)) in
    let c : n ≡ open_after 0 (lexemes (ts ++ t ∷ [])) = e ∙ ap (opened_after t.kind) h.count ∙ sym (open-push 0 ts t) in
    record {
      front = ts;
      token = t;
      reaches = reached read go p ts back t h;
      begins = go t (lexemes (ts ++ t ∷ [])) (λ j. goes read s.value (i ∙ ap Some j));
      over = omega arith;
    }

pub parts : (xs : List Token) (i : ℕ) (d : Token) → i < length xs → xs ≡ take i xs ++ get_or xs i d ∷ drop (suc i) xs
parts xs i d l = sym (take-append-drop i xs) ∙ ap (λ (ys : List Token). take i xs ++ ys) (drop-cons xs i d l)

pub refused_whole : (xs : List Token) (i j : ℕ) (d : Token) (e : Refusal) → j ≡ i → i < length xs → ((back : List Token) → Refuses (take i xs ++ get_or xs j d ∷ back) e) → Refuses xs e
refused_whole xs i j d e f l h = subst (λ (ys : List Token). Refuses ys e) (ap (λ (k : ℕ). take i xs ++ get_or xs k d ∷ drop (suc i) xs) f ∙ sym (parts xs i d l)) (h (drop (suc i) xs))

-- The end.

done_position : (read : Leaf → Token) (s : State) (rs : Vec Rule Global) → Some rs ≡ rules_in s → (o : Leaf) × (view_state read s ≡ Some (M.done (cddl (view_rules read rs.items) (read o))))
done_position read St.Begin rs e = cc
done_position read (St.WantParm us o p) rs e = cc
done_position read (St.HaveParm us o p) rs e = cc
done_position read (St.WantAssign us n) rs e = cc
done_position read (St.Body us fs now) rs e = cc
done_position read (St.Done us o) rs e = let f : rs ≡ us = cc in (o, ap (λ (x : Vec Rule Global). Some (M.done (cddl (view_rules read x.items) (read o)))) (sym f))

-- after all tokens the state holds the rules of their tree
done_after : (read : Leaf → Token) (p : Progress) (ts : List Token) (rs : Vec Rule Global) → Some rs ≡ rules_in p.state.value → Stands read p ts → (x : Token) × (M.run M.begin (lexemes ts) ≡ M.done (cddl (view_rules read rs.items) x))
done_after read p ts rs e h = let f = h.position in let d = done_position read p.state.value rs e in let g = d.1 in (read d.0, cc)

-- the last token is the end that is printed last
last_printed : (us : List Lexeme) (ts : List Token) (n : ℕ) (x end : Token) → us ++ (End, x) ∷ [] ≡ lexemes ts → n + 1 ≡ length ts → slice_get ts n ≡ Some end → x ≡ end
last_printed [] [] n x end e l h = cc
last_printed [] (t ∷ []) zero x end e l h = let f = ap (λ (us : List Lexeme). (get_or us 0 (End, x)).1) e in let g : Some t ≡ Some end = h in cc
last_printed [] (t ∷ []) (suc n) x end e l h = absurd (omega arith)
last_printed [] (t ∷ u ∷ ts) n x end e l h = cc
last_printed (y ∷ us) [] n x end e l h = cc
last_printed (y ∷ []) (t ∷ []) n x end e l h = cc
last_printed (y ∷ z ∷ us) (t ∷ []) n x end e l h = cc
last_printed (y ∷ us) (t ∷ u ∷ ts) zero x end e l h = absurd (omega arith)
last_printed (y ∷ us) (t ∷ u ∷ ts) (suc n) x end e l h = let f : us ++ (End, x) ∷ [] ≡ lexemes (u ∷ ts) = cc in last_printed us (u ∷ ts) n x end f (omega arith) h

abbrev pub Sound : Type 0
Sound = (ts : List Lexeme) (x : Cddl) → M.run M.begin ts ≡ M.done x → Prints x ts

-- these rules and the last token are the tree of the tokens
pub whole : Sound → (p : Progress) (ts : List Token) (end : Token) (rs : Vec Rule Global) → slice_get ts (length ts - 1) ≡ Some end → Some rs ≡ rules_in p.state.value → Stands (reading ts end) p ts → Prints (cddl (view_rules (reading ts end) rs.items) end) (lexemes ts)
whole sound p ts end rs l e h =
    let d = done_after (reading ts end) p ts rs e h in
    let i = sound (lexemes ts) (cddl (view_rules (reading ts end) rs.items) d.0) d.1 in
    subst (λ (x : Token). Prints (cddl (view_rules (reading ts end) rs.items) x) (lexemes ts)) (last_printed (flat_rules (view_rules (reading ts end) rs.items)) ts (length ts - 1) d.0 end i.tokens (let w = slice_get_within ts (length ts - 1) end l in omega arith) l) i

lexemes-front : (a b : List Token) (us : List Lexeme) → lexemes (a ++ b) ++ us ≡ lexemes a ++ (lexemes b ++ us)
lexemes-front [] b us = refl
lexemes-front (t ∷ a) b us = ap (λ (ts : List Lexeme). lexeme t ∷ ts) (lexemes-front a b us)

begins_front : (a b : List Token) → Begins (lexemes (a ++ b)) → Begins (lexemes a)
begins_front a b h = (h.0, lexemes b ++ h.1, subst (Prints h.0) (lexemes-front a b h.1) h.2)

more : (front back : List Token) (t : Token) → front ++ t ∷ back ≡ (front ++ t ∷ []) ++ back
more [] back t = refl
more (x ∷ front) back t = ap (λ (ts : List Token). x ∷ ts) (more front back t)

-- tokens that begin a tree within the limit are not refused
not_refused : (ts : List Token) (c : Code) (p : ℕ) → Begins (lexemes ts) → deepest 0 (lexemes ts) ≤ nesting_limit → IsRefused ts c p → ⊥
not_refused ts Unexpected p b w h = h.wrong (begins_front (h.front ++ h.token ∷ []) h.reaches.back (subst (λ (us : List Token). Begins (lexemes us)) (h.reaches.parts ∙ more h.front h.reaches.back h.token) b))
not_refused ts TooNested p b w h =
    let v = subst (λ (us : List Token). deepest 0 (lexemes us) ≤ nesting_limit) (h.reaches.parts ∙ more h.front h.reaches.back h.token) w in
    let o = open_within 0 (h.front ++ h.token ∷ []) h.reaches.back in
    let i = h.over in
    omega arith
not_refused ts c p b w h = absurd h

not_over : (read : Leaf → Token) (s : State) (x : Cddl) → view_state read s ≡ Some (M.done x) → None ≡ rules_in s → ⊥
not_over read St.Begin x e f = cc
not_over read (St.WantParm rs o p) x e f = cc
not_over read (St.HaveParm rs o p) x e f = cc
not_over read (St.WantAssign rs n) x e f = cc
not_over read (St.Body rs fs now) x e f = body (below read (view_rules read rs.items) fs.items) now.value e
  where
    never : {A : Type 0} (g : A → M.State) (q : Option A) → ((y : A) → g y ≢ M.done x) → made g q ≢ Some (M.done x)
    never g None h i = cc
    never g (Some y) h i = h y cc

    body : (b : Below) (v : Now) → view_now read b v ≢ Some (M.done x)
    body b (N.Want at) i = never _ (view_at_type2 read b at) (λ k j. cc) i
    body b (N.WantRef at p) i = never _ (view_at_type2 read b at) (λ k j. cc) i
    body b (N.WantContent at o h a) i = never _ (view_at_type2 read b at) (λ k j. cc) i
    body b (N.Have at r) i = never _ (view_at_type1 read b at.value) (λ k j. cc) i
    body b (N.WantArrow oc r u) i = never _ (as_entry b) (λ k j. cc) i
    body b (N.HaveGroup g) i = never _ (as_entry b) (λ k j. cc) i
not_over read (St.Done rs o) x e f = cc

pub is_done : (read : Leaf → Token) → Going → ((ts : List Lexeme) (x : Cddl) → Prints x ts → M.run M.begin ts ≡ M.done x) → Answered → (ts : List Token) (p : Progress) → EndsInEnd ts → Stands read p ts → None ≡ rules_in p.state.value → ⊥
is_done read go complete answered ts p e h f =
    let k : (Stands read) p (e.0 ++ e.1 ∷ []) = subst (Stands read p) e.2 h in
    ⊎_elim
    (λ y. not_over read p.state.value y.0 (k.position ∙ ap Some (complete (lexemes (e.0 ++ e.1 ∷ [])) y.0 y.1.prints)) f)
    (λ y. not_refused (e.0 ++ e.1 ∷ []) y.0 y.1 (go e.1 (lexemes (e.0 ++ e.1 ∷ [])) (live read p (e.0 ++ e.1 ∷ []) k)) k.within y.2)
    (answered e.0 e.1 e.3)

-- the tokens' tree nests as deep as they do
pub tree_of : ((x : Cddl) → deepest 0 (flat x) ≡ nesting x) → (ts : List Token) (x : Cddl) → Prints x (lexemes ts) → deepest 0 (lexemes ts) ≤ nesting_limit → IsTreeOf x ts
tree_of deep ts x p w = record { prints = p; within = let e = deep x in let d = ap (deepest 0) p.tokens in omega arith }

pub not_done : (s : State) → ((rs : Vec Rule Global) (o : Leaf) → s ≢ St.Done rs o) → None ≡ rules_in s
not_done St.Begin f = refl
not_done (St.WantParm rs o p) f = refl
not_done (St.HaveParm rs o p) f = refl
not_done (St.WantAssign rs n) f = refl
not_done (St.Body rs fs now) f = refl
not_done (St.Done rs o) f = absurd (f rs o refl)

-- The one answer.

abbrev pub Apart : Type 0
Apart = (ts : List Token) (x : Cddl) (c : Code) (p : ℕ) → IsTreeOf x ts → IsRefused ts c p → ⊥

abbrev pub OneRefusal : Type 0
OneRefusal = (ts : List Token) (c d : Code) (p q : ℕ) → IsRefused ts c p → IsRefused ts d q → (d ≡ c) × (q ≡ p)

-- what has a tree is refused for want of memory alone
pub no_refusal : Apart → (ts : List Token) (x : Cddl) (e : Refusal) → IsTreeOf x ts → Refuses ts e → e ≡ Memory
no_refusal apart ts x Memory h r = refl
no_refusal apart ts x (At c p) h r = absurd (apart ts x c p h r)

-- what is refused is refused for this reason, or for want of memory
pub same_refusal : OneRefusal → (ts : List Token) (c : Code) (p : ℕ) (e : Refusal) → IsRefused ts c p → Refuses ts e → (e ≡ At c p) ⊎ (e ≡ Memory)
same_refusal one ts c p Memory h r = inr refl
same_refusal one ts c p (At d q) h r = let i = one ts c d p q h r in inl (ap (λ (x : Code). At x q) i.0 ∙ ap (At c) i.1)
