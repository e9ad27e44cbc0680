-- One token more of those before a place, of a list of parameters, and of those that commas part.
use Rattle.std.proofs.Common.{◌≡◌, ◌≢◌, Bor, ℕ, zero, suc, refl, take, ◌+◌, ◌<◌, ◌≤◌, ◌==◌, ◌&&◌, ◌||◌, nat_eq, nat_lt, Bool, true, false, List, [], ◌∷◌, get_or, drop, length, ap, sym, ◌∙◌, cond, arith}
use Rattle.std.proofs.lemmas.Bool.{eq-eqb, lt-ltb, le-ltb, ltb-true, ne_eqb}
use Rattle.std.proofs.lemmas.List.{at_drop_more}
use Rattle.std.specs.Cmp.Lexicographic.{pointwise}
use Rattle.cddl_token.specs.declared.Token.{Token}
use Rattle.near_words.specs.Near.{texts}
use Rattle.tree_nodes.specs.Syntax.Answers.{opened_after}
use Rattle.cddl_explain.specs.Arity.{commas, is_among, is_comma, last_rule, listed_by, lists, one_where}
use Rattle.cddl_explain.specs.Rules.{begins_rule, in_list_of}
use Rattle.cddl_explain.specs.Spots.{passed}
use Rattle.cddl_explain.specs.declared.rules.InList.{InList}

pub passed_more : (at : ℕ) (ts : List Token) (k : ℕ) (d : Token) → k < length ts → (get_or ts k d).start < at → passed at (drop k ts) ≡ suc (passed at (drop (k + 1) ts))
passed_more at ts k d lt before = at_drop_more (passed at) ts k d lt ∙ ap (λ b. cond b (suc (passed at (drop (k + 1) ts))) 0) (lt-ltb (get_or ts k d).start at before)

pub passed_here : (at : ℕ) (ts : List Token) (k : ℕ) (d : Token) → k < length ts → at ≤ (get_or ts k d).start → passed at (drop k ts) ≡ 0
passed_here at ts k d lt after = at_drop_more (passed at) ts k d lt ∙ ap (λ b. cond b (suc (passed at (drop (k + 1) ts))) 0) (le-ltb (get_or ts k d).start at after)

pub lists_at : (name : List ℕ) (ts : List Token) (k : ℕ) (d : Token) (place : InList) (same : Bool) → k < length ts → in_list_of (get_or ts k d).kind ≡ place → pointwise nat_eq (get_or ts k d).text.now name ≡ same →
    lists name (drop k ts) ≡ listed_by place same (lists name (drop (k + 1) ts))
lists_at name ts k d place same lt e1 e2 =
    let later = lists name (drop (k + 1) ts) in
    at_drop_more (lists name) ts k d lt ∙ (ap (λ p. listed_by p (pointwise nat_eq (get_or ts k d).text.now name) later) e1 ∙ ap (λ s. listed_by place s later) e2)

pub last_rule_at : (found ts : List Token) (k : ℕ) (begins : Bool) → k < length ts → begins_rule (drop k ts) ≡ begins →
    last_rule found (drop k ts) ≡ last_rule (cond begins (drop k ts) found) (drop (k + 1) ts)
last_rule_at found [] k begins lt e = absurd (omega arith)
last_rule_at found (t ∷ us) k begins lt e =
    let ts = t ∷ us in
    let here = at_drop_more (λ (xs : List Token). xs) ts k t lt in
    let same = at_drop_more begins_rule ts k t lt in
    at_drop_more (last_rule found) ts k t lt ∙ (ap (λ b. last_rule (cond b (get_or ts k t ∷ drop (k + 1) ts) found) (drop (k + 1) ts)) (sym same ∙ e) ∙ ap (λ xs. last_rule (cond begins xs found) (drop (k + 1) ts)) (sym here))

commas_at : (ts : List Token) (k depth now : ℕ) (d : Token) (part : ℕ) → k < length ts → part ≡ one_where ((depth == 1) && is_comma (get_or ts k d).kind) → now ≡ opened_after (get_or ts k d).kind depth →
    commas depth (drop k ts) ≡ part + cond (now == 0) 0 (commas now (drop (k + 1) ts))
commas_at ts k depth now d part lt e1 e2 =
    let rest = drop (k + 1) ts in
    at_drop_more (commas depth) ts k d lt ∙ (ap (λ b. b + cond (opened_after (get_or ts k d).kind depth == 0) 0 (commas (opened_after (get_or ts k d).kind depth) rest)) (sym e1) ∙ ap (λ n. part + cond (n == 0) 0 (commas n rest)) (sym e2))

pub commas_on : (ts : List Token) (k depth now : ℕ) (d : Token) (part : ℕ) → k < length ts → part ≡ one_where ((depth == 1) && is_comma (get_or ts k d).kind) → now ≡ opened_after (get_or ts k d).kind depth → now ≢ 0 →
    commas depth (drop k ts) ≡ part + commas now (drop (k + 1) ts)
commas_on ts k depth now d part lt e1 e2 more = commas_at ts k depth now d part lt e1 e2 ∙ ap (λ b. part + cond b 0 (commas now (drop (k + 1) ts))) (ne_eqb now 0 more)

pub commas_end : (ts : List Token) (k depth now : ℕ) (d : Token) (part : ℕ) → k < length ts → part ≡ one_where ((depth == 1) && is_comma (get_or ts k d).kind) → now ≡ opened_after (get_or ts k d).kind depth → now ≡ 0 →
    commas depth (drop k ts) ≡ part
commas_end ts k depth now d part lt e1 e2 none =
    let all = commas_at ts k depth now d part lt e1 e2 ∙ ap (λ b. part + cond b 0 (commas now (drop (k + 1) ts))) (eq-eqb now 0 none) in
    omega (arith, all)

passed_by : (b : Bool) (at : ℕ) (t : Token) (ts : List Token) → (b ≡ true → t.start < at) → ((k : ℕ) (d : Token) → k < length (take (passed at ts) ts) → (get_or (take (passed at ts) ts) k d).start < at) →
    (k : ℕ) (d : Token) → k < length (take (cond b (suc (passed at ts)) 0) (t ∷ ts)) → (get_or (take (cond b (suc (passed at ts)) 0) (t ∷ ts)) k d).start < at
passed_by true at t ts is rest zero d lt = is refl
passed_by true at t ts is rest (suc k) d lt = rest k d (omega arith)
passed_by false at t ts is rest k d lt = absurd (omega arith)

-- each of the tokens before a place begins before it
pub all_passed : (at : ℕ) (ts : List Token) (k : ℕ) (d : Token) → k < length (take (passed at ts) ts) → (get_or (take (passed at ts) ts) k d).start < at
all_passed at [] k d lt = absurd (omega arith)
all_passed at (t ∷ ts) k d lt = passed_by (nat_lt t.start at) at t ts (ltb-true t.start at) (all_passed at ts) k d lt

pub among_at : (name : List ℕ) (ws : List (Bor (List ℕ))) (k : ℕ) (d : Bor (List ℕ)) (same : Bool) → k < length ws → pointwise nat_eq (get_or ws k d).now name ≡ same →
    is_among name (texts (drop k ws)) ≡ (same || is_among name (texts (drop (k + 1) ws)))
among_at name ws k d same lt e =
    at_drop_more (λ (xs : List (Bor (List ℕ))). is_among name (texts xs)) ws k d lt ∙ ap (λ s. s || is_among name (texts (drop (k + 1) ws))) e
