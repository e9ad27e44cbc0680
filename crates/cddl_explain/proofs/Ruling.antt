-- One token more of those that may begin rules.
use Rattle.std.proofs.Common.{◌≡◌, ℕ, ◌+◌, ◌-◌, ◌<◌, Bor, refl, take, append_assoc, length-drop, arith, ◌&&◌, nat_eq, List, [], ◌∷◌, ◌++◌, Bool, true, false, get_or, drop, length, ap, sym, ◌∙◌, cond, Some, ◌==◌}
use Rattle.std.proofs.lemmas.List.{at_drop_more, map-append, take_all}
use Rattle.std.specs.Cmp.Lexicographic.{pointwise}
use Rattle.cddl_token.specs.declared.Token.{Token}
use Rattle.near_words.specs.Near.{texts}
use Rattle.tree_nodes.specs.Syntax.Answers.{opened_after}
use Rattle.cddl_explain.specs.Cases.{sign_of_rule}
use Rattle.cddl_explain.specs.Origins.{first_rule}
use Rattle.cddl_explain.specs.Roots.{ends_as_key, is_arrow}
use Rattle.cddl_explain.specs.Rules.{assigns, begins_by, begins_rule, closes, closes_by, head_of, in_list_of, is_assignment, name_of_token, rule_names}
use Rattle.cddl_explain.specs.declared.rules.Head.{Head}
use Rattle.cddl_explain.specs.declared.rules.InList.{InList}

pub closes_at : (ts : List Token) (k : ℕ) (d : Token) (place : InList) → k < length ts → in_list_of (get_or ts k d).kind ≡ place → closes (drop k ts) ≡ closes_by place (assigns (drop (k + 1) ts)) (closes (drop (k + 1) ts))
closes_at ts k d place lt e = at_drop_more closes ts k d lt ∙ ap (λ p. closes_by p (assigns (drop (k + 1) ts)) (closes (drop (k + 1) ts))) e

pub begins_at : (ts : List Token) (k : ℕ) (d : Token) (first : Head) → k < length ts → head_of (get_or ts k d).kind ≡ first → begins_rule (drop k ts) ≡ begins_by first (drop (k + 1) ts)
begins_at ts k d first lt e = at_drop_more begins_rule ts k d lt ∙ ap (λ h. begins_by h (drop (k + 1) ts)) e

pub names_at : (ts : List Token) (k : ℕ) (d : Token) (begins : Bool) → k < length ts → begins_rule (drop k ts) ≡ begins →
    rule_names (drop k ts) ≡ cond begins (name_of_token (get_or ts k d).text.now ∷ rule_names (drop (k + 1) ts)) (rule_names (drop (k + 1) ts))
names_at ts k d begins lt e =
    let here = at_drop_more rule_names ts k d lt in
    let same = at_drop_more begins_rule ts k d lt in
    here ∙ ap (λ b. cond b (name_of_token (get_or ts k d).text.now ∷ rule_names (drop (k + 1) ts)) (rule_names (drop (k + 1) ts))) (sym same ∙ e)

pub first_at : (name : List ℕ) (ts : List Token) (k : ℕ) (d : Token) (begins same : Bool) → k < length ts → begins_rule (drop k ts) ≡ begins → pointwise nat_eq (name_of_token (get_or ts k d).text.now) name ≡ same →
    first_rule name (drop k ts) ≡ cond (begins && same) (drop k ts) (first_rule name (drop (k + 1) ts))
first_at name ts k d begins same lt e1 e2 =
    let later = first_rule name (drop (k + 1) ts) in
    let here = at_drop_more (λ (xs : List Token). xs) ts k d lt in
    let is_name = pointwise nat_eq (name_of_token (get_or ts k d).text.now) name in
    let found = get_or ts k d ∷ drop (k + 1) ts in
    at_drop_more (first_rule name) ts k d lt ∙ (ap (λ b. cond (b && is_name) found later) (sym (at_drop_more begins_rule ts k d lt) ∙ e1) ∙ (ap (λ s. cond (begins && s) found later) e2 ∙ ap (λ xs. cond (begins && same) xs later) (sym here)))

-- what is left of a list, up to its end
pub rest_whole : (ts : List Token) (n : ℕ) → take (length ts - n) (drop n ts) ≡ drop n ts
rest_whole ts n = take_all (length ts - n) (drop n ts) (omega (arith, length-drop n ts))

pub names_passed : (ts : List Token) (k : ℕ) → k < length ts → begins_rule (drop k ts) ≡ false → rule_names (drop k ts) ≡ rule_names (drop (k + 1) ts)
names_passed [] k lt e = absurd (omega arith)
names_passed (t ∷ ts) k lt e = names_at (t ∷ ts) k t false lt e

pub names_taken : (names : List (Bor (List ℕ))) (name : Bor (List ℕ)) (ts : List Token) (k : ℕ) (d : Token) (all : List (List ℕ)) → k < length ts → begins_rule (drop k ts) ≡ true →
    name.now ≡ name_of_token (get_or ts k d).text.now → texts names ++ rule_names (drop k ts) ≡ all → texts (names ++ name ∷ []) ++ rule_names (drop (k + 1) ts) ≡ all
names_taken names name ts k d all lt begins is so_far =
    let rest = rule_names (drop (k + 1) ts) in
    let here = names_at ts k d true lt begins in
    ap (λ xs. xs ++ rest) (map-append (λ w. w.now) names (name ∷ [])) ∙ (append_assoc (texts names) (name.now ∷ []) rest ∙
    (ap (λ x. texts names ++ x ∷ rest) is ∙ (ap (λ ys. texts names ++ ys) (sym here) ∙ so_far)))

pub first_no_rule : (name : List ℕ) (ts : List Token) (k : ℕ) → k < length ts → begins_rule (drop k ts) ≡ false → first_rule name (drop k ts) ≡ first_rule name (drop (k + 1) ts)
first_no_rule name [] k lt e = absurd (omega arith)
first_no_rule name (t ∷ ts) k lt e = first_at name (t ∷ ts) k t false (pointwise nat_eq (name_of_token (get_or (t ∷ ts) k t).text.now) name) lt e refl

pub first_other_name : (name found : List ℕ) (ts : List Token) (k : ℕ) (d : Token) → k < length ts → begins_rule (drop k ts) ≡ true → found ≡ name_of_token (get_or ts k d).text.now →
    pointwise nat_eq found name ≡ false → first_rule name (drop k ts) ≡ first_rule name (drop (k + 1) ts)
first_other_name name found ts k d lt begins is other = first_at name ts k d true false lt begins (ap (λ x. pointwise nat_eq x name) (sym is) ∙ other)

pub first_here : (name found : List ℕ) (ts : List Token) (k : ℕ) (d : Token) → k < length ts → begins_rule (drop k ts) ≡ true → found ≡ name_of_token (get_or ts k d).text.now →
    pointwise nat_eq found name ≡ true → first_rule name (drop k ts) ≡ drop k ts
first_here name found ts k d lt begins is same = first_at name ts k d true true lt begins (ap (λ x. pointwise nat_eq x name) (sym is) ∙ same)

pub sign_at : (ts : List Token) (k : ℕ) (d : Token) (is_sign : Bool) → k < length ts → is_assignment (get_or ts k d).kind ≡ is_sign → sign_of_rule (drop k ts) ≡ cond is_sign (Some (get_or ts k d).kind) (sign_of_rule (drop (k + 1) ts))
sign_at ts k d is_sign lt e = at_drop_more sign_of_rule ts k d lt ∙ ap (λ b. cond b (Some (get_or ts k d).kind) (sign_of_rule (drop (k + 1) ts))) e

-- what the next token tells of a bracket that may stand in a key: an arrow outside of brackets, or else the next rule
ends_at : (depth now : ℕ) (ts : List Token) (k : ℕ) (d : Token) (key rule : Bool) → k < length ts → key ≡ ((depth == 0) && is_arrow (get_or ts k d).kind) → rule ≡ ((depth == 0) && begins_rule (drop k ts)) → now ≡ opened_after (get_or ts k d).kind depth →
    ends_as_key depth (drop k ts) ≡ cond key true (cond rule false (ends_as_key now (drop (k + 1) ts)))
ends_at depth now ts k d key rule lt e1 e2 e3 =
    let rest = drop (k + 1) ts in
    let kind = (get_or ts k d).kind in
    let later = ends_as_key (opened_after kind depth) rest in
    at_drop_more (ends_as_key depth) ts k d lt ∙
    (ap (λ b. cond b true (cond ((depth == 0) && begins_rule (get_or ts k d ∷ rest)) false later)) (sym e1) ∙
    (ap (λ b. cond key true (cond ((depth == 0) && b) false later)) (sym (at_drop_more begins_rule ts k d lt)) ∙
    (ap (λ b. cond key true (cond b false later)) (sym e2) ∙
    ap (λ n. cond key true (cond rule false (ends_as_key n rest))) (sym e3))))

pub ends_key : (depth : ℕ) (ts : List Token) (k : ℕ) (d : Token) (key : Bool) → k < length ts → key ≡ ((depth == 0) && is_arrow (get_or ts k d).kind) → key ≡ true → ends_as_key depth (drop k ts) ≡ true
ends_key depth ts k d key lt e1 is = ends_at depth (opened_after (get_or ts k d).kind depth) ts k d key ((depth == 0) && begins_rule (drop k ts)) lt e1 refl refl ∙
    ap (λ b. cond b true (cond ((depth == 0) && begins_rule (drop k ts)) false (ends_as_key (opened_after (get_or ts k d).kind depth) (drop (k + 1) ts)))) is

pub ends_rule : (depth : ℕ) (ts : List Token) (k : ℕ) (d : Token) (key rule : Bool) → k < length ts → key ≡ ((depth == 0) && is_arrow (get_or ts k d).kind) → rule ≡ ((depth == 0) && begins_rule (drop k ts)) → key ≡ false → rule ≡ true → ends_as_key depth (drop k ts) ≡ false
ends_rule depth ts k d key rule lt e1 e2 not_key is = ends_at depth (opened_after (get_or ts k d).kind depth) ts k d key rule lt e1 e2 refl ∙
    (ap (λ b. cond b true (cond rule false (ends_as_key (opened_after (get_or ts k d).kind depth) (drop (k + 1) ts)))) not_key ∙ ap (λ b. cond b false (ends_as_key (opened_after (get_or ts k d).kind depth) (drop (k + 1) ts))) is)

pub ends_later : (depth now : ℕ) (ts : List Token) (k : ℕ) (d : Token) (key rule : Bool) → k < length ts → key ≡ ((depth == 0) && is_arrow (get_or ts k d).kind) → rule ≡ ((depth == 0) && begins_rule (drop k ts)) → now ≡ opened_after (get_or ts k d).kind depth → key ≡ false → rule ≡ false →
    ends_as_key depth (drop k ts) ≡ ends_as_key now (drop (k + 1) ts)
ends_later depth now ts k d key rule lt e1 e2 e3 not_key other = ends_at depth now ts k d key rule lt e1 e2 e3 ∙
    (ap (λ b. cond b true (cond rule false (ends_as_key now (drop (k + 1) ts)))) not_key ∙ ap (λ b. cond b false (ends_as_key now (drop (k + 1) ts))) other)
