-- The part of a token lies within the text.
use Rattle.std.proofs.Common.{◌≡◌, ℕ, ◌≤◌, ◌+◌, ◌<◌, ◌==◌, Bool, true, false, List, [], ◌∷◌, Option, Some, get_or, drop, length, map, cond, max, ◌-◌, subst, ◌∙◌, arith}
use Rattle.std.proofs.lemmas.List.{at_drop_more}
use Rattle.std.proofs.lemmas.Bool.{eq-eqb}
use Rattle.cddl_token.specs.Answers.{span, InOrder}
use Rattle.cddl_token.specs.declared.Token.{Token}
use Rattle.cddl_explain.specs.Parts.{is_end, is_open, part_of_token, stretch, token_part, IsWithin}
use Rattle.cddl_explain.specs.declared.parts.Part.{Part}

-- what is in order from a place on ends no earlier
ends_later : (ts : List Token) (at end : ℕ) → InOrder at end (map span ts) → at ≤ end
ends_later [] at end h = h
ends_later (t ∷ ts) at end h = let rest = ends_later ts t.end end h.2 in omega (arith, h.0, h.1, rest)

token_within : (b o : Bool) (t : Token) (before at end : ℕ) → before ≤ at → at ≤ t.start → t.start ≤ t.end → t.end ≤ end →
    IsWithin end (cond b (record { from = before; to = before; ends = true }) (cond o (stretch t.start (max t.start (t.end - 1))) (stretch t.start t.end)))
token_within true o t before at end h1 h2 h3 h4 = (omega arith, omega arith)
token_within false true t before at end h1 h2 h3 h4 = (omega arith, omega arith)
token_within false false t before at end h1 h2 h3 h4 = (h3, h4)

same_part : (p q : Part) (end : ℕ) → Some p ≡ Some q → IsWithin end p → IsWithin end q
same_part p q end e h = let same : p ≡ q = cc in subst (λ r. IsWithin end r) same h

found_by : (b : Bool) (t : Token) (before at end : ℕ) (later : Option Part) (p : Part) → before ≤ at → at ≤ t.start → t.start ≤ t.end → t.end ≤ end →
    (later ≡ Some p → IsWithin end p) → cond b (Some (part_of_token before t)) later ≡ Some p → IsWithin end p
found_by true t before at end later p h h1 h2 h3 rest e = same_part _ p end e (token_within (is_end t.kind) (is_open t.kind) t before at end h h1 h2 h3)
found_by false t before at end later p h h1 h2 h3 rest e = rest e

pub found_within : (ts : List Token) (offset before at end : ℕ) (p : Part) → before ≤ at → InOrder at end (map span ts) → token_part offset before ts ≡ Some p → IsWithin end p
found_within [] offset before at end p h order e = absurd (cc)
found_within (t ∷ ts) offset before at end p h order e =
    found_by (t.start == offset) t before at end (token_part offset t.end ts) p h order.0 order.1 (ends_later ts t.end end order.2) (found_within ts offset t.end t.end end p (omega arith) order.2) e

found_here : (t : Token) (ts : List Token) (offset before : ℕ) → t.start ≡ offset → token_part offset before (t ∷ ts) ≡ Some (part_of_token before t)
found_here t ts offset before e = rw (eq-eqb t.start offset e)

pub found_at : (ts : List Token) (offset before i : ℕ) (d : Token) → i < length ts → (get_or ts i d).start ≡ offset → token_part offset before (drop i ts) ≡ Some (part_of_token before (get_or ts i d))
found_at ts offset before i d lt e = at_drop_more (token_part offset before) ts i d lt ∙ found_here (get_or ts i d) (drop (i + 1) ts) offset before e
