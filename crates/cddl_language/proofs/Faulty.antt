-- Faults of small specifications, each at its byte.
use Rattle.std.specs.Prelude.{◌≢◌, ℕ, ◌<◌, slice_index_or, codes, false}
use Rattle.std.proofs.Common.{refl, ap, arith, inl, sym}
use Rattle.std.proofs.lemmas.Bool.{false≢true}
use Rattle.cddl_token.specs.declared.Kind.TheVariants as K
use Rattle.cddl_token.specs.declared.Code.TheVariants as C
use Rattle.cddl_literal.specs.Numbers.{digit_value}
use Rattle.cddl_language.specs.Terms.{call, no_terms, named, Definition, Body, of_types}
use Rattle.cddl_language.specs.Prelude.{prelude}
use Rattle.cddl_language.specs.Reach.{at_root, onward, at_name, at_choice}
use Rattle.cddl_language.specs.Literals.{Values}
use Rattle.cddl_language.specs.Free.{name, choice_by_name, by_type, by_group, by_choice, by_chosen_name, of_this, of_last, of_keyed, at_once, onwards, no_time, all_may, none_left, in_this, in_last, group_name}
use Rattle.cddl_language.specs.Sites.{in_body, in_argument, used, a_name}
use Rattle.cddl_language.specs.Faults as F
use Rattle.cddl_language.specs.Faults.{IsFaultAt}
use Rattle.cddl_language.specs.Texts as T

more_is_other : (m n : ℕ) → m < n → n ≢ m
more_is_other m n h e = omega arith

less_is_other : (m n : ℕ) → m < n → m ≢ n
less_is_other m n h e = omega arith

-- the first byte of a body that is one name
abbrev first_byte : Body → ℕ
first_byte (of_types (named (call n ts))) = slice_index_or n 0 0
first_byte _ = 0

other_body : (c d : Definition) → first_byte c.body ≢ first_byte d.body → c ≢ d
other_body c d h e = h (ap (λ (x : Definition). first_byte x.body) e)

pub defined_twice : (worth : Values) → IsFaultAt T.twice worth C.Duplicate 8
defined_twice worth = F.other_equals (1, omega arith, refl) refl refl (other_body _ _ (more_is_other 105 116 (omega arith))) refl

pub two_kinds : (worth : Values) → IsFaultAt T.type_and_group worth C.KindClash 8
unfolding prelude
two_kinds worth = record { rule = _; present = (1, omega arith, refl); clash = λ e. false≢true (sym e); offset = refl }

pub undefined : (worth : Values) → IsFaultAt T.undefined worth C.Undefined 4
unfolding prelude
undefined worth = record { rule = _; ref = T.a_ref 4 (codes "b"); found = record { at = a_name false (T.a_ref 4 (codes "b")); found = record { rule = (0, omega arith, refl); site = (0, omega arith, refl) }; name = refl }; no_parameter = refl; no_socket = refl; no_definition = refl; offset = refl }

pub with_argument : (worth : Values) → IsFaultAt T.with_argument worth C.Arity 4
unfolding prelude
with_argument worth = F.by_name {f = T.applied 4 (codes "s<") (T.name 6 (codes "int"))} (record { at = a_name false (T.applied 4 (codes "s<") (T.name 6 (codes "int"))); found = record { rule = (0, omega arith, refl); site = (0, omega arith, refl) }; name = refl }) refl refl (more_is_other 0 1 (omega arith)) refl

pub no_rule : (worth : Values) → IsFaultAt T.empty worth C.NoRoot 0
no_rule worth = F.no_rule refl refl

pub group_root : (worth : Values) → IsFaultAt T.group_root worth C.BadRoot 0
unfolding prelude
group_root worth = record { root = codes "a"; rule = _; rooted = refl; first = refl; bad = inl refl; offset = refl }

pub group_in_choice : (worth : Values) → IsFaultAt T.group_in_choice worth C.GroupAsType 4
unfolding prelude
group_in_choice worth = F.group_name (record { rule = (0, omega arith, refl); site = (0, omega arith, refl) }) refl refl

pub choice_of_type : (worth : Values) → IsFaultAt T.choice_of_type worth C.GroupAsType 5
unfolding prelude
choice_of_type worth = F.type_name (record { rule = (0, omega arith, refl); site = (0, omega arith, refl) }) refl refl

pub bare_tag : (worth : Values) → IsFaultAt T.bare_tag worth C.HashForm 4
unfolding digit_value
bare_tag worth = record { rule = _; token = T.token K.Hash 4 (codes "#6.32"); found = record { rule = (0, omega arith, refl); site = (0, omega arith, refl) }; bad = inl (less_is_other 6 7 (omega arith)); offset = refl }

pub with_regexp : (worth : Values) → IsFaultAt T.with_regexp worth C.UnknownControl 9
with_regexp worth = record { rule = _; left = _; token = T.token K.Control 9 (codes ".regexp"); right = _; found = record { rule = (0, omega arith, refl); site = (0, omega arith, refl) }; unknown = refl; offset = refl }

pub unwrapped_int : (worth : Values) → IsFaultAt T.unwrapped_int worth C.NotUnwrappable 5
unfolding prelude
unwrapped_int worth = F.opens_nothing (in_body (record { reached = at_root; named = refl; present = (0, omega arith, refl) }) (1, omega arith, refl)) refl refl

pub unwrapped_argument : (worth : Values) → IsFaultAt T.unwrapped_argument worth C.NotUnwrappable 6
unfolding prelude
unwrapped_argument worth = F.opens_nothing (in_argument (in_body (record { reached = at_root; named = refl; present = (0, omega arith, refl) }) (0, omega arith, refl)) refl (used 0 refl refl (in_body (record { reached = onward at_root (0, omega arith, refl) refl; named = refl; present = (1, omega arith, refl) }) (0, omega arith, refl)) refl refl refl) (0, omega arith, refl)) refl refl

pub choice_of_maybe : (worth : Values) → IsFaultAt T.choice_of_maybe worth C.NotUnwrappable 4
choice_of_maybe worth = F.chooses_from_none (in_body (record { reached = at_root; named = refl; present = (0, omega arith, refl) }) (0, omega arith, refl)) refl refl

pub first_itself : (worth : Values) → IsFaultAt T.first_itself worth C.Recursion 0
unfolding prelude
first_itself worth = F.at_rule (record { point = at_name (call (codes "t") no_terms); cycle = record { back = record { instance = at_root; way = at_once (by_type refl (0, omega arith, refl) (name refl)) }; counts = inl refl }; first = refl }) refl

pub chosen_by_name : (worth : Values) → IsFaultAt T.chosen_by_name worth C.Recursion 7
unfolding prelude
chosen_by_name worth = F.at_rule (record { point = at_choice (call (codes "b") no_terms); cycle = record { back = record { instance = onward at_root (0, omega arith, refl) refl; way = onwards (by_choice refl) (onwards (by_chosen_name refl (of_this (of_last (of_keyed (name refl))))) (at_once (by_type refl (0, omega arith, refl) (choice_by_name refl)))) }; counts = inl refl }; first = refl }) refl

pub group_first_itself : (worth : Values) → IsFaultAt (T.two_rules T.r_of_g T.maybe_int_then_g) worth C.Recursion 8
unfolding prelude
group_first_itself worth = F.at_rule (record { point = at_name (call (codes "g") no_terms); cycle = record { back = record { instance = onward at_root (0, omega arith, refl) refl; way = at_once (by_group refl (in_this (in_last (all_may none_left (no_time refl)) (group_name refl refl)))) }; counts = inl refl }; first = refl }) refl

pub to_text : (worth : Values) → IsFaultAt T.to_text worth C.BadRange 7
unfolding prelude
to_text worth = F.last_end (in_body (record { reached = at_root; named = refl; present = (0, omega arith, refl) }) (0, omega arith, refl)) refl refl refl

pub to_parameter : (worth : Values) → IsFaultAt T.to_parameter worth C.BadRange 22
unfolding prelude
to_parameter worth = F.last_end (in_body (record { reached = onward at_root (0, omega arith, refl) refl; named = refl; present = (1, omega arith, refl) }) (0, omega arith, refl)) refl refl refl

pub three_to_two : (worth : Values) → IsFaultAt T.three_to_two worth C.BadRange 5
unfolding digit_value
three_to_two worth = F.bounds (in_body (record { reached = at_root; named = refl; present = (0, omega arith, refl) }) (0, omega arith, refl)) refl (omega arith) refl
