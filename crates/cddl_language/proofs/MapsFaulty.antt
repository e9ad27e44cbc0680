-- Faults of small maps, each at its byte.
use Rattle.std.specs.Prelude.{codes, [], None, unwrap_or}
use Rattle.std.proofs.Common.{inl, refl, arith}
use Rattle.cddl_token.specs.declared.Kind.TheVariants as K
use Rattle.cddl_literal.specs.Numbers.{digit_value}
use Rattle.tree_nodes.specs.Syntax.Syntax as S
use Rattle.cddl_language.specs.Prelude.{prelude}
use Rattle.cddl_language.specs.Reach.{at_root}
use Rattle.cddl_language.specs.Reading.{definitions_in, group_of, rules_of}
use Rattle.cddl_language.specs.Sites.{in_body}
use Rattle.cddl_language.specs.MapFaults.{HasNoKey, HasMapShape, HasTooManyAlternatives, whole, asks, at_once, through, itself, never, of_opened, by_itself, by_group, its_own, with_these, comes_back, occurs_badly, of_map, of_name}
use Rattle.cddl_language.specs.MapFaults as F
use Rattle.cddl_language.specs.Maps.{Alternatives, alternatives_of}
use Rattle.cddl_language.specs.Terms.{alternatives}
use Rattle.cddl_language.specs.Texts as T

pub without_key : HasNoKey (rules_of T.map_of_int.tree) (codes "a") 5
unfolding prelude
without_key = record { rule = _; arguments = _; owner = None; entry = T.once (T.name 5 (codes "int")); spliced = of_map (in_body (record { reached = at_root; named = refl; present = (0, omega arith, refl) }) (0, omega arith, refl)) (0, omega arith, refl); lacks = asks refl; offset = refl }

pub of_pairs : HasMapShape (rules_of T.map_of_pairs.tree) (codes "m") 6
unfolding prelude digit_value
of_pairs = occurs_badly (of_map (in_body (record { reached = at_root; named = refl; present = (0, omega arith, refl) }) (0, omega arith, refl)) (0, omega arith, refl)) (with_these refl refl refl) refl

pub back : HasMapShape (rules_of (T.two_rules T.map_of_g T.g_of_itself).tree) (codes "m") 23
unfolding prelude
back = comes_back (of_name (of_map (in_body (record { reached = at_root; named = refl; present = (0, omega arith, refl) }) (0, omega arith, refl)) (0, omega arith, refl)) refl (1, omega arith, refl) refl (1, omega arith, refl)) (by_itself refl) refl

pub in_parens : HasMapShape (rules_of (T.two_rules T.map_of_g T.g_in_parens).tree) (codes "m") 23
unfolding prelude
in_parens = comes_back (of_name (of_map (in_body (record { reached = at_root; named = refl; present = (0, omega arith, refl) }) (0, omega arith, refl)) (0, omega arith, refl)) refl (1, omega arith, refl) refl (1, omega arith, refl)) (by_group refl (its_own (0, omega arith, refl)) refl) refl

ten : Alternatives
unfolding prelude digit_value
ten = unwrap_or (alternatives_of (definitions_in (rules_of T.map_of_ten.tree)) (alternatives (group_of (S.sole (T.either_so_often 10))))) []

pub too_many : HasTooManyAlternatives (rules_of T.map_of_ten.tree) (codes "m") 4
unfolding prelude digit_value ten
too_many = record { rule = _; arguments = _; token = T.token K.BraceOpen 4 (codes "{"); group = _; reached = in_body (record { reached = at_root; named = refl; present = (0, omega arith, refl) }) (0, omega arith, refl); many = record { part = _; is_part = whole; alternatives = ten; stands_for = refl; too_many = inl (omega arith) }; offset = refl }

pub in_opened : HasNoKey (rules_of (T.two_rules T.map_of_opened T.two_ints).tree) (codes "m") 16
unfolding prelude
in_opened = record { rule = T.two_ints; arguments = _; owner = _; entry = T.once (T.name 16 (codes "int")); spliced = of_opened (of_map (in_body (record { reached = at_root; named = refl; present = (0, omega arith, refl) }) (0, omega arith, refl)) (0, omega arith, refl)) refl (at_once (1, omega arith, refl) refl (F.in_parens itself) refl) (0, omega arith, refl); lacks = asks refl; offset = refl }

pub twice : HasMapShape (rules_of T.map_of_twice.tree) (codes "m") 6
unfolding prelude digit_value
twice = occurs_badly (of_map (in_body (record { reached = at_root; named = refl; present = (0, omega arith, refl) }) (0, omega arith, refl)) (0, omega arith, refl)) (never refl refl) refl

pub behind_prelude : HasNoKey (rules_of (T.two_rules T.map_of_bytes T.bstr_is_map).tree) (codes "m") 23
unfolding prelude
behind_prelude = record { rule = T.bstr_is_map; arguments = _; owner = _; entry = T.once (T.name 23 (codes "int")); spliced = of_opened (of_map (in_body (record { reached = at_root; named = refl; present = (0, omega arith, refl) }) (0, omega arith, refl)) (0, omega arith, refl)) refl (through refl refl refl refl (at_once (1, omega arith, refl) refl itself refl)) (0, omega arith, refl); lacks = asks refl; offset = refl }
