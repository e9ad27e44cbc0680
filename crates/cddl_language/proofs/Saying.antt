-- What the language of small specifications says of items.
use Rattle.std.specs.Prelude.{◌≡◌, ℕ, suc, false, if◌then◌else◌, Some, map, List, [], ◌∷◌, codes}
use Rattle.std.proofs.Common.{refl, sym, ap, ◌∙◌, subst, arith}
use Rattle.cbor_data.specs.Value.{Value, uint, text, array, pairs, pair, no_pairs, value, no_values}
use Rattle.cddl_literal.specs.Numbers.{Meaning, UintOf, digit_value}
use Rattle.cddl_meaning.proofs.Lemmas.{value_shows}
use Rattle.cddl_meaning.specs.Forms.{Node, Plain}
use Rattle.cddl_meaning.specs.Forms as F
use Rattle.cddl_meaning.specs.Judges as J
use Rattle.cddl_language.specs.Examples as E
use Rattle.cddl_language.specs.Kinds.{is_group}
use Rattle.cddl_language.specs.Language.{TypeName, GroupName, between, language, nothing, reference, type, type_node, word}
use Rattle.cddl_language.specs.Literals.{Values, whole}
use Rattle.cddl_language.specs.Prelude.{plain, prelude}
use Rattle.cddl_language.specs.Substitution.{type_choices}
use Rattle.cddl_language.specs.Terms.{Term, Ref, Definition, hash, map_of, name_of, named, number}

-- the name of a type says what the choice of these types says, where it is what the name means
named_says : (worth : Values) (ds : List Definition) (r : Ref) (ts : List Term) (p w : ℕ) (x : Value) (a : J.Answer) → is_group ds (name_of r) ≡ false → type_choices ds r ≡ ts → J.Chooses (language worth ds) (map type ts) p x p a w → J.Says (language worth ds) (type_node worth ds (type (named r))) p x a (suc (suc w))
named_says worth ds r ts p w x a k e h = subst (λ b. J.Says (language worth ds) (if b then nothing else F.Ref (reference r)) p x a (suc (suc w))) (sym k) (J.ref (J.choice (subst (λ us. J.Chooses (language worth ds) (map type us) p x p a w) (sym e) h)))

uint_is_type : is_group [] (codes "uint") ≡ false
unfolding prelude
uint_is_type = refl

uint_is : type_choices [] (E.a_ref (codes "uint")) ≡ hash (codes "#0") ∷ []
unfolding prelude
uint_is = refl

int_is_type : is_group [] (codes "int") ≡ false
unfolding prelude
int_is_type = refl

int_is : type_choices [] (E.a_ref (codes "int")) ≡ plain (codes "uint") ∷ plain (codes "nint") ∷ []
unfolding prelude
int_is = refl

uint_takes_one : (worth : Values) (p : ℕ) → J.Says (language worth []) (type_node worth [] (type (plain (codes "uint")))) p (uint 1) J.Yes 3
unfolding digit_value
uint_takes_one worth p = named_says worth [] (E.a_ref (codes "uint")) (hash (codes "#0") ∷ []) p 1 (uint 1) J.Yes uint_is_type uint_is (J.this_one (J.passed refl))

-- `int` says yes to 1, by the prelude
pub int_takes_one : (worth : Values) (p : ℕ) → J.Says (language worth []) (type_node worth [] (type E.int)) p (uint 1) J.Yes 5
int_takes_one worth p = named_says worth [] (E.a_ref (codes "int")) (plain (codes "uint") ∷ plain (codes "nint") ∷ []) p 3 (uint 1) J.Yes int_is_type int_is (J.this_one (uint_takes_one worth p))

-- `[* int, int]` says no to `[1]`: what the first entry has taken it does not give back
pub greedy : (worth : Values) → J.Says (language worth []) (type_node worth [] (type E.ints_then_int)) 0 (array (value (uint 1) no_values)) (J.No 0) 12
unfolding prelude
greedy worth = J.array refl (J.alternatives (J.or_else (J.sequence (J.and_then (J.repeat (J.round refl (J.matches (int_takes_one worth 1)) (λ h. omega arith) (J.enough refl J.missing))) (J.one_fails J.missing))) J.all_fail)) J.failed

tstr_is_type : is_group E.tagged_text (codes "tstr") ≡ false
unfolding prelude
tstr_is_type = refl

tstr_is : type_choices E.tagged_text (E.a_ref (codes "tstr")) ≡ hash (codes "#3") ∷ []
unfolding prelude
tstr_is = refl

tstr_takes_a : (worth : Values) (p : ℕ) → J.Says (language worth E.tagged_text) (type_node worth E.tagged_text (type E.tstr)) p (text (codes "a")) J.Yes 3
unfolding digit_value
tstr_takes_a worth p = named_says worth E.tagged_text (E.a_ref (codes "tstr")) (hash (codes "#3") ∷ []) p 1 (text (codes "a")) J.Yes tstr_is_type tstr_is (J.this_one (J.passed refl))

-- `[~u]` says yes to `["a"]`, where `u = #6.32(tstr)`
pub opened_text : (worth : Values) → J.Says (language worth E.tagged_text) (type_node worth E.tagged_text (type E.opened_text)) 0 (array (value (text (codes "a")) no_values)) J.Yes 8
unfolding prelude
opened_text worth = J.array refl (J.alternatives (J.one_takes (J.sequence (J.and_then (J.matches (J.ref (tstr_takes_a worth 1))) J.all_done)))) J.whole

below : (m n : Meaning) → m ≡ UintOf 1 → n ≡ UintOf 3 → between false (whole (Some m)) (whole (Some n)) ≡ Plain (F.between (uint 1) (uint 3) false)
below m n e f = ap (λ x. between false (whole (Some x)) (whole (Some n))) e ∙ ap (λ y. between false (whole (Some (UintOf 1))) (whole (Some y))) f

-- `1...3` says no to 3
pub below_three : (worth : Values) → worth (number (codes "1")) ≡ UintOf 1 → worth (number (codes "3")) ≡ UintOf 3 → J.Says (language worth []) (type_node worth [] (type E.below_three)) 0 (uint 3) (J.No 0) 1
below_three worth one three = subst (λ (n : Node TypeName GroupName). J.Says (language worth []) n 0 (uint 3) (J.No 0) 1) (sym (below (worth (number (codes "1"))) (worth (number (codes "3"))) one three)) (J.missed refl)

-- `&(x: int, y: tstr)` says yes to 1, by its first type
pub one_of_two : (worth : Values) → J.Says (language worth []) (type_node worth [] (type E.one_of_two)) 0 (uint 1) J.Yes 6
one_of_two worth = J.choice (J.this_one (int_takes_one worth 0))

-- the key of `x: int` is one value
x_shows : (worth : Values) → F.key_in (type_node worth []) F.most_forms (word (codes "x")) ≡ Some (text (codes "x"))
x_shows worth = value_shows (type_node worth []) F.most_forms (word (codes "x")) (text (codes "x")) refl

-- `{x: int}` says yes to `{"x": 1}`
pub takes_x : (worth : Values) → J.Says (language worth []) (type_node worth [] (type (map_of E.x_int))) 0 (pairs (pair (text (codes "x")) (uint 1) no_pairs)) J.Yes 10
takes_x worth = J.map refl (J.alternative (J.sort (J.asked (ap (λ o. F.is_other o (text (codes "x"))) (x_shows worth)) (J.here (J.passed refl) (int_takes_one worth 2))) J.all_sorted) J.no_alternative)

-- and no to `{"y": 1}`, at the key
pub strays : (worth : Values) → J.Says (language worth []) (type_node worth [] (type (map_of E.x_int))) 0 (pairs (pair (text (codes "y")) (uint 1) no_pairs)) (J.No 1) 3
strays worth = J.map refl (J.alternative (J.sort (J.passed_over (ap (λ o. F.is_other o (text (codes "y"))) (x_shows worth)) J.nowhere) J.all_sorted) J.no_alternative)
