use Rattle.std.proofs.Common.{subst, sym, IfOk}
use Rattle.std.specs.Option.{option_map}
use Rattle.cddl_literal.specs.Literals.{view}
use Rattle.cddl_language.specs.Literals.{Means}
use Rattle.check_literals.specs.Values.Values.{Answers, literal_of}
use Rattle.check_literals.proofs.values.value_of.Goals as goal

pub returns-in-Number : goal.returns-in-Number
returns-in-Number c = subst (λ w. Answers (Means (literal_of w)) (option_map view c.number_value.result)) (sym c.in-Number.is) c.number_value.ensures

pub returns-in-Text : goal.returns-in-Text
returns-in-Text c = subst (λ w. IfOk c.text_value.result (λ o. Answers (Means (literal_of w)) (option_map view o))) (sym c.in-Text.is) c.text_value.ensures

pub returns-in-Bytes : goal.returns-in-Bytes
returns-in-Bytes c = subst (λ w. IfOk c.bytes_value.result (λ o. Answers (Means (literal_of w)) (option_map view o))) (sym c.in-Bytes.is) c.bytes_value.ensures
