use Rattle.std.proofs.Common.{◌≡◌, ℕ, IfOk, sym, subst}
use Rattle.source_pieces.proofs.Nodes.{group_count, grouped_count, keyed_count, typed_count}
use Rattle.source_pieces.proofs.rules.own_count.Goals as goal

pub returns-in-Typed : goal.returns-in-Typed
returns-in-Typed c = λ read. sym (typed_count read _ _ _ c.in-Typed.is)

pub returns-in-Keyed : goal.returns-in-Keyed
returns-in-Keyed c = λ read. sym (keyed_count read _ _ _ _ c.in-Keyed.is)

pub returns-in-Some : goal.returns-in-Some
returns-in-Some c = λ read. sym (grouped_count read _ c.in-Grouped.occur c.in-Some.field-0 c.in-Grouped.opening c.in-Grouped.group c.in-Grouped.closing c.in-Grouped.is c.in-Some.is)

pub returns-in-None : goal.returns-in-None
returns-in-None c = λ read. subst (λ (n : ℕ). IfOk c.count_of.result (λ m. m ≡ n)) (sym (group_count read _ c.in-Grouped.occur c.in-Grouped.opening c.in-Grouped.group c.in-Grouped.closing c.in-Grouped.is c.in-None.is)) (c.count_of.ensures read)
