use Rattle.source_places.specs.States.{by_unwrapping, named}
use Rattle.source_places.proofs.Stepping.{by_number, name_flag, none_then, ok_then, other_flag, some_then, unwrapped_number}
use Rattle.source_places.proofs.sources.TypesInText.entry_called.Goals as goal

pub returns-then-name-clause-some : goal.returns-then-name-clause-some
returns-then-name-clause-some c =
    let name = name_flag c.args.around c.in-Some.name _ c.in-Some.is c.if-name.true in
    ok_then c.entry_unwrapped.result _ _ (λ o f. some_then o _ _ (λ a h. by_unwrapping (record { called = c.in-Some.name.number; is_called = name; is = h })) f) c.entry_unwrapped.ensures.some

pub returns-then-name-clause-none : goal.returns-then-name-clause-none
returns-then-name-clause-none c =
    let name = name_flag c.args.around c.in-Some.name _ c.in-Some.is c.if-name.true in
    ok_then c.entry_unwrapped.result _ _ (λ o f. none_then o _ _ (λ none a. (λ h. other_flag h.is_name name, λ h. none a (unwrapped_number c.args.self.now c.args.around c.in-Some.name.number c.args.alternative c.args.place a name h))) f) c.entry_unwrapped.ensures.none

pub returns-else-name-clause-some : goal.returns-else-name-clause-some
returns-else-name-clause-some c =
    let name = name_flag c.args.around c.in-Some.name _ c.in-Some.is c.if-name.false in
    some_then c.entry_named.result _ _ (λ a h. named (record { name = c.in-Some.name.number; is_name = name; is = h })) c.entry_named.ensures.some

pub returns-else-name-clause-none : goal.returns-else-name-clause-none
returns-else-name-clause-none c =
    let name = name_flag c.args.around c.in-Some.name _ c.in-Some.is c.if-name.false in
    none_then c.entry_named.result _ _ (λ none a. (λ h. none a (by_number c.args.self.now c.args.around c.in-Some.name.number c.args.alternative c.args.place a name h), λ h. other_flag name h.is_called)) c.entry_named.ensures.none
