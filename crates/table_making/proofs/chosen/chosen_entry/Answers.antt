use Rattle.cddl_language.specs.Language.{chosen_name}
use Rattle.cddl_language.specs.Reach.{key_points, points}
use Rattle.check_groups.specs.Choosing.Nesting.{IsChosenEntry}
use Rattle.check_instances.specs.Closed.Closed.{alternatives_of}
use Rattle.table_making.specs.Origins.{IsKnownEntry, IsTypeOrigin, of_chosen, of_row}
use Rattle.table_making.specs.declared.origin.TypeOrigin.TheVariants as O
use Rattle.std.proofs.Common.{None, Some}
use Rattle.table_making.proofs.Forming.{grouped_case, keyed_case, other_entry_case, typed_case}
use Rattle.table_making.proofs.Knowing.{group_known}
use Rattle.table_making.proofs.Reaching.{reached_right}
use Rattle.table_making.proofs.chosen.chosen_entry.Goals as goal

pub returns-in-Typed : goal.returns-in-Typed
returns-in-Typed c s e src is re can = typed_case c.args.terms.now (λ y. IsKnownEntry s y → IsChosenEntry s.definitions y → IsTypeOrigin s c.args.terms.now (chosen_name s.worth s.definitions y) c.chosen_part.result) e c.in-Typed.row (c.in-Typed.ensures e is) (λ o x h q may. c.chosen_part.ensures s x src h q may) re can

pub returns-in-Keyed : goal.returns-in-Keyed
returns-in-Keyed c s e src is re can = keyed_case c.args.terms.now (λ y. IsKnownEntry s y → IsChosenEntry s.definitions y → IsTypeOrigin s c.args.terms.now (chosen_name s.worth s.definitions y) (O.Row c.in-Keyed.row)) e c.in-Keyed.row (c.in-Keyed.ensures e is) (λ o k x h q may. of_row h (reached_right s (key_points k) (points x) q.0) q.1.1) re can

pub returns-in-Grouped : goal.returns-in-Grouped
returns-in-Grouped c s e src is re can = grouped_case c.args.terms.now (λ y. IsKnownEntry s y → IsChosenEntry s.definitions y → IsTypeOrigin s c.args.terms.now (chosen_name s.worth s.definitions y) (O.Chosen (Some c.in-Grouped.group))) e c.in-Grouped.group (c.in-Grouped.ensures e is) (λ o g h q may. of_chosen (alternatives_of g h) (group_known s g q).0 (group_known s g q).1 may) re can

pub returns-in-Other : goal.returns-in-Other
returns-in-Other c s e src is re can = other_entry_case c.args.terms.now (λ y. IsTypeOrigin s c.args.terms.now (chosen_name s.worth s.definitions y) (O.Chosen None)) e (c.in-Other.ensures e is)
