use Rattle.cddl_meaning.specs.Alike.{entries, group_refs}
use Rattle.cddl_language.specs.Reach.{key_points, points}
use Rattle.check_instances.specs.Closed.Closed.{alternatives_of}
use Rattle.table_making.specs.Origins.{IsKnownEntry, IsRoundForm, of_alternatives, of_row}
use Rattle.table_making.specs.declared.form.GroupForm.TheVariants as G
use Rattle.table_making.specs.declared.origin.GroupOrigin.TheVariants as GO
use Rattle.table_making.specs.declared.origin.TypeOrigin.TheVariants as O
use Rattle.std.proofs.Common.{None, Some}
use Rattle.table_making.proofs.Forming.{grouped_case, keyed_case, other_entry_case, typed_case}
use Rattle.table_making.proofs.Knowing.{group_known}
use Rattle.table_making.proofs.Reaching.{reached_right}
use Rattle.table_making.proofs.groups.round_form.Goals as goal

pub returns-in-Typed : goal.returns-in-Typed
returns-in-Typed c s e src is re = typed_case c.args.terms.now (λ y. IsKnownEntry s y → IsRoundForm s c.args.terms.now y c.part_form.result) e c.in-Typed.part (c.in-Typed.ensures e is) (λ o x h q. c.part_form.ensures s x src h q) re

pub returns-in-Keyed : goal.returns-in-Keyed
returns-in-Keyed c s e src is re = keyed_case c.args.terms.now (λ y. IsKnownEntry s y → IsRoundForm s c.args.terms.now y (G.Entry (O.Row c.in-Keyed.part))) e c.in-Keyed.part (c.in-Keyed.ensures e is) (λ o k x h q. entries (of_row h (reached_right s (key_points k) (points x) q.0) q.1.1)) re

pub returns-in-Grouped : goal.returns-in-Grouped
returns-in-Grouped c s e src is re = grouped_case c.args.terms.now (λ y. IsKnownEntry s y → IsRoundForm s c.args.terms.now y (G.Ref (GO.Alternatives (Some c.in-Grouped.group)))) e c.in-Grouped.group (c.in-Grouped.ensures e is) (λ o g h q. group_refs (of_alternatives (alternatives_of g h) (group_known s g q).0 (group_known s g q).1)) re

pub returns-in-Other : goal.returns-in-Other
returns-in-Other c s e src is re = other_entry_case c.args.terms.now (λ y. IsRoundForm s c.args.terms.now y (G.Ref (GO.Alternatives None))) e (c.in-Other.ensures e is)
