use Rattle.std.proofs.Common.{sym, subst, arith}
use Rattle.table_nodes.specs.Language.{language_of}
use Rattle.tape_match.specs.Says.{DoesAs}
use Rattle.tape_match.proofs.Says.{does_itself, does_on}
use Rattle.tape_match.proofs.asking.behind_group_names.Goals as goal

pub loop-names-init : goal.loop-names-init
loop-names-init c = record { few = omega arith; stands = does_itself (language_of c.args.table.now) ((language_of c.args.table.now).group_at c.args.group) }

pub loop-names-preserved : goal.loop-names-preserved
loop-names-preserved c =
    let l = language_of c.args.table.now in
    let to = c.in-Some-group_named.to in
    let one = subst (λ f. DoesAs l f (l.group_at to) 1) (sym c.in-Some.ensures.found) (c.in-Some-group_named.ensures l) in
    record { few = omega arith; stands = does_on l (l.group_at c.args.group) (l.group_at c.loop-names.at) (l.group_at to) c.loop-names.names 1 c.loop-names.invariant.stands one }
