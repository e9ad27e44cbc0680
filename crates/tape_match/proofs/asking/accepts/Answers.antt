use Rattle.std.proofs.Common.{subst}
use Rattle.cddl_meaning.specs.Judges.{Says, Yes}
use Rattle.table_nodes.specs.Language.{language_of}
use Rattle.tape_match.proofs.asking.accepts.Goals as goal

pub returns-in-Yes : goal.returns-in-Yes
returns-in-Yes c = λ is depth n whole.
    let l = language_of c.args.table.now in
    (c.in-Yes.field-0, subst (λ root. Says l (l.type_at root) 0 whole.value Yes c.in-Yes.field-0) c.root.ensures (c.in-Yes.ensures.told whole.value (c.new.ensures depth n whole) 0), c.in-Yes.ensures.within)
