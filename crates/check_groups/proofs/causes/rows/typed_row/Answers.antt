use Rattle.std.proofs.Common.{refl, sym, subst}
use Rattle.cddl_language.specs.Kinds.{part_of}
use Rattle.cddl_language.specs.Terms.{typed}
use Rattle.check_terms.specs.Table.{Holds}
use Rattle.check_terms.specs.Trees.{term_tree}
use Rattle.check_groups.specs.Causes.Rows.{IsEntryRow}
use Rattle.check_groups.proofs.OfCauses.Parts.{part_stands}
use Rattle.check_groups.proofs.OfCauses.Rows.{no_term}
use Rattle.check_groups.proofs.causes.rows.typed_row.Goals as goal

pub returns-in_default : goal.returns-in_default
returns-in_default c xs root refs k o x i h r = absurd (no_term c.args.terms.now x (subst (λ n. Holds c.args.terms.now n (term_tree x)) c.in_default.is h))

pub returns : goal.returns
returns c xs root refs k o x i h r =
    let t = c.args.terms.now in
    let is = subst (λ n. Holds t n (term_tree x)) c.in-Some.is h in
    subst (IsEntryRow xs root t (typed o x)) (sym c.part_row.ensures) (part_stands xs root t refs c.args.closed.now.meanings.items (k.closed).meanings o c.args.row.text i x (λ q e. c.part_is_reached.ensures.named xs root x q r e) (λ q g e. c.part_is_reached.ensures.group xs root x q g r e) (part_of xs x) refl c.part_of-part.result (c.part_of-part.ensures xs root refs x k.closed k.kinds k.openings is r))
