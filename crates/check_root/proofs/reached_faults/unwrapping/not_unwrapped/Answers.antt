use Rattle.std.proofs.Common.{sym, subst}
use Rattle.std.proofs.lemmas.Result.{IfOk-weaker}
use Rattle.tree_nodes.specs.Syntax.Syntax as S
use Rattle.cddl_language.specs.Faults.{rules}
use Rattle.cddl_language.specs.Reading.{definitions_in, rules_of}
use Rattle.check_text.specs.SiteFaults.Unwrapped.{IsWrongTilde}
use Rattle.check_text.specs.SiteFaults.Told.{Among, AreSpoken}
use Rattle.lists.specs.Least.{IsLeast}
use Rattle.check_root.proofs.OfReachedFaults.Tildes.{least_tilde, spoken}
use Rattle.check_root.proofs.reached_faults.unwrapping.not_unwrapped.Goals as goal

pub returns : goal.returns
returns c = IfOk-weaker c.wrong_tilde.result _ _ (λ o told t tree s root e survey are.
    let ws = c.args.reached.now in
    let instances = c.reached_sites.ensures.instance (rules s) root in
    let so = subst (λ (x : S.Cddl). AreSpoken t (rules_of x) ws) e (spoken s root instances t ws are) in
    least_tilde s root instances t ws are o (subst (λ (x : S.Cddl). IsLeast (Among t (rules_of x) (IsWrongTilde (definitions_in (rules_of x))) ws) o) (sym e) (told t tree survey so))) c.wrong_tilde.ensures
