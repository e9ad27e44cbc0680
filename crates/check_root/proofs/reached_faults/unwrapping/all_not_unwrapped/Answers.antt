use Rattle.std.proofs.Common.{sym, subst}
use Rattle.std.proofs.lemmas.Result.{IfOk-weaker}
use Rattle.tree_nodes.specs.Syntax.Syntax as S
use Rattle.cddl_language.specs.Faults.{rules}
use Rattle.cddl_language.specs.Reading.{definitions_in, rules_of}
use Rattle.check_text.specs.SiteFaults.Unwrapped.{IsWrongTilde}
use Rattle.check_text.specs.SiteFaults.Told.{Among, AreSpoken}
use Rattle.all_offsets.specs.Offsets.{AreOffsets}
use Rattle.check_root.proofs.OfReachedFaults.Tildes.{all_tildes, spoken}
use Rattle.check_root.proofs.reached_faults.unwrapping.all_not_unwrapped.Goals as goal

pub returns : goal.returns
returns c = IfOk-weaker c.wrong_tildes.result _ _ (λ v told t tree s root e survey are.
    let ws = c.args.reached.now in
    let instances = c.reached_sites.ensures.instance (rules s) root in
    let so = subst (λ (x : S.Cddl). AreSpoken t (rules_of x) ws) e (spoken s root instances t ws are) in
    all_tildes s root instances t ws are v.items (subst (λ (x : S.Cddl). AreOffsets (Among t (rules_of x) (IsWrongTilde (definitions_in (rules_of x))) ws) v.items) (sym e) (told t tree survey so))) c.wrong_tildes.ensures
