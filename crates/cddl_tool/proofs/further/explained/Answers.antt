use Rattle.std.proofs.Common.{option_map, string_bytes, subst}
use Rattle.std.proofs.lemmas.Result.{IfOk-weaker}
use Rattle.cddl_tool.specs.Further.{AreBesides}
use Rattle.cddl_tool.proofs.further.explained.Goals as goal

pub returns : goal.returns
returns c =
    IfOk-weaker c.format.result _ _
    (λ told h. record {
      first = string_bytes c.in_ok-first.first;
      is_first = c.in_ok-first.ensures;
      faults = c.in_ok-faults.faults.items;
      are_faults = c.in_ok-faults.ensures;
      besides = string_bytes c.in_ok-besides.besides;
      are_besides = subst (λ ls. AreBesides c.args.fault c.args.file.now c.args.text.now (option_map (λ r. r.now) c.args.root) ls (string_bytes c.in_ok-besides.besides)) c.deref.ensures.value c.in_ok-besides.ensures;
      is = h;
    })
    c.format.ensures.ok
