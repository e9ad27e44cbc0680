use Rattle.std.proofs.Common.{◌++◌, option_map, string_bytes, subst, ap, ◌∙◌}
use Rattle.std.proofs.lemmas.Result.{IfOk-weaker}
use Rattle.cddl_explain.specs.Further.{AreExplained}
use Rattle.cddl_explain.proofs.further.further_faults.Goals as goal

pub returns : goal.returns
returns c =
    IfOk-weaker c.format.result _ _
    (λ told h. record {
      ts = c.in_ok-tokens.tokens.items;
      are_tokens = c.in_ok-tokens.ensures.tokens;
      places = string_bytes c.in_ok-places.places;
      are_explained = subst (λ ts. AreExplained c.args.code c.args.already c.args.file.now c.args.text.now ts (option_map (λ r. r.now) c.args.root) c.args.offsets.now (string_bytes c.in_ok-places.places)) c.as_slice.ensures.value c.in_ok-places.ensures;
      is = h ∙ ap (λ line. string_bytes c.in_ok-places.places ++ line) c.in_ok-line.ensures;
    })
    c.format.ensures.ok
