use Rattle.std.proofs.Common.{option_map, string_bytes, subst}
use Rattle.std.proofs.lemmas.Result.{IfOk-weaker}
use Rattle.cddl_explain.specs.Refusals.{IsExplainedPlace}
use Rattle.cddl_explain.proofs.refusals.explained_refusal.Goals as goal

pub returns : goal.returns
returns c =
    IfOk-weaker c.format.result _ _
    (λ told h. record {
      ts = c.in_ok-tokens.tokens.items;
      are_tokens = c.in_ok-tokens.ensures.tokens;
      place = string_bytes c.in_ok-place.place;
      is_place = subst (λ ts. IsExplainedPlace c.args.code c.args.offset c.args.file.now c.args.text.now ts (option_map (λ r. r.now) c.args.root) (string_bytes c.in_ok-place.place)) c.as_slice.ensures.value c.in_ok-place.ensures;
      is = h;
    })
    c.format.ensures.ok
