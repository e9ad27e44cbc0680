use Rattle.std.proofs.Common.{◌≡◌, ◌∙◌, [], ◌++◌, ap, option_map, string_bytes, subst, sym}
use Rattle.cddl_tool.specs.Further.{AreBesides, no_code}
use Rattle.cddl_tool.proofs.Besides.{one_code_more, take_one_more}
use Rattle.cddl_tool.proofs.further.besides.Goals as goal

pub fault-init : goal.fault-init
fault-init c = subst (λ told. AreBesides c.args.fault c.args.file.now c.args.text.now (option_map (λ r. r.now) c.args.root) [] told) (sym c.new-told.ensures.bytes) no_code

pub fault-preserved : goal.fault-preserved
fault-preserved c =
    let pushed : string_bytes c.push_str.new.self ≡ string_bytes c.fault.told ++ string_bytes c.in_ok-part.part = c.in_ok-push_str.ensures.bytes ∙ ap (λ l. string_bytes c.fault.told ++ l) c.as_str.ensures.value in
    one_code_more _ _ _ _ _ _ _ _ c.listed_at.result.now _ (take_one_more c.args.faults.now c.fault.k c.listed_at.result.now c.listed_at.ensures) pushed c.in_ok-part.ensures c.fault.invariant
