use Rattle.std.proofs.Common.{◌≡◌, [], ◌∷◌, ◌++◌, ap, map, rules, subst, sym, take, ◌∙◌}
use Rattle.std.proofs.lemmas.List.{map-append, take_more}
use Rattle.cddl_language.specs.Faults.{IsFaultAt}
use Rattle.all_offsets.specs.Offsets.{AreOffsets}
use Rattle.check_text.specs.Everywhere.Codes.{code_of}
use Rattle.check_text.specs.declared.everywhere.codes.TheConstants.{TEXT_CODES}
use Rattle.check_faults.specs.Listed.{AreListed, no_code}
use Rattle.check_faults.proofs.listing.list_of.Goals as goal

pub code-init : goal.code-init
code-init c s worth tree e g is = subst (λ found. AreListed (IsFaultAt s worth) c.args.most [] found) (sym c.new-all.ensures.items) no_code

pub code-preserved : goal.code-preserved
code-preserved c s worth tree e g is =
    let grown = ap (map code_of) (take_more TEXT_CODES c.code.k _ c.code-test.true) ∙ map-append code_of (take c.code.k TEXT_CODES) _ in
    let codes = map code_of (take c.code.k TEXT_CODES) in
    let are = subst (λ d. AreOffsets (IsFaultAt s worth d) c.in_ok-offsets.offsets.items) (sym c.code_of.ensures) (c.in_ok-offsets.ensures s worth tree e g is) in
    let told = c.in_ok-push_first.ensures s worth codes are (c.code.invariant s worth tree e g is) in
    subst (λ cs. AreListed (IsFaultAt s worth) c.args.most cs c.push_first.new.all.items) (ap (λ d. codes ++ d ∷ []) c.code_of.ensures ∙ sym grown) told

pub returns : goal.returns
returns c s worth tree e g is =
    let same : take c.code.k TEXT_CODES ≡ TEXT_CODES = search rules in
    subst (λ codes. AreListed (IsFaultAt s worth) c.args.most (map code_of codes) c.code.all.items) same (c.code.invariant s worth tree e g is)
