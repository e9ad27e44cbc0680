use Rattle.std.proofs.Common.{None, ◌<◌, subst, arith}
use Rattle.cddl_language.specs.Faults.{IsFaultAt, number_of}
use Rattle.cddl_token.specs.declared.Code.TheVariants.{TooManyInstances}
use Rattle.check_text.specs.Codes.{text_codes}
use Rattle.check_text.specs.First.{IsFirst}
use Rattle.cddl_check.proofs.text.clear_text.Goals as goal

pub returns-in-Some-clause-stopped : goal.returns-in-Some-clause-stopped
returns-in-Some-clause-stopped c s worth given =
    let first = subst (IsFirst (IsFaultAt s worth) text_codes) c.in-Some.is (c.in_ok-fault.ensures s worth c.args.tree.now given.tree given.given c.in_ok-survey.ensures.survey) in
    c.text_fault_is_told.ensures s worth c.in-Some.fault first

pub returns-in-Some-clause-early : goal.returns-in-Some-clause-early
returns-in-Some-clause-early c s worth given =
    let first = subst (IsFirst (IsFaultAt s worth) text_codes) c.in-Some.is (c.in_ok-fault.ensures s worth c.args.tree.now given.tree given.given c.in_ok-survey.ensures.survey) in
    let below : number_of c.in-Some.fault.code < number_of TooManyInstances = c.codes_are_in_order.ensures.text s worth c.in-Some.fault first in
    omega (arith, below)

pub returns-in-None-clause-right : goal.returns-in-None-clause-right
returns-in-None-clause-right c s worth given =
    let first : IsFirst (IsFaultAt s worth) text_codes None = subst (IsFirst (IsFaultAt s worth) text_codes) c.in-None.is (c.in_ok-fault.ensures s worth c.args.tree.now given.tree given.given c.in_ok-survey.ensures.survey) in
    record { no_fault = first; clear = c.text_is_clear.ensures s c.args.tree.now c.in_ok-survey.survey worth given.tree c.in_ok-survey.ensures.survey first }
