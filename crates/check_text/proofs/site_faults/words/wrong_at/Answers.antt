use Rattle.check_reading.specs.Survey.Survey.{defined_in}
use Rattle.check_text.proofs.site_faults.words.wrong_at.Goals as goal

pub returns-in-Undefined : goal.returns-in-Undefined
returns-in-Undefined c = rw c.in-Undefined.is (λ tree r x is place said. c.undefined_at.ensures tree r x is place said)

pub returns-in-Arity : goal.returns-in-Arity
returns-in-Arity c = rw c.in-Arity.is (λ tree r x is place said. c.wrong_arity_at.ensures c.args.terms.now tree r x is place said)

pub returns-in-GroupAsType : goal.returns-in-GroupAsType
returns-in-GroupAsType c = rw c.in-GroupAsType.is (λ tree r x is place said. c.group_as_type_at.ensures c.args.terms.now tree r x is place said)

pub returns-in-HashForm : goal.returns-in-HashForm
returns-in-HashForm c = rw c.in-HashForm.is (λ tree r x is place said. c.bad_hash_at.ensures (defined_in tree) r x said)

pub returns-in-UnknownControl : goal.returns-in-UnknownControl
returns-in-UnknownControl c = rw c.in-UnknownControl.is (λ tree r x is place said. c.unknown_control_at.ensures (defined_in tree) r x said)
