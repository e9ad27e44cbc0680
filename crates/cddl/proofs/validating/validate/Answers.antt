use Rattle.std.proofs.Common.{◌≤◌, refl, option_map, subst}
use Rattle.seq_run.specs.Running.{Change, change_of}
use Rattle.cddl.specs.Failures.{failure_of}
use Rattle.cddl.specs.Validated.{IsFailed, IsNoRefusal, IsRefusalFor}
use Rattle.cddl.specs.declared.validating.Failure.TheVariants.{Stopped}
use Rattle.cddl.proofs.Handing.{handed, handed_so}
use Rattle.cddl.proofs.Telling.{stopped, unread, validated}
use Rattle.cddl.proofs.Texts.{no_refusal, refusal_for}
use Rattle.cddl.proofs.validating.validate.Goals as goal

pub returns-in_err-table-clause-failed : goal.returns-in_err-table-clause-failed
returns-in_err-table-clause-failed g c =
    let input : Change = change_of g.R.Read.remaining c.args.input.now c.args.input.now in
    let output : Change = change_of g.W.Write.contents c.args.output.now c.args.output.now in
    handed (IsFailed c.args.specification.now (option_map (λ t. t.now) c.args.root) c.args.limits c.args.steps c.args.mode input output) _ (failure_of c.in_err-table.field-0.0) c.from_residual.ensures.1
    (unread c.args.specification.now (option_map (λ t. t.now) c.args.root) c.args.limits c.args.steps c.args.mode input output c.in_err-table.field-0.0 c.in_err-table.ensures.unread (refl, refl) (refl, refl))

pub returns-in_err-told-clause-failed : goal.returns-in_err-told-clause-failed
returns-in_err-told-clause-failed g c =
    let input : Change = change_of g.R.Read.remaining c.args.input.now c.run.new.input in
    let output : Change = change_of g.W.Write.contents c.args.output.now c.run.new.output in
    handed (IsFailed c.args.specification.now (option_map (λ t. t.now) c.args.root) c.args.limits c.args.steps c.args.mode input output) _ (Stopped c.in_err-told.field-0.0) c.from_residual-in_err-told.ensures.1
    (stopped (record { roots = c.table_has_root.ensures; one = c.one_end_by_text.ensures.one; back = c.one_end_by_text.ensures.read_back }) c.args.specification.now (option_map (λ t. t.now) c.args.root) c.in_ok-table.table c.args.limits c.args.steps c.args.mode input output c.in_err-told.field-0.0
    c.in_ok-table.ensures.tabled c.in_err-told.ensures.fault c.run.ensures.reads)

pub returns-clause-told : goal.returns-clause-told
returns-clause-told g c =
    let input : Change = change_of g.R.Read.remaining c.args.input.now c.run.new.input in
    let output : Change = change_of g.W.Write.contents c.args.output.now c.run.new.output in
    validated (record { roots = c.table_has_root.ensures; one = c.one_end_by_text.ensures.one; back = c.one_end_by_text.ensures.read_back }) c.args.specification.now (option_map (λ t. t.now) c.args.root) c.in_ok-table.table c.args.limits c.args.steps c.args.mode input output c.in_ok-told.told.0 c.in_ok-told.told.1
    c.in_ok-table.ensures.tabled (subst (λ d. d ≤ 256) c.depth-depth.ensures.value c.depth-depth.ensures.range.1) c.in_ok-told.ensures.reported c.in_ok-told.ensures.shown c.in_ok-told.ensures.counts c.run.ensures.reads

pub returns-in_err-table-clause-accepted : goal.returns-in_err-table-clause-accepted
returns-in_err-table-clause-accepted g c = λ rule root.
    handed IsNoRefusal _ (failure_of c.in_err-table.field-0.0) c.from_residual.ensures.1
    (no_refusal c.args.specification.now (option_map (λ t. t.now) c.args.root) (c.accepted_or_wrong.ensures.apart c.args.specification.now (option_map (λ t. t.now) c.args.root)) rule root c.in_err-table.field-0.0 c.in_err-table.ensures.unread)

pub returns-in_err-table-clause-wrong : goal.returns-in_err-table-clause-wrong
returns-in_err-table-clause-wrong g c = λ fault wrong.
    handed_so (IsRefusalFor fault) _ (failure_of c.in_err-table.field-0.0) c.from_residual.ensures.1
    (refusal_for c.args.specification.now (option_map (λ t. t.now) c.args.root) (c.accepted_or_wrong.ensures.fault c.args.specification.now (option_map (λ t. t.now) c.args.root)) fault wrong c.in_err-table.field-0.0 c.in_err-table.ensures.unread)

pub returns-in_err-told-clause-accepted : goal.returns-in_err-told-clause-accepted
returns-in_err-told-clause-accepted g c = λ rule root. handed IsNoRefusal _ (Stopped c.in_err-told.field-0.0) c.from_residual-in_err-told.ensures.1 tt

pub returns-in_err-told-clause-wrong : goal.returns-in_err-told-clause-wrong
returns-in_err-told-clause-wrong g c = λ fault wrong.
    let x = c.table_has_root.ensures c.args.specification.now (option_map (λ t. t.now) c.args.root) c.in_ok-table.table c.in_ok-table.ensures.tabled in
    absurd (c.accepted_or_wrong.ensures.apart c.args.specification.now (option_map (λ t. t.now) c.args.root) x.0 fault x.1 wrong)

pub returns-clause-wrong : goal.returns-clause-wrong
returns-clause-wrong g c = λ fault wrong.
    let x = c.table_has_root.ensures c.args.specification.now (option_map (λ t. t.now) c.args.root) c.in_ok-table.table c.in_ok-table.ensures.tabled in
    absurd (c.accepted_or_wrong.ensures.apart c.args.specification.now (option_map (λ t. t.now) c.args.root) x.0 fault x.1 wrong)
