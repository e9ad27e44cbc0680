use Rattle.std.proofs.Common.{sym, subst}
use Rattle.cddl_check.specs.Text.{AreTokensOf}
use Rattle.cddl_table.proofs.Handing.{handed}
use Rattle.cddl_table.proofs.specification.read_specification.Goals as goal

pub read_tokens-requires-clause-read : goal.read_tokens-requires-clause-read
read_tokens-requires-clause-read c = (c.args.text.now, subst (λ ts. AreTokensOf ts c.args.text.now) (sym c.deref.ensures.value) (record { tokenized = c.in_ok-found.ensures.found; read = c.in_ok-found.ensures.each }))

pub returns-in_err-table-clause-unread : goal.returns-in_err-table-clause-unread
returns-in_err-table-clause-unread c =
    let are = subst (λ ts. AreTokensOf ts c.args.text.now) (sym c.deref.ensures.value) (record { tokenized = c.in_ok-found.ensures.found; read = c.in_ok-found.ensures.each }) in
    handed _ _ c.in_err-table.field-0.0 c.from_residual-in_err-table.ensures.1 (c.in_err-table.ensures.unread c.args.text.now are)

pub returns-clause-tabled : goal.returns-clause-tabled
returns-clause-tabled c =
    let are = subst (λ ts. AreTokensOf ts c.args.text.now) (sym c.deref.ensures.value) (record { tokenized = c.in_ok-found.ensures.found; read = c.in_ok-found.ensures.each }) in
    c.in_ok-table.ensures.tabled c.args.text.now are
