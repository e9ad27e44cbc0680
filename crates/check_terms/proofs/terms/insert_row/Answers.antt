use Rattle.std.proofs.Common.{◌≡◌, ◌∷◌, [], ◌++◌, true, sym, ap, subst, ◌∙◌, slice_get, take, ◌-◌}
use Rattle.std.specs.HashMap.{get}
use Rattle.std.specs.Map.{lookup}
use Rattle.lists.proofs.Lemmas.{push_there as get-added}
use Rattle.check_terms.specs.Numbers.{AreNumbered}
use Rattle.check_terms.specs.contracts.row.RowPartialEq.TheImpl as row_eq
use Rattle.check_terms.specs.declared.row.Row.{Row}
use Rattle.check_terms.proofs.Equal.{row_itself, same_row}
use Rattle.check_terms.proofs.Numbering.{numbered_more, popped, pushed, when_err, when_ok}
use Rattle.check_terms.proofs.terms.insert_row.Goals as goal

pub returns-then-is_err-2-clause-numbered : goal.returns-then-is_err-2-clause-numbered
returns-then-is_err-2-clause-numbered c =
    let eq = (row_eq.ghosts).eq in
    let stays = when_err c.insert.result _ (sym c.is_err-2.ensures.value ∙ c.if-is_err-2.true) c.insert.ensures.err in
    let longer = pushed c.push.result c.push.new.self.items c.args.rows.now.items c.args.row (sym c.is_err.ensures.value ∙ c.if-is_err.false) c.push.ensures.items in
    let back = popped c.args.rows.now.items c.pop.new.self.items c.push.new.self.items c.args.row longer (c.pop.ensures.rest ∙ ap (λ n. take (n - 1) c.push.new.self.items) c.push.new.self.ok.0) in
    subst (λ rs. AreNumbered (λ (r : Row). r) (get eq c.insert.new.self) rs) (sym back) (subst (λ es. AreNumbered (λ (r : Row). r) (λ x. lookup (eq x) es) c.args.rows.now.items) (sym stays) c.requires.numbered)

pub returns-clause-there : goal.returns-clause-there
returns-clause-there c =
    let longer = pushed c.push.result c.push.new.self.items c.args.rows.now.items c.args.row (sym c.is_err.ensures.value ∙ c.if-is_err.false) c.push.ensures.items in
    ap (λ rs. slice_get rs c.in_ok-number.number) longer ∙ ap (slice_get (c.args.rows.now.items ++ c.args.row ∷ [])) (c.in_ok-number.ensures ∙ c.len.ensures ∙ c.args.rows.now.ok.0) ∙ get-added c.args.rows.now.items c.args.row

pub returns-clause-numbered : goal.returns-clause-numbered
returns-clause-numbered c =
    let eq = (row_eq.ghosts).eq in
    let longer = pushed c.push.result c.push.new.self.items c.args.rows.now.items c.args.row (sym c.is_err.ensures.value ∙ c.if-is_err.false) c.push.ensures.items in
    let updates = when_ok c.insert.result _ (sym c.is_err-2.ensures.value ∙ c.if-is_err-2.false) c.insert.ensures.updates in
    let none = sym c.get.ensures.value ∙ sym c.copied.ensures ∙ c.in_default.is in
    subst (λ rs. AreNumbered (λ (r : Row). r) (get eq c.insert.new.self) rs) (sym longer) (numbered_more eq (λ (r : Row). r) (λ x y e. subst (λ z. eq x z ≡ true) e (row_itself x)) same_row (get eq c.args.numbers.now) (get eq c.insert.new.self) c.args.rows.now.items c.args.row c.in_ok-number.number c.requires.numbered none (c.in_ok-number.ensures ∙ c.len.ensures ∙ c.args.rows.now.ok.0) updates.0)
