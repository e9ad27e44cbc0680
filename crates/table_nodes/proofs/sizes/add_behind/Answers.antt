use Rattle.std.proofs.Common.{◌≡◌, ◌+◌, ◌++◌, ◌∷◌, ◌<◌, ◌≤◌, ◌∙◌, [], ap, arith, subst, sym}
use Rattle.cddl_meaning.specs.Forms.{is_member}
use Rattle.table_nodes.specs.Sizes.{AreInOrder, BeginBy, sizes_view}
use Rattle.table_nodes.proofs.Joining.{begin_more, last_some, members_joined, members_more, order_joined, order_more}
use Rattle.table_nodes.proofs.sizes.add_behind.Goals as goal

put_behind : (c : goal.In_ok-push-2) → (c.args.merged.now.items ++ c.args.before ∷ []) ++ c.args.range ∷ [] ≡ c.push-then-saturating_add-range.new.self.items
put_behind c = sym (c.in_ok-push-2.ensures.items ∙ ap (λ xs. xs ++ c.args.range ∷ []) c.in_ok-push.ensures.items)

put_joined : (c : goal.In_ok-push-3) → c.args.merged.now.items ++ c.joined.result ∷ [] ≡ c.push-else-saturating_add-range.new.self.items
put_joined c = sym c.in_ok-push-3.ensures.items

is_gap : (c : goal.In_ok-push-2) → c.args.before.last + 1 < c.args.range.least
is_gap c = omega (arith, c.saturating_add.ensures, c.if-saturating_add-range.true)

is_no_gap : (c : goal.In_ok-push-3) → c.args.range.least ≤ c.args.before.last + 1
is_no_gap c = omega (arith, c.saturating_add.ensures, c.if-saturating_add-range.false)

pub returns-in_ok-push-2-clause-in_order : goal.returns-in_ok-push-2-clause-in_order
returns-in_ok-push-2-clause-in_order c = subst AreInOrder (put_behind c) (order_more c.args.merged.now.items c.args.before c.args.range c.requires.in_order (is_gap c) c.requires.some)

pub returns-in_ok-push-2-clause-begins : goal.returns-in_ok-push-2-clause-begins
returns-in_ok-push-2-clause-begins c = λ n l h. subst (BeginBy n) (put_behind c) (begin_more n (c.args.merged.now.items ++ c.args.before ∷ []) c.args.range (begin_more n c.args.merged.now.items c.args.before h (omega (arith, l, c.requires.begins))) l)

pub returns-in_ok-push-2-clause-members : goal.returns-in_ok-push-2-clause-members
returns-in_ok-push-2-clause-members c = λ n. ap (λ xs. is_member n (sizes_view xs)) (sym (put_behind c)) ∙ members_more n (c.args.merged.now.items ++ c.args.before ∷ []) c.args.range

pub returns-in_ok-push-3-clause-in_order : goal.returns-in_ok-push-3-clause-in_order
returns-in_ok-push-3-clause-in_order c =
    let some = last_some c.args.merged.now.items c.args.before c.requires.in_order in
    subst AreInOrder (put_joined c) (order_joined c.args.merged.now.items c.args.before c.joined.result c.requires.in_order c.joined.ensures.least (omega (arith, some, c.joined.ensures.least, c.joined.ensures.last)))

pub returns-in_ok-push-3-clause-begins : goal.returns-in_ok-push-3-clause-begins
returns-in_ok-push-3-clause-begins c = λ n l h. subst (BeginBy n) (put_joined c) (begin_more n c.args.merged.now.items c.joined.result h (omega (arith, l, c.requires.begins, c.joined.ensures.least)))

pub returns-in_ok-push-3-clause-members : goal.returns-in_ok-push-3-clause-members
returns-in_ok-push-3-clause-members c = λ n. ap (λ xs. is_member n (sizes_view xs)) (sym (put_joined c)) ∙ members_joined n c.args.merged.now.items c.args.before c.args.range c.joined.result c.requires.begins (is_no_gap c) c.requires.some c.joined.ensures.least c.joined.ensures.last
