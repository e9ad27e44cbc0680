use Rattle.std.proofs.Common.{Bor, List, ℕ, Option, subst, sym}
use Rattle.std.specs.Option.{option_map}
use Rattle.tree_nodes.specs.Syntax.Answers.{IsTreeOf}
use Rattle.tree_nodes.specs.View.{view}
use Rattle.cddl_check.specs.Outcome.{IsChecked}
use Rattle.cddl_check.specs.Text.{AreTokensOf, IsUnreadText}
use Rattle.cddl_mismatch.proofs.Untold.{handed, told_of_tokens, told_of_tree}
use Rattle.cddl_mismatch.proofs.specification.read_tokens.Goals as goal

pub check-requires : goal.check-requires
check-requires c = c.trees_are_of_tokens.ensures c.requires.read.0 c.args.tokens.now (view c.in_ok-tree.tree) c.requires.read.1 c.in_ok-tree.ensures.tree

pub returns-clause-read : goal.returns-clause-read
returns-clause-read c = record {
  tree = subst (λ t. IsTreeOf (view t) c.args.tokens.now) (sym c.in_ok-spec.ensures.kept) c.in_ok-tree.ensures.tree;
  checked = subst (λ t. IsChecked (view t) (option_map (λ (t : Bor (List ℕ)). t.now) c.args.root) c.in_ok-spec.spec.root) (sym c.in_ok-spec.ensures.kept) c.in_ok-spec.ensures.accepted;
}

pub returns-in_err-spec-clause-unread : goal.returns-in_err-spec-clause-unread
returns-in_err-spec-clause-unread c =
    let n : Option (List ℕ) = option_map (λ (t : Bor (List ℕ)). t.now) c.args.root in
    let x = view c.in_ok-tree.tree in
    let e = c.in_err-spec.field-0.0 in
    handed (λ y. (text : List ℕ) → AreTokensOf c.args.tokens.now text → IsUnreadText text n y) _ e c.from_residual-in_err-spec.ensures.1 (λ text are. told_of_tree x n text e (record { tokens = c.args.tokens.now; are_tokens = are; is_tree = c.in_ok-tree.ensures.tree }) c.in_err-spec.ensures.refused)

pub returns-in_err-tree-clause-unread : goal.returns-in_err-tree-clause-unread
returns-in_err-tree-clause-unread c =
    let n : Option (List ℕ) = option_map (λ (t : Bor (List ℕ)). t.now) c.args.root in
    let r = c.in_err-tree.field-0.0 in
    handed (λ y. (text : List ℕ) → AreTokensOf c.args.tokens.now text → IsUnreadText text n y) _ r c.from_residual.ensures.1 (λ text are. told_of_tokens c.args.tokens.now n text r are c.in_err-tree.ensures.refused)
