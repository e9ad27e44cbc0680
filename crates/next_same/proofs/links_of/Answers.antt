use Rattle.std.proofs.Common.{rules, ◌≡◌, ◌-◌, ◌∙◌, suc, length, Some, set, slice_get, slice_index_or, subst, sym, ap, arith}
use Rattle.lists.proofs.Lemmas.{set_length}
use Rattle.std.proofs.lemmas.Option.{slice_get-get_or}
use Rattle.next_same.specs.Chains.{AreHeads, AreLinks}
use Rattle.next_same.proofs.Linking.{heads_with, links_with, no_links}
use Rattle.next_same.proofs.links_of.Goals as goal

pub loop-left-init : goal.loop-left-init
loop-left-init c = record {
  within = omega arith;
  many = search rules;
  kept = search rules;
  heads = c.requires.none;
  links = no_links c.args.numbers.now _;
}

pub loop-left-preserved : goal.loop-left-preserved
loop-left-preserved c =
    let ns = c.args.numbers.now in
    let kept = c.loop-left.invariant in
    let at = c.loop-left.left - 1 in
    let one : suc at ≡ c.loop-left.left = omega (arith, c.loop-left-test.true) in
    let m = slice_index_or ns at 0 in
    let there : slice_get ns at ≡ Some m = slice_get-get_or ns at 0 (omega (arith, c.loop-left-test.true, kept.within)) in
    let before : slice_get c.loop-left.heads.items m ≡ Some c.put_head.result = search rules in
    let after : c.put_head.new.heads.items ≡ set c.loop-left.heads.items m at = search rules in
    record {
      within = omega (arith, kept.within);
      many = set_length c.loop-left.links.items at c.put_head.result ∙ kept.many;
      kept = ap length after ∙ set_length c.loop-left.heads.items m at ∙ kept.kept;
      heads = subst (AreHeads ns at) (sym after) (heads_with ns c.loop-left.heads.items m at there (subst (λ k. AreHeads ns k c.loop-left.heads.items) (sym one) kept.heads));
      links = links_with ns c.loop-left.heads.items c.loop-left.links.items m at c.put_head.result there before (subst (λ k. AreHeads ns k c.loop-left.heads.items) (sym one) kept.heads) (subst (λ k. AreLinks ns k c.loop-left.links.items) (sym one) kept.links);
    }

pub returns-clause-heads : goal.returns-clause-heads
returns-clause-heads c = subst (λ k. AreHeads c.args.numbers.now k c.loop-left.heads.items) (omega (arith, c.loop-left-test.false)) c.loop-left.invariant.heads

pub returns-clause-links : goal.returns-clause-links
returns-clause-links c = subst (λ k. AreLinks c.args.numbers.now k c.loop-left.links.items) (omega (arith, c.loop-left-test.false)) c.loop-left.invariant.links
