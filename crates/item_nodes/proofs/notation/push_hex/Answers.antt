use Rattle.std.proofs.Common.{◌≡◌, ◌+◌, ◌-◌, ◌++◌, take, drop, length, arith, sym, ap, ◌∙◌, append-nil, subst}
use Rattle.std.proofs.lemmas.List.{take_rest}
use Rattle.std.proofs.lemmas.Result.{on_ok_weaker}
use Rattle.hex.specs.Hex.{encode_lower}
use Rattle.item_nodes.proofs.Flats.{pushed_more, pushed_rest, encode_lower-append, encode_lower-nil}
use Rattle.item_nodes.proofs.notation.push_hex.Goals as goal

pub loop-at-init : goal.loop-at-init
loop-at-init c = record {
  within = omega arith;
  pushed = sym (ap (λ e. c.args.out.now.items ++ e) encode_lower-nil ∙ append-nil c.args.out.now.items);
}

pub loop-at-preserved : goal.loop-at-preserved
loop-at-preserved c =
    let at = c.loop-at.at in
    let n : (at + 16) - at ≡ 16 = omega arith in
    record {
      within = omega arith;
      pushed =
          pushed_more encode_lower encode_lower-append c.args.bytes.now c.args.out.now.items at 16 c.loop-at.invariant.pushed
          (subst (λ k. c.push_hex_run.new.out.items ≡ c.loop-at.out.items ++ encode_lower (take k (drop at c.args.bytes.now))) n c.in_ok-push_hex_run.ensures);
    }

pub returns-then-at-bytes : goal.returns-then-at-bytes
returns-then-at-bytes c =
    let bytes = c.args.bytes.now in
    let before = c.args.out.now.items in
    let at = c.loop-at.at in
    let mid = c.loop-at.out.items in
    let new = c.push_hex_run-then-at-bytes.new.out.items in
    let all : new ≡ mid ++ encode_lower (take (length bytes - at) (drop at bytes)) → new ≡ before ++ encode_lower bytes =
    λ e. pushed_rest encode_lower encode_lower-append bytes before at c.loop-at.invariant.pushed (subst (λ r. new ≡ mid ++ encode_lower r) (take_rest bytes at) e) in
    on_ok_weaker c.push_hex_run-then-at-bytes.result all c.push_hex_run-then-at-bytes.ensures
