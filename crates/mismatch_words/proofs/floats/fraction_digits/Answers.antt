use Rattle.std.proofs.Common.{string_bytes}
use Rattle.mismatch_words.proofs.Numbers.{all_digits, below_ten, stepped}
use Rattle.mismatch_words.proofs.floats.fraction_digits.Goals as goal

pub push_digit-requires : goal.push_digit-requires
push_digit-requires c = below_ten c.digit.left c.digit.k _ c.pow-unit.ensures c.digit-test.true c.digit.invariant.small

pub returns-then-left-eq0 : goal.returns-then-left-eq0
returns-then-left-eq0 c =
    let more = stepped c.args.rest c.digit.left c.digit.k _ _ (string_bytes c.push_digit.new.digits) c.pow-unit.ensures c.digit-test.true c.digit.invariant c.in_ok-push_digit.ensures in
    all_digits c.args.rest _ c.digit.k _ c.if-left-eq0.true more

pub digit-preserved : goal.digit-preserved
digit-preserved c = stepped c.args.rest c.digit.left c.digit.k _ _ (string_bytes c.push_digit.new.digits) c.pow-unit.ensures c.digit-test.true c.digit.invariant c.in_ok-push_digit.ensures
