use Rattle.std.proofs.Common.{◌≡◌, ◌*◌, take, length, arith, rules, append-nil, subst, sym}
use Rattle.std.proofs.lemmas.List.{drop_all}
use Rattle.hex.specs.Hex.{encode_lower, lower_digits}
use Rattle.hex.proofs.Pairs.{encode_step}
use Rattle.tape_notation.proofs.Puts.{encode_lower-nil, room_for, same_put}
use Rattle.tape_notation.proofs.hex_digits.put_hex_run.Goals as goal

pub loop-i-preserved : goal.loop-i-preserved
loop-i-preserved c = record {
  room = search rules;
  put = encode_step lower_digits c.args.run.now c.loop-i.digits c.loop-i.i _ _ (omega arith) (omega arith) c.digit.ensures c.digit-in-loop-i.ensures c.loop-i.invariant.put;
}

pub put-requires : goal.put-requires
put-requires c =
    let run = c.args.run.now in
    let digits = c.loop-i.digits in
    let i = c.loop-i.i in
    let end : i ≡ length run = omega arith in
    let put : take (2 * i) digits ≡ encode_lower run = rw (drop_all i run (omega arith), encode_lower-nil, append-nil) at c.loop-i.invariant.put in
    let all : take (2 * length run) digits ≡ encode_lower run = subst (λ n. take (2 * n) digits ≡ encode_lower run) end put in
    room_for c.args.at (length c.args.out.now) (encode_lower run) (take (2 * length run) digits) (sym all) c.requires.room

pub returns : goal.returns
returns c =
    let run = c.args.run.now in
    let digits = c.loop-i.digits in
    let i = c.loop-i.i in
    let end : i ≡ length run = omega arith in
    let put : take (2 * i) digits ≡ encode_lower run = rw (drop_all i run (omega arith), encode_lower-nil, append-nil) at c.loop-i.invariant.put in
    let all : take (2 * length run) digits ≡ encode_lower run = subst (λ n. take (2 * n) digits ≡ encode_lower run) end put in
    same_put (take (2 * length run) digits) (encode_lower run) all c.put.ensures
