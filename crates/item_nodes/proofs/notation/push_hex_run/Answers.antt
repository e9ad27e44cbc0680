use Rattle.std.proofs.Common.{◌≡◌, ◌*◌, take, length, arith, rules, append-nil, subst}
use Rattle.std.proofs.lemmas.List.{drop_all}
use Rattle.hex.specs.Hex.{encode_lower, lower_digits}
use Rattle.hex.proofs.Pairs.{encode_step}
use Rattle.item_nodes.proofs.Flats.{encode_lower-nil}
use Rattle.item_nodes.proofs.notation.push_hex_run.Goals as goal

pub loop-i-preserved : goal.loop-i-preserved
loop-i-preserved c = record {
  room = search rules;
  put = encode_step lower_digits c.args.run.now c.loop-i.buffer c.loop-i.i _ _ (omega arith) (omega arith) c.digit.ensures c.digit-in-loop-i.ensures c.loop-i.invariant.put;
}

pub returns : goal.returns
returns c =
    let run = c.args.run.now in
    let buffer = c.loop-i.buffer in
    let i = c.loop-i.i in
    let end : i ≡ length run = omega arith in
    let put : take (2 * i) buffer ≡ encode_lower run = rw (drop_all i run (omega arith), encode_lower-nil, append-nil) at c.loop-i.invariant.put in
    let all : take (2 * length run) buffer ≡ encode_lower run = subst (λ n. take (2 * n) buffer ≡ encode_lower run) end put in
    search (rules, all)
