use Rattle.std.proofs.Common.{◌≡◌, ◌+◌, ◌-◌, ◌≤◌, [], take, drop, length, arith, sym, subst}
use Rattle.std.proofs.lemmas.List.{take_rest}
use Rattle.hex.specs.Hex.{encode_lower}
use Rattle.tape_notation.specs.Put.{IsPut}
use Rattle.tape_notation.proofs.Puts.{encode_lower-append, encode_lower-nil, front_room, front_rest, none_put, rest_room, run_more, same_put}
use Rattle.tape_notation.proofs.hex_digits.put_hex.Goals as goal

pub loop-read-init : goal.loop-read-init
loop-read-init c = record {
  within = omega arith;
  put = same_put [] (encode_lower []) (sym encode_lower-nil) (none_put c.args.out.now c.args.at (omega (arith, c.requires)));
}

pub put_hex_run-end-requires-clause-room : goal.put_hex_run-end-requires-clause-room
put_hex_run-end-requires-clause-room c =
    let b = c.args.bytes.now in
    let l = c.loop-read in
    let same : 16 ≡ (l.read + 16) - l.read = omega arith in
    let left = rest_room encode_lower encode_lower-append c.args.out.now l.out c.args.at l.read l.end b c.requires l.invariant.put in
    front_room encode_lower encode_lower-append l.end (length l.out) ((l.read + 16) - l.read) (drop l.read b) left

pub loop-read-preserved : goal.loop-read-preserved
loop-read-preserved c =
    let b = c.args.bytes.now in
    let l = c.loop-read in
    let same : (l.read + 16) - l.read ≡ 16 = omega arith in
    record {
      within = omega arith;
      put = run_more encode_lower encode_lower-append c.args.out.now l.out c.put_hex_run-end.new.out c.args.at l.read 16 l.end c.put_hex_run-end.result b l.invariant.put
          (subst (λ k. IsPut l.out c.put_hex_run-end.new.out l.end (encode_lower (take k (drop l.read b))) c.put_hex_run-end.result) same c.put_hex_run-end.ensures);
    }

pub put_hex_rest-requires : goal.put_hex_rest-requires
put_hex_rest-requires c =
    let b = c.args.bytes.now in
    let l = c.loop-read in
    subst (λ r. l.end + length (encode_lower r) ≤ length l.out) (sym (take_rest b l.read)) (rest_room encode_lower encode_lower-append c.args.out.now l.out c.args.at l.read l.end b c.requires l.invariant.put)

pub returns : goal.returns
returns c =
    let b = c.args.bytes.now in
    let l = c.loop-read in
    front_rest encode_lower encode_lower-append c.args.out.now l.out c.put_hex_rest.new.out c.args.at l.read l.end c.put_hex_rest.result b l.invariant.put
    (subst (λ r. IsPut l.out c.put_hex_rest.new.out l.end (encode_lower r) c.put_hex_rest.result) (take_rest b l.read) c.put_hex_rest.ensures)
