use Rattle.std.proofs.Common.{◌≡◌, ◌+◌, ◌-◌, ◌≤◌, take, drop, length, arith, sym, subst}
use Rattle.std.proofs.lemmas.List.{take_rest}
use Rattle.std.proofs.lemmas.Grind.{flat_map-append}
use Rattle.std.specs.Prelude.{flat_map}
use Rattle.cbor_data.specs.Notation.{shown_byte}
use Rattle.tape_notation.specs.Put.{IsPut}
use Rattle.tape_notation.proofs.Puts.{front_room, front_rest, none_put, rest_room, run_more}
use Rattle.tape_notation.proofs.text.put_shown.Goals as goal

pub loop-read-init : goal.loop-read-init
loop-read-init c = record {
  within = omega arith;
  put = none_put c.args.out.now c.args.at (omega (arith, c.requires));
}

pub put_run-end-requires : goal.put_run-end-requires
put_run-end-requires c =
    let b = c.args.bytes.now in
    let l = c.loop-read in
    let same : 16 ≡ (l.read + 16) - l.read = omega arith in
    let left = rest_room (flat_map shown_byte) (flat_map-append shown_byte) c.args.out.now l.out c.args.at l.read l.end b c.requires l.invariant.put in
    front_room (flat_map shown_byte) (flat_map-append shown_byte) l.end (length l.out) ((l.read + 16) - l.read) (drop l.read b) left

pub loop-read-preserved : goal.loop-read-preserved
loop-read-preserved c =
    let b = c.args.bytes.now in
    let l = c.loop-read in
    let same : (l.read + 16) - l.read ≡ 16 = omega arith in
    record {
      within = omega arith;
      put = run_more (flat_map shown_byte) (flat_map-append shown_byte) c.args.out.now l.out c.put_run-end.new.out c.args.at l.read 16 l.end c.put_run-end.result b l.invariant.put
          (subst (λ k. IsPut l.out c.put_run-end.new.out l.end ((flat_map shown_byte) (take k (drop l.read b))) c.put_run-end.result) same c.put_run-end.ensures);
    }

pub put_rest-requires : goal.put_rest-requires
put_rest-requires c =
    let b = c.args.bytes.now in
    let l = c.loop-read in
    subst (λ r. l.end + length ((flat_map shown_byte) r) ≤ length l.out) (sym (take_rest b l.read)) (rest_room (flat_map shown_byte) (flat_map-append shown_byte) c.args.out.now l.out c.args.at l.read l.end b c.requires l.invariant.put)

pub returns : goal.returns
returns c =
    let b = c.args.bytes.now in
    let l = c.loop-read in
    front_rest (flat_map shown_byte) (flat_map-append shown_byte) c.args.out.now l.out c.put_rest.new.out c.args.at l.read l.end c.put_rest.result b l.invariant.put
    (subst (λ r. IsPut l.out c.put_rest.new.out l.end ((flat_map shown_byte) r) c.put_rest.result) (take_rest b l.read) c.put_rest.ensures)
