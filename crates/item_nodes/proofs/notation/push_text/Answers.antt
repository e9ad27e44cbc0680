use Rattle.std.proofs.Common.{◌≡◌, ◌≤◌, ◌++◌, [], ◌∷◌, take, drop, length, arith, subst, length-drop}
use Rattle.std.specs.Prelude.{flat_map}
use Rattle.std.proofs.lemmas.Grind.{flat_map-append}
use Rattle.std.proofs.lemmas.List.{take_rest}
use Rattle.cbor_data.specs.Notation.{shown_byte}
use Rattle.item_nodes.proofs.Flats.{pushed_more}
use Rattle.item_nodes.proofs.notation.push_text.Goals as goal

pub loop-at-preserved : goal.loop-at-preserved
loop-at-preserved c =
    let bytes = c.args.bytes.now in
    let at = c.loop-at.at in
    let n = c.in_ok-at.field-0 in
    let within : n ≤ length (drop at bytes) = subst (λ r. n ≤ length r) (take_rest bytes at) c.in_ok-at.ensures.within in
    record {
      within = omega (arith, length-drop at bytes);
      pushed =
          pushed_more (flat_map shown_byte) (flat_map-append shown_byte) bytes (c.args.out.now.items ++ 34 ∷ []) at n c.loop-at.invariant.pushed
          (subst (λ r. c.push_run.new.out.items ≡ c.loop-at.out.items ++ flat_map shown_byte (take n r)) (take_rest bytes at) c.in_ok-at.ensures.pushed);
    }
