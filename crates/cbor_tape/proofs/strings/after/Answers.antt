use Rattle.std.proofs.Common.{◌≡◌, ◌++◌, ◌-◌, take, drop, length, length-drop, sym, ap, arith}
use Rattle.std.proofs.lemmas.List.{take_all}
use Rattle.std.proofs.lemmas.Option.{IfSome_then}
use Rattle.cbor_tape.proofs.Contents.{left_after}
use Rattle.cbor_tape.proofs.strings.after.Goals as goal

pub returns-clause-there : goal.returns-clause-there
returns-clause-there c =
    let content = c.args.content in
    let front = content.front.now in
    let n = c.args.len in
    let same : take (length front - n) (drop n front) ≡ drop n front = take_all (length front - n) (drop n front) (omega (arith, length-drop n front)) in
    IfSome_then c.filled.result c.filled.ensures.there (λ r filled s h. (
      drop n front ++ h.0,
      left_after c.args.bytes.now content.chunks front s n h,
      filled (drop n front ++ h.0) (h.0, h.1, ap (λ l. l ++ h.0) (sym same)),
    ))
