use Rattle.std.proofs.Common.{ℕ, List, length, ap, subst, refl, sym, ◌∙◌, inr, arith}
use Rattle.std.specs.Option.{option_map}
use Rattle.cddl_literal.specs.Bytes.{is_b}
use Rattle.cddl_literal.specs.Literals.{IsBytes}
use Rattle.cddl_literal.specs.declared.Coding.TheVariants.{Base64}
use Rattle.spec_calls.proofs.literal_calls.in_base64.Goals as goal

pub bytes_value-requires : goal.bytes_value-requires
bytes_value-requires c =
    let closes = sym c.byte_at-3.ensures.value ∙ c.if-byte_at-ne39-2.false in
    let held = c.coded_end-end.ensures.closed closes in
    subst (λ l. (v : List ℕ) × IsBytes l 0 (length l) v) c.as_bytes-bytes.ensures.value (
      c.in-Some.field-0.items,
      inr (
        Base64,
        held.0,
        record {
          start = 4;
          end = c.coded_end-end.result;
          opens = (ap is_b (sym c.byte_at.ensures.value) ∙ sym c.is_b.ensures ∙ c.if-not-is_b.false, sym c.byte_at-else-not-is_b.ensures.value ∙ c.if-byte_at-ne54.false, sym c.byte_at-2.ensures.value ∙ c.if-byte_at-ne52.false, sym c.byte_at-else-byte_at-ne52.ensures.value ∙ c.if-byte_at-ne39.false, refl);
          holds = held.1;
          closes = closes;
          ends = omega (arith, ap length c.as_bytes-bytes.ensures.value, c.if-end-source.false);
        },
        sym (c.in_ok-bytes_between.ensures held.0 held.1) ∙ ap (option_map (λ v. v.items)) c.in-Some.is,
      ),
    )
