use Rattle.std.proofs.Common.{slice_index, sym, ap, ◌∙◌, arith}
use Rattle.std.proofs.lemmas.Bool.{or_right}
use Rattle.cddl_token.specs.Bytes.{is_mark, is_id_byte}
use Rattle.cddl_token.proofs.EachFacts.{each_more}
use Rattle.cddl_token.proofs.NameFacts.{letter_no_mark, letter_of_id, id_ends}
use Rattle.cddl_token.proofs.names.id_end.Goals as goal

pub loop-i-init : goal.loop-i-init
loop-i-init c = record {
  from = omega arith;
  passed = omega arith;
  in_source = omega arith;
  holds = λ k low high. ap (λ i. is_id_byte (slice_index c.args.source.now i)) (omega arith) ∙ letter_of_id (slice_index c.args.source.now c.args.at) c.requires.begins;
  ends = ap (λ i. is_mark (slice_index c.args.source.now i)) (omega arith) ∙ letter_no_mark (slice_index c.args.source.now c.args.at) c.requires.begins;
  marks = λ k low high. absurd (omega arith);
}

pub loop-i-preserved-then-is_mark : goal.loop-i-preserved-then-is_mark
loop-i-preserved-then-is_mark c = record {
  from = omega arith;
  passed = omega arith;
  in_source = omega arith;
  holds = each_more is_id_byte c.args.source.now _ _ c.loop-i.invariant.holds (or_right _ _ (sym c.is_mark.ensures ∙ c.if-is_mark.true));
  ends = c.loop-i.invariant.ends;
  marks = each_more is_mark c.args.source.now _ _ c.loop-i.invariant.marks (sym c.is_mark.ensures ∙ c.if-is_mark.true);
}

pub loop-i-preserved : goal.loop-i-preserved
loop-i-preserved c = record {
  from = omega arith;
  passed = omega arith;
  in_source = omega arith;
  holds = each_more is_id_byte c.args.source.now _ _ c.loop-i.invariant.holds (sym c.is_id_byte.ensures ∙ c.if-is_id_byte.true);
  ends = ap (λ i. is_mark (slice_index c.args.source.now i)) (omega arith) ∙ sym c.is_mark.ensures ∙ c.if-is_mark.false;
  marks = λ k low high. absurd (omega arith);
}

pub returns-else-is_id_byte-clause-longest : goal.returns-else-is_id_byte-clause-longest
returns-else-is_id_byte-clause-longest c = λ m id.
    id_ends c.args.source.now c.args.at c.loop-i.end c.loop-i.i m c.loop-i.invariant.from c.loop-i.invariant.passed c.loop-i.invariant.marks (sym c.is_id_byte.ensures ∙ c.if-is_id_byte.false) id
