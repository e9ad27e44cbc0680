use Rattle.std.proofs.Common.{◌<◌, length, refl, sym, subst, arith}
use Rattle.std.proofs.lemmas.List.{set-get_or}
use Rattle.seq_run.specs.Judge.{judge_of}
use Rattle.cddlseq_c.specs.Answers.{AreTold, IsToldMany, all_told, bad_stream, rest_untold}
use Rattle.cddlseq_c.specs.declared.told.TheConstants.{BAD_OFFSETS, NO_MEMORY}
use Rattle.cddlseq_c.proofs.Streams.{one_more}
use Rattle.cddlseq_c.proofs.many.tell_many.Goals as goal

pub returns-in_default : goal.returns-in_default
returns-in_default c =
    let told = subst (λ n. AreTold (judge_of c.args.ready.now.table c.args.ready.now.steps) c.args.ready.now.limits c.args.bytes.now c.args.offsets.now c.args.ends.now c.loop-k.ends n) (sym c.loop-k.invariant.done) c.loop-k.invariant.told in
    let fits : c.loop-k.done < length c.loop-k.ends = omega arith in
    subst (λ ends. IsToldMany (judge_of c.args.ready.now.table c.args.ready.now.steps) c.args.ready.now.limits c.args.bytes.now c.args.offsets.now c.args.ends.now ends c.loop-k.done BAD_OFFSETS) (sym (set-get_or c.loop-k.ends c.loop-k.k _))
    (bad_stream told fits (rw c.loop-k.invariant.done c.in_default.ensures.none))

pub returns-in-Err : goal.returns-in-Err
returns-in-Err c =
    let told = subst (λ n. AreTold (judge_of c.args.ready.now.table c.args.ready.now.steps) c.args.ready.now.limits c.args.bytes.now c.args.offsets.now c.args.ends.now c.loop-k.ends n) (sym c.loop-k.invariant.done) c.loop-k.invariant.told in
    let fits : c.loop-k.done < length c.loop-k.ends = omega arith in
    subst (λ ends. IsToldMany (judge_of c.args.ready.now.table c.args.ready.now.steps) c.args.ready.now.limits c.args.bytes.now c.args.offsets.now c.args.ends.now ends c.loop-k.done NO_MEMORY) (sym (set-get_or c.loop-k.ends c.loop-k.k _))
    (rest_untold told fits)

pub loop-k-preserved : goal.loop-k-preserved
loop-k-preserved c = record {
  told = one_more (judge_of c.args.ready.now.table c.args.ready.now.steps) c.args.ready.now.limits c.args.bytes.now c.args.offsets.now c.args.ends.now c.loop-k.ends c.loop-k.k c.in-Ok.end c.told_end.result c.in-Some.stream.now c.loop-k.invariant.told
      c.in-Some.ensures.stream c.in-Some.ensures.bytes c.in-Ok.ensures c.told_end.ensures (omega arith);
  done = refl;
}

pub returns : goal.returns
returns c =
    let told = subst (λ n. AreTold (judge_of c.args.ready.now.table c.args.ready.now.steps) c.args.ready.now.limits c.args.bytes.now c.args.offsets.now c.args.ends.now c.loop-k.ends n) (sym c.loop-k.invariant.done) c.loop-k.invariant.told in
    all_told told (omega arith)
