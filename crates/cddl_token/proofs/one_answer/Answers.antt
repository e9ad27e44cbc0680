use Rattle.cddl_token.proofs.Laws.{Laws}
use Rattle.cddl_token.proofs.SourceFacts.{one_list, one_refusal, never_both}
use Rattle.cddl_token.proofs.one_answer.Goals as goal

pub returns : goal.returns
returns c =
    let one = c.one_meaning.ensures in
    let stop = c.closes_at_stop.ensures in
    let laws : Laws = record { not_too_large = one.not_too_large; not_bad = one.not_bad; quoted = stop.quoted; prefixed = stop.prefixed } in
    record {
      tokens = λ s ts us first second. one_list laws first second;
      fault = λ s d e p q first second. one_refusal laws first second;
      apart = λ s ts d p found refused. never_both laws found refused;
    }
