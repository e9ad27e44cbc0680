use Rattle.std.proofs.Common.{refl}
use Rattle.cddl_token.specs.Answers.{IsAnswered}
use Rattle.cddl_token.proofs.ValueFacts.{number_text, number_stands, text_text, text_stands, bytes_text, bytes_stands}
use Rattle.cddl_token.proofs.value.Goals as goal

pub number_value-requires : goal.number_value-requires
number_value-requires c =
    let r : IsAnswered c.args.token.now = c.requires in
    number_text c.args.token.now r.0 r.1 c.as_bytes.result.now c.as_bytes.ensures.value c.cut_out.ensures.number c.in-Number.is

pub text_value-requires : goal.text_value-requires
text_value-requires c =
    let r : IsAnswered c.args.token.now = c.requires in
    text_text c.args.token.now r.0 r.1 c.args.token.now.text.now refl c.cut_out.ensures.text c.in-Text.is

pub bytes_value-requires : goal.bytes_value-requires
bytes_value-requires c =
    let r : IsAnswered c.args.token.now = c.requires in
    bytes_text c.args.token.now r.0 r.1 c.args.token.now.text.now refl c.cut_out.ensures.byte_string c.in-Bytes.is

pub returns-in-Number-clause-stands : goal.returns-in-Number-clause-stands
returns-in-Number-clause-stands c = λ s r. number_stands c.args.token.now s r c.as_bytes.result.now c.as_bytes.ensures.value c.cut_out.ensures.number c.in-Number.is c.number_value.result c.number_value.ensures

pub returns-in_ok-text_value-in-Text-clause-stands : goal.returns-in_ok-text_value-in-Text-clause-stands
returns-in_ok-text_value-in-Text-clause-stands c =
    λ s r. text_stands c.args.token.now s r c.args.token.now.text.now refl c.cut_out.ensures.text c.in-Text.is _ _ refl (λ v h. rw c.in_ok-text_value-in-Text.was at (c.text_value.ensures v h))

pub returns-in_ok-bytes_value-in-Bytes-clause-stands : goal.returns-in_ok-bytes_value-in-Bytes-clause-stands
returns-in_ok-bytes_value-in-Bytes-clause-stands c =
    λ s r. bytes_stands c.args.token.now s r c.args.token.now.text.now refl c.cut_out.ensures.byte_string c.in-Bytes.is _ _ refl (λ v h. rw c.in_ok-bytes_value-in-Bytes.was at (c.bytes_value.ensures v h))
