use Rattle.std.proofs.Common.{length, refl, ◌∙◌}
use Rattle.std.specs.Prelude.{string_bytes}
use Rattle.cddlseq_c.specs.Explained.{no_subject, no_word, word_untold}
use Rattle.cddlseq_c.proofs.Refusing.{names_none, word_has_no_room, word_put}
use Rattle.cddlseq_c.proofs.explaining.cddlseq_explain_word.Goals as goal

pub returns-in_default : goal.returns-in_default
returns-in_default c = no_word c.in_default.ensures.cases.0 (record { out = refl; no_bytes = refl })

pub returns-in_default-subject_of : goal.returns-in_default-subject_of
returns-in_default-subject_of c = no_subject (names_none c.args.word.now c.in-Ok.word.now c.in-Ok.ensures.cases.0 c.in_default-subject_of.ensures.none) (record { out = refl; no_bytes = refl })

pub returns-then-put : goal.returns-then-put
returns-then-put c =
    word_put c.args.word.now c.in-Ok.word.now c.in-Ok.ensures.cases.0 c.in-Some.subject c.in-Some.ensures.some
    (string_bytes c.in-Ok-explanation.told) c.as_bytes-bytes.result.now c.args.out.now c.put.new.out (length c.as_bytes-bytes.result.now) c.in-Ok-explanation.ensures refl (c.as_bytes-bytes.ensures.value ∙ c.as_str.ensures.value) c.put.result c.put.ensures c.if-put.true

pub returns-in-Ok-explanation : goal.returns-in-Ok-explanation
returns-in-Ok-explanation c =
    word_has_no_room c.args.word.now c.in-Ok.word.now c.in-Ok.ensures.cases.0 c.in-Some.subject c.in-Some.ensures.some
    (string_bytes c.in-Ok-explanation.told) c.as_bytes-bytes.result.now c.args.out.now c.put.new.out (length c.as_bytes-bytes.result.now) c.in-Ok-explanation.ensures refl (c.as_bytes-bytes.ensures.value ∙ c.as_str.ensures.value) c.put.result c.put.ensures c.if-put.false

pub returns : goal.returns
returns c = word_untold (record { out = refl; no_bytes = refl })
