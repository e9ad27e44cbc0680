use Rattle.std.proofs.Common.{length, refl, ◌∙◌}
use Rattle.std.specs.Prelude.{option_map, string_bytes}
use Rattle.cddlseq_c.specs.Explained.{no_code, no_file, no_root, untold}
use Rattle.cddlseq_c.proofs.Refusing.{has_no_room, put_so}
use Rattle.cddlseq_c.proofs.explaining.cddlseq_explain.Goals as goal

pub returns-in_default : goal.returns-in_default
returns-in_default c = no_code c.in_default.ensures.none (record { out = refl; no_bytes = refl })

pub returns-in_default-from_utf8 : goal.returns-in_default-from_utf8
returns-in_default-from_utf8 c = no_file c.in_default-from_utf8.ensures.cases.0 (record { out = refl; no_bytes = refl })

pub returns-in_default-name_of : goal.returns-in_default-name_of
returns-in_default-name_of c = no_root c.in_default-name_of.ensures.none (record { out = refl; no_bytes = refl })

pub returns-then-put : goal.returns-then-put
returns-then-put c =
    put_so c.args.text.now c.args.root.now c.args.file.now c.args.refusal.now c.in-Some.code c.in-Some.ensures.some c.in-Ok.file.now c.in-Ok.ensures.cases.0 (option_map (λ n. n.now) c.in-Some-name_of.root) c.in-Some-name_of.ensures.some
    (string_bytes c.in-Ok-explained_refusal.told) c.as_bytes-bytes.result.now c.args.out.now c.put.new.out (length c.as_bytes-bytes.result.now) c.in-Ok-explained_refusal.ensures refl (c.as_bytes-bytes.ensures.value ∙ c.as_str.ensures.value) c.put.result c.put.ensures c.if-put.true

pub returns-in-Ok-explained_refusal : goal.returns-in-Ok-explained_refusal
returns-in-Ok-explained_refusal c =
    has_no_room c.args.text.now c.args.root.now c.args.file.now c.args.refusal.now c.in-Some.code c.in-Some.ensures.some c.in-Ok.file.now c.in-Ok.ensures.cases.0 (option_map (λ n. n.now) c.in-Some-name_of.root) c.in-Some-name_of.ensures.some
    (string_bytes c.in-Ok-explained_refusal.told) c.as_bytes-bytes.result.now c.args.out.now c.put.new.out (length c.as_bytes-bytes.result.now) c.in-Ok-explained_refusal.ensures refl (c.as_bytes-bytes.ensures.value ∙ c.as_str.ensures.value) c.put.result c.put.ensures c.if-put.false

pub returns : goal.returns
returns c = untold (record { out = refl; no_bytes = refl })
