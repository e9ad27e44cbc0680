use Rattle.std.proofs.Common.{ap, ◌∙◌, chars}
use Rattle.std.proofs.lemmas.Iterator.{items_from_collect, YieldsList-from_chars}
use Rattle.std.proofs.lemmas.Result.{IfOk-weaker}
use Rattle.mismatch_words.proofs.paths.characters_of.Goals as goal

pub returns : goal.returns
returns c =
    IfOk-weaker c.collect.result _ _ (λ v h. h ∙ ap chars (c.as_str.ensures.value ∙ c.in_ok-text.ensures.lossy))
    (items_from_collect c.collect.result c.collect.ensures.ran (YieldsList-from_chars c.as_str.result.now c.as_str.utf8 c.chars.ensures.rest))
