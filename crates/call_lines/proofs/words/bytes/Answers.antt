use Rattle.std.proofs.Common.{◌++◌, ◌∷◌, [], ◌∙◌, sym, ap, lit<, subst}
use Rattle.std.specs.List.{AllZip}
use Rattle.std.proofs.lemmas.Iterator.Consumers.{YieldsList-at, YieldsList-end}
use Rattle.std.proofs.lemmas.Iterator.Splits.{YieldsList-from_str_split}
use Rattle.std.proofs.lemmas.List.Splits.{join_with_byte-slice_split}
use Rattle.std.specs.List.{slice_split}
use Rattle.call_lines.specs.Words.{is_plus, IsPart}
use Rattle.call_lines.proofs.Pieces.{concat_more, one_more, split_apart}
use Rattle.call_lines.proofs.words.bytes.Goals as goal

pub loop-part-preserved : goal.loop-part-preserved
loop-part-preserved c =
    let so_far = c.loop-part.invariant in
    let piece = c.in_ok-push_part.ensures in (
      so_far.0 ++ piece.0 ∷ [],
      one_more IsPart c.loop-part.yielded c.in-Some.part so_far.0 piece.0 so_far.1 piece.1,
      piece.2 ∙ (ap (λ bytes. bytes ++ piece.0) so_far.2 ∙ sym (concat_more so_far.0 piece.0)),
    )

pub returns : goal.returns
returns c =
    let word = c.args.word.now in
    let split = YieldsList-from_str_split 43 word (lit< tt) c.split-part-items.ensures.text c.split-part-items.ensures.has_more c.split-part-items.ensures.pattern in
    let ended = YieldsList-end (YieldsList-at c.into_iter-part-iterator.ensures.into_iter_gives split) c.loop-part.yielded _ c.loop-part.yielded_by _ _ c.in-None.is c.next.ensures.steps in
    record {
      parts = slice_split is_plus word;
      pieces = c.loop-part.invariant.0;
      joined = sym (join_with_byte-slice_split 43 word);
      apart = split_apart is_plus word;
      each = subst (λ parts. AllZip IsPart parts c.loop-part.invariant.0) ended.0 c.loop-part.invariant.1;
      all = c.loop-part.invariant.2;
    }
