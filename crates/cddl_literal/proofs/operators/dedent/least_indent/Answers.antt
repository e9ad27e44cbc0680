use Rattle.std.proofs.Common.{rules, ◌∙◌, ap, sym}
use Rattle.std.proofs.lemmas.Iterator.Splits.{YieldsList-from_slice_split}
use Rattle.std.proofs.lemmas.Iterator.Consumers.{YieldsList-from_filter_map, YieldsList-at, min_from_yields_List}
use Rattle.std.specs.Prelude.{unwrap_or}
use Rattle.std.proofs.lemmas.Iterator.Adapters.{option_map_id}
use borrow.Author.Tests.{tests}
use Rattle.cddl_literal.specs.Operators.Dedent.{is_line_feed, indent}
use Rattle.cddl_literal.proofs.operators.dedent.least_indent.Goals as goal

pub returns : goal.returns
returns c = let least = min_from_yields_List _ _ c.min.ensures.ran (YieldsList-from_filter_map _ indent (YieldsList-at c.filter_map.ensures.source (YieldsList-from_slice_split _ is_line_feed c.args.string.now c.split.ensures.rest c.split.ensures.done c.split.ensures.closure (λ x r q k. search (rules, tests)))) c.filter_map.ensures.closure (λ x r q k. search (rules, tests))) in c.unwrap_or.ensures ∙ ap (λ o. unwrap_or o 0) (sym (option_map_id c.min.result) ∙ least)
