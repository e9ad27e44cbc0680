-- What a run writes: the report of a stream, the line of its end alone, or its accepted items, in preferred or in
-- deterministic encoding.
use Rattle.std.specs.Prelude.{ℕ, suc, List, [], ◌∷◌, ◌++◌, Option}
use Rattle.cbor_data.specs.Value.{Value}
use Rattle.cbor_data.specs.Deterministic.{deterministic}
use Rattle.cbor_data.specs.Preferred.{preferred}
use Rattle.cbor_data.specs.Sequence.{Found}
use Rattle.seq_run.specs.declared.end.End.{End}
use Rattle.seq_run.specs.declared.output.Mode.{Mode}
use Rattle.seq_run.specs.declared.output.Mode.TheVariants as mode
use Rattle.seq_run.specs.Report.{item_line, end_line}

-- what is written of an item, which has this number
abbrev pub item_output : Mode → ℕ → Found → List ℕ
item_output mode.Report number f = item_line number f
item_output mode.EndLine number f = []
item_output mode.Rewrite number f = preferred f.item
item_output mode.Deterministic number f = deterministic f.item

-- what is written of an item, if anything is, is its line
abbrev pub IsOfLines : Mode → Type 0
IsOfLines mode.Report = Unit {0}
IsOfLines mode.EndLine = Unit {0}
IsOfLines mode.Rewrite = ⊥
IsOfLines mode.Deterministic = ⊥

-- what is written of these items, the first of which has this number
abbrev pub items_output : Mode → ℕ → List Found → List ℕ
items_output m number [] = []
items_output m number (f ∷ fs) = item_output m number f ++ items_output m (suc number) fs

-- what is written of an end, with the item that failed
abbrev pub end_output : Mode → End → Option Value → List ℕ
end_output mode.Report end rejected = end_line end rejected
end_output mode.EndLine end rejected = end_line end rejected
end_output mode.Rewrite end rejected = []
end_output mode.Deterministic end rejected = []

-- what is written of a stream with these items and this end
abbrev pub stream_output : Mode → List Found → End → Option Value → List ℕ
stream_output m found end rejected = items_output m 1 found ++ end_output m end rejected
