use Rattle.std.proofs.Common.{length, ℕ, List, ◌-◌, ◌≤◌, ◌++◌}
use Rattle.std.specs.Prelude.{map, All}
use Rattle.cddl_token.specs.declared.Code.{Code}
use Rattle.cddl_token.specs.Answers.{span, IsReadFrom}
use Rattle.cddl_token.specs.Tokens.{Spanned, Tokenized, Refused}
use Rattle.cddl_token.proofs.scanner.scan.Given as goal

-- what is so of the source from here on is so of all of it, after the tokens so far
abbrev pub invariant-loop-start : goal.invariant-loop-start
invariant-loop-start l = record {
  in_source : l.at ≤ length l.source;
  found : (ts : List Spanned) → Tokenized l.source l.at ts → Tokenized l.source 0 (map span l.out.items ++ ts);
  each : All (IsReadFrom l.source) l.out.items;
  refused : (code : Code) (place : ℕ) → Refused l.source l.at code place → Refused l.source 0 code place;
}

abbrev pub decreases-loop-start : goal.decreases-loop-start
decreases-loop-start l = length l.source - l.at
