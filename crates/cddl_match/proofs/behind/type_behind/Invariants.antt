use Rattle.std.proofs.Common.{◌≡◌, ◌-◌, []}
use Rattle.std.specs.Prelude.{MatchOption}
use Rattle.cddl_meaning.specs.Forms.{Choice}
use Rattle.table_nodes.specs.Language.{language_of}
use Rattle.table_nodes.specs.Nodes.{type_view}
use Rattle.cddl_match.specs.Ahead.{IsTypeOf}
use Rattle.cddl_match.proofs.behind.type_behind.Given as goal

abbrev pub invariant-loop-behind : goal.invariant-loop-behind
invariant-loop-behind l = record {
  passed : IsTypeOf (language_of l.fn.table) l.fn.node l.behind.node l.behind.passed;
  form : MatchOption l.behind.form ((language_of l.fn.table).type_at l.behind.node ≡ Choice []) (λ it. (language_of l.fn.table).type_at l.behind.node ≡ type_view it.now);
}

abbrev pub decreases-loop-behind : goal.decreases-loop-behind
decreases-loop-behind l = 8 - l.behind.passed
