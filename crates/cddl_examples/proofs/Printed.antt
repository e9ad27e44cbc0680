-- What is printed of a text that has a table, and of one that is refused.
use Rattle.std.proofs.Common.{◌≡◌, ◌++◌, Bool, List, ℕ, None, subst}
use Rattle.std.specs.Prelude.{codes}
use Rattle.cddl_check.specs.Text.{IsUnreadText}
use Rattle.cddl_table.specs.Text.{IsTabledText}
use Rattle.cddl_token.specs.Messages.{refusal_text}
use Rattle.cddl_token.specs.declared.Code.{Code}
use Rattle.cddl_token.specs.declared.Refusal.{Refusal}
use Rattle.cddl_token.specs.declared.Refusal.TheVariants.{At}
use Rattle.table_nodes.specs.declared.table.Table.{Table}
use Rattle.seq_run.specs.Running.{Change}
use Rattle.cddl_examples.specs.Checking.{IsLine, IsPrinted, accepted, refused}
use Rattle.cddl_examples.proofs.SoFar.{HaveRoots}

pub printed : HaveRoots → (text : List ℕ) (table : Table) (output : Change) (whole : Bool) → IsTabledText text None table → IsLine (codes "accepted\n") output whole → IsPrinted text output whole
printed roots text table output whole t line = let root = roots text None table t in accepted root.0 root.1 line

pub denied : (text : List ℕ) (u : Refusal) (code : Code) (at : ℕ) (output : Change) (whole : Bool) (line : List ℕ) → u ≡ At code at → IsUnreadText text None u → line ≡ refusal_text (At code at) ++ codes "\n" → IsLine line output whole → IsPrinted text output whole
denied text u code at output whole line e unread is out = refused (record { code = code; at = at }) (subst (IsUnreadText text None) e unread) (subst (λ (b : List ℕ). IsLine b output whole) is out)
