-- What is printed of a text.
use Rattle.std.specs.Prelude.{◌≡◌, ℕ, Bool, true, false, List, ◌++◌, None, codes, IsTrue}
use Rattle.std.specs.Io.KnownBytes as bytes
use Rattle.check_text.specs.declared.fault.Fault.{Fault}
use Rattle.cddl_check.specs.Text.{IsWrongText}
use Rattle.cddl_token.specs.Messages.{refusal_text}
use Rattle.cddl_token.specs.declared.Refusal.TheVariants.{At}
use Rattle.seq_run.specs.Running.{Change, HasFailed}
use Rattle.cddl.specs.Rules.{HasRoot, Rule}

-- The line went out whole, or the device failed.
abbrev pub IsLine : List ℕ → Change → Bool → Type 0
IsLine line output true = bytes.Appends output.before output.after line
IsLine line output false = HasFailed output

-- The text has a root rule, and it is accepted; or this is the fault that is reported of it.
pub data IsPrinted (text : List ℕ) (output : Change) (whole : Bool) : Type 0 where
  accepted : (rule : Rule) → HasRoot text None rule → IsLine (codes "accepted\n") output whole → IsPrinted text output whole
  refused : (fault : Fault) → IsWrongText text None fault → IsLine (refusal_text (At fault.code fault.at) ++ codes "\n") output whole → IsPrinted text output whole
