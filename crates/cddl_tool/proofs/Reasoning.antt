-- Without a text no reasons are told, and with the text of the options those that are wanted.
use Rattle.std.proofs.Common.{◌≡◌, ℕ, List, ◌++◌, Bool, true, false, if◌then◌else◌, Option, Some, None, IfSome, refl, ap, ◌∙◌, append-nil}
use Rattle.seq_run.specs.Judge.{Judge}
use Rattle.seq_run.specs.Running.{Change}
use Rattle.command_line.specs.declared.choice.Options.{Options}
use Rattle.cddl_tool.specs.Acting.{specification_of, told_of, IsAnswered, IsBroken}
use Rattle.cddl_tool.specs.Reasons.{wanted_text, IsAnsweredWith, IsBrokenWith, as_ever, unexplained}
use Rattle.cddl_tool.proofs.Refusing.{said_as}

module _ (o : Options) (judge : Judge) (output error : Change) where
  answered_so : (stream : List ℕ) (status : ℕ) → IsAnsweredWith o judge None stream output error status → IsAnswered o judge stream output error status
  answered_so stream status a =
      let line : List ℕ = told_of o.task a.end a.rejected in
      let none : line ++ a.reasons ≡ line = ap (λ (r : List ℕ). line ++ r) a.are_reasons ∙ append-nil line in
      record { end = a.end; rejected = a.rejected; written = a.written; told = said_as error (line ++ a.reasons) line none a.told; is = a.is }

  pub answered_alone : (stream : Option (List ℕ)) (status : ℕ) → IfSome stream (λ s. IsAnsweredWith o judge None s output error status) → IfSome stream (λ s. IsAnswered o judge s output error status)
  answered_alone None status h = tt
  answered_alone (Some s) status h = answered_so s status h

  pub broken_alone : (input : Change) → IsBrokenWith o judge None input output error → IsBroken o judge input output error
  broken_alone input (as_ever h) = h
  broken_alone input (unexplained rejected wanted whole said) = absurd wanted

text_where : (b : Bool) (t : List ℕ) → b ≡ false → (if b then Some t else None) ≡ None
text_where true t e = absurd (cc)
text_where false t e = refl

-- no text is looked at where nothing is to be explained
pub no_text_wanted : (o : Options) (text : List ℕ) (given : Option (List ℕ)) → given ≡ wanted_text o text → o.explain ≡ false → given ≡ None
no_text_wanted o text given same e = same ∙ text_where o.explain (specification_of o.task text) e
