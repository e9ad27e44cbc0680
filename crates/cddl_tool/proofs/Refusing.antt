-- What is told of a text that has no table.
use Rattle.std.proofs.Common.{◌≡◌, ℕ, List, ◌⊎◌, inl, inr, Option, true, false, subst, sym, string_bytes}
use Rattle.std.specs.Prelude.{Result, String, IfOk}
use Rattle.std.specs.Io.KnownBytes as bytes
use Rattle.std.proofs.lemmas.Result.{IfOk-weaker}
use Rattle.cddl_check.specs.Text.{IsUnreadText}
use Rattle.cddl_token.specs.declared.Refusal.{Refusal}
use Rattle.cddl_token.specs.declared.Refusal.TheVariants as RefusalV
use Rattle.check_text.specs.declared.fault.Fault.{Fault}
use Rattle.seq_run.specs.Running.{Change}
use Rattle.command_line.specs.Lines.{memory_line}
use Rattle.command_line.specs.declared.choice.Options.{Options}
use Rattle.command_line.specs.declared.status.TheConstants.{REFUSED, BROKEN}
use Rattle.cddl_tool.specs.Further.{IsReason}
use Rattle.cddl_tool.specs.Acting.{named_file, refusal_line, wanted_root, IsSaid, IsToldRefusal, line_alone, with_reason, IsTurnedDown, refused, no_memory}

-- the reason was told
abbrev pub Tells : Options → List ℕ → Refusal → Change → ℕ → Type 0
Tells o text why error status = IsUnreadText text (wanted_root o) why → IsTurnedDown o text error status

-- the text that was read is the one that was meant, under the name that was meant
pub turned_down : (o : Options) (text wanted : List ℕ) (given : Option (List ℕ)) (why : Refusal) (error : Change) (status : ℕ) → text ≡ wanted → given ≡ wanted_root o →
    Tells o text why error status → IsUnreadText text given why → IsTurnedDown o wanted error status
turned_down o text wanted given why error status e f told h = subst (λ t. IsTurnedDown o t error status) e (told (subst (λ r. IsUnreadText text r why) f h))

pub tells_fault : (o : Options) (text : List ℕ) (f : Fault) (error : Change) (status : ℕ) →
    ((status ≡ REFUSED) × ((told : List ℕ) × IsToldRefusal o text f told × IsSaid error told)) ⊎ ((status ≡ BROKEN) × IsSaid error memory_line) → Tells o text (RefusalV.At f.code f.at) error status
tells_fault o text f error status (inl h) = λ wrong. subst (λ n. IsTurnedDown o text error n) (sym h.0) (refused f wrong h.1.0 h.1.1 h.1.2)
tells_fault o text f error status (inr h) = λ wrong. subst (λ n. IsTurnedDown o text error n) (sym h.0) (no_memory h.1)

pub tells_memory : (o : Options) (text : List ℕ) (error : Change) (status : ℕ) → status ≡ BROKEN → IsSaid error memory_line → Tells o text RefusalV.Memory error status
tells_memory o text error status e said = λ h. subst (λ n. IsTurnedDown o text error n) (sym e) (no_memory said)

-- a text that is the same was said
pub said_as : (error : Change) (text told : List ℕ) → text ≡ told → IsSaid error text → IsSaid error told
said_as error text told same said = λ kept few. subst (λ (b : List ℕ). bytes.Appends error.before error.after b) same (said kept few)

-- what is told of a refusal, by the flag
pub told_line : {Z E : Type 0} (o : Options) (text : List ℕ) (f : Fault) (r : Result (String Z) E) → o.explain ≡ false → IfOk r (λ line. string_bytes line ≡ refusal_line f) → IfOk r (λ told. IsToldRefusal o text f (string_bytes told))
told_line o text f r e h = IfOk-weaker r _ _ (λ told same. subst (λ t. IsToldRefusal o text f t) (sym same) (line_alone e)) h

pub told_reason : {Z E : Type 0} (o : Options) (text : List ℕ) (f : Fault) (r : Result (String Z) E) → o.explain ≡ true →
    IfOk r (λ told. IsReason f (named_file o) text (wanted_root o) (string_bytes told)) → IfOk r (λ told. IsToldRefusal o text f (string_bytes told))
told_reason o text f r e h = IfOk-weaker r _ _ (λ told reason. with_reason e (string_bytes told) reason) h

-- the names are those of the options
pub by_names : {Z E : Type 0} (o : Options) (text : List ℕ) (f : Fault) (file : List ℕ) (root : Option (List ℕ)) (r : Result (String Z) E) → file ≡ named_file o → root ≡ wanted_root o →
    IfOk r (λ told. IsReason f file text root (string_bytes told)) → IfOk r (λ told. IsReason f (named_file o) text (wanted_root o) (string_bytes told))
by_names o text f file root r is_file is_root h =
    IfOk-weaker r _ _ (λ told reason. subst (λ x. IsReason f (named_file o) text x (string_bytes told)) is_root (subst (λ x. IsReason f x text root (string_bytes told)) is_file reason)) h
