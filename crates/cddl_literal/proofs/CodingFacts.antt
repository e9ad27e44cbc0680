-- What the decoders' answers come to.
use Rattle.std.proofs.Common.{◌≡◌, ◌≢◌, ℕ, true, false, List, map, Option, Some, None, Result, Ok, Err, refl, sym, ap, ◌∙◌, if◌then◌else◌}
use Rattle.std.specs.Prelude.{IfOk, IfErr, MatchResult}
use Rattle.std.specs.Option.{option_map}
use Rattle.std.specs.Result.{result_ok}
use Rattle.std.specs.List.{list_any}
use Rattle.base64.specs.GeneralPurpose.{decode_of, IsDecodeFailure}
use Rattle.base64.specs.Engines.{standard, standard_no_pad}
use Rattle.base64.specs.declared.engine.general_purpose.GeneralPurpose.{GeneralPurpose}
use Rattle.base64.specs.declared.decode.DecodeAllocError.{DecodeAllocError}
use Rattle.base64.specs.declared.decode.DecodeAllocError.TheVariants.{DecodeError as Failed, OutOfMemory}
use Rattle.cddl_literal.specs.Prefixed.{base64_bytes, is_padding, standard_letter}

pub answer_by : {V E : Type 0} (items : V → List ℕ) (engine : GeneralPurpose) (s : List ℕ) (r : Result V DecodeAllocError) (o : Result (Option V) E) → IfOk r (λ v. decode_of engine s ≡ Ok (items v)) → IfErr r (λ e. IsDecodeFailure engine s e) → IfOk o (λ p. MatchResult r (λ v. p ≡ Some v) (λ e. (p ≡ None) × (e ≢ OutOfMemory))) → IfOk o (λ p. option_map items p ≡ result_ok (decode_of engine s))
answer_by items engine s r (Err e) ok err h = tt
answer_by items engine s (Ok v) (Ok p) ok err h = ap (option_map items) h ∙ sym (ap result_ok ok)
answer_by items engine s (Err (Failed d)) (Ok p) ok err h = ap (option_map items) h.0 ∙ sym (ap result_ok err)
answer_by items engine s (Err OutOfMemory) (Ok p) ok err h = absurd (h.1 refl)

if_ok_along : {V E : Type 0} (items : V → List ℕ) (o : Result (Option V) E) (m n : Option (List ℕ)) → m ≡ n → IfOk o (λ p. option_map items p ≡ m) → IfOk o (λ p. option_map items p ≡ n)
if_ok_along items (Ok p) m n e h = h ∙ e
if_ok_along items (Err x) m n e h = tt

pub padded : {V E : Type 0} (items : V → List ℕ) (o : Result (Option V) E) (d : List ℕ) (s : List ℕ) → s ≡ map standard_letter d → list_any is_padding d ≡ true → IfOk o (λ p. option_map items p ≡ result_ok (decode_of standard s)) → IfOk o (λ p. option_map items p ≡ base64_bytes d)
unfolding base64_bytes
padded items o d s e padding h = if_ok_along items o _ _ (ap (λ t. result_ok (decode_of standard t)) e ∙ sym (ap (λ b. if b then result_ok (decode_of standard (map standard_letter d)) else result_ok (decode_of standard_no_pad (map standard_letter d))) padding)) h

pub unpadded : {V E : Type 0} (items : V → List ℕ) (o : Result (Option V) E) (d : List ℕ) (s : List ℕ) → s ≡ map standard_letter d → list_any is_padding d ≡ false → IfOk o (λ p. option_map items p ≡ result_ok (decode_of standard_no_pad s)) → IfOk o (λ p. option_map items p ≡ base64_bytes d)
unfolding base64_bytes
unpadded items o d s e padding h = if_ok_along items o _ _ (ap (λ t. result_ok (decode_of standard_no_pad t)) e ∙ sym (ap (λ b. if b then result_ok (decode_of standard (map standard_letter d)) else result_ok (decode_of standard_no_pad (map standard_letter d))) padding)) h
