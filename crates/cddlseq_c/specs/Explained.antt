-- What is reported for a refusal to one who wants more than its numbers, and of what a word names.
use Rattle.std.specs.Prelude.{ℕ, ◌≡◌, ◌≢◌, true, false, List, length, IsUtf8}
use Rattle.cddl_explain.specs.Refusals.{IsExplainedRefusal}
use Rattle.cddl_explain.specs.Subjects.{IsNameOf, explanation_of}
use Rattle.cddl_explain.specs.declared.subjects.Subject.{Subject}
use Rattle.cddl_token.specs.declared.Code.{Code}
use Rattle.cddlseq_c.specs.Answers.{IsPut, root_name}
use Rattle.cddlseq_c.specs.Told.{number_of_code}
use Rattle.cddlseq_c.specs.declared.told.CddlseqRefusal.{CddlseqRefusal}
use Rattle.cddlseq_c.specs.declared.told.TheConstants.{OK, NO_MEMORY, NO_ROOM, BAD_REFUSAL, BAD_FILE, BAD_ROOT, BAD_WORD}

-- These bytes explain the refusal, of the code with its number.
pub record Explains (text root file : List ℕ) (refusal : CddlseqRefusal) (bytes : List ℕ) : Type 0 where
  pub code : Code
  pub number : refusal.code ≡ number_of_code code
  pub explained : IsExplainedRefusal code refusal.offset file text (root_name root) bytes

-- that nothing is written
pub record IsUntouched (out_old out_new : List ℕ) (needed : ℕ) : Type 0 where
  pub out : out_new ≡ out_old
  pub no_bytes : needed ≡ 0

-- What `cddlseq_explain` answers: what explains the refusal is written, where there is room for it; or why nothing is: the number is
-- that of no code, a name is not UTF-8, or memory was refused.
pub data IsExplained (text root file : List ℕ) (refusal : CddlseqRefusal) (out_old out_new : List ℕ) (needed : ℕ) : ℕ → Type 0 where
  explained : (bytes : List ℕ) → Explains text root file refusal bytes → needed ≡ length bytes → IsPut true bytes out_old out_new → IsExplained text root file refusal out_old out_new needed OK
  too_long : (bytes : List ℕ) → Explains text root file refusal bytes → needed ≡ length bytes → IsPut false bytes out_old out_new → IsExplained text root file refusal out_old out_new needed NO_ROOM
  no_code : ((code : Code) → refusal.code ≢ number_of_code code) → IsUntouched out_old out_new needed → IsExplained text root file refusal out_old out_new needed BAD_REFUSAL
  no_file : ¬ (IsUtf8 file) → IsUntouched out_old out_new needed → IsExplained text root file refusal out_old out_new needed BAD_FILE
  no_root : ¬ (IsUtf8 root) → IsUntouched out_old out_new needed → IsExplained text root file refusal out_old out_new needed BAD_ROOT
  untold : IsUntouched out_old out_new needed → IsExplained text root file refusal out_old out_new needed NO_MEMORY

-- What `cddlseq_explain_word` answers: what is said of the code or the cause that the word names is written, where there is room for it;
-- or why nothing is: it names none, or is not UTF-8, or memory was refused.
pub data IsWordExplained (word out_old out_new : List ℕ) (needed : ℕ) : ℕ → Type 0 where
  named_put : (s : Subject) → IsNameOf s word → needed ≡ length (explanation_of s) → IsPut true (explanation_of s) out_old out_new → IsWordExplained word out_old out_new needed OK
  named_too_long : (s : Subject) → IsNameOf s word → needed ≡ length (explanation_of s) → IsPut false (explanation_of s) out_old out_new → IsWordExplained word out_old out_new needed NO_ROOM
  no_subject : ((s : Subject) → ¬ (IsNameOf s word)) → IsUntouched out_old out_new needed → IsWordExplained word out_old out_new needed BAD_WORD
  no_word : ¬ (IsUtf8 word) → IsUntouched out_old out_new needed → IsWordExplained word out_old out_new needed BAD_WORD
  word_untold : IsUntouched out_old out_new needed → IsWordExplained word out_old out_new needed NO_MEMORY
