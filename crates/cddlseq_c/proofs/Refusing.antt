-- What is told of a refusal, and of what a word names, by what was made and put.
use Rattle.std.proofs.Common.{◌≡◌, ℕ, List, Option, Bool, true, false, length, sym, ap, ◌∙◌, subst}
use Rattle.cddl_explain.specs.Refusals.{IsExplainedRefusal}
use Rattle.cddl_explain.specs.Subjects.{IsNameOf, explanation_of}
use Rattle.cddl_explain.specs.declared.subjects.Subject.{Subject}
use Rattle.cddl_token.specs.declared.Code.{Code}
use Rattle.cddlseq_c.specs.Answers.{IsPut, root_name}
use Rattle.cddlseq_c.specs.Explained.{Explains, IsExplained, IsWordExplained, explained, named_put, named_too_long, too_long}
use Rattle.cddlseq_c.specs.Told.{number_of_code}
use Rattle.cddlseq_c.specs.declared.told.CddlseqRefusal.{CddlseqRefusal}
use Rattle.cddlseq_c.specs.declared.told.TheConstants.{OK, NO_ROOM}

module _ (text root file : List ℕ) (refusal : CddlseqRefusal) (code : Code) (number : refusal.code ≡ number_of_code code) (given : List ℕ) (same : given ≡ file) (name : Option (List ℕ)) (named : name ≡ root_name root) where
  explains : (bytes : List ℕ) → IsExplainedRefusal code refusal.offset given text name bytes → Explains text root file refusal bytes
  explains bytes is = record { code = code; number = number; explained = subst (λ n. IsExplainedRefusal code refusal.offset file text n bytes) named (subst (λ f. IsExplainedRefusal code refusal.offset f text name bytes) same is) }

  module _ (bytes shown out_old out_new : List ℕ) (needed : ℕ) (is : IsExplainedRefusal code refusal.offset given text name bytes) (n : needed ≡ length shown) (are : shown ≡ bytes) (is_put : Bool) (p : IsPut is_put shown out_old out_new) where
    pub put_so : is_put ≡ true → IsExplained text root file refusal out_old out_new needed OK
    put_so fits = explained bytes (explains bytes is) (n ∙ ap length are) (subst (λ b. IsPut true b out_old out_new) are (subst (λ t. IsPut t shown out_old out_new) fits p))

    pub has_no_room : is_put ≡ false → IsExplained text root file refusal out_old out_new needed NO_ROOM
    has_no_room short = too_long bytes (explains bytes is) (n ∙ ap length are) (subst (λ b. IsPut false b out_old out_new) are (subst (λ t. IsPut t shown out_old out_new) short p))

pub names_none : (word given : List ℕ) → given ≡ word → ((s : Subject) → IsNameOf s given → ⊥) → (s : Subject) → ¬ (IsNameOf s word)
names_none word given same none s h = none s (subst (λ w. IsNameOf s w) (sym same) h)

module _ (word given : List ℕ) (same : given ≡ word) (s : Subject) (named : IsNameOf s given) (bytes shown out_old out_new : List ℕ) (needed : ℕ) (is : bytes ≡ explanation_of s) (n : needed ≡ length shown) (are : shown ≡ bytes) (is_put : Bool) (p : IsPut is_put shown out_old out_new) where
  pub word_put : is_put ≡ true → IsWordExplained word out_old out_new needed OK
  word_put fits = named_put s (subst (λ w. IsNameOf s w) same named) (n ∙ ap length (are ∙ is)) (subst (λ b. IsPut true b out_old out_new) (are ∙ is) (subst (λ t. IsPut t shown out_old out_new) fits p))

  pub word_has_no_room : is_put ≡ false → IsWordExplained word out_old out_new needed NO_ROOM
  word_has_no_room short = named_too_long s (subst (λ w. IsNameOf s w) same named) (n ∙ ap length (are ∙ is)) (subst (λ b. IsPut false b out_old out_new) (are ∙ is) (subst (λ t. IsPut t shown out_old out_new) short p))
