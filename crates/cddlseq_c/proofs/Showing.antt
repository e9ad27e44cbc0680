-- What is shown of a session, by whether the buffer has room for it.
use Rattle.std.proofs.Common.{◌≡◌, ℕ, List, Bool, true, false, length, subst}
use Rattle.cddlseq_c.specs.Answers.{IsPut}
use Rattle.cddlseq_c.specs.Fed.{Fed}
use Rattle.cddlseq_c.specs.Pieces.{IsShownBy, Shows, number_of_shown, shown_put, shown_too_long}
use Rattle.cddlseq_c.specs.declared.feeding.Shown.{Shown}
use Rattle.cddlseq_c.specs.declared.told.TheConstants.{OK, NO_ROOM}

module _ (number : ℕ) (f : Fed) (out_old out_new : List ℕ) (shown : Shown) (bytes : List ℕ) (needed : ℕ) (is : number ≡ number_of_shown shown) (shows : Shows shown f bytes) (n : needed ≡ length bytes) (is_put : Bool)
    (put : IsPut is_put bytes out_old out_new) where
  pub with_room : is_put ≡ true → IsShownBy number f out_old out_new needed OK
  with_room fits = shown_put shown bytes is shows n (subst (λ b. IsPut b bytes out_old out_new) fits put)

  pub without : is_put ≡ false → IsShownBy number f out_old out_new needed NO_ROOM
  without short = shown_too_long shown bytes is shows n (subst (λ b. IsPut b bytes out_old out_new) short put)
