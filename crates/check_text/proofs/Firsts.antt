-- The first of two answers.
use Rattle.std.proofs.Common.{inl, inr, ℕ, List, [], ◌∷◌, ◌++◌, Option, Some, None}
use Rattle.cddl_token.specs.declared.Code.{Code}
use Rattle.check_text.specs.First.{IsFirst, first_in}
use Rattle.check_text.specs.declared.fault.Fault.{Fault}

module _ (P : Code → ℕ → Type 0) where
  pub joined_some : (cs ds : List Code) (f : Fault) → IsFirst P cs (Some f) → IsFirst P (cs ++ ds) (Some f)
  joined_some [] ds f h = absurd h
  joined_some (c ∷ cs) ds f (inl h) = inl h
  joined_some (c ∷ cs) ds f (inr h) = inr (h.0, joined_some cs ds f h.1)

  pub joined_none : (cs ds : List Code) (o : Option Fault) → IsFirst P cs None → IsFirst P ds o → IsFirst P (cs ++ ds) o
  joined_none [] ds o h k = k
  joined_none (c ∷ cs) ds None h k = (h.0, joined_none cs ds None h.1 k)
  joined_none (c ∷ cs) ds (Some f) h k = inr (h.0, joined_none cs ds (Some f) h.1 k)

  pub joined : (cs ds : List Code) (a b : Option Fault) → IsFirst P cs a → IsFirst P ds b → IsFirst P (cs ++ ds) (first_in a b)
  joined cs ds (Some f) b h k = joined_some cs ds f h
  joined cs ds None b h k = joined_none cs ds b h k
