-- Numbers of 2^64 and more.
use Rattle.std.proofs.Common.{inr, arith}
use Rattle.cddl_language.specs.Numbers as N
use Rattle.cddl_language.specs.Faults.{IsBadHash}
use Rattle.check_terms.specs.Texts.HashForm.{IsGreat}

pub great_is_bad : (f : N.HashForm) → IsGreat f → IsBadHash f
great_is_bad N.any_item h = absurd h
great_is_bad (N.major d) h = absurd h
great_is_bad (N.numbered d n) h = inr (inr (inr (omega arith)))
