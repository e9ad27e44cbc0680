-- What is inside byte strings with prefix.
use Rattle.std.proofs.Common.{ℕ, ◌≤◌, List, arith}
use Rattle.cddl_literal.specs.Prefixed.{Coded, none, blank, line, comment, other}

pub coded_le : {s : List ℕ} {i j : ℕ} {d : List ℕ} → Coded s i j d → i ≤ j
coded_le (none e f) = omega arith
coded_le (blank b r) = let le = coded_le r in omega arith
coded_le (line c r) = let le = coded_le r in omega arith
coded_le (comment c e r) = let le = coded_le r in let past = c.past in omega arith
coded_le (other l o c r e) = let le = coded_le r in omega arith
