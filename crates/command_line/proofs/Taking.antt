-- What was read of a file, from piece to piece.
use Rattle.std.proofs.Common.{◌≡◌, ℕ, ◌+◌, ◌≤◌, List, [], ◌++◌, length, take, drop, Option, Some, None, IfSome, refl, sym, ap, ◌∙◌, subst, arith, append-nil, append_assoc, length-append}
use Rattle.std.proofs.lemmas.List.{take_all, drop_all}
use Rattle.std.proofs.Math.Seq.{drop-append_seam, take-append_seam}
use Rattle.std.specs.Io.KnownBytes as bytes
use Rattle.command_line.specs.Reading.{IsReadWithin}

consumes_more : (a b c : Option (List ℕ)) (bs cs : List ℕ) → bytes.Consumes a b bs → bytes.Consumes b c cs → bytes.Consumes a c (bs ++ cs)
consumes_more None b c bs cs p q = tt
consumes_more (Some x) None c bs cs p q = absurd p
consumes_more (Some x) (Some y) None bs cs p q = absurd q
consumes_more (Some x) (Some y) (Some z) bs cs p q = p ∙ (ap (λ (l : List ℕ). bs ++ l) q ∙ sym (append_assoc bs cs z))

-- So many bytes at most were read, and these are they.
pub record IsSoFar (n : ℕ) (before now : Option (List ℕ)) (read : List ℕ) : Type 0 where
  pub consumed : bytes.Consumes before now read
  pub few : length read ≤ n

pub nothing_read : (n : ℕ) (before : Option (List ℕ)) → IsSoFar n before before []
nothing_read n None = record { consumed = tt; few = omega arith }
nothing_read n (Some x) = record { consumed = refl; few = omega arith }

pub within : (n : ℕ) (before now : Option (List ℕ)) (read : List ℕ) → IsSoFar n before now read → IsReadWithin n before now
within n before now read s = (read, s.consumed, s.few)

-- no byte more
pub read_none : (n : ℕ) (before now next : Option (List ℕ)) (read buffer : List ℕ) (k : ℕ) → IsSoFar n before now read → bytes.Consumes now next (take k buffer) → k ≡ 0 → IsSoFar n before next read
read_none n before now next read buffer k s c e = record {
  consumed = subst (λ (b : List ℕ). bytes.Consumes before next b) (ap (λ (j : ℕ). read ++ take j buffer) e ∙ append-nil read) (consumes_more before now next read (take k buffer) s.consumed c);
  few = s.few;
}

-- one piece more
pub one_more : (n : ℕ) (before now next : Option (List ℕ)) (read piece : List ℕ) → IsSoFar n before now read → bytes.Consumes now next piece → length read + length piece ≤ n → IsSoFar n before next (read ++ piece)
one_more n before now next read piece s c few = record { consumed = consumes_more before now next read piece s.consumed c; few = omega (arith, few, length-append read piece) }

consumes_kept : (a b c : Option (List ℕ)) (bs : List ℕ) → bytes.Consumes a b bs → bytes.Keeps b c → bytes.Consumes a c bs
consumes_kept None b c bs p q = tt
consumes_kept (Some x) None c bs p q = absurd p
consumes_kept (Some x) (Some y) None bs p q = absurd q
consumes_kept (Some x) (Some y) (Some z) bs p q = p ∙ ap (λ (l : List ℕ). bs ++ l) (sym q)

-- a read that failed
pub failed : (n : ℕ) (before now next : Option (List ℕ)) (read : List ℕ) → IsSoFar n before now read → bytes.Keeps now next → IsReadWithin n before next
failed n before now next read s k = (read, consumes_kept before now next read s.consumed k, s.few)

-- What was read is all that is read of a file.
pub record IsFront (n : ℕ) (before after : Option (List ℕ)) (read : List ℕ) : Type 0 where
  pub front : IfSome before (λ all. read ≡ take n all)
  pub behind : IfSome before (λ all. after ≡ Some (drop n all))

-- where no byte is left
pub at_end : (n : ℕ) (before now : Option (List ℕ)) (read : List ℕ) → IsSoFar n before now read → bytes.IsAtEnd now → IsFront n before now read
at_end n None now read s e = record { front = tt; behind = tt }
at_end n (Some x) None read s e = absurd s.consumed
at_end n (Some x) (Some y) read s e =
    let same : x ≡ read = s.consumed ∙ (ap (λ (l : List ℕ). read ++ l) e ∙ append-nil read) in
    let few : length x ≤ n = omega (arith, s.few, ap length same) in
    record { front = sym same ∙ sym (take_all n x few); behind = ap Some (e ∙ sym (drop_all n x few)) }

-- where as many are read as may be
pub full : (n : ℕ) (before now : Option (List ℕ)) (read : List ℕ) → IsSoFar n before now read → n ≤ length read → IsFront n before now read
full n None now read s h = record { front = tt; behind = tt }
full n (Some x) None read s h = absurd s.consumed
full n (Some x) (Some y) read s h =
    let len : n ≡ length read = omega (arith, s.few, h) in
    record {
      front = sym (ap (take n) s.consumed ∙ (ap (λ k. take k (read ++ y)) len ∙ take-append_seam read y));
      behind = ap Some (sym (ap (drop n) s.consumed ∙ (ap (λ k. drop k (read ++ y)) len ∙ drop-append_seam read y)));
    }
