-- What the root's reply says.
use Rattle.std.proofs.Common.{◌≡◌, ℕ, subst}
use Rattle.cbor_data.specs.Value.{Value}
use Rattle.cddl_meaning.specs.Size.{size}
use Rattle.cddl_meaning.specs.Forms.{Language}
use Rattle.cddl_meaning.specs.Judges.{Answer, Yes, No, Reply, Takes, Fails, Says}
use Rattle.cddl_meaning.specs.Moves.{OfType, Replies, reply_of}
use Rattle.cddl_meaning.proofs.Lemmas.{Fits, means}
use Rattle.cddl_match.specs.declared.answers.Verdict.TheVariants as V
use Rattle.cddl_match.specs.Machine.{verdict_of}

module _ {N G : Type 0} (l : Language N G) where
  pub said_yes : {n : N} {p w : ℕ} {x : Value} (r : Reply) → Fits p (size x) → verdict_of r ≡ V.Yes → Replies l (OfType n p x) r w → Says l (l.type_at n) p x Yes w
  said_yes {n = n} {p = p} {w = w} {x = x} (Takes left b far) f e d = let s = means l f d in by s.answer s.is s.says
    where
      by : (a : Answer) → Takes left b far ≡ reply_of p x a → Says l (l.type_at n) p x a w → Says l (l.type_at n) p x Yes w
      by Yes i h = h
      by (No k) i h = cc
  said_yes (Fails far) f e d = cc

  pub said_no : {n : N} {p w place : ℕ} {x : Value} (r : Reply) → Fits p (size x) → verdict_of r ≡ V.No place → Replies l (OfType n p x) r w → Says l (l.type_at n) p x (No place) w
  said_no (Takes left b far) f e d = cc
  said_no {n = n} {p = p} {w = w} {place = place} {x = x} (Fails far) f e d = let s = means l f d in by s.answer s.is s.says
    where
      by : (a : Answer) → Fails far ≡ reply_of p x a → Says l (l.type_at n) p x a w → Says l (l.type_at n) p x (No place) w
      by Yes i h = cc
      by (No k) i h = subst (λ k. Says l (l.type_at n) p x (No k) w) (cc (i, e)) h
