-- Writing in parts.
use Rattle.std.proofs.Common.{◌≡◌, ℕ, ◌+◌, ◌<◌, ◌≤◌, List, [], ◌++◌, length, take, refl, sym, ◌∙◌, subst, arith, length-append, append-nil, Result, Ok, Err, Option, None, Some}
use Rattle.std.specs.Io.KnownBytes.{Appends}
use Rattle.std.proofs.KnownBytes.{Appends-trans}
use Rattle.std.proofs.Math.Seq.{take-append-add}
use Rattle.std.proofs.lemmas.List.{take-append-le}
use Rattle.item_nodes.specs.Counted.{HasRisen}
use Rattle.cbor_item.specs.Gone.{State, GoesWhole, Stops, Goes}
use Rattle.cbor_item.specs.declared.write.WriteFault.{WriteFault}

-- what follows a part that went out whole follows from the start
pub goes_on : (a b c : State) (before after : ℕ) (bs cs : List ℕ) (r : Result ℕ WriteFault) → GoesWhole a b before bs after → Goes b c after cs r →
    Goes a c before (bs ++ cs) r
goes_on a b c before after bs cs (Ok n) w h = record {
  is = omega (arith, w.is, h.is, length-append bs cs);
  all = Appends-trans a.contents b.contents c.contents bs cs w.all h.all;
  same = h.same ∙ w.same;
}
goes_on a b c before after bs cs (Err e) w h = record {
  count = length bs + h.count;
  short = omega (arith, h.short, length-append bs cs);
  is = omega (arith, h.is, w.is);
  part = subst (Appends a.contents c.contents) (sym (take-append-add bs cs h.count)) (Appends-trans a.contents b.contents c.contents bs (take h.count cs) w.all h.part);
  failed = subst (λ n. HasRisen n c.failures) w.same h.failed;
}

-- nothing follows a part that stopped
pub goes_no_further : (a b : State) (before written : ℕ) (bs cs : List ℕ) → Stops a b before bs written → Stops a b before (bs ++ cs) written
goes_no_further a b before written bs cs h = record {
  count = h.count;
  short = omega (arith, h.short, length-append bs cs);
  is = h.is;
  part = let within : h.count ≤ length bs = omega (arith, h.short) in subst (Appends a.contents b.contents) (sym (take-append-le h.count bs cs within)) h.part;
  failed = h.failed;
}

keeps : (contents : Option (List ℕ)) → Appends contents contents []
keeps None = tt
keeps (Some xs) = sym (append-nil xs)

pub goes_nowhere : (a : State) (before : ℕ) → GoesWhole a a before [] before
goes_nowhere a before = record { is = omega arith; all = keeps a.contents; same = refl }

-- what has room for two has room for the first, and after the first for the second
pub room_first : (before most : ℕ) (bs cs : List ℕ) → before + length (bs ++ cs) < most → before + length bs < most
room_first before most bs cs h = omega (arith, length-append bs cs)

pub room_rest : (before after most : ℕ) (bs cs : List ℕ) → after ≡ before + length bs → before + length (bs ++ cs) < most → after + length cs < most
room_rest before after most bs cs e h = omega (arith, e, length-append bs cs)

-- the same where the first has no more places than bytes
pub room_behind : (before after most count : ℕ) (bs cs : List ℕ) → after ≡ before + count → count ≤ length bs → before + length (bs ++ cs) < most → after + length cs < most
room_behind before after most count bs cs e f h = omega (arith, e, length-append bs cs)
