-- One word more, and the nearest then.
use Rattle.std.proofs.Common.{◌≡◌, ℕ, ◌+◌, ◌<◌, ◌≤◌, Bor, take, length, get_or, List, [], ◌∷◌, ◌++◌, Option, Some, None, All, sym, ap, ◌∙◌, append_assoc, arith}
use Rattle.std.proofs.lemmas.List.Elements.{All-append, All-cons, All-nil, All-push, All-same, All-weaker}
use Rattle.near_words.specs.declared.Near.{Near}
use Rattle.std.proofs.lemmas.List.{map-append, take_all, take_more}
use Rattle.near_words.specs.Near.{near_edits, texts, IsAt, IsNear}

abbrev Farther : List ℕ → ℕ → List ℕ → Type 0
Farther word edits w = (n : ℕ) → near_edits word w ≡ Some n → edits < n

abbrev NotNearer : List ℕ → ℕ → List ℕ → Type 0
NotNearer word edits w = (n : ℕ) → near_edits word w ≡ Some n → edits ≤ n

absent : (word c : List ℕ) (n : ℕ) → near_edits word c ≡ None → near_edits word c ≡ Some n → ⊥
absent word c n none some = cc

-- the word is not near
pub not_near : (word c : List ℕ) (ws : List (List ℕ)) (best : Option Near) → near_edits word c ≡ None → IsNear word ws best → IsNear word (ws ++ c ∷ []) best
not_near word c ws None none h = All-push (λ w. near_edits word w ≡ None) ws c h none
not_near word c ws (Some near) none h = record {
  before = h.before;
  behind = h.behind ++ c ∷ [];
  among = ap (λ xs. xs ++ c ∷ []) h.among ∙ append_assoc h.before (near.text.now ∷ h.behind) (c ∷ []);
  near = h.near;
  farther = h.farther;
  no_nearer = All-push (NotNearer word near.edits) h.behind c h.no_nearer (λ n e. absurd (absent word c n none e));
}

same_number : (m n : ℕ) → Some m ≡ Some n → m ≡ n
same_number m n e = cc

-- it takes as many edits, or more
pub no_nearer_than : (word c : List ℕ) (ws : List (List ℕ)) (near : Near) (edits : ℕ) → near_edits word c ≡ Some edits → near.edits ≤ edits → IsNear word ws (Some near) → IsNear word (ws ++ c ∷ []) (Some near)
no_nearer_than word c ws near edits found no_fewer h = record {
  before = h.before;
  behind = h.behind ++ c ∷ [];
  among = ap (λ xs. xs ++ c ∷ []) h.among ∙ append_assoc h.before (near.text.now ∷ h.behind) (c ∷ []);
  near = h.near;
  farther = h.farther;
  no_nearer = All-push (NotNearer word near.edits) h.behind c h.no_nearer (λ n e. let same : edits ≡ n = same_number edits n (sym found ∙ e) in omega arith);
}

-- it is the first that is near
pub first_near : (word c : List ℕ) (ws : List (List ℕ)) (near : Near) → near_edits word c ≡ Some near.edits → near.text.now ≡ c → IsNear word ws None → IsNear word (ws ++ c ∷ []) (Some near)
first_near word c ws near found is h = record {
  before = ws;
  behind = [];
  among = ap (λ x. ws ++ x ∷ []) (sym is);
  near = ap (λ x. near_edits word x) is ∙ found;
  farther = All-weaker (λ w. near_edits word w ≡ None) (Farther word near.edits) (λ w none n some. absurd (absent word w n none some)) ws h;
  no_nearer = All-nil (NotNearer word near.edits);
}

farther_all : (word found : List ℕ) (ws : List (List ℕ)) (was now : ℕ) → now < was → IsAt word ws found was → All (Farther word now) ws
farther_all word found ws was now fewer h =
    let front : All (Farther word now) h.before = All-weaker (Farther word was) (Farther word now) (λ w far n e. let k = far n e in omega arith) h.before h.farther in
    let this : Farther word now found = λ n e. let same : was ≡ n = same_number was n (sym h.near ∙ e) in omega arith in
    let back : All (Farther word now) h.behind = All-weaker (NotNearer word was) (Farther word now) (λ w far n e. let k = far n e in omega arith) h.behind h.no_nearer in
    All-same (Farther word now) ws (h.before ++ found ∷ h.behind) h.among (All-append (Farther word now) h.before (found ∷ h.behind) front (All-cons (Farther word now) found h.behind this back))

-- it takes fewer edits
pub nearer_than : (word c : List ℕ) (ws : List (List ℕ)) (was near : Near) → near_edits word c ≡ Some near.edits → near.text.now ≡ c → near.edits < was.edits → IsNear word ws (Some was) → IsNear word (ws ++ c ∷ []) (Some near)
nearer_than word c ws was near found is fewer h = record {
  before = ws;
  behind = [];
  among = ap (λ x. ws ++ x ∷ []) (sym is);
  near = ap (λ x. near_edits word x) is ∙ found;
  farther = farther_all word was.text.now ws was.edits near.edits fewer h;
  no_nearer = All-nil (NotNearer word near.edits);
}

pub texts_more : (ws : List (Bor (List ℕ))) (i : ℕ) (d : Bor (List ℕ)) → i < length ws → texts (take (i + 1) ws) ≡ texts (take i ws) ++ (get_or ws i d).now ∷ []
texts_more ws i d lt = ap texts (take_more ws i d lt) ∙ map-append (λ w. w.now) (take i ws) (get_or ws i d ∷ [])

pub texts_whole : (ws : List (Bor (List ℕ))) (i : ℕ) → length ws ≤ i → texts (take i ws) ≡ texts ws
texts_whole ws i le = ap texts (take_all i ws le)
