-- A choice of choices says what the choice of all their types says.
use Rattle.std.proofs.Common.{◌≡◌, ◌↔◌, ℕ, zero, suc, ◌+◌, ◌≤◌, max, Bool, true, false, if◌then◌else◌, List, [], ◌∷◌, ◌++◌, map, Option, Some, None, refl, sym, ap, subst, ◌∙◌, arith}
use Rattle.cbor_data.specs.Value.{Value}
use Rattle.cddl_meaning.specs.Forms as F
use Rattle.cddl_meaning.specs.Forms.{Language}
use Rattle.cddl_meaning.specs.Judges.{Answer, Yes, No, Says, choice, Chooses, no_more, this_one, not_this}
use Rattle.cddl_language.specs.Numbers.{occurs_once}
use Rattle.cddl_language.specs.Terms.{Term, choice_of, choice_of_name, Ref, Group, sole, orelse, Entries, no_entries, entries, Entry, typed, keyed, grouped, Definition, alternatives, entry_list}
use Rattle.cddl_language.specs.Substitution.{group_choices}
use Rattle.cddl_language.specs.Kinds.{Part, asks_type, names_group, opens, part_of}
use Rattle.cddl_language.specs.Reach.{most_instances}
use Rattle.cddl_language.specs.Literals.{Values}
use Rattle.cddl_language.specs.Choices.{chosen, chosen_by_name, chosen_each, chosen_entries, chosen_entry, chosen_group, chosen_in, chosen_part, types_of_both}
use Rattle.cddl_language.specs.Language as L
use Rattle.cddl_language.specs.Language.{TypeName, GroupName, type, chosen_of, Saying, chosen_name, chosen_names, chosen_part_name, language, type_node}

-- the same answer, where trials before it failed at g
abbrev raise : ℕ → Answer → Answer
raise g Yes = Yes
raise g (No n) = No (max g n)

module _ {N G : Type 0} (l : Language N G) (p : ℕ) (x : Value) where
  raised : (ms : List N) (f : ℕ) (a : Answer) (w : ℕ) → Chooses l ms p x f a w → (g : ℕ) → Chooses l ms p x (max g f) (raise g a) w
  raised ms f a w no_more g = no_more
  raised ms f a w (this_one s) g = this_one s
  raised ms f a w (not_this {later = n} {v = v} {w = u} {ms = more} s c) g = not_this s (subst (λ k. Chooses l more p x k (raise g a) u) step (raised more (max f n) a u c g))
    where
      step : max g (max f n) ≡ max (max g f) n
      step = omega arith

  at_least : (ms : List N) (f n w : ℕ) → Chooses l ms p x f (No n) w → f ≤ n
  at_least ms f n w no_more = omega arith
  at_least ms f n w (not_this {later = k} {w = u} {ms = more} s c) = let h = at_least more (max f k) n u c in omega (arith, h)

  -- the answer of which this one is raised
  lowered : (ms : List N) (g : ℕ) (a : Answer) (w : ℕ) → Chooses l ms p x g a w → (f : ℕ) → f ≤ g → (b : Answer) × (Chooses l ms p x f b w) × (a ≡ raise g b)
  lowered ms g a w no_more f h = (No f, no_more, ap No step)
    where
      step : g ≡ max g f
      step = omega (arith, h)
  lowered ms g a w (this_one s) f h = (Yes, this_one s, refl)
  lowered ms g a w (not_this {later = n} {v = v} {w = u} {ms = more} s c) f h = by (lowered more (max g n) a u c (max f n) (omega (arith, h)))
    where
      by : (b : Answer) × (Chooses l more p x (max f n) b u) × (a ≡ raise (max g n) b) → (b : Answer) × (Chooses l ms p x f b w) × (a ≡ raise g b)
      by (Yes, d, e) = (Yes, not_this s d, e)
      by (No k, d, e) = (No k, not_this s d, e ∙ ap No (step (at_least more (max f n) k u d)))
        where
          step : max f n ≤ k → max (max g n) k ≡ max g k
          step i = omega (arith, i)

  -- One list after the other.

  on_after : (ms ns : List N) (f m : ℕ) (a : Answer) (v w : ℕ) → Chooses l ms p x f (No m) v → Chooses l ns p x m a w → (u : ℕ) × Chooses l (ms ++ ns) p x f a u
  on_after ms ns f m a v w no_more d = (w, d)
  on_after ms ns f m a v w (not_this {later = n} {v = y} {w = z} {ms = more} s c) d = let e = on_after more ns (max f n) m a z w c d in (y + e.0, not_this s e.1)

  at_first : (ms ns : List N) (f w : ℕ) → Chooses l ms p x f Yes w → (u : ℕ) × Chooses l (ms ++ ns) p x f Yes u
  at_first ms ns f w (this_one s) = (w, this_one s)
  at_first ms ns f w (not_this {later = n} {v = y} {w = z} {ms = more} s c) = let e = at_first more ns (max f n) z c in (y + e.0, not_this s e.1)

  pub data Parted (ms ns : List N) (f : ℕ) (a : Answer) : Type 0 where
    in_first : {w : ℕ} → Chooses l ms p x f Yes w → a ≡ Yes → Parted ms ns f a
    in_second : {m v w : ℕ} → Chooses l ms p x f (No m) v → Chooses l ns p x m a w → Parted ms ns f a

  parted : (ms ns : List N) (f : ℕ) (a : Answer) (w : ℕ) → Chooses l (ms ++ ns) p x f a w → Parted ms ns f a
  parted [] ns f a w c = in_second no_more c
  parted (m ∷ ms) ns f a w (this_one s) = in_first (this_one s) refl
  parted (m ∷ ms) ns f a w (not_this {later = n} {w = z} s c) = by (parted ms ns (max f n) a z c)
    where
      by : Parted ms ns (max f n) a → Parted (m ∷ ms) ns f a
      by (in_first d e) = in_first (not_this s d) e
      by (in_second d e) = in_second (not_this s d) e

  -- from whatever place at or after the item trials failed before
  abbrev pub Choosing : List N → ℕ → Answer → Type 0
  Choosing ms f a = (w : ℕ) × Chooses l ms p x f a w

  pub record AreSame (ms ns : List N) : Type 0 where
    pub onwards : (f : ℕ) (a : Answer) → p ≤ f → Choosing ms f a → Choosing ns f a
    pub back : (f : ℕ) (a : Answer) → p ≤ f → Choosing ns f a → Choosing ms f a

  both : (ms ns os ps : List N) → ((f : ℕ) (a : Answer) → p ≤ f → Choosing ms f a → Choosing os f a) → ((f : ℕ) (a : Answer) → p ≤ f → Choosing ns f a → Choosing ps f a) → (f : ℕ) (a : Answer) → p ≤ f → Choosing (ms ++ ns) f a → Choosing (os ++ ps) f a
  both ms ns os ps g h f a i c = by (parted ms ns f a c.0 c.1)
    where
      by : Parted ms ns f a → Choosing (os ++ ps) f a
      by (in_first {w = w} d e) = subst (Choosing (os ++ ps) f) (sym e) (let k = g f Yes i (w, d) in at_first os ps f k.0 k.1)
      by (in_second {m = m} {v = v} {w = w} d e) =
          let k = g f (No m) i (v, d) in
          let o = at_least ms f m v d in
          let j = h m a (omega (arith, i, o)) (w, e) in
          on_after os ps f m a k.0 j.0 k.1 j.1

  pub joined_same : (ms ns os ps : List N) → AreSame ms os → AreSame ns ps → AreSame (ms ++ ns) (os ++ ps)
  joined_same ms ns os ps h k = record { onwards = both ms ns os ps h.onwards k.onwards; back = both os ps ms ns h.back k.back }

  pub same_itself : (ms : List N) → AreSame ms ms
  same_itself ms = record { onwards = λ f a h c. c; back = λ f a h c. c }

  -- a choice of its own
  pub nested_same : (m : N) (ms ns : List N) → l.type_at m ≡ F.Choice ns → AreSame ms ns → AreSame ms (m ∷ [])
  nested_same m ms ns e same = record { onwards = onwards; back = back }
    where
      up : (f : ℕ) → p ≤ f → max f p ≡ f
      up f h = omega (arith, h)

      onwards : (f : ℕ) (a : Answer) → p ≤ f → Choosing ms f a → Choosing (m ∷ []) f a
      onwards f a h c = by (lowered ms f a c.0 c.1 p h)
        where
          says : (b : Answer) (w : ℕ) → Choosing ns p b → (v : ℕ) × Says l (l.type_at m) p x b v
          says b w d = (suc d.0, subst (λ n. Says l n p x b (suc d.0)) (sym e) (choice d.1))

          by : (b : Answer) × (Chooses l ms p x p b c.0) × (a ≡ raise f b) → Choosing (m ∷ []) f a
          by (Yes, d, i) = let s = says Yes 0 (same.onwards p Yes (omega arith) (c.0, d)) in (s.0, subst (λ b. Chooses l (m ∷ []) p x f b s.0) (sym i) (this_one s.1))
          by (No n, d, i) = let s = says (No n) 0 (same.onwards p (No n) (omega arith) (c.0, d)) in (s.0 + 0, subst (λ b. Chooses l (m ∷ []) p x f b (s.0 + 0)) (sym i) (not_this s.1 no_more))

      chooses : (b : Answer) (w : ℕ) → Says l (l.type_at m) p x b w → Choosing ms p b
      chooses b w s = by w (subst (λ n. Says l n p x b w) e s)
        where
          by : (w : ℕ) → Says l (F.Choice ns) p x b w → Choosing ms p b
          by u (choice {w = v} c) = same.back p b (omega arith) (v, c)

      back : (f : ℕ) (a : Answer) → p ≤ f → Choosing (m ∷ []) f a → Choosing ms f a
      back f a h (w, this_one {w = v} s) = let c = chooses Yes v s in (c.0, subst (λ k. Chooses l ms p x k Yes c.0) (up f h) (raised ms p Yes c.0 c.1 f))
      back f a h (w, not_this {later = n} {v = v} {w = u} s d) = let c = chooses (No n) v s in (c.0, by c.0 n u a d (subst (λ k. Chooses l ms p x k (No (max f n)) c.0) (up f h) (raised ms p (No n) c.0 c.1 f)))
        where
          by : (v n u : ℕ) (a : Answer) → Chooses l [] p x (max f n) a u → Chooses l ms p x f (No (max f n)) v → Chooses l ms p x f a v
          by v n u a no_more c = c

-- What a group's entries choose from.
module _ (worth : Values) (ds : List Definition) (p : ℕ) (x : Value) where
  abbrev Same : List Term → List TypeName → Type 0
  Same ts ns = AreSame (language worth ds) p x (map type ts) ns

  mapped : (ts us : List Term) → map type (ts ++ us) ≡ map type ts ++ map type us
  mapped [] us = refl
  mapped (t ∷ ts) us = ap (λ (ns : List TypeName). type t ∷ ns) (mapped ts us)

  further : (ts us : List Term) (ns ms : List TypeName) → Same ts ns → Same us ms → Same (ts ++ us) (ns ++ ms)
  further ts us ns ms h k = subst (λ os. AreSame (language worth ds) p x os (ns ++ ms)) (sym (mapped ts us)) (joined_same (language worth ds) p x (map type ts) (map type us) ns ms h k)

  nested : (ess : List Entries) (ts : List Term) → Same ts (chosen_names worth ds ess) → Same ts (chosen_of ess ∷ [])
  nested ess ts h = nested_same (language worth ds) p x (chosen_of ess) (map type ts) (chosen_names worth ds ess) refl h

  named_all : (es fs : List Entry) → map (chosen_name worth ds) (es ++ fs) ≡ map (chosen_name worth ds) es ++ map (chosen_name worth ds) fs
  named_all [] fs = refl
  named_all (e ∷ es) fs = ap (λ (ns : List TypeName). chosen_name worth ds e ∷ ns) (named_all es fs)

  one_more : (xs ys zs : List TypeName) → (xs ++ ys) ++ zs ≡ xs ++ (ys ++ zs)
  one_more [] ys zs = refl
  one_more (y ∷ xs) ys zs = ap (λ (ns : List TypeName). y ∷ ns) (one_more xs ys zs)

  none : (xs : List TypeName) → xs ≡ xs ++ []
  none [] = refl
  none (y ∷ xs) = ap (λ (ns : List TypeName). y ∷ ns) (none xs)

  names_all : (ess : List Entries) (es : Entries) → chosen_names worth ds ess ++ map (chosen_name worth ds) (entry_list es) ≡ chosen_names worth ds (ess ++ es ∷ [])
  names_all [] es = none (map (chosen_name worth ds) (entry_list es))
  names_all (fs ∷ ess) es = one_more (map (chosen_name worth ds) (entry_list fs)) (chosen_names worth ds ess) (map (chosen_name worth ds) (entry_list es)) ∙ ap (λ ns. map (chosen_name worth ds) (entry_list fs) ++ ns) (names_all ess es)

  two : (o q : Option (List Term)) (vs : List Term) → types_of_both o q ≡ Some vs → (ts : List Term) × (us : List Term) × (o ≡ Some ts) × (q ≡ Some us) × (vs ≡ ts ++ us)
  two (Some ts) (Some us) vs e = (ts, us, refl, refl, same (ts ++ us) vs e)
    where
      same : (ws vs : List Term) → Some ws ≡ Some vs → vs ≡ ws
      same ws vs e = cc
  two (Some ts) None vs e = cc
  two None q vs e = cc

  module _ (next : List Entries → Option (List Term)) (sound : (ess : List Entries) (ts : List Term) → next ess ≡ Some ts → Same ts (chosen_names worth ds ess)) where
    same_part : (t : Term) (part : Part) (ts : List Term) → chosen_part ds next t part ≡ Some ts → Same ts (chosen_part_name worth ds t part ∷ [])
    same_part t asks_type ts e = subst (λ us. Same us (type t ∷ [])) (one (t ∷ []) ts e) (same_itself (language worth ds) p x (type t ∷ []))
      where
        one : (ws vs : List Term) → Some ws ≡ Some vs → ws ≡ vs
        one ws vs e = cc
    same_part t (names_group r) ts e = nested (group_choices ds r) ts (sound (group_choices ds r) ts e)
    same_part t (opens r g) ts e = nested (alternatives g) ts (sound (alternatives g) ts e)

    mutual
      same_group : (g : Group) (ts : List Term) → chosen_group ds next g ≡ Some ts → Same ts (chosen_names worth ds (alternatives g))
      same_group (sole es) ts e = subst (Same ts) (none (map (chosen_name worth ds) (entry_list es))) (same_entries es ts e)
      same_group (orelse g es) ts e =
          let h = two (chosen_group ds next g) (chosen_entries ds next es) ts e in
          subst (Same ts) (names_all (alternatives g) es) (subst (λ us. Same us (chosen_names worth ds (alternatives g) ++ map (chosen_name worth ds) (entry_list es))) (sym h.4) (further h.0 h.1 (chosen_names worth ds (alternatives g)) (map (chosen_name worth ds) (entry_list es)) (same_group g h.0 h.2) (same_entries es h.1 h.3)))

      same_entries : (es : Entries) (ts : List Term) → chosen_entries ds next es ≡ Some ts → Same ts (map (chosen_name worth ds) (entry_list es))
      same_entries no_entries ts e = subst (λ us. Same us []) (empty ts e) (same_itself (language worth ds) p x [])
        where
          empty : (vs : List Term) → Some [] ≡ Some vs → [] ≡ vs
          empty vs e = cc
      same_entries (entries es f c) ts e =
          let h = two (chosen_entries ds next es) (chosen_entry ds next f) ts e in
          subst (Same ts) (sym (named_all (entry_list es) (f ∷ []))) (subst (λ us. Same us (map (chosen_name worth ds) (entry_list es) ++ chosen_name worth ds f ∷ [])) (sym h.4) (further h.0 h.1 (map (chosen_name worth ds) (entry_list es)) (chosen_name worth ds f ∷ []) (same_entries es h.0 h.2) (same_entry f h.1 h.3)))

      same_entry : (f : Entry) (ts : List Term) → chosen_entry ds next f ≡ Some ts → Same ts (chosen_name worth ds f ∷ [])
      same_entry (typed o t) ts e = by (occurs_once o) e
        where
          by : (b : Bool) → (if b then chosen_part ds next t (part_of ds t) else None) ≡ Some ts → Same ts (chosen_part_name worth ds t (part_of ds t) ∷ [])
          by true e = same_part t (part_of ds t) ts e
          by false e = cc
      same_entry (keyed o k t) ts e = by (occurs_once o) e
        where
          by : (b : Bool) → (if b then Some (t ∷ []) else None) ≡ Some ts → Same ts (type t ∷ [])
          by true e = same_part t asks_type ts e
          by false e = cc
      same_entry (grouped o g) ts e = by (occurs_once o) (same_group g ts) e
        where
          by : (b : Bool) → (chosen_group ds next g ≡ Some ts → Same ts (chosen_names worth ds (alternatives g))) → (if b then chosen_group ds next g else None) ≡ Some ts → Same ts (chosen_of (alternatives g) ∷ [])
          by true h e = nested (alternatives g) ts (h e)
          by false h e = cc

    same_each : (ess : List Entries) (ts : List Term) → chosen_each ds next ess ≡ Some ts → Same ts (chosen_names worth ds ess)
    same_each [] ts e = same_entries no_entries ts e
    same_each (es ∷ ess) ts e =
        let h = two (chosen_entries ds next es) (chosen_each ds next ess) ts e in
        subst (λ us. Same us (map (chosen_name worth ds) (entry_list es) ++ chosen_names worth ds ess)) (sym h.4) (further h.0 h.1 (map (chosen_name worth ds) (entry_list es)) (chosen_names worth ds ess) (same_entries es h.0 h.2) (same_each ess h.1 h.3))

  same_in : (k : ℕ) (ess : List Entries) (ts : List Term) → chosen_in ds k ess ≡ Some ts → Same ts (chosen_names worth ds ess)
  same_in zero ess ts e = same_each (λ us. None) (λ us vs f. cc) ess ts e
  same_in (suc k) ess ts e = same_each (λ us. chosen_in ds k us) (same_in k) ess ts e

  says_same : (ms ns : List TypeName) → AreSame (language worth ds) p x ms ns → (a : Answer) → Saying (language worth ds) (F.Choice ms) p x a ↔ Saying (language worth ds) (F.Choice ns) p x a
  says_same ms ns h a = (onwards, back)
    where
      onwards : Saying (language worth ds) (F.Choice ms) p x a → Saying (language worth ds) (F.Choice ns) p x a
      onwards (w, choice {w = v} c) = let d = h.onwards p a (omega arith) (v, c) in (suc d.0, choice d.1)

      back : Saying (language worth ds) (F.Choice ns) p x a → Saying (language worth ds) (F.Choice ms) p x a
      back (w, choice {w = v} c) = let d = h.back p a (omega arith) (v, c) in (suc d.0, choice d.1)

pub by_group : (worth : Values) (ds : List Definition) (g : Group) (ts : List Term) → chosen ds g ≡ Some ts → (p : ℕ) (x : Value) (a : Answer) → Saying (language worth ds) (F.Choice (map type ts)) p x a ↔ Saying (language worth ds) (type_node worth ds (type (choice_of g))) p x a
by_group worth ds g ts e p x a = subst (λ o. Saying (language worth ds) (F.Choice (map type ts)) p x a ↔ Saying (language worth ds) (L.choice o (chosen_names worth ds (alternatives g))) p x a) (sym e) (says_same worth ds p x (map type ts) (chosen_names worth ds (alternatives g)) (same_in worth ds p x most_instances (alternatives g) ts e) a)

pub by_name : (worth : Values) (ds : List Definition) (r : Ref) (ts : List Term) → chosen_by_name ds r ≡ Some ts → (p : ℕ) (x : Value) (a : Answer) → Saying (language worth ds) (F.Choice (map type ts)) p x a ↔ Saying (language worth ds) (type_node worth ds (type (choice_of_name r))) p x a
by_name worth ds r ts e p x a = subst (λ o. Saying (language worth ds) (F.Choice (map type ts)) p x a ↔ Saying (language worth ds) (L.choice o (chosen_names worth ds (group_choices ds r))) p x a) (sym e) (says_same worth ds p x (map type ts) (chosen_names worth ds (group_choices ds r)) (same_in worth ds p x most_instances (group_choices ds r) ts e) a)
