-- What is kept in rows, one for each type, as it is found out.
use Rattle.std.proofs.Common.{◌≡◌, ℕ, zero, suc, ◌+◌, ◌<◌, ◌≤◌, List, [], ◌∷◌, ◌++◌, length, Option, Some, None, Bool, true, false, inl, inr, nat_le, nat_lt, slice_get, refl, sym, ap, subst, ◌∙◌, arith}
use Rattle.std.proofs.Math.Path.{fun_ext}
use Rattle.std.proofs.lemmas.Bool.{cases_lt}
use Rattle.std.proofs.lemmas.Bool.Decides.{nat_tests}
use Rattle.std.proofs.lemmas.Option.{slice_get_past}
use Rattle.lists.proofs.Lemmas.{push_there}
use Rattle.table_nodes.specs.Majors.{after, form_of, form_shows, kept, kept_where, maybe_shows, members_show, next_shows, one_more, or_else, row_tells, shows, told_in, told_view, types_in}
use Rattle.table_nodes.specs.Nodes.{type_view}
use Rattle.table_nodes.specs.declared.majors.Told.{Told}
use Rattle.table_nodes.specs.declared.nodes.Node.{Node}
use Rattle.table_nodes.specs.declared.nodes.TypeId.{TypeId}

is_over : (m n : ℕ) → n < m → nat_le m n ≡ false
is_over m n h = grind (arith, nat_tests)

is_up_to : (m n : ℕ) → m ≤ n → nat_le m n ≡ true
is_up_to m n h = grind (arith, nat_tests)

is_past : (m n : ℕ) → n ≤ m → nat_lt m n ≡ false
is_past m n h = grind (arith, nat_tests)

pub kept_fits : (says : Bool) (cost : ℕ) → cost ≤ 65535 → kept (Some (says, cost)) ≡ Some (says, cost)
kept_fits says cost h = ap (λ b. kept_where b (Some (says, cost))) (is_up_to cost 65535 h)

pub kept_over : (says : Bool) (cost : ℕ) → 65535 < cost → kept (Some (says, cost)) ≡ None
kept_over says cost h = ap (λ b. kept_where b (Some (says, cost))) (is_over cost 65535 h)

-- members, asked in order after others that took so many judgements

pub after_none : (r : Option (Bool × ℕ)) → r ≡ after 0 r
after_none None = refl
after_none (Some t) = ap (λ k. Some (t.0, k)) (omega arith)

after_after : (a c : ℕ) (r : Option (Bool × ℕ)) → after a (after c r) ≡ after (a + c) r
after_after a c None = refl
after_after a c (Some t) = ap (λ k. Some (t.0, k)) (omega arith)

module _ {N : Type 0} (shown : N → Option (Bool × ℕ)) (n : N) (ns : List N) (all : Option (Bool × ℕ)) (a : ℕ) (so : all ≡ after a (members_show shown (n ∷ ns))) where
  with_first : (o : Option (Bool × ℕ)) → shown n ≡ o → all ≡ after a (or_else o (members_show shown ns))
  with_first o i = so ∙ ap (λ o. after a (or_else o (members_show shown ns))) i

  pub members_none : shown n ≡ None → None ≡ kept (one_more all)
  members_none i = sym (ap (λ r. kept (one_more r)) (with_first None i))

  pub members_yes : (c : ℕ) → shown n ≡ Some (true, c) → kept (Some (true, a + c + 1)) ≡ kept (one_more all)
  members_yes c i = ap (λ k. kept (Some (true, k))) (omega arith) ∙ sym (ap (λ r. kept (one_more r)) (with_first (Some (true, c)) i))

  pub members_no : (c : ℕ) → shown n ≡ Some (false, c) → all ≡ after (a + c) (members_show shown ns)
  members_no c i = with_first (Some (false, c)) i ∙ after_after a c (members_show shown ns)

pub members_over : (a : ℕ) (all r : Option (Bool × ℕ)) → all ≡ after a r → 65535 < a → None ≡ kept (one_more all)
members_over a all None so h = sym (ap (λ r. kept (one_more r)) so)
members_over a all (Some t) so h = sym (ap (λ r. kept (one_more r)) so ∙ kept_over t.0 (suc (a + t.1)) (omega (arith, h)))

pub members_end : (a : ℕ) (all : Option (Bool × ℕ)) → all ≡ after a (Some (false, 0)) → kept (Some (false, a + 1)) ≡ kept (one_more all)
members_end a all so = ap (λ k. kept (Some (false, k))) (omega arith) ∙ sym (ap (λ r. kept (one_more r)) so)

-- a row for the eight major types
pub eight : (f : ℕ → Option (Bool × ℕ)) (a b c d e g h i : Told) → told_view a ≡ f 0 → told_view b ≡ f 1 → told_view c ≡ f 2 → told_view d ≡ f 3 → told_view e ≡ f 4 → told_view g ≡ f 5 → told_view h ≡ f 6 → told_view i ≡ f 7 → (m : ℕ) → row_tells (Some (a ∷ b ∷ c ∷ d ∷ e ∷ g ∷ h ∷ i ∷ [])) m ≡ kept_where (nat_lt m 8) (f m)
eight f a b c d e g h i e0 e1 e2 e3 e4 e5 e6 e7 zero = e0
eight f a b c d e g h i e0 e1 e2 e3 e4 e5 e6 e7 (suc zero) = e1
eight f a b c d e g h i e0 e1 e2 e3 e4 e5 e6 e7 (suc (suc zero)) = e2
eight f a b c d e g h i e0 e1 e2 e3 e4 e5 e6 e7 (suc (suc (suc zero))) = e3
eight f a b c d e g h i e0 e1 e2 e3 e4 e5 e6 e7 (suc (suc (suc (suc zero)))) = e4
eight f a b c d e g h i e0 e1 e2 e3 e4 e5 e6 e7 (suc (suc (suc (suc (suc zero))))) = e5
eight f a b c d e g h i e0 e1 e2 e3 e4 e5 e6 e7 (suc (suc (suc (suc (suc (suc zero)))))) = e6
eight f a b c d e g h i e0 e1 e2 e3 e4 e5 e6 e7 (suc (suc (suc (suc (suc (suc (suc zero))))))) = e7
eight f a b c d e g h i e0 e1 e2 e3 e4 e5 e6 e7 (suc (suc (suc (suc (suc (suc (suc (suc m)))))))) = sym (ap (λ t. kept_where t (f (suc (suc (suc (suc (suc (suc (suc (suc m)))))))))) (is_past (suc (suc (suc (suc (suc (suc (suc (suc m)))))))) 8 (omega arith)))

-- rows of the first types

push_before : {A : Type 0} (xs : List A) (v : A) (i : ℕ) → i < length xs → slice_get (xs ++ v ∷ []) i ≡ slice_get xs i
push_before [] v i h = absurd (omega (arith, h))
push_before (x ∷ xs) v zero h = refl
push_before (x ∷ xs) v (suc i) h = push_before xs v i (omega (arith, h))

none_kept : (b : Bool) → None ≡ kept_where b None
none_kept true = refl
none_kept false = refl

module _ (types : List Node) (known : List (List Told)) where
  -- what is to be kept of a type through one form more
  abbrev pub Next : ℕ → ℕ → Option (Bool × ℕ)
  Next i m = next_shows (types_in types) (told_in known) (record { number = i }) m

  -- what its form shows
  abbrev pub Shown : Node → ℕ → Option (Bool × ℕ)
  Shown form m = kept_where (nat_lt m 8) (kept (form_shows (λ n. told_in known n m) (type_view form) m))

  pub one_row_more : (rows : List (List Told)) (i : ℕ) (form : Node) (row : List Told) → length rows ≡ i → slice_get types i ≡ Some form → ((m : ℕ) → row_tells (Some row) m ≡ Shown form m) → ((j m : ℕ) → j < i → row_tells (slice_get rows j) m ≡ Next j m) → (j m : ℕ) → j < i + 1 → row_tells (slice_get (rows ++ row ∷ []) j) m ≡ Next j m
  one_row_more rows i form row len there shown before j m h = elim (cases_lt j i) [ inl k ↦ ap (λ o. row_tells o m) (push_before rows row j (omega (arith, k, len))) ∙ before j m k | inr k ↦ last (omega (arith, h, k)) ]
    where
      here : slice_get (rows ++ row ∷ []) i ≡ Some row
      here = subst (λ k. slice_get (rows ++ row ∷ []) k ≡ Some row) len (push_there rows row)

      last : j ≡ i → row_tells (slice_get (rows ++ row ∷ []) j) m ≡ Next j m
      last e = subst (λ k. row_tells (slice_get (rows ++ row ∷ []) k) m ≡ Next k m) (sym e) (ap (λ o. row_tells o m) here ∙ shown m ∙ sym (ap (λ o. kept_where (nat_lt m 8) (maybe_shows (λ n. told_in known n m) (form_of o) m)) there))

  pub all_rows : (rows : List (List Told)) → length rows ≡ length types → ((j m : ℕ) → j < length types → row_tells (slice_get rows j) m ≡ Next j m) → (n : TypeId) (m : ℕ) → told_in rows n m ≡ next_shows (types_in types) (told_in known) n m
  all_rows rows len each n m = elim (cases_lt n.number (length types)) [ inl k ↦ each n.number m k | inr k ↦ past k ]
    where
      past : length types ≤ n.number → told_in rows n m ≡ next_shows (types_in types) (told_in known) n m
      past k = ap (λ o. row_tells o m) (slice_get_past rows n.number (omega (arith, k, len))) ∙ none_kept (nat_lt m 8) ∙ sym (ap (λ o. kept_where (nat_lt m 8) (maybe_shows (λ n. told_in known n m) (form_of o) m)) (slice_get_past types n.number k))

-- what types show through one form more
pub one_round_more : (types : List Node) (old new : List (List Told)) (k j : ℕ) → j ≡ suc k → ((n : TypeId) (m : ℕ) → told_in old n m ≡ shows (types_in types) k n m) → ((n : TypeId) (m : ℕ) → told_in new n m ≡ next_shows (types_in types) (told_in old) n m) → (n : TypeId) (m : ℕ) → told_in new n m ≡ shows (types_in types) j n m
unfolding shows
one_round_more types old new k j i before next n m = subst (λ j. told_in new n m ≡ shows (types_in types) j n m) (sym i) (next n m ∙ ap (λ shown. kept_where (nat_lt m 8) (maybe_shows shown (types_in types n) m)) (fun_ext (λ o. before o m)))

-- nothing is kept at first
pub no_rows : (types : List Node) (n : TypeId) (m : ℕ) → told_in [] n m ≡ shows (types_in types) 0 n m
unfolding shows
no_rows types n m = refl
