-- Bytes that are where an item should be begin with one, or have a fault.
use Rattle.std.proofs.Common.{◌≡◌, ◌≢◌, ℕ, ◌+◌, ◌<◌, ◌≤◌, ◌⊎◌, inl, inr, List, [], ◌∷◌, ◌++◌, length, Option, Some, None, option_and_then, refl, sym, ap, ◌∙◌, subst, arith, append_assoc, append-nil, length-append}
use Rattle.std.proofs.lemmas.Bool.{cases_eq}
use Rattle.std.proofs.Math.Seq.{take-append_seam}
use Rattle.cbor_data.specs.Value.{AreBytes}
use Rattle.cbor_data.specs.Forms.{meaning, IsWellFormed}
use Rattle.cbor_data.specs.Faults.{Bounds, last_offset, IsItem, IsFaultOf, of_text, of_key}
use Rattle.cbor_data.specs.declared.FaultKind.{FaultKind}
use Rattle.cbor_data.specs.declared.FaultKind.TheVariants.{TooDeep, TooLong, Truncated, BadText, DuplicateKey}
use Rattle.cbor_data.specs.Machine.Machine.{State, item, argument, body, chunk, chunk_argument, chunk_body, simple, done, step, step_in, steps_in, refused_kind}
use Rattle.cbor_data.specs.Machine.Reads.{Reads}
use Rattle.cbor_data.proofs.OfMachine.Lemmas.{bytes-append, steps_in-append, tell_deep, tell_end, tell_form, tell_long, tell_long_end, whole, whole_front}
use Rattle.cbor_read.specs.Fronts.{IsFront}
use Rattle.cbor_read.specs.declared.front.Front.{Front}
use Rattle.cbor_read.specs.declared.front.Front.TheVariants as front
use Rattle.cbor_read.proofs.Meanings.{shallow}
use Rattle.cbor_read.proofs.Wrong.{key_or, text_or}

done_or : (s : State) → (s ≡ done) ⊎ (s ≢ done)
done_or done = inl refl
done_or (item around) = inr (λ e. cc)
done_or (argument major left number around) = inr (λ e. cc)
done_or (body left around) = inr (λ e. cc)
done_or (chunk major around) = inr (λ e. cc)
done_or (chunk_argument major left number around) = inr (λ e. cc)
done_or (chunk_body major left around) = inr (λ e. cc)
done_or (simple around) = inr (λ e. cc)

module _ (l : Bounds) (o : ℕ) where
  abbrev Told : List ℕ → Type 0
  Told b = (f : Front) × IsFront l o b f

  faulty : (b : List ℕ) (kind : FaultKind) (at : ℕ) → IsFaultOf l o b kind at → Told b
  faulty b kind at fault = (front.Fault (record { at = at; kind = kind }), fault)

  -- what a whole item comes to, whatever follows it
  whole_told : (b more : List ℕ) → Reads l o b done → Told (b ++ more)
  whole_told b more r =
      let w : IsWellFormed b = whole l o b r in
      elim (text_or w.written) [
        | inl bad ↦ faulty (b ++ more) BadText (o + bad.0) (of_text (length b) bad.0 w.written (whole_front l o b more r) bad.1 refl)
        | inr good ↦ elim (key_or (meaning w.written)) [
          | inl again ↦ faulty (b ++ more) DuplicateKey again.0 (of_key (length b) w.written (whole_front l o b more r) good again.1)
          | inr valid ↦
              let found : IsItem l o (meaning w.written) b = record {
                spells = record { written = w.written; ok = w.ok; text = good; is = w.is; meant = refl };
                valid = valid;
                shallow = shallow l.depth b w.written r.leads w.ok w.is;
                short = r.short;
                placed = r.placed;
              } in
              (front.Item (length b) (meaning w.written), (omega (arith, length-append b more), subst (IsItem l o (meaning w.written)) (sym (take-append_seam b more)) found))
        ]
      ]

  end_told : (b : List ℕ) (s : State) → Reads l o b s → s ≢ done → Told b
  end_told [] s r live = (front.Nothing, refl)
  end_told (y ∷ b) s r live = elim (cases_eq (length (y ∷ b)) l.item_bytes) [
    | inl full ↦ faulty (y ∷ b) TooLong (o + length (y ∷ b)) (tell_long_end l o (y ∷ b) s r live full)
    | inr room ↦ faulty (y ∷ b) Truncated (o + length (y ∷ b)) (tell_end l o (y ∷ b) s r live (λ e. cc) (omega (arith, r.short, room)))
  ]

  reads_on : (b : List ℕ) (s t : State) (x : ℕ) → Reads l o b s → x < 256 → step_in l.depth s x ≡ Some t → (length b ≡ l.item_bytes → ⊥) → (o + length b ≡ last_offset → ⊥) → Reads l o (b ++ x ∷ []) t
  reads_on b s t x r small e short placed = record {
    leads = record {
      are = bytes-append b (x ∷ []) r.leads.are (small, tt);
      is = steps_in-append l.depth (item []) b (x ∷ []) ∙ (ap (option_and_then (λ u. steps_in l.depth u (x ∷ []))) r.leads.is ∙ ap (option_and_then (λ u. steps_in l.depth u [])) e);
    };
    short = omega (arith, length-append b (x ∷ []), r.short, short);
    placed = omega (arith, length-append b (x ∷ []), r.placed, placed);
  }

  -- what a byte that stops the machine tells
  stopped : (b rest : List ℕ) (s : State) (x : ℕ) → Reads l o b s → s ≢ done → x < 256 → step_in l.depth s x ≡ None → (next : Option State) → step s x ≡ next → Told (b ++ x ∷ rest)
  stopped b rest s x r live small none None e = faulty (b ++ x ∷ rest) (refused_kind s x) (o + length b) (tell_form l o b rest s x r live small e)
  stopped b rest s x r live small none (Some t) e = faulty (b ++ x ∷ rest) TooDeep (o + length b) (tell_deep l o b rest s t x r live small e none)

  -- from the state after a byte, where what follows it is told from each state that is not the last
  went_on : (b rest : List ℕ) (t : State) (x : ℕ) → Reads l o (b ++ x ∷ []) t → (t ≢ done → Told ((b ++ x ∷ []) ++ rest)) → Told (b ++ x ∷ rest)
  went_on b rest t x r on = subst Told (append_assoc b (x ∷ []) rest) (elim (done_or t) [
    | inl e ↦ whole_told (b ++ x ∷ []) rest (subst (Reads l o (b ++ x ∷ [])) e r)
    | inr live ↦ on live
  ])

  step_told : (b rest : List ℕ) (s : State) (x : ℕ) → Reads l o b s → s ≢ done → x < 256 → ((t : State) → Reads l o (b ++ x ∷ []) t → t ≢ done → Told ((b ++ x ∷ []) ++ rest)) → (next : Option State) → step_in l.depth s x ≡ next → Told (b ++ x ∷ rest)
  step_told b rest s x r live small on None e = stopped b rest s x r live small e (step s x) refl
  step_told b rest s x r live small on (Some t) e = elim (cases_eq (length b) l.item_bytes) [
    | inl full ↦ faulty (b ++ x ∷ rest) TooLong (o + length b) (tell_long l o b rest s t x r live small e (inl full))
    | inr short ↦ elim (cases_eq (o + length b) last_offset) [
      | inl last ↦ faulty (b ++ x ∷ rest) TooLong (o + length b) (tell_long l o b rest s t x r live small e (inr last))
      | inr placed ↦ let next = reads_on b s t x r small e short placed in went_on b rest t x next (on t next)
    ]
  ]

  all_told : (rest b : List ℕ) (s : State) → Reads l o b s → s ≢ done → AreBytes rest → Told (b ++ rest)
  all_told [] b s r live are = subst Told (sym (append-nil b)) (end_told b s r live)
  all_told (x ∷ rest) b s r live are = step_told b rest s x r live are.0 (λ t reads not. all_told rest (b ++ x ∷ []) t reads not are.1) (step_in l.depth s x) refl

  -- what is at the front of the bytes
  pub some_front : (b : List ℕ) → AreBytes b → o ≤ last_offset → (f : Front) × IsFront l o b f
  some_front b are placed = all_told b [] (item []) (record { leads = record { are = tt; is = refl }; short = omega arith; placed = omega arith }) (λ e. cc) are
