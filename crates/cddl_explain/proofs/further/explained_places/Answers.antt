use Rattle.std.proofs.Common.{◌≡◌, ◌+◌, [], ◌∷◌, ◌++◌, false, true, get_or, option_map, string_bytes, subst, sym, ◌∙◌, take, true≢false, rules}
use Rattle.std.proofs.lemmas.List.{take_more}
use Rattle.cddl_explain.specs.Further.{AreExplained, no_offset, told_already, told_now}
use Rattle.cddl_explain.proofs.further.explained_places.Goals as goal
use Rattle.cddl_explain.proofs.further.explained_places.Goals.{then-not-is_that+in_ok-place+in_ok-push_str, else-not-is_that}

pub offset-init : goal.offset-init
offset-init c = subst (λ told. AreExplained c.args.code c.args.already c.args.file.now c.args.text.now c.args.tokens.now (option_map (λ r. r.now) c.args.root) [] told) (sym c.new-told.ensures.bytes) no_offset

pub offset-preserved : goal.offset-preserved
offset-preserved c =
    let root = option_map (λ r. r.now) c.args.root in
    let offsets = c.args.offsets.now in
    let before = take c.offset.k offsets in
    let at = get_or offsets c.offset.k 0 in
    let grown : take (c.offset.k + 1) offsets ≡ before ++ at ∷ [] = take_more offsets c.offset.k 0 c.offset-test.true in
    elim c.if-not-is_that.branch [
      | then-not-is_that+in_ok-place+in_ok-push_str w ↦
          let pushed : string_bytes c.if-not-is_that.told ≡ string_bytes c.offset.told ++ string_bytes w.in_ok-place.place = search rules in
          let other : c.is_that.result ≡ false = search rules in
          subst (λ os. AreExplained c.args.code c.args.already c.args.file.now c.args.text.now c.args.tokens.now root os (string_bytes c.if-not-is_that.told)) (sym grown)
          (subst (λ told. AreExplained c.args.code c.args.already c.args.file.now c.args.text.now c.args.tokens.now root (before ++ at ∷ []) told) (sym pushed) (told_now c.offset.invariant at _ (λ e. true≢false (sym (c.is_that.ensures.1 e) ∙ other)) w.in_ok-place.ensures))
      | else-not-is_that w ↦
          let same : string_bytes c.if-not-is_that.told ≡ string_bytes c.offset.told = search rules in
          let that : c.is_that.result ≡ true = search rules in
          subst (λ os. AreExplained c.args.code c.args.already c.args.file.now c.args.text.now c.args.tokens.now root os (string_bytes c.if-not-is_that.told)) (sym grown)
          (subst (λ told. AreExplained c.args.code c.args.already c.args.file.now c.args.text.now c.args.tokens.now root (before ++ at ∷ []) told) (sym same) (told_already c.offset.invariant at (c.is_that.ensures.0 that)))
    ]
