use Rattle.std.proofs.Common.{inl, refl, string_bytes, ◌∙◌}
use Rattle.seq_run.specs.Running.{change_of}
use Rattle.cddl_tool.proofs.Refusing.{said_as}
use Rattle.cddl_tool.proofs.acting.say_refused.Goals as goal

pub returns-in-Ok : goal.returns-in-Ok
returns-in-Ok g c =
    inl (refl, (string_bytes c.in-Ok.told, c.in-Ok.ensures, said_as (change_of g.E.Write.contents c.args.err.now c.say.new.err) _ _ (c.as_bytes.ensures.value ∙ c.as_str.ensures.value) (λ kept few. c.say.ensures kept few)))
