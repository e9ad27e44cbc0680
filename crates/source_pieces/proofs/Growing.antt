-- What a number stands for, it stands for in each table that has grown from this one.
use Rattle.std.proofs.Common.{◌≡◌, ℕ, Option, Result, Some, IfOk, subst}
use Rattle.lists.proofs.Lemmas.{ok_then}
use Rattle.check_terms.specs.declared.row.Form.{Form}
use Rattle.cddl_language.specs.Terms.{Text}
use Rattle.check_terms.specs.Table.{Table, Grows, Holds, no_part, part, HoldsText, no_text, some_text, Tree, node}

pub grown : (a b c : Table) → Grows a b → Grows b c → Grows a c
grown a b c g h = record { texts = λ n x e. h.texts n x (g.texts n x e); rows = λ n r e. h.rows n r (g.rows n r e) }

text_kept : (old new : Table) → Grows old new → (n : Option ℕ) (x : Option Text) → HoldsText old.texts n x → HoldsText new.texts n x
text_kept old new g n x no_text = no_text
text_kept old new g n x (some_text {n = k} {x = y} e) = some_text (g.texts k y e)

pub kept : {old new : Table} {n : Option ℕ} {x : Tree} → Grows old new → Holds old n x → Holds new n x
kept g no_part = no_part
kept {old = old} {new = new} g (part e d a b) = part (g.rows _ _ e) (text_kept old new g _ _ d) (kept g a) (kept g b)

-- A row that is added, where its parts stand for these, and its text is given in other words.
pub made : {E : Type 0} {old : Table} {i j : Option ℕ} {x y : Option Text} {a b : Tree} (r : Result ℕ E) (new : Table) (f : Form) → x ≡ y → Holds old i a → Holds old j b → IfOk r (λ n. (c d : Tree) → Holds old i c → Holds old j d → Holds new (Some n) (node f x c d)) → IfOk r (λ n. Holds new (Some n) (node f y a b))
made {a = a} {b = b} r new f e h k stands = ok_then r _ _ (λ n s. subst (λ z. Holds new (Some n) (node f z a b)) e (s a b h k)) stands
