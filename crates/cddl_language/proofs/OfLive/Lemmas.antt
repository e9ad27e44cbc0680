-- What is reached is live, in an instance.
use Rattle.std.specs.Prelude.{◌≡◌, List}
use Rattle.std.proofs.Common.{refl}
use Rattle.tree_nodes.specs.Syntax.Syntax as S
use Rattle.cddl_language.specs.Terms.{Text, Term, Ref, arguments_of}
use Rattle.cddl_language.specs.Sites.{Site, closed_arguments, IsReached, in_body, in_argument, used, IsInstance}
use Rattle.cddl_language.specs.Live.Live.{IsLive, outer, inner, slot}

module _ (rs : List S.Rule) (root : Text) where
  pub in_instance : (r : S.Rule) (xs : List Term) (p : Site) → IsReached rs root r xs p → (i : Ref) × (IsInstance rs root r i × (xs ≡ arguments_of i))
  in_instance r xs p (in_body {i = i} h c) = (i, (h, refl))
  in_instance r xs p (in_argument {q = q} h e u c) = in_instance r xs q h

  pub live : (r : S.Rule) (xs : List Term) (p : Site) → IsReached rs root r xs p → IsLive rs r p
  live r xs p (in_body h c) = outer c
  live r xs p (in_argument {q = q} {f = f} {x = x} h e (used {s = s} {u = u} {g = g} k n m w a b d) c) = inner k (live r xs q h) e n d (slot k ((in_instance s (closed_arguments rs root r xs f) u w).1.0.present) m (live s (closed_arguments rs root r xs f) u w) a b) c
