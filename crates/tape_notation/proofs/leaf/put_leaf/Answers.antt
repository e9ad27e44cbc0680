use Rattle.tape_notation.proofs.Forms.{form_within}
use Rattle.tape_notation.proofs.leaf.put_leaf.Goals as goal

pub bounds-bytes-head : goal.bounds-bytes-head
bounds-bytes-head c = let w = c.requires.there in form_within c.args.bytes.now c.args.head w.form w.there
