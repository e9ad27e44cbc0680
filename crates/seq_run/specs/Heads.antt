-- The head of an item's line at the front of a text, and the numbers that differ from that in it in the last two digits alone.
use Rattle.std.specs.Prelude.{◌≡◌, ℕ, ◌+◌, ◌*◌, ◌/◌, ◌^◌, ◌<◌, ◌≤◌, length, take, decimal}
use Rattle.seq_run.specs.Report.{head_text}
use Rattle.seq_run.specs.declared.head.Hundred.{Hundred}
use Rattle.seq_run.specs.declared.head.Template.{Template}

-- the text begins with the head of this item, and there the number and the head end
pub record IsTemplate (t : Template) (number offset : ℕ) : Type 0 where
  pub text : take t.end t.text ≡ head_text number offset
  pub place : 5 + length (decimal number) ≡ t.number_end
  pub short : t.end ≤ 51
  pub long : length t.text ≡ 64

-- two numbers have two digits at least, and differ in the last two alone
pub record AreNear (m n : ℕ) : Type 0 where
  pub first : 10 ≤ m
  pub second : 10 ≤ n
  pub fits : m < 2 ^ 64
  pub front : n / 100 ≡ m / 100

-- those that a number has before its last two digits, and from where on and up to where others have them too
pub record IsHundred (h : Hundred) (n : ℕ) : Type 0 where
  pub base_is : h.base ≡ n / 100 * 100
  pub two : 10 ≤ h.first
  pub from : h.base ≤ h.first
  pub upto : h.end ≤ h.base + 100
  pub some : 0 < h.end → 10 ≤ n
