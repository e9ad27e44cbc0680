-- What callers' proofs may name of this crate.
pub use Rattle.cddl_match.proofs.Open.{comes_replies, open_asked, open_answered, open_tried, open_passed, open_entered, open_weighed, open_read, open_unread}
pub use Rattle.cddl_match.proofs.Room.{room}
