-- Laws of tests, for crates that see the tables alone: passed on.
pub use Rattle.text.proofs.Booleans.{and_both, and_first, and_right, and_second, and_true, choose_by, choose_cong, choose_false, choose_true, split}
