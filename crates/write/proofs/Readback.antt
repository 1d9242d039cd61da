-- A layer written out and read back: the laws are those of the scope.
-- Assumes nothing.
pub use Rattle.theory.proofs.Readback.{read_back, zeros_back}
