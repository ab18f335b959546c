-- texts that grow at their end
pub use Rattle.mea_text.proofs.Puts.{kept_before}
