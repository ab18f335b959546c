-- `Poll` and its variants
pub use Rattle.mea_base.specs.declared.poll.Poll.{Poll}
pub use Rattle.mea_base.specs.declared.poll.Poll.TheVariants.{Ready, Pending}
