-- what contracts say of permits and waits, for who names this crate alone
pub use Rattle.mea_sync.specs.Permits
