-- What crates below define, passed on to those above.
pub use Rattle.call_words.specs.Callee.{reading_at, terms_at, argument, param_slot, callee_seen}
pub use Rattle.call_words.specs.Fits.{CalleeSees, numbers_at, SeenCall, EntryFits, PromiseFits, EntryMeasureFits, FileRegionFits, FileSetFits}
pub use Rattle.call_words.specs.Fits.{CalleeBehaviorFits, IfMeasured, CalleeFits, CallerBehaviorFits, CallerFits, CallFits}
