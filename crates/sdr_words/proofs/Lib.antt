pub mod ArgumentsLemmas
pub mod BindingsLemmas
pub mod CanonicalArgs
pub mod CanonicalFields
pub mod CanonicalLine
pub mod DraftLemmas
pub mod EventLemmas
pub mod FieldsLemmas
pub mod InputLemmas
pub mod NumbersLemmas
pub mod ReadSteps
pub mod ReadingLemmas
mod ScriptExamples
pub mod SplitLemmas
pub mod VerbLemmas
pub mod WordsLemmas
