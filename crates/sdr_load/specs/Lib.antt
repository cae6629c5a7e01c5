pub mod Left
pub mod Rounds
pub mod Schedule
pub mod Statements
pub mod Text
pub mod VerbPlaces
pub mod VerbWords
