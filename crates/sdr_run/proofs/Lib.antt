mod GreetingExample
pub mod DryLemmas
pub mod ScheduleLemmas
pub mod StepsLemmas
pub mod PlayingLemmas
pub mod RecordingLemmas
pub mod HandedLemmas
pub mod QuietLemmas
pub mod SettledLemmas
pub mod ReplayingLemmas
