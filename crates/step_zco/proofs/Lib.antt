pub mod FewLemmas
pub mod HeapAmounts
pub mod AlikeLemmas
pub mod ObjectLemmas
mod ReadingCalls
pub mod MovingLemmas
pub mod MovedLemmas
pub mod ChargeLemmas
pub mod PayingLemmas
mod CreateCalls
pub mod TextLemmas
mod CapsuleCalls
pub mod AppendLemmas
pub mod AppendSources
mod AppendSourceCalls
pub mod AppendRaws
mod AppendRawCalls
mod AppendCalls
pub mod LosingLemmas
pub mod DropLemmas
mod DiscardCalls
pub mod ObjectDemandLemmas
pub mod GoneMaps
pub mod GoneUses
pub mod GoneMoves
pub mod GoneKeys
pub mod GoneTies
pub mod GoneCharges
pub mod GoneChanges
pub mod GoneWorlds
pub mod GoneLosses
pub mod DestroyKept
pub mod DestroyedFew
pub mod DestroyLeft
mod DestroyCalls
pub mod QueueLemmas
pub mod WordLemmas
pub mod OccupiedLemmas
pub mod AccountLemmas
pub mod FoundLemmas
pub mod GrantLemmas
pub mod ComingLemmas
mod AccountCalls
mod RequestCalls
pub mod AnswerLemmas
pub mod RequestedAlike
mod AwardCalls
mod ShredCalls
pub mod RetiedLemmas
pub mod NamedLemmas
pub mod UsesLemmas
pub mod SourceLemmas
mod StepLemmas
mod MakingCalls
pub mod NamingCalls
mod GoingCalls
mod DroppingCalls
mod CountingCalls
