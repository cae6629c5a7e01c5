pub mod MoveLemmas
pub mod TicketLemmas
pub mod QueueLemmas
pub mod GrantLemmas
mod ChargeLemmas
pub mod RefusalLemmas
mod ChargeRows
