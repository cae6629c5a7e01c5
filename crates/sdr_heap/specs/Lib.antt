pub mod Calls
pub mod Lending
pub mod Noted
pub mod Raw
