pub mod InputLemmas
pub mod InspectLemmas
pub mod LoadLemmas
pub mod OnHeapLemmas
pub mod RecoverLemmas
pub mod ScriptRead
pub mod ShutLemmas
pub mod StillLemmas
