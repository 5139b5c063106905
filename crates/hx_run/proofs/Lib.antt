pub mod EndLemmas
pub mod FilesLemmas
pub mod FirstVersionLemmas
pub mod GeneratedLemmas
pub mod ReplayFaultLemmas
pub mod RunLemmas
pub mod StatusLemmas
pub mod UnseenLemmas
